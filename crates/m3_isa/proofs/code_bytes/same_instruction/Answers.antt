use Rattle.m3_isa.proofs.Codes.{instruction_in-bytes_of}
use Rattle.m3_isa.proofs.code_bytes.same_instruction.Goals as goal

pub returns : goal.returns
returns c = instruction_in-bytes_of
