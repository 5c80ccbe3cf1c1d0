use Rattle.std.proofs.Common.{slice_index, sym}
use Rattle.m3_isa.proofs.Codes.{opcode-operation}
use Rattle.m3_isa.proofs.code_bytes.decode.Goals as goal

pub laid_out-i-requires-clause-number : goal.laid_out-i-requires-clause-number
laid_out-i-requires-clause-number c = opcode-operation (slice_index c.args.bytes 0) c.in_ok-op.op (sym c.in_ok-op.ensures)
