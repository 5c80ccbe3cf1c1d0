use Rattle.std.proofs.Common.{sym}
use Rattle.m3_image_sections.proofs.CodeLemmas.{length_code}
use Rattle.m3_image_sections.proofs.code.Code.len.Goals as goal

pub returns : goal.returns
returns c = sym (length_code c.args.self.now.bytes.now c.args.self.now.sound)
