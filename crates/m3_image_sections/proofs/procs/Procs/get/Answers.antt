use Rattle.std.proofs.Common.{sym, arith}
use Rattle.m3_image_sections.specs.Parts.{proc_in}
use Rattle.m3_image_sections.proofs.ListLemmas.{each_past}
use Rattle.m3_image_sections.proofs.procs.Procs.get.Goals as goal

pub returns-else-number-self : goal.returns-else-number-self
returns-else-number-self c = sym (each_past 16 proc_in c.args.self.now.count c.args.self.now.bytes.now c.args.number (omega arith))
