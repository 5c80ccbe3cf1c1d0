use Rattle.std.proofs.Common.{arith, rules}
use Rattle.std.proofs.lemmas.Grind.{common_steps}
use Rattle.m3_isa.proofs.steps.compare_texts.Goals as goal

pub returns-then-bytes-others : goal.returns-then-bytes-others
returns-then-bytes-others g c = λ fp. first_of (search rules, grind (arith, common_steps))
