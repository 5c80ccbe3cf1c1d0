use Rattle.std.proofs.Common.{arith, rules}
use Rattle.std.proofs.lemmas.Grind.{common_steps}
use Rattle.m3_isa.proofs.steps.compare.Goals as goal

pub returns-in-Some : goal.returns-in-Some
returns-in-Some g c = λ fp. first_of (search rules, grind (arith, common_steps))
