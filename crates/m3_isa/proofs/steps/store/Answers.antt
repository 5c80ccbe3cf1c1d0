use Rattle.std.proofs.Common.{arith, rules}
use Rattle.std.proofs.lemmas.Grind.{common_steps}
use Rattle.m3_isa.proofs.steps.store.Goals as goal

pub returns-then-store-clause-effect : goal.returns-then-store-clause-effect
returns-then-store-clause-effect g c = λ r fp. first_of (search rules, grind (arith, common_steps))

pub returns-then-store-clause-trap : goal.returns-then-store-clause-trap
returns-then-store-clause-trap g c = λ n x. absurd (n c.goes_on.ensures.answer)
