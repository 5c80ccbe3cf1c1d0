use Rattle.std.proofs.Common.{arith, rules}
use Rattle.std.proofs.lemmas.Grind.{common_steps}
use Rattle.m3_isa.proofs.steps.copy.Goals as goal

pub returns-then-copy_words-clause-effect : goal.returns-then-copy_words-clause-effect
returns-then-copy_words-clause-effect g c = λ r fp. first_of (search rules, grind (arith, common_steps))
