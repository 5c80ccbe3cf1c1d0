use Rattle.std.proofs.Common.{refl, subst}
use Rattle.m3_types_subtype.specs.Sameness.{Same}
use Rattle.m3_types_subtype.proofs.Agreement.{same_itself}
use Rattle.m3_types_subtype.proofs.sameness.same_types.Goals as goal

pub returns-then-a-b : goal.returns-then-a-b
returns-then-a-b c = (λ t. subst (Same c.args.nodes.now c.args.a) c.if-a-b.true (same_itself c.args.nodes.now c.args.a), λ s. refl)
