use Rattle.std.proofs.Common.{arith}
use Rattle.m3_types.specs.Definitions.{head_of_field}
use Rattle.m3_types.proofs.Lists.{same_at}
use Rattle.m3_types.proofs.heads.same_fields.Goals as goal

pub returns-then-not-same_field : goal.returns-then-not-same_field
returns-then-not-same_field c =
    (λ h. absurd (let z : ⊥ = cc in z), λ e. c.if-not-same_field.ensures.1 (same_at head_of_field c.args.xs.now c.args.ys.now c.loop-i.i _ _ c.loop-i-test.true (omega arith) e))
