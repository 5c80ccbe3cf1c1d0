use Rattle.std.proofs.Common.{arith}
use Rattle.m3_types.proofs.Lists.{same_at}
use Rattle.m3_types.proofs.heads.same_overrides.Goals as goal

pub returns-then-not-same_name : goal.returns-then-not-same_name
returns-then-not-same_name c =
    (λ h. absurd (let z : ⊥ = cc in z), λ e. c.if-not-same_name.ensures.1 (same_at (λ o. o.name.now) c.args.xs.now c.args.ys.now c.loop-i.i _ _ c.loop-i-test.true (omega arith) e))
