use Rattle.std.proofs.Common.{arith}
use Rattle.m3_types.proofs.Lists.{same_at}
use Rattle.m3_types_subtype.proofs.procedures.same_modes.Goals as goal

pub returns-then-not-same_mode : goal.returns-then-not-same_mode
returns-then-not-same_mode c =
    (λ h. absurd (let z : ⊥ = cc in z), λ e. c.if-not-same_mode.ensures.1 (same_at (λ f. f.mode) c.args.xs.now c.args.ys.now c.loop-i.i _ _ c.loop-i-test.true (omega arith) e))
