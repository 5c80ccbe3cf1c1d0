use Rattle.std.proofs.Common.{◌≡◌, suc, ◌+◌, ◌-◌, length, refl, sym, subst, arith}
use Rattle.m3_types_subtype.specs.Subtypes.{OpenFirst}
use Rattle.m3_types_subtype.proofs.Dimensions.{open_first_end, open_first_down, open_first_up, open_first_not}
use Rattle.m3_types_subtype.proofs.arrays.open_first.Goals as goal

pub returns-in_default : goal.returns-in_default
returns-in_default c = (λ t. c.loop-level.invariant.up (open_first_end c.args.nodes.now (length c.args.nodes.now - c.loop-level._level) c.loop-level.at (sym c.in_default.ensures)), λ o. refl)

pub returns-then-is_fixed_over_open : goal.returns-then-is_fixed_over_open
returns-then-is_fixed_over_open c =
    let nodes = c.args.nodes.now in
    let n = length nodes - c.loop-level._level - 1 in
    let now : length nodes - c.loop-level._level ≡ suc n = omega arith in
    let d = c.in-Some.dimension in
    let gap = c.if-is_fixed_over_open.ensures.is refl in
    (λ h. absurd (let z : ⊥ = cc in z), λ o. absurd (open_first_not nodes n c.loop-level.at d.0 d.1 gap.1.0 (sym c.in-Some.ensures) gap.0 gap.1.1 (subst (λ k. OpenFirst nodes k c.loop-level.at) now (c.loop-level.invariant.down o))))

pub loop-level-preserved : goal.loop-level-preserved
loop-level-preserved c =
    let nodes = c.args.nodes.now in
    let n = length nodes - c.loop-level._level - 1 in
    let now : length nodes - c.loop-level._level ≡ suc n = omega arith in
    let next : length nodes - (c.loop-level._level + 1) ≡ n = omega arith in
    let d = c.in-Some.dimension in
    let at = c.loop-level.at in
    record {
      down = λ o. subst (λ k. OpenFirst nodes k d.1) (sym next) (open_first_down nodes n at d.0 d.1 (sym c.in-Some.ensures) (subst (λ k. OpenFirst nodes k at) now (c.loop-level.invariant.down o)));
      up = λ o. c.loop-level.invariant.up (subst (λ k. OpenFirst nodes k at) (sym now) (open_first_up nodes n at d.0 d.1 (sym c.in-Some.ensures) (λ f some e. c.if-is_fixed_over_open.ensures.not refl f some e) (subst (λ k. OpenFirst nodes k d.1) next o)));
    }
