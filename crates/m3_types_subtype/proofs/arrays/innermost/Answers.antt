use Rattle.std.proofs.Common.{◌≡◌, suc, ◌+◌, ◌-◌, length, sym, subst, arith}
use Rattle.m3_types_subtype.specs.Subtypes.{FitsBelow}
use Rattle.m3_types_subtype.proofs.Dimensions.{fits_down, fits_up, fits_here}
use Rattle.m3_types_subtype.proofs.arrays.innermost.Goals as goal

pub returns-in_default-clause-below : goal.returns-in_default-clause-below
returns-in_default-clause-below c = λ f. fits_here c.args.nodes.now (length c.args.nodes.now + 1 - c.loop-level._level) c.loop-level.x c.loop-level.y c.in_default.ensures.none (c.loop-level.invariant.down f)

pub loop-level-preserved : goal.loop-level-preserved
loop-level-preserved c =
    let nodes = c.args.nodes.now in
    let i = c.loop-level._level in
    let n = length nodes - i - 1 in
    let x = c.loop-level.x in
    let y = c.loop-level.y in
    let p = c.in-Some.elements in
    let now : length nodes + 1 - i ≡ suc (suc n) = omega arith in
    let next : length nodes + 1 - (i + 1) ≡ suc n = omega arith in
    record {
      down = λ f. subst (λ k. FitsBelow nodes k p.0 p.1) (sym next) (fits_down nodes n x y p c.in-Some.ensures.some (subst (λ k. FitsBelow nodes k x y) now (c.loop-level.invariant.down f)));
      up = λ f. c.loop-level.invariant.up (subst (λ k. FitsBelow nodes k x y) (sym now) (fits_up nodes n x y p c.in-Some.ensures.some (subst (λ k. FitsBelow nodes k p.0 p.1) next f)));
    }
