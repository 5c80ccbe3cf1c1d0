use Rattle.std.proofs.Common.{◌≡◌, suc, ◌+◌, sym, subst, arith}
use Rattle.m3_types_subtype.specs.Heights.{HasHeight, top, below}
use Rattle.m3_types_subtype.proofs.Levels.{height_of_sum}
use Rattle.m3_types_subtype.proofs.heights.Heights.count.Goals as goal

pub returns-in-Some : goal.returns-in-Some
returns-in-Some c =
    let height = c.in-Some.height in
    height_of_sum c.args.nodes.now c.args.place (height + c.loop-steps.steps) c.plus.result c.plus.ensures (c.loop-steps.invariant height (c.requires c.loop-steps.at height (sym c.in-Some.ensures)))

pub returns-in-None : goal.returns-in-None
returns-in-None c =
    let e : 0 + c.loop-steps.steps ≡ c.loop-steps.steps = omega arith in
    subst (HasHeight c.args.nodes.now c.args.place) e (c.loop-steps.invariant 0 (top (sym c.in-None.ensures)))

pub loop-steps-init : goal.loop-steps-init
loop-steps-init c = λ height h. let e : height ≡ height + 0 = omega arith in subst (HasHeight c.args.nodes.now c.args.place) e h

pub loop-steps-preserved : goal.loop-steps-preserved
loop-steps-preserved c = λ height h.
    let e : suc height + c.loop-steps.steps ≡ height + (c.loop-steps.steps + 1) = omega arith in
    subst (HasHeight c.args.nodes.now c.args.place) e (c.loop-steps.invariant (suc height) (below (sym c.in-Some-named_above_at.ensures) h))
