use Rattle.std.proofs.Common.{◌≡◌, suc, ◌+◌, ◌-◌, arith, sym, ◌∙◌}
use Rattle.m3_layout.specs.Depths.{most_dims}
use Rattle.m3_layout.proofs.Opening.{one_below}
use Rattle.m3_layout.proofs.open.open_element.Goals as goal

pub loop-dim-preserved : goal.loop-dim-preserved
loop-dim-preserved c =
    let nodes = c.args.types.now.graph.nodes.items in
    let limit = most_dims nodes - c.loop-dim._dim in
    let limit' = most_dims nodes - (c.loop-dim._dim + 1) in
    let el : limit ≡ suc limit' = omega arith in
    let b = one_below nodes limit limit' c.loop-dim.element.0 c.in-Some.below.0 el c.in-Some.ensures in
    record {
      element = sym b.0 ∙ c.loop-dim.invariant.element;
      dims = omega (arith, b.1, c.loop-dim.invariant.dims);
      few = omega (arith, c.loop-dim.invariant.few);
    }
