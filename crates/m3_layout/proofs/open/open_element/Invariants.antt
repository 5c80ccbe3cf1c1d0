use Rattle.std.proofs.Common.{◌≡◌, ◌+◌, ◌-◌}
use Rattle.m3_layout.specs.Depths.{most_dims, element_below, dims_below}
use Rattle.m3_layout.proofs.open.open_element.Given as goal

abbrev pub invariant-loop-dim : goal.invariant-loop-dim
invariant-loop-dim l = record {
  element : element_below l.types.graph.nodes.items (most_dims l.types.graph.nodes.items - l._dim) l.element.0 ≡ element_below l.types.graph.nodes.items (most_dims l.types.graph.nodes.items) l.fn.t.0;
  dims : l.dims + dims_below l.types.graph.nodes.items (most_dims l.types.graph.nodes.items - l._dim) l.element.0 ≡ dims_below l.types.graph.nodes.items (most_dims l.types.graph.nodes.items) l.fn.t.0;
  few : l.dims ≡ l._dim;
}
