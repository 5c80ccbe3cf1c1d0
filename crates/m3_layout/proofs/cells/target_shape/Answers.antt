use Rattle.std.proofs.Common.{ℕ, ap, sym, ◌∙◌, subst}
use Rattle.m3_types_sizes.specs.Sizes.{HasSize}
use Rattle.m3_layout.specs.Depths.{open_dims, value_cell, plain_cell}
use Rattle.m3_layout.proofs.Opening.{target_plain, target_open}
use Rattle.m3_layout.proofs.cells.target_shape.Goals as goal

pub value_shape-requires-clause-sized : goal.value_shape-requires-clause-sized
value_shape-requires-clause-sized c = subst (HasSize c.args.types.now.graph.nodes.items) (sym c.open_element-dims.ensures.element) c.requires

pub value_shape-requires-else-dims-eq0-clause-sized : goal.value_shape-requires-else-dims-eq0-clause-sized
value_shape-requires-else-dims-eq0-clause-sized c = subst (HasSize c.args.types.now.graph.nodes.items) (sym c.open_element-dims.ensures.element) c.requires

pub returns-in_ok-shape-clause-layout : goal.returns-in_ok-shape-clause-layout
returns-in_ok-shape-clause-layout c =
    let nodes = c.args.types.now.graph.nodes.items in
    c.in_ok-shape.ensures.layout ∙ ap (plain_cell nodes) c.open_element-dims.ensures.element ∙ sym (target_plain nodes c.args.t.0 (sym c.open_element-dims.ensures.dims ∙ c.if-dims-eq0.true))

pub returns-in_ok-shape-2-clause-layout : goal.returns-in_ok-shape-2-clause-layout
returns-in_ok-shape-2-clause-layout c =
    let nodes = c.args.types.now.graph.nodes.items in
    let e = c.open_element-dims.ensures in
    c.in_ok-shape-2.ensures.layout
    ∙ ap (λ (d : ℕ). value_cell nodes 0 d c.open_element-dims.result.0.0) e.dims
    ∙ ap (value_cell nodes 0 (open_dims nodes c.args.t.0)) e.element
    ∙ sym (target_open nodes c.args.t.0 (λ z. c.if-dims-eq0.false (e.dims ∙ z)))
