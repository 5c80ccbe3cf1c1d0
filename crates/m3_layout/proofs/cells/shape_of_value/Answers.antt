use Rattle.m3_layout.specs.Shapes.{layout_of}
use Rattle.m3_layout.proofs.Targets.{value_outside}
use Rattle.m3_layout.proofs.cells.shape_of_value.Goals as goal

pub returns-clause-value : goal.returns-clause-value
returns-clause-value c = (value_outside c.args.types.now.graph.nodes.items c.args.types.now.shallow c.args.t.0 0 (layout_of c.in_ok-shape.shape) c.in_ok-shape.ensures.layout c.requires).0
