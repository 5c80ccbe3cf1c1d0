use Rattle.m3_layout.specs.Shapes.{layout_of}
use Rattle.m3_layout.proofs.Choosing.{target_chosen, open_chosen, object_chosen}
use Rattle.m3_layout.proofs.cells.cell_shape.Goals as goal

pub target_shape-requires : goal.target_shape-requires
target_shape-requires c = (target_chosen c.args.types.now.graph.nodes.items c.args.types.now.graph.reveals.items c.args.types.now.shallow c.args.t.0 c.unveiled-shown.result.0 c.in-Some.target.0 c.unveiled-shown.ensures c.in-Some.ensures).to c.requires

pub target_shape-requires-in-Some-array_element : goal.target_shape-requires-in-Some-array_element
target_shape-requires-in-Some-array_element c = (open_chosen c.args.types.now.graph.nodes.items c.args.types.now.graph.reveals.items c.args.types.now.shallow c.args.t.0 c.unveiled-shown.result.0 c.in-Some-array_element._element.0 c.unveiled-shown.ensures c.in-Some-array_element.ensures).to c.requires

pub object_shape-requires : goal.object_shape-requires
object_shape-requires c =
    let p = (object_chosen c.args.types.now.graph.nodes.items c.args.types.now.graph.reveals.items c.args.types.now.shallow c.args.t.0 c.unveiled-shown.result.0 c.unveiled-shown.ensures c.in_default.ensures c.in_default-array_element.ensures).to c.requires in
    record { object = p.0; fits = p.1 }

pub returns-in-Some-clause-layout : goal.returns-in-Some-clause-layout
returns-in-Some-clause-layout c = (target_chosen c.args.types.now.graph.nodes.items c.args.types.now.graph.reveals.items c.args.types.now.shallow c.args.t.0 c.unveiled-shown.result.0 c.in-Some.target.0 c.unveiled-shown.ensures c.in-Some.ensures).laid (layout_of c.in_ok-shape.shape) c.in_ok-shape.ensures.layout c.requires

pub returns-in-Some-array_element-clause-layout : goal.returns-in-Some-array_element-clause-layout
returns-in-Some-array_element-clause-layout c = (open_chosen c.args.types.now.graph.nodes.items c.args.types.now.graph.reveals.items c.args.types.now.shallow c.args.t.0 c.unveiled-shown.result.0 c.in-Some-array_element._element.0 c.unveiled-shown.ensures c.in-Some-array_element.ensures).laid (layout_of c.in_ok-shape-2.shape) c.in_ok-shape-2.ensures.layout c.requires

pub returns-clause-layout : goal.returns-clause-layout
returns-clause-layout c = (object_chosen c.args.types.now.graph.nodes.items c.args.types.now.graph.reveals.items c.args.types.now.shallow c.args.t.0 c.unveiled-shown.result.0 c.unveiled-shown.ensures c.in_default.ensures c.in_default-array_element.ensures).laid (layout_of c.in_ok-shape-3.shape) c.in_ok-shape-3.ensures.layout c.requires
