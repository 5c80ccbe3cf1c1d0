use Rattle.std.proofs.Common.{◌≡◌, ◌++◌}
use Rattle.m3_layout.specs.Walking.{pending, total_effort, IsWalk}
use Rattle.m3_layout.specs.Depths.{value_pointers}
use Rattle.m3_layout.proofs.walk.Walk.add_value.Given as goal

abbrev pub invariant-loop-task : goal.invariant-loop-task
invariant-loop-task l = record {
  walk : IsWalk l.types.graph.nodes.items l.self.offsets.items l.self.tasks.items l.self.runs;
  same : l.self.offsets.items ++ pending l.types.graph.nodes.items l.self.tasks.items ≡ l.fn.self.offsets.items ++ value_pointers l.types.graph.nodes.items l.at l.fn.t.0;
}

abbrev pub decreases-loop-task : goal.decreases-loop-task
decreases-loop-task l = total_effort l.types.graph.nodes.items l.self.tasks.items
