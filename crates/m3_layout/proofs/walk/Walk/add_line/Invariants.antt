use Rattle.std.proofs.Common.{◌≡◌, ◌+◌, ◌++◌, [], drop, map}
use Rattle.m3_layout.specs.Depths.{line_words, line_pointers}
use Rattle.m3_layout.specs.Walking.{AreRuns}
use Rattle.m3_layout.proofs.walk.Walk.add_line.Given as goal

-- what is there with the types that are left is what the whole line gives
abbrev pub invariant-loop-t : goal.invariant-loop-t
invariant-loop-t l = record {
  known : AreRuns l.types.graph.nodes.items l.self.offsets.items l.self.runs;
  idle : l.self.tasks.items ≡ [];
  offsets : l.self.offsets.items ++ line_pointers l.types.graph.nodes.items l.next (drop l.t-index (map (λ u. u.0) l.line)) ≡ l.fn.self.offsets.items ++ line_pointers l.types.graph.nodes.items l.at (map (λ u. u.0) l.line);
  after : l.next + line_words l.types.graph.nodes.items (drop l.t-index (map (λ u. u.0) l.line)) ≡ l.at + line_words l.types.graph.nodes.items (map (λ u. u.0) l.line);
}
