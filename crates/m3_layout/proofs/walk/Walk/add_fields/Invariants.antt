use Rattle.std.proofs.Common.{◌≡◌, ◌+◌, ◌++◌, [], drop}
use Rattle.m3_types_sizes.specs.Sizes.{HasSize, EachField, field_words}
use Rattle.m3_layout.specs.Pointers.{field_pointers}
use Rattle.m3_layout.specs.Depths.{value_words, value_pointers}
use Rattle.m3_layout.specs.Walking.{AreRuns}
use Rattle.m3_layout.proofs.walk.Walk.add_fields.Given as goal

-- what is there with the fields that are left is what all fields give
abbrev pub invariant-loop-field : goal.invariant-loop-field
invariant-loop-field l = record {
  known : AreRuns l.types.graph.nodes.items l.self.offsets.items l.self.runs;
  idle : l.self.tasks.items ≡ [];
  sized : EachField (HasSize l.types.graph.nodes.items) (drop l.field-index l.fields);
  offsets : l.self.offsets.items ++ field_pointers (value_words l.types.graph.nodes.items) (value_pointers l.types.graph.nodes.items) l.next (drop l.field-index l.fields) ≡ l.fn.self.offsets.items ++ field_pointers (value_words l.types.graph.nodes.items) (value_pointers l.types.graph.nodes.items) l.at l.fields;
  after : l.next + field_words (value_words l.types.graph.nodes.items) (drop l.field-index l.fields) ≡ l.at + field_words (value_words l.types.graph.nodes.items) l.fields;
}
