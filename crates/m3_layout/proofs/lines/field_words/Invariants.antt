use Rattle.std.proofs.Common.{◌≡◌, ◌+◌, drop}
use Rattle.m3_types_sizes.specs.Sizes.{HasSize, EachField, field_words}
use Rattle.m3_layout.specs.Depths.{value_words}
use Rattle.m3_layout.proofs.lines.field_words.Given as goal

abbrev pub invariant-loop-field : goal.invariant-loop-field
invariant-loop-field l = record {
  sum : l.sum + field_words (value_words l.types.graph.nodes.items) (drop l.field-index l.fields) ≡ field_words (value_words l.types.graph.nodes.items) l.fields;
  sizes : EachField (HasSize l.types.graph.nodes.items) (drop l.field-index l.fields) → EachField (HasSize l.types.graph.nodes.items) l.fields;
  left : EachField (HasSize l.types.graph.nodes.items) l.fields → EachField (HasSize l.types.graph.nodes.items) (drop l.field-index l.fields);
}
