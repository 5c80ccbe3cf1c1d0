use Rattle.std.proofs.Common.{◌≡◌, ◌+◌, ◌-◌, length}
use Rattle.m3_layout.specs.Depths.{EndsWithin, line_to, line_of, line_words}
use Rattle.m3_layout.proofs.lines.object_words.Given as goal

-- the type is an object type if the one at the top is, and its words are those so far and the top's
abbrev pub invariant-loop-type : goal.invariant-loop-type
invariant-loop-type l = record {
  whole : EndsWithin l.types.graph.nodes.items l.types.graph.reveals.items (length l.types.graph.nodes.items) l.fn.t.0 → EndsWithin l.types.graph.nodes.items l.types.graph.reveals.items (length l.types.graph.nodes.items - l._type) l.top.0;
  part : EndsWithin l.types.graph.nodes.items l.types.graph.reveals.items (length l.types.graph.nodes.items - l._type) l.top.0 → EndsWithin l.types.graph.nodes.items l.types.graph.reveals.items (length l.types.graph.nodes.items) l.fn.t.0;
  sum : l.words + line_words l.types.graph.nodes.items (line_to l.types.graph.nodes.items l.types.graph.reveals.items (length l.types.graph.nodes.items - l._type) l.top.0) ≡ 1 + line_words l.types.graph.nodes.items (line_of l.types.graph.nodes.items l.types.graph.reveals.items l.fn.t.0);
}
