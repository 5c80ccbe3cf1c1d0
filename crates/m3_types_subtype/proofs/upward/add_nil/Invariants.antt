use Rattle.std.proofs.Common.{ℕ, ◌<◌, List}
use Rattle.std.specs.Prelude.{IsTrue}
use Rattle.m3_types.specs.declared.nodes.Reveal.{Reveal}
use Rattle.m3_types.specs.Definitions.{head_at}
use Rattle.m3_types.specs.Kinds.{has_nil}
use Rattle.m3_types_subtype.specs.Reaching.{IsVisited, AddsSteps, Has}
use Rattle.m3_types_subtype.proofs.upward.add_nil.Given as goal

-- each type so far that NIL belongs to is there
abbrev pub invariant-loop-y : goal.invariant-loop-y
invariant-loop-y l = record {
  kept : IsVisited l.reached.seen l.reached.places.items;
  adds : (reveals : List Reveal) (view : ℕ) → AddsSteps l.nodes reveals view l.x l.fn.reached.places.items l.reached.places.items;
  all : (y : ℕ) → y < l.y → IsTrue (has_nil (head_at l.nodes y)) → Has l.reached.places.items y;
}
