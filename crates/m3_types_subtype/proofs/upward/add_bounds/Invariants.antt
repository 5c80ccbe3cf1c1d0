use Rattle.std.proofs.Common.{List, take, All}
use Rattle.std.specs.Prelude.{Contains}
use Rattle.m3_types.specs.declared.nodes.Reveal.{Reveal}
use Rattle.m3_types_subtype.specs.Reaching.{IsVisited, AddsSteps, BoundAbove, Has}
use Rattle.m3_types_subtype.proofs.upward.add_bounds.Given as goal

-- what the reveals so far give is there
abbrev pub invariant-loop-reveal : goal.invariant-loop-reveal
invariant-loop-reveal l = record {
  kept : IsVisited l.reached.seen l.reached.places.items;
  adds : (reveals : List Reveal) → All (λ r. Contains reveals r) l.found → AddsSteps l.nodes reveals l.view l.x l.fn.reached.places.items l.reached.places.items;
  all : (r : Reveal) → Contains (take l.reveal-index l.found) r → BoundAbove l.nodes r l.view l.x → Has l.reached.places.items r.bound.0;
}
