use Rattle.std.proofs.Common.{◌≡◌, ℕ, Some, take, All}
use Rattle.std.specs.Prelude.{Contains, slice_get}
use Rattle.m3_types.specs.declared.nodes.Reveal.{Reveal}
use Rattle.m3_types.proofs.graph.reveals_at.Given as goal

-- what was found is in the list, and what stands at a place so far was found
abbrev pub invariant-loop-place : goal.invariant-loop-place
invariant-loop-place l = record {
  there : All (λ r. Contains l.reveals r) l.found.items;
  all : (p : ℕ) (r : Reveal) → Contains (take l.place-index l.places) p → slice_get l.reveals p ≡ Some r → Contains l.found.items r;
}
