use Rattle.std.proofs.Common.{◌-◌, ◌≤◌, ◌^◌, length, take, All}
use Rattle.m3_types_subtype.specs.Classes.{parent_of, SameClass}
use Rattle.m3_types_subtype.specs.Sameness.{Matched, Same}
use Rattle.m3_types_subtype.specs.Assumptions.{IsKept, Agrees}
use Rattle.m3_types_subtype.proofs.sameness.same_lists.Given as goal

-- The pairs before the next one agree at their top, as far as was assumed; and if the types of the
-- two lists are the same, so are those of each pair.
abbrev pub invariant-loop-next : goal.invariant-loop-next
invariant-loop-next l = record {
  kept : IsKept (parent_of l.assumed.classes.parents) l.assumed.pairs.items;
  first : Matched (SameClass (parent_of l.assumed.classes.parents)) l.xs l.ys;
  place : l.next ≤ length l.assumed.pairs.items;
  done : All (λ p. Agrees l.nodes (SameClass (parent_of l.assumed.classes.parents)) p.0 p.1) (take l.next l.assumed.pairs.items);
  forced : Matched (Same l.nodes) l.xs l.ys → All (λ p. Same l.nodes p.0 p.1) l.assumed.pairs.items;
}

-- there are fewer pairs than numbers of types
abbrev pub decreases-loop-next : goal.decreases-loop-next
decreases-loop-next l = 2 ^ 64 - l.next
