use Rattle.std.proofs.Common.{◌≡◌, ℕ, ◌<◌, ◌≤◌, List, length, get_or, take, All}
use Rattle.m3_types.specs.declared.nodes.TypeNode.{TypeNode}
use Rattle.m3_types_subtype.specs.Classes.{parent_of, SameClass}
use Rattle.m3_types_subtype.specs.Sameness.{Matched, Same}
use Rattle.m3_types_subtype.specs.Assumptions.{IsKept}
use Rattle.m3_types_subtype.proofs.assumptions.Assumptions.assume_all.Given as goal

abbrev pub invariant-loop-i : goal.invariant-loop-i
invariant-loop-i l = record {
  kept : IsKept (parent_of l.self.classes.parents) l.self.pairs.items;
  joined : (k : ℕ) → k < l.i → SameClass (parent_of l.self.classes.parents) (get_or l.xs k 0) (get_or l.ys k 0);
  keeps : (i j : ℕ) → SameClass (parent_of l.fn.self.classes.parents) i j → SameClass (parent_of l.self.classes.parents) i j;
  front : take (length l.fn.self.pairs.items) l.self.pairs.items ≡ l.fn.self.pairs.items;
  longer : length l.fn.self.pairs.items ≤ length l.self.pairs.items;
  forced : (nodes : List TypeNode) → Matched (Same nodes) l.xs l.ys → All (λ p. Same nodes p.0 p.1) l.fn.self.pairs.items → All (λ p. Same nodes p.0 p.1) l.self.pairs.items;
}
