use Rattle.std.proofs.Common.{◌≡◌, ◌≤◌, ℕ}
use Rattle.m3_types_subtype.specs.Classes.{parent_of, root_of, root_count}
use Rattle.m3_types_subtype.proofs.partition.Partition.root.Given as goal

-- the roots are those at the call, and the way goes on in the class of the number
abbrev pub invariant-loop-at : goal.invariant-loop-at
invariant-loop-at l = record {
  classes : (j : ℕ) → root_of (parent_of l.self.parents) j ≡ root_of (parent_of l.fn.self.parents) j;
  count : (n : ℕ) → root_count (parent_of l.self.parents) n ≡ root_count (parent_of l.fn.self.parents) n;
  low : l.at ≤ l.i;
  way : root_of (parent_of l.fn.self.parents) l.at ≡ root_of (parent_of l.fn.self.parents) l.i;
}

abbrev pub decreases-loop-at : goal.decreases-loop-at
decreases-loop-at l = l.at
