use Rattle.std.proofs.Common.{ℕ, take}
use Rattle.std.specs.Prelude.{◌↔◌, Contains, IsTrue}
use Rattle.std.specs.Ordering.{nat_cmp}
use Rattle.std.specs.BTreeSet.{contains}
use Rattle.m3_types_subtype.proofs.raises.set_of.Given as goal

-- the set has the exceptions so far
abbrev pub invariant-loop-e : goal.invariant-loop-e
invariant-loop-e l = (e : ℕ) → IsTrue (contains nat_cmp l.set e) ↔ Contains (take l.e-index l.row) e
