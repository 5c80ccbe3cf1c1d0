use Rattle.std.proofs.Common.{take, All}
use Rattle.std.specs.Prelude.{IsTrue}
use Rattle.std.specs.Ordering.{nat_cmp}
use Rattle.std.specs.BTreeSet.{contains}
use Rattle.m3_types_subtype.proofs.raises.all_in.Given as goal

-- the exceptions so far are in the set
abbrev pub invariant-loop-e : goal.invariant-loop-e
invariant-loop-e l = All (λ e. IsTrue (contains nat_cmp l.set e)) (take l.e-index l.row)
