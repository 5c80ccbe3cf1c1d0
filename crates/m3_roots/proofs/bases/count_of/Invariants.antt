use Rattle.std.specs.Prelude.{◌≡◌, ◌+◌, length}
use Rattle.m3_tables.specs.Views.{entries_of}
use Rattle.m3_tables.specs.Tables.{derived_in}
use Rattle.m3_roots.proofs.bases.count_of.Given as goal

abbrev pub invariant-loop-entry : goal.invariant-loop-entry
invariant-loop-entry l = l.count + length (entries_of l._entry-iterator) ≡ length (derived_in l.row)
