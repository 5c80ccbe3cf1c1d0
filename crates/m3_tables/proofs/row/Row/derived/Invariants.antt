use Rattle.std.proofs.Common.{◌≡◌, ◌-◌}
use Rattle.std.specs.List.{slice_get}
use Rattle.m3_tables.specs.Views.{entries_of}
use Rattle.m3_tables.specs.Tables.{derived_in}
use Rattle.m3_tables.proofs.row.Row.derived.Given as goal

abbrev pub invariant-loop : goal.invariant-loop
invariant-loop l = slice_get (entries_of l.entries) (l.n - l.counter) ≡ slice_get (derived_in l.self) l.n
