use Rattle.std.specs.Prelude.{◌≡◌, ◌-◌}
use Rattle.std.specs.List.{slice_get}
use Rattle.m3_tables.specs.Views.{ways_of, entry_of}
use Rattle.m3_roots.proofs.bases.way_of.Given as goal

abbrev pub invariant-loop : goal.invariant-loop
invariant-loop l = slice_get (ways_of l.ways) (l.number - l.counter) ≡ slice_get (entry_of l.entry).ways l.number
