use Rattle.std.proofs.Common.{◌≡◌, ◌-◌}
use Rattle.std.specs.List.{slice_get}
use Rattle.m3_tables.specs.Views.{ways_of, entry_of}
use Rattle.m3_tables.proofs.derivation.Derivation.way_at.Given as goal

abbrev pub invariant-loop : goal.invariant-loop
invariant-loop l = slice_get (ways_of l.ways) (l.way - l.counter) ≡ slice_get (entry_of l.self).ways l.way
