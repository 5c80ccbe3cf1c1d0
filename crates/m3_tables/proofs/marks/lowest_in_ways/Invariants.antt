use Rattle.std.proofs.Common.{◌≡◌}
use Rattle.m3_tables.specs.Views.{ways_of, entry_of}
use Rattle.m3_tables.specs.Windows.{lowest_in_ways}
use Rattle.m3_tables.proofs.marks.lowest_in_ways.Given as goal

abbrev pub invariant-loop-way : goal.invariant-loop-way
invariant-loop-way l = lowest_in_ways l.from l.least (ways_of l.way-iterator) ≡ lowest_in_ways l.from l.fn.least (entry_of l.entry).ways
