use Rattle.std.proofs.Common.{◌≡◌, None}
use Rattle.m3_tables.specs.Views.{entries_of}
use Rattle.m3_tables.specs.Windows.{lowest_of_all}
use Rattle.m3_tables.proofs.fields.Entries.least_from.Given as goal

abbrev pub invariant-loop-entry : goal.invariant-loop-entry
invariant-loop-entry l = lowest_of_all l.from l.least (entries_of l.entry-iterator) ≡ lowest_of_all l.from None (entries_of l.fn.self)
