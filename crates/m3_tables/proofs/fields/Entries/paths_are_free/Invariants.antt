use Rattle.std.proofs.Common.{◌≡◌}
use Rattle.m3_tables.specs.Views.{entries_of}
use Rattle.m3_tables.specs.Windows.{has_mark, paths_apart}
use Rattle.m3_tables.proofs.fields.Entries.paths_are_free.Given as goal

abbrev pub invariant-loop-entry : goal.invariant-loop-entry
invariant-loop-entry l =
    let has = has_mark l.marks l.from in
    paths_apart has (entries_of l.fn.self) (entries_of l.entry-iterator) ≡ paths_apart has (entries_of l.fn.self) (entries_of l.fn.self)
