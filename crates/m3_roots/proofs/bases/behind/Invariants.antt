use Rattle.std.specs.Prelude.{◌≡◌, drop}
use Rattle.m3_tables.specs.Views.{entries_of}
use Rattle.m3_roots.proofs.bases.behind.Given as goal

abbrev pub invariant-loop : goal.invariant-loop
invariant-loop l = entries_of l.later ≡ drop l.counter (entries_of l.entries)
