use Rattle.std.specs.Prelude.{◌≡◌, ◌≤◌, ◌+◌, ◌++◌}
use Rattle.m3_tables.specs.Views.{entries_of}
use Rattle.m3_tables.specs.Tables.{derived_in}
use Rattle.m3_roots.specs.ThreadWords.{derived_from}
use Rattle.m3_roots.specs.TakingApart.{apart}
use Rattle.m3_roots.specs.Steps.{derived_listed}
use Rattle.m3_roots.proofs.bases.take_row_apart.Given as goal

abbrev pub invariant-loop-entry : goal.invariant-loop-entry
invariant-loop-entry g l =
    (apart (derived_from l.first (entries_of l.entry-iterator)) (l.r ++ l.stack) ≡ apart (derived_from l.first (derived_in l.row)) (l.initial.r ++ l.initial.stack))
    × (l.steps + derived_listed (derived_from l.first (entries_of l.entry-iterator)) ≤ l.initial.steps + derived_listed (derived_from l.first (derived_in l.row)))
