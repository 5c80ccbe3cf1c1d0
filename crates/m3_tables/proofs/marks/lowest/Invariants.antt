use Rattle.std.proofs.Common.{◌≡◌}
use Rattle.m3_tables.specs.Views.{numbers_of}
use Rattle.m3_tables.specs.Windows.{lowest}
use Rattle.m3_tables.proofs.marks.lowest.Given as goal

abbrev pub invariant-loop-place : goal.invariant-loop-place
invariant-loop-place l = lowest l.from l.least (numbers_of l.place-iterator) ≡ lowest l.from l.fn.least (numbers_of l.fn.places)
