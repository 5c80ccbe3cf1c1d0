use Rattle.std.proofs.Common.{◌≡◌, ◌++◌}
use Rattle.m3_tables.specs.Views.{numbers_of}
use Rattle.m3_tables.proofs.tidy.copied.Given as goal

abbrev pub invariant-loop-place : goal.invariant-loop-place
invariant-loop-place l = l.found.items ++ numbers_of l.place-iterator ≡ numbers_of l.fn.places
