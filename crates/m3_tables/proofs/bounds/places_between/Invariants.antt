use Rattle.std.proofs.Common.{◌≡◌}
use Rattle.std.specs.List.{list_all}
use Rattle.m3_tables.specs.Sections.{is_between}
use Rattle.m3_tables.specs.Views.{numbers_of}
use Rattle.m3_tables.proofs.bounds.places_between.Given as goal

abbrev pub invariant-loop-place : goal.invariant-loop-place
invariant-loop-place l = list_all (is_between l.lowest l.limit) (numbers_of l.place-iterator) ≡ list_all (is_between l.lowest l.limit) (numbers_of l.fn.places)
