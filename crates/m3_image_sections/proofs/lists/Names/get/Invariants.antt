use Rattle.std.proofs.Common.{◌≡◌, ◌-◌}
use Rattle.std.specs.List.{slice_get}
use Rattle.m3_image_sections.specs.PartViews.{names_of}
use Rattle.m3_image_sections.proofs.lists.Names.get.Given as goal

abbrev pub invariant-loop : goal.invariant-loop
invariant-loop l = slice_get (names_of l.names) (l.place - l.counter) ≡ slice_get (names_of l.self) l.place
