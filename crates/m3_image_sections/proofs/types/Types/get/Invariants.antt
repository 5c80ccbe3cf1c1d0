use Rattle.std.proofs.Common.{◌≡◌, ◌-◌}
use Rattle.std.specs.List.{slice_get}
use Rattle.m3_image_sections.specs.PartViews.{types_of}
use Rattle.m3_image_sections.proofs.types.Types.get.Given as goal

abbrev pub invariant-loop : goal.invariant-loop
invariant-loop l = slice_get (types_of l.types) (l.number - l.counter) ≡ slice_get (types_of l.self) l.number
