use Rattle.std.proofs.Common.{◌≡◌, ◌-◌}
use Rattle.std.specs.List.{slice_get}
use Rattle.m3_image_sections.specs.PartViews.{variables_list}
use Rattle.m3_image_sections.proofs.variables.Variables.get.Given as goal

abbrev pub invariant-loop : goal.invariant-loop
invariant-loop l = slice_get (variables_list l.variables) (l.number - l.counter) ≡ slice_get (variables_list l.self) l.number
