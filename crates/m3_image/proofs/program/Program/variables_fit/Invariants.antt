use Rattle.std.proofs.Common.{◌≡◌}
use Rattle.std.specs.List.{list_all}
use Rattle.m3_image.specs.Programs.{variable_fits}
use Rattle.m3_image_sections.specs.PartViews.{variables_list}
use Rattle.m3_image.specs.Views.{program_view}
use Rattle.m3_image.proofs.program.Program.variables_fit.Given as goal

abbrev pub invariant-loop-v : goal.invariant-loop-v
invariant-loop-v l = list_all (variable_fits (program_view l.self)) (variables_list l.v-iterator) ≡ list_all (variable_fits (program_view l.self)) (variables_list l.fn.variables)
