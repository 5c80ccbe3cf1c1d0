use Rattle.std.proofs.Common.{◌≡◌, ◌++◌, ◌+◌, ◌≤◌, length}
use Rattle.m3_image_sections.specs.PartViews.{variables_list}
use Rattle.m3_image.specs.Views.{image_view}
use Rattle.m3_inspect.specs.Standing.{globals_from}
use Rattle.m3_inspect.specs.Shown.{shown_vars, cells_after}
use Rattle.m3_inspect.proofs.locals.globals.Given as goal

abbrev pub invariant-variables : goal.invariant-variables
invariant-variables l =
    let rest = globals_from l.fn.words l.number (variables_list l.variable-iterator) in
    let all = globals_from l.fn.words 0 (image_view l.fn.image).variables in record {
      few : l.number + length (variables_list l.variable-iterator) ≤ 4294967295;
      vars : l.vars.items ++ shown_vars l.cells.keys rest ≡ shown_vars l.fn.cells.keys all;
      cells : cells_after l.cells.keys rest ≡ cells_after l.fn.cells.keys all;
    }
