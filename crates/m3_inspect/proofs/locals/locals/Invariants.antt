use Rattle.std.proofs.Common.{◌≡◌, ◌++◌, ◌+◌, ◌≤◌, length}
use Rattle.m3_image_sections.specs.PartViews.{variables_list}
use Rattle.m3_image.specs.Views.{image_view}
use Rattle.m3_inspect.specs.Standing.{locals_from}
use Rattle.m3_inspect.specs.Shown.{shown_vars, cells_after}
use Rattle.m3_inspect.proofs.locals.locals.Given as goal

abbrev pub invariant-variables : goal.invariant-variables
invariant-variables l =
    let words = l.fn.site.regs.now ++ l.fn.site.stack.now in
    let rest = locals_from words l.fn.site.first l.fn.site.instr l.number (variables_list l.variable-iterator) in
    let all = locals_from words l.fn.site.first l.fn.site.instr 0 (image_view l.fn.image).variables in record {
      few : l.number + length (variables_list l.variable-iterator) ≤ 4294967295;
      vars : l.vars.items ++ shown_vars l.cells.keys rest ≡ shown_vars l.fn.cells.keys all;
      cells : cells_after l.cells.keys rest ≡ cells_after l.fn.cells.keys all;
    }
