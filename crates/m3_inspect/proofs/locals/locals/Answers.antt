use Rattle.std.proofs.Common.{rules, ◌≡◌, ◌++◌, ◌+◌, ◌≤◌, List, ◌∷◌, length, subst, arith}
use Rattle.m3_image_sections.specs.Parts.{Variable, variable_at}
use Rattle.m3_image_sections.specs.PartViews.{variable_of, variables_list}
use Rattle.m3_image_sections.proofs.ListLemmas.{length_many}
use Rattle.m3_image.specs.Views.{image_view}
use Rattle.m3_inspect.specs.Standing.{place_at, held_at, locals_from}
use Rattle.m3_inspect.specs.Shown.{shown_vars, cells_after}
use Rattle.m3_inspect.proofs.CellLemmas.{vars_more, cells_more}
use Rattle.m3_inspect.proofs.locals.locals.Goals as goal

pub variables-init : goal.variables-init
variables-init c =
    let it = c.into_iter-variable-iterator.result in
    let many : length (variables_list it) ≤ it.count = length_many variable_at it.count it.bytes.now in
    record { few = search (rules, many); vars = search rules; cells = search rules }

pub variables-preserved : goal.variables-preserved
variables-preserved c =
    let number = c.variables.number in
    let v = variable_of c.in-Some.variable in
    let it = c.variables.variable-iterator in
    let after = variables_list c.next.new.self in
    let inv = c.variables.invariant in
    let steps : variables_list it ≡ v ∷ after = c.in-Some.ensures.steps in
    let few : number + length (v ∷ after) ≤ 4294967295 = subst (λ (vs : List Variable). number + length vs ≤ 4294967295) steps inv.few in
    let vars = subst (λ (vs : List Variable). c.variables.vars.items ++ shown_vars c.variables.cells.keys (locals_from (c.args.site.now.regs.now ++ c.args.site.now.stack.now) c.args.site.now.first c.args.site.now.instr number vs) ≡ shown_vars c.args.cells.now.keys (locals_from (c.args.site.now.regs.now ++ c.args.site.now.stack.now) c.args.site.now.first c.args.site.now.instr 0 (image_view c.args.image.now).variables)) steps inv.vars in
    let cells = subst (λ (vs : List Variable). cells_after c.variables.cells.keys (locals_from (c.args.site.now.regs.now ++ c.args.site.now.stack.now) c.args.site.now.first c.args.site.now.instr number vs) ≡ cells_after c.args.cells.now.keys (locals_from (c.args.site.now.regs.now ++ c.args.site.now.stack.now) c.args.site.now.first c.args.site.now.instr 0 (image_view c.args.image.now).variables)) steps inv.cells in
    let hs = held_at (c.args.site.now.regs.now ++ c.args.site.now.stack.now) c.args.site.now.first number v (place_at c.args.site.now.instr v.spans) in
    let gs = locals_from (c.args.site.now.regs.now ++ c.args.site.now.stack.now) c.args.site.now.first c.args.site.now.instr (number + 1) after in
    let put = c.in_ok-put_local.ensures in
    record {
      few = omega (arith, few);
      vars = vars_more c.variables.vars.items c.put_local.new.vars.items _ c.variables.cells.keys c.put_local.new.cells.keys hs gs vars put.vars put.cells;
      cells = cells_more c.variables.cells.keys c.put_local.new.cells.keys _ hs gs cells put.cells;
    }
