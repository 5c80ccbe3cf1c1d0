use Rattle.std.proofs.Common.{Bool, ap, refl, sym, ◌∙◌, subst}
use Rattle.m3_generational.specs.First.{first_heap}
use Rattle.m3c_image_commands.specs.Reports.{counted, ending}
use Rattle.m3c_image_commands.specs.Statuses.{putting}
use Rattle.m3_base.specs.declared.outcomes.Outcome.{Outcome}
use Rattle.m3_image.specs.Views.{image_view}
use Rattle.m3_run_state.specs.Seen.{state_of, program_of}
use Rattle.m3c_image_commands.specs.ImageCommands.{setting_of_run}
use Rattle.m3c_image_commands.proofs.RunLemmas.{begins_first}
use Rattle.m3c_inspect_command.specs.Inspecting.{Shows, Stops}
use Rattle.m3c_inspect_command.proofs.InspectLemmas.{stops_of, spent_if, other_if, points_used, other_end}
use Rattle.m3c_inspect_command.proofs.inspecting.inspect_by.Goals as goal

pub returns-then-is_spent : goal.returns-then-is_spent
returns-then-is_spent g c =
    let m = c.in-Ok-made.machine.parts in
    let i = image_view c.args.image in
    let limits = c.args.run.limits in
    let setting = setting_of_run c.args.run in
    let young = ap (λ (y : Bool). first_heap y limits.heap) (sym c.requires.heap) in
    let made = c.in-Ok-made.ensures in
    let to = state_of c.run.new.self.parts in
    let few = begins_first i.program _ limits.threads limits.stack limits.points (state_of m) made.begins limits.points_fit in
    let ran = c.in-Ok-run.ensures.ran made.ready few in
    let spent = spent_if c.in-Ok-run.outcome (sym c.is_spent.ensures ∙ c.if-is_spent.true) in
    let stops = stops_of i setting (program_of m) m.input.now _ (state_of m) to c.in-Ok-run.outcome ran.0 made.program made.input (c.in-Ok-make.ensures ∙ young) made.begins ran.2 in
    points_used i setting c.args.run.tells_collections _ to c.show.result (subst (λ (o : Outcome). Stops i setting to o) spent stops)
    (subst (λ (y : Bool). Shows i y c.args.run.tells_collections to (putting g.O.Sink c.args.out.now c.show.new.out) c.show.result) (sym c.requires.heap) c.show.ensures)

pub returns : goal.returns
returns g c =
    let m = c.in-Ok-made.machine.parts in
    let i = image_view c.args.image in
    let limits = c.args.run.limits in
    let setting = setting_of_run c.args.run in
    let young = ap (λ (y : Bool). first_heap y limits.heap) (sym c.requires.heap) in
    let made = c.in-Ok-made.ensures in
    let to = state_of c.run.new.self.parts in
    let few = begins_first i.program _ limits.threads limits.stack limits.points (state_of m) made.begins limits.points_fit in
    let ran = c.in-Ok-run.ensures.ran made.ready few in
    let other = other_if c.in-Ok-run.outcome (sym c.is_spent.ensures ∙ c.if-is_spent.false) in
    let stops = stops_of i setting (program_of m) m.input.now _ (state_of m) to c.in-Ok-run.outcome ran.0 made.program made.input (c.in-Ok-make.ensures ∙ young) made.begins ran.2 in
    other_end i setting c.args.run.tells_collections _ to c.in-Ok-run.outcome c.answer_of.result.status c.answer_of.result.line.items stops other refl c.answer_of.ensures.status
    (c.answer_of.ensures.line ∙ ap (λ (y : Bool). counted y c.args.run.tells_collections (ending i c.in-Ok-run.outcome) to) (sym c.requires.heap))
