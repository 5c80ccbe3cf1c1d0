use Rattle.std.proofs.Common.{Bool, ap, refl, sym, inr, ◌∙◌}
use Rattle.m3_generational.specs.First.{first_heap}
use Rattle.m3c_image_commands.specs.ImageCommands.{setting_of_run}
use Rattle.m3_image.specs.Views.{image_view}
use Rattle.m3_run_state.specs.Seen.{state_of, program_of}
use Rattle.m3c_image_commands.specs.Reports.{counted, ending}
use Rattle.m3c_image_commands.proofs.RunLemmas.{begins_first, ends_run, ran_as_far}
use Rattle.m3c_image_commands.proofs.running.run_by.Goals as goal

pub returns-in-Ok-run : goal.returns-in-Ok-run
returns-in-Ok-run g c =
    let m = c.in-Ok-made.machine.parts in
    let i = image_view c.args.image in
    let limits = c.args.run.limits in
    let begun = c.in-Ok-made.ensures.begins in
    let few = begins_first i.program _ limits.threads limits.stack limits.points (state_of m) begun limits.points_fit in
    let ran = c.in-Ok-run.ensures.ran c.in-Ok-made.ensures.ready few in
    let young = ap (λ (y : Bool). first_heap y limits.heap) (sym c.requires.heap) in
    let told = ap (λ (y : Bool). counted y c.args.run.tells_collections (ending i c.in-Ok-run.outcome) (state_of c.run.new.self.parts)) (sym c.requires.heap) in
    ends_run i _ c.args.run.tells_collections _ (program_of m) m.input.now _ (state_of m) (state_of c.run.new.self.parts) c.in-Ok-run.outcome c.answer_of.result.status c.answer_of.result.line.items c.in-Ok-made.ensures.program c.in-Ok-made.ensures.input
    (c.in-Ok-make.ensures ∙ young) begun ran c.answer_of.ensures.status (c.answer_of.ensures.line ∙ told)

pub returns : goal.returns
returns g c =
    let m = c.in-Ok-made.machine.parts in
    let i = image_view c.args.image in
    let limits = c.args.run.limits in
    let begun = c.in-Ok-made.ensures.begins in
    let few = begins_first i.program _ limits.threads limits.stack limits.points (state_of m) begun limits.points_fit in
    let young = ap (λ (y : Bool). first_heap y limits.heap) (sym c.requires.heap) in
    let cut = c.in-Err.ensures.cut c.in-Ok-made.ensures.ready few in (
      inr (record { status = refl; front = refl; name = refl }, c.in-Err.ensures.failed),
      λ status. ran_as_far g.O.Sink c.args.out.now c.run.new.out i (setting_of_run c.args.run) (program_of m) m.input.now _ (state_of m) c.in-Ok-made.ensures.program c.in-Ok-made.ensures.input (c.in-Ok-make.ensures ∙ young) begun cut,
    )
