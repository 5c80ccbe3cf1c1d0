use Rattle.std.specs.List.{slice_get}
use Rattle.m3_image_sections.specs.PartViews.{variables_list}
use Rattle.m3_image_sections.proofs.ListLemmas.{none_left}
use Rattle.m3_image_sections.proofs.variables.Variables.get.Goals as goal

pub returns-in_err-next : goal.returns-in_err-next
returns-in_err-next c =
    rw c.from_residual.ensures (none_left (variables_list c.loop.variables) c.args.number c.loop.counter (slice_get (variables_list c.args.self.now) c.args.number) c.in_err-next.ensures.steps.0 c.loop.invariant)
