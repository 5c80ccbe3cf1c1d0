use Rattle.std.specs.List.{slice_get}
use Rattle.m3_image_sections.specs.PartViews.{types_of}
use Rattle.m3_image_sections.proofs.ListLemmas.{none_left}
use Rattle.m3_image_sections.proofs.types.Types.get.Goals as goal

pub returns-in_err-next : goal.returns-in_err-next
returns-in_err-next c =
    rw c.from_residual.ensures (none_left (types_of c.loop.types) c.args.number c.loop.counter (slice_get (types_of c.args.self.now) c.args.number) c.in_err-next.ensures.steps.0 c.loop.invariant)
