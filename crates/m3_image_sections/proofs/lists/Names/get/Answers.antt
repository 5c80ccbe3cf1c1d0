use Rattle.std.specs.List.{slice_get}
use Rattle.m3_image_sections.specs.PartViews.{names_of}
use Rattle.m3_image_sections.proofs.ListLemmas.{none_left}
use Rattle.m3_image_sections.proofs.lists.Names.get.Goals as goal

pub returns-in_err-next : goal.returns-in_err-next
returns-in_err-next c =
    rw c.from_residual.ensures (none_left (names_of c.loop.names) c.args.place c.loop.counter (slice_get (names_of c.args.self.now) c.args.place) c.in_err-next.ensures.steps.0 c.loop.invariant)
