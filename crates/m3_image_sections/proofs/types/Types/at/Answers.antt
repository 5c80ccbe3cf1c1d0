use Rattle.std.proofs.Common.{sym, ◌∙◌}
use Rattle.m3_image_sections.specs.PartViews.{type_of}
use Rattle.m3_image_sections.proofs.ListLemmas.{type_less, rest_some}
use Rattle.m3_image_sections.proofs.types.Types.at.Goals as goal

pub loop-after-smaller : goal.loop-after-smaller
loop-after-smaller c = type_less c.loop-after.rest.now c.in-Some.after.now (type_of c.in-Some.field-0-0) c.in-Some.ensures

pub loop-after-preserved : goal.loop-after-preserved
loop-after-preserved c = sym (rest_some c.loop-after.rest.now c.in-Some.after.now (type_of c.in-Some.field-0-0) c.in-Some.ensures) ∙ c.loop-after.invariant
