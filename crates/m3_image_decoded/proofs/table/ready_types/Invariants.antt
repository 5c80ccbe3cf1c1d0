use Rattle.std.proofs.Common.{◌≡◌, ◌++◌, map, length, true}
use Rattle.m3_image_sections.specs.Forms.{types_fit_from}
use Rattle.m3_image.specs.Views.{image_view}
use Rattle.m3_image_sections.specs.PartViews.{types_of}
use Rattle.m3_image_decoded.specs.ReadyTypes.{ready_type}
use Rattle.m3_image_decoded.proofs.table.ready_types.Given as goal

abbrev pub invariant-loop-view : goal.invariant-loop-view
invariant-loop-view l =
    (map ready_type l.found.items ++ types_of l.view-iterator ≡ (image_view l.image).program.types)
    × (types_fit_from (length (image_view l.image).program.procs) (length l.found.items) (types_of l.view-iterator) ≡ true)
