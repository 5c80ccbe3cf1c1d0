use Rattle.std.proofs.Common.{length, sym, ◌∙◌}
use Rattle.m3_image.specs.Views.{image_view}
use Rattle.m3_image_sections.specs.PartViews.{type_of}
use Rattle.m3_image_sections.proofs.ShapeLemmas.{found_pointers, pointer_some, pointer_none}
use Rattle.m3_image.proofs.image.ImageViewMaps.is_pointer.Goals as goal

pub is_pointer-requires : goal.is_pointer-requires
is_pointer-requires c =
    let program = c.args.self.now.program in
    let found = found_pointers (length (image_view c.args.self.now).program.procs) (image_view c.args.self.now).program.types c.args.kind (type_of c.in-Some.shape) program.types_kept c.in-Some.ensures in
    record { rise = found.0; below = found.1 }

pub returns-in-Some : goal.returns-in-Some
returns-in-Some c =
    c.is_pointer.ensures ∙ sym (pointer_some (image_view c.args.self.now).program.types c.args.kind c.args.at (type_of c.in-Some.shape) c.in-Some.ensures)

pub returns-in-None : goal.returns-in-None
returns-in-None c = sym (pointer_none (image_view c.args.self.now).program.types c.args.kind c.args.at c.in-None.ensures)
