use Rattle.std.specs.Prelude.{ℕ, ◌≡◌, Some, slice_get}
use Rattle.m3_image.specs.Views.{image_view}
use Rattle.m3_image_sections.specs.Parts.{CellType}
use Rattle.m3_image_sections.specs.PartViews.{types_of}
use Rattle.m3_machine.proofs.Images.{IsAhead}
use Rattle.m3_machine.proofs.start.most_dims.Given as goal

-- each type has no more dimensions than the most so far, or comes later
abbrev pub invariant-types : goal.invariant-types
invariant-types l = (n : ℕ) (form : CellType) → slice_get (image_view l.image).program.types n ≡ Some form → IsAhead l.most (types_of l.view-iterator) form
