-- What a shape says of a cell.
use Rattle.m3_layout.specs.declared.cells.Shape.{Shape}
use Rattle.m3_layout.specs.Cells.{Layout, first_word}
use Rattle.m3_layout.specs.Pointers.{RisesWithin}

abbrev pub layout_of : Shape → Layout
layout_of shape = record { words = shape.words; dims = shape.dims; pointers = shape.pointers.items }

-- the pointers rise strictly and are words of the cell, or of the element, without the header
abbrev pub AreInOrder : Layout → Type 0
AreInOrder layout = RisesWithin (first_word layout.dims) layout.words layout.pointers
