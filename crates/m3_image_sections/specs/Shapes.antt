-- What a collection has to know of a type of cells.
use Rattle.std.specs.Prelude.{ℕ, ◌==◌, if◌then◌else◌}
use Rattle.m3_heap.specs.Shapes.{Form, Fixed, Open, Text, Shape}
use Rattle.m3_image_sections.specs.Parts.{CellType}

abbrev pub form_of : ℕ → Form
form_of kind = if kind == 0 then Fixed else if kind == 1 then Open else Text

abbrev pub shape_of : CellType → Shape
shape_of t = record { form = form_of t.kind; dims = t.dims; words = t.words; pointers = t.pointers }
