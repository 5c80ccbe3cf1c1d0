-- What a type that was made ready stands for.
use Rattle.m3_image_sections.specs.Parts.{CellType}
use Rattle.m3_image_sections.specs.PartViews.{type_of}
use Rattle.m3_image_decoded.specs.declared.types.ReadyType.{ReadyType}

abbrev pub ready_type : ReadyType → CellType
ready_type t = type_of t.view
