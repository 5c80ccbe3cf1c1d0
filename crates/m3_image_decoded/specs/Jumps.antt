-- What a type's jump has to keep.
use Rattle.std.specs.Prelude.{◌≡◌, ℕ, ◌+◌, ◌≤◌, ◌<◌, List, length, Some, slice_index_or}
use Rattle.m3_image_sections.specs.Parts.{CellType}
use Rattle.m3_image_decoded.specs.declared.jumps.Jump.{Jump}
use Rattle.m3_image_decoded.specs.Ancestors.{ancestor}

-- it stands so many generations above the type
pub record JumpFits (types : List CellType) (t : ℕ) (j : Jump) : Type 0 where
  pub lands : ancestor types j.up t ≡ Some j.to
  pub lower : j.to + j.up ≤ t

-- each type's jump, by the types' numbers
abbrev pub JumpsFit : List CellType → List Jump → Type 0
JumpsFit types jumps = (t : ℕ) (d : Jump) → t < length jumps → JumpFits types t (slice_index_or jumps t d)
