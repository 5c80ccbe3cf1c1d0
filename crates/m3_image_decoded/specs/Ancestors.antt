-- The ancestors of a type of cells.
use Rattle.std.specs.Prelude.{◌≡◌, ℕ, zero, suc, ◌<◌, ◌==◌, if◌then◌else◌, List, Option, Some, None}
use Rattle.std.specs.Option.{option_and_then}
use Rattle.std.specs.List.{slice_get}
use Rattle.m3_image_sections.specs.Parts.{CellType}
use Rattle.m3_image_sections.specs.Forms.{none}

-- the number of a type's parent, where it has one
abbrev pub parent_in : CellType → Option ℕ
parent_in found = if found.parent == none then None else Some found.parent

-- the parent of the type of a number
abbrev pub parent_of : List CellType → ℕ → Option ℕ
parent_of types t = option_and_then parent_in (slice_get types t)

-- the ancestor so many generations above a type; the type itself is 0 above
abbrev pub ancestor : List CellType → ℕ → ℕ → Option ℕ
ancestor types zero t = Some t
ancestor types (suc n) t = option_and_then (ancestor types n) (parent_of types t)

-- a type is another, or has it among its ancestors
abbrev pub IsSubtype : List CellType → ℕ → ℕ → Type 0
IsSubtype types t u = (n : ℕ) × (ancestor types n t ≡ Some u)

-- a parent's number is below the type's
abbrev pub IsForest : List CellType → Type 0
IsForest types = (t p : ℕ) → parent_of types t ≡ Some p → p < t
