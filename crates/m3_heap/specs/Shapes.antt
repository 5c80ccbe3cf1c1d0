-- What the types of an image say about the words of their cells: which of them are pointers.
use Rattle.std.specs.Prelude.{ℕ, ◌+◌, ◌-◌, ◌%◌, Bool, false, ◌&&◌, nat_lt, ◌==◌, if◌then◌else◌, List, [], ◌∷◌, slice_get, Option, Some, None}
use Rattle.std.specs.List.{list_any}
use Rattle.m3_heap.specs.Cells.{header, kind_in}

-- a fixed cell has one layout. An open one has its sizes, one for each open dimension, and then its
-- elements, which have one layout. A text has bytes alone
pub data Form : Type 0 where
  Fixed : Form
  Open : Form
  Text : Form

-- a type's cells: their form, the number of open dimensions (0 unless open), the words of a fixed cell,
-- header included, or of an open cell's element, and the offsets of the pointers, in a fixed cell from
-- its header and in an open cell from the start of each element
pub record Shape : Type 0 where
  pub form : Form
  pub dims : ℕ
  pub words : ℕ
  pub pointers : List ℕ

-- whether an offset is listed
abbrev pub is_listed : List ℕ → ℕ → Bool
is_listed offsets at = list_any (λ offset. offset == at) offsets

-- whether word `at` of a cell of this shape is a pointer. In an open cell the header is word 0 and the
-- sizes are words 1 to dims; the elements begin at word dims + 1, and the offsets repeat for each
abbrev pub is_pointer_by : Form → Shape → ℕ → Bool
is_pointer_by Fixed shape at = is_listed shape.pointers at
is_pointer_by Open shape at = nat_lt shape.dims at && nat_lt 0 shape.words && is_listed shape.pointers ((at - (shape.dims + 1)) % shape.words)
is_pointer_by Text shape at = false

abbrev pub is_pointer_in : Option Shape → ℕ → Bool
is_pointer_in None at = false
is_pointer_in (Some shape) at = is_pointer_by shape.form shape at

-- whether word `at` of a cell of a kind is a pointer. A kind is a place in the list of shapes; a cell of
-- a kind that isn't there has no pointers
abbrev pub is_pointer_of : List Shape → ℕ → ℕ → Bool
is_pointer_of shapes kind at = is_pointer_in (slice_get shapes kind) at

-- whether word `at` of the cell with these words is a pointer. The header is none
abbrev pub is_pointer_word : List Shape → List ℕ → ℕ → Bool
is_pointer_word shapes words at = nat_lt 0 at && is_pointer_of shapes (kind_in (header words)) at

-- how many of the words from the place `at` on are pointers
abbrev pub pointers_from : (ℕ → Bool) → ℕ → List ℕ → ℕ
pointers_from is_pointer at [] = 0
pointers_from is_pointer at (word ∷ words) = (if is_pointer at then 1 else 0) + pointers_from is_pointer (at + 1) words

-- the number of pointer words of a cell with these words
abbrev pub pointer_words : List Shape → List ℕ → ℕ
pointer_words shapes words = pointers_from (is_pointer_word shapes words) 0 words
