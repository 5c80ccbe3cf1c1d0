-- ARRAYS: their shapes, and how they are made.
use Rattle.std.specs.Prelude.{ℕ, ◌+◌, ◌==◌, ◌&&◌, nat_le, Bool, true, false, if◌then◌else◌, List, [], ◌∷◌, ◌++◌, length, take, drop, replicate, Option, Some, None}
use Rattle.m3_values.specs.Values.{Value, Array, items, row_of, same_list}

-- the sizes of all dimensions, the outermost first; none of what is no array
abbrev pub shape : Value → List ℕ
shape (Array below elements) = length (items elements) ∷ below
shape _ = []

-- how many elements it has
abbrev pub count : Value → ℕ
count (Array below elements) = length (items elements)
count _ = 0

-- The array of these elements, which have one shape; where there are none, theirs is given.
abbrev pub array_of : (below : List ℕ) → List Value → Value
array_of below [] = Array below (row_of [])
array_of below (v ∷ vs) = Array (shape v) (row_of (v ∷ vs))

-- an array of a size, all of whose elements are this one
abbrev pub array_filled : (size : ℕ) → Value → Value
array_filled size v = Array (shape v) (row_of (replicate size v))

-- Those that are listed, of which the last stands for all up to a count.
abbrev pub last_of : Value → List Value → Value
last_of v [] = v
last_of v (u ∷ us) = last_of u us

abbrev pub up_to : (count : ℕ) → List Value → List Value
up_to count [] = []
up_to count (v ∷ vs) =
    let all = v ∷ vs ++ replicate count (last_of v vs) in take count all

-- count elements from one on, where there are so many
abbrev pub part_of : (start count : ℕ) → Value → Option Value
part_of start n (Array below elements) =
    if nat_le (start + n) (length (items elements))
    then Some (Array below (row_of (take n (drop start (items elements)))))
    else None
part_of start n _ = None

-- Whether one shape has the sizes of the other in so many dimensions from the outermost on.
abbrev pub same_shape : List ℕ → List ℕ → Bool
same_shape sizes others = same_list ◌==◌ sizes others

-- whether an array has the sizes that a type says
abbrev pub fits : List (Option ℕ) → List ℕ → Bool
fits [] sizes = true
fits (None ∷ wanted) (n ∷ sizes) = fits wanted sizes
fits (Some size ∷ wanted) (n ∷ sizes) = (size == n) && fits wanted sizes
fits (w ∷ wanted) [] = false
