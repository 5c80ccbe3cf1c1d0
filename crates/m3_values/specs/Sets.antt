-- SETS, as the rising lists of their members' numbers.
use Rattle.std.specs.Prelude.{ℕ, ℤ, zero, suc, pos, negsuc, ◌+ℤ◌, ◌-ℤ◌, ◌&&◌, ◌||◌, Bool, true, false, not, if◌then◌else◌, List, [], ◌∷◌, int_lt}
use Rattle.std.specs.List.{filter}
use Rattle.m3_values.specs.Values.{same_integer, same_list}

abbrev pub is_in : ℤ → List ℤ → Bool
is_in z [] = false
is_in z (m ∷ ms) = same_integer z m || is_in z ms

-- a member more, at its place
abbrev pub with_member : ℤ → List ℤ → List ℤ
with_member z [] = z ∷ []
with_member z (m ∷ ms) =
    if int_lt z m then z ∷ m ∷ ms else if same_integer z m then m ∷ ms else m ∷ with_member z ms

-- so many members more, from one on
abbrev pub with_members : (count : ℕ) → ℤ → List ℤ → List ℤ
with_members zero first ms = ms
with_members (suc count) first ms =
    with_member first (with_members count (first +ℤ pos 1) ms)

abbrev pub steps : ℤ → ℕ
steps (pos n) = suc n
steps (negsuc n) = 0

-- the members from the first to the last; none where the last is less
abbrev pub with_range : ℤ → ℤ → List ℤ → List ℤ
with_range first last ms = with_members (steps (last -ℤ first)) first ms

-- ---- the operators

abbrev pub union : List ℤ → List ℤ → List ℤ
union [] ns = ns
union (m ∷ ms) ns = with_member m (union ms ns)

abbrev pub difference : List ℤ → List ℤ → List ℤ
difference ms ns = filter (λ m. not (is_in m ns)) ms

abbrev pub intersection : List ℤ → List ℤ → List ℤ
intersection ms ns = filter (λ m. is_in m ns) ms

abbrev pub symmetric_difference : List ℤ → List ℤ → List ℤ
symmetric_difference ms ns = union (difference ms ns) (difference ns ms)

-- ---- the relations: inclusion, and proper inclusion

abbrev pub is_within : List ℤ → List ℤ → Bool
is_within [] ns = true
is_within (m ∷ ms) ns = is_in m ns && is_within ms ns

abbrev pub is_equal : List ℤ → List ℤ → Bool
is_equal ms ns = same_list same_integer ms ns

abbrev pub is_properly_within : List ℤ → List ℤ → Bool
is_properly_within ms ns = is_within ms ns && not (is_equal ms ns)
