-- Places that are marked one after the other, and whether the marks go together.
use Rattle.std.specs.Prelude.{ℕ, ◌≡◌, ◌≤◌, ◌<◌, Bool, true, not, ◌&&◌, List, [], ◌∷◌, length, Some}
use Rattle.std.specs.List.{slice_get, AllByRecursion}
use Rattle.m3_tables.specs.Numbers.{has}
use Rattle.m3_roots.specs.declared.marks.Mark.{Mark}

-- a row lists a place, lists it as that of a derived word, lets no row list it, or uses it as a base's
pub data Act : Type 0 where
  Lists : ℕ → Act
  Derives : ℕ → Act
  Bars : ℕ → Act
  Uses : ℕ → Act

abbrev pub place_in_act : Act → ℕ
place_in_act (Lists q) = q
place_in_act (Derives q) = q
place_in_act (Bars q) = q
place_in_act (Uses q) = q

-- the places that are listed so far, those of derived words among them, and those that no row may list
pub record Marked : Type 0 where
  pub listed : List ℕ
  pub derived : List ℕ
  pub barred : List ℕ

abbrev pub nothing_marked : Marked
nothing_marked = record { listed = []; derived = []; barred = [] }

abbrev pub may_list : Marked → ℕ → Bool
may_list s q = not (has s.listed q) && not (has s.barred q)

-- whether one more goes with what is marked, and what is marked then
abbrev pub goes_with : Marked → Act → Bool
goes_with s (Lists q) = may_list s q
goes_with s (Derives q) = may_list s q
goes_with s (Bars q) = not (has s.listed q)
goes_with s (Uses q) = not (has s.derived q)

abbrev pub marked_by : Marked → Act → Marked
marked_by s (Lists q) = record s { listed = q ∷ s.listed }
marked_by s (Derives q) = record s { listed = q ∷ s.listed; derived = q ∷ s.derived }
marked_by s (Bars q) = record s { barred = q ∷ s.barred }
marked_by s (Uses q) = s

-- whether all of them go together, and what is marked then
abbrev pub all_go : Marked → List Act → Bool
all_go s [] = true
all_go s (act ∷ acts) = goes_with s act && all_go (marked_by s act) acts

abbrev pub marked_after : Marked → List Act → Marked
marked_after s [] = s
marked_after s (act ∷ acts) = marked_after (marked_by s act) acts

-- ---- marks

abbrev pub mark_of : Marked → ℕ → Mark
mark_of s q = record { listed = has s.listed q; derived = has s.derived q; barred = has s.barred q }

-- the marks of the places before an end say what is marked
pub record Tell (marks : List Mark) (end : ℕ) (s : Marked) : Type 0 where
  pub within : end ≤ length marks
  pub each : (q : ℕ) → q < end → slice_get marks q ≡ Some (mark_of s q)

abbrev pub AreBefore : ℕ → List Act → Type 0
AreBefore end acts = AllByRecursion (λ act. place_in_act act < end) acts

-- some marks were made, and it was told whether they go together
abbrev pub MarksAll : List Mark → List Mark → List Act → Bool → Type 0
MarksAll old new acts result =
    (end : ℕ) (s : Marked) → Tell old end s → AreBefore end acts → (result ≡ all_go s acts) × (result ≡ true → Tell new end (marked_after s acts))

-- a part of the marks was made, and the rest is left
abbrev pub MarksPart : List Mark → List Mark → List Act → List Act → Type 0
MarksPart old new acts rest =
    (end : ℕ) (s : Marked) → Tell old end s → AreBefore end acts → (t : Marked) × Tell new end t × AreBefore end rest × (all_go t rest ≡ all_go s acts) × (marked_after t rest ≡ marked_after s acts)
