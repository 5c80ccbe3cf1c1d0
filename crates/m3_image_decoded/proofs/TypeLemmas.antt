-- The types of a good image, from the first on.
use Rattle.std.proofs.Common.{◌≡◌, ℕ, zero, suc, ◌+◌, ◌<◌, Bool, true, false, ◌&&◌, List, [], ◌∷◌, ◌++◌, length, map, Option, Some, None, ◌⊎◌, inl, inr, refl, subst, arith, append_assoc}
use Rattle.std.specs.Prelude.{◌==◌, nat_le, if◌then◌else◌}
use Rattle.std.specs.Option.{option_and_then}
use Rattle.std.specs.List.{slice_get, list_all}
use Rattle.std.proofs.lemmas.List.{map-append}
use Rattle.std.proofs.lemmas.Bool.Decides.{nat_tests}
use Rattle.m3_tables.specs.Numbers.{rises}
use Rattle.m3_tables.specs.Sections.{is_between}
use Rattle.m3_image_sections.specs.Parts.{CellType}
use Rattle.m3_image_sections.specs.Forms.{none, parent_fits, type_fits, types_fit_from, types_fit}
use Rattle.m3_image_sections.proofs.ShapeLemmas.{type_pointers}
use Rattle.m3_image_decoded.specs.declared.types.ReadyType.{ReadyType}
use Rattle.m3_image_decoded.specs.ReadyTypes.{ready_type}
use Rattle.m3_image_decoded.specs.Ancestors.{parent_in, IsForest}

and_parts : (a b : Bool) → (a && b) ≡ true → (a ≡ true) × (b ≡ true)
and_parts true b e = (refl, e)
and_parts false b e = absurd cc

first_fits : (procs number : ℕ) (t : CellType) (ts : List CellType) → types_fit_from procs number (t ∷ ts) ≡ true → (type_fits procs number t ≡ true) × (types_fit_from procs (suc number) ts ≡ true)
first_fits procs number t ts e = and_parts (type_fits procs number t) (types_fit_from procs (suc number) ts) e

pub first_pointers : (procs number : ℕ) (all : List CellType) (t : CellType) (ts : List CellType) → types_fit_from procs number all ≡ true → all ≡ t ∷ ts → (rises t.pointers ≡ true) × (list_all (is_between 0 t.words) t.pointers ≡ true)
first_pointers procs number all t ts e same =
    type_pointers procs number t (first_fits procs number t ts (subst (λ (l : List CellType). types_fit_from procs number l ≡ true) same e)).0

pub others_fit : (procs number : ℕ) (all : List CellType) (t : CellType) (ts : List CellType) → types_fit_from procs number all ≡ true → all ≡ t ∷ ts → types_fit_from procs (number + 1) ts ≡ true
others_fit procs number all t ts e same =
    let one : number + 1 ≡ suc number = omega arith in
    rw one (first_fits procs number t ts (subst (λ (l : List CellType). types_fit_from procs number l ≡ true) same e)).1

-- a type that is taken from the front of those that are left
pub map_more : (found : List ReadyType) (ready : ReadyType) (t : CellType) (old rest : List CellType) → ready_type ready ≡ t → old ≡ t ∷ rest → map ready_type (found ++ ready ∷ []) ++ rest ≡ map ready_type found ++ old
map_more found ready t old rest same first = rw (map-append ready_type found (ready ∷ []), append_assoc, same, ← first) refl

-- ---- parents have lower numbers

choice : (b : Bool) → (b ≡ true) ⊎ (b ≡ false)
choice true = inl refl
choice false = inr refl

fit_at : (procs number : ℕ) (ts : List CellType) (k : ℕ) (t : CellType) → types_fit_from procs number ts ≡ true → slice_get ts k ≡ Some t → type_fits procs (number + k) t ≡ true
fit_at procs number [] k t e f = absurd cc
fit_at procs number (x ∷ ts) zero t e f =
    let same : x ≡ t = cc in
    let here : number + 0 ≡ number = omega arith in
    rw (here, ← same) (first_fits procs number x ts e).0
fit_at procs number (x ∷ ts) (suc k) t e f =
    let later : number + suc k ≡ suc number + k = omega arith in
    rw later (fit_at procs (suc number) ts k t (first_fits procs number x ts e).1 f)

lower_parent : (number parent p : ℕ) → parent_fits number parent ≡ true → (if parent == none then None else Some parent) ≡ Some p → p < number
lower_parent number parent p fits e =
    elim (choice (parent == none)) [
      | inl orphan ↦ (let h = rw orphan at e in absurd cc)
      | inr child ↦ (
          let h = rw child at e in
          let same : parent ≡ p = cc in
          let lower = rw child at fits in
          let below : parent < number = grind (arith, nat_tests, lower) in
          omega arith)
    ]

parent_below : (procs number p : ℕ) (o : Option CellType) → ((t : CellType) → o ≡ Some t → type_fits procs number t ≡ true) → option_and_then parent_in o ≡ Some p → p < number
parent_below procs number p None fits e = absurd cc
parent_below procs number p (Some t) fits e =
    let whole = fits t refl in
    let front = (and_parts (parent_fits number t.parent && list_all (λ m. nat_le m procs) t.methods) _ whole).0 in
    lower_parent number t.parent p (and_parts (parent_fits number t.parent) (list_all (λ m. nat_le m procs) t.methods) front).0 e

pub forest_of : (procs : ℕ) (types : List CellType) → types_fit procs types ≡ true → IsForest types
forest_of procs types e t p h =
    let each = (and_parts (nat_le 2 (length types)) (types_fit_from procs 0 types) e).1 in
    let none_below : 0 + t ≡ t = omega arith in
    parent_below procs t p (slice_get types t) (λ found f. subst (λ (n : ℕ). type_fits procs n found ≡ true) none_below (fit_at procs 0 types t found each f)) h
