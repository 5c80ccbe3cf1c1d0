-- The pointers of good types.
use Rattle.std.proofs.Common.{◌≡◌, ℕ, zero, suc, ◌≤◌, Bool, true, false, ◌&&◌, ◌||◌, List, [], ◌∷◌, length, Some, None, ◌⊎◌, inl, inr, refl, sym, ap, arith}
use Rattle.std.specs.Prelude.{not, nat_lt, nat_le, ◌==◌, cond}
use Rattle.std.specs.List.{slice_get, list_all}
use Rattle.std.proofs.lemmas.Bool.{le-ltb, ltb-true}
use Rattle.std.proofs.lemmas.Bool.Decides.{nat_tests}
use Rattle.m3_tables.specs.Numbers.{has, rises}
use Rattle.m3_tables.specs.Sections.{is_between}
use Rattle.std.proofs.Common.{map}
use Rattle.std.proofs.lemmas.Option.{slice_get-map}
use Rattle.m3_heap.specs.Shapes.{is_listed, is_pointer_in, is_pointer_of}
use Rattle.m3_image_sections.specs.Shapes.{shape_of}
use Rattle.m3_image_sections.specs.Parts.{CellType}
use Rattle.m3_image_sections.specs.Forms.{layout_fits, type_fits, types_fit_from, types_fit}

and_parts : (a b : Bool) → (a && b) ≡ true → (a ≡ true) × (b ≡ true)
and_parts true b e = (refl, e)
and_parts false b e = absurd cc

pub has_listed : (xs : List ℕ) (n : ℕ) → has xs n ≡ is_listed xs n
has_listed [] n = refl
has_listed (x ∷ xs) n = ap (λ b. (x == n) || b) (has_listed xs n)

-- what lies below a limit isn't a number from there on
pub not_listed : (xs : List ℕ) (limit n : ℕ) → list_all (is_between 0 limit) xs ≡ true → limit ≤ n → is_listed xs n ≡ false
not_listed [] limit n e le = refl
not_listed (x ∷ xs) limit n e le =
    let parts = and_parts (is_between 0 limit x) (list_all (is_between 0 limit) xs) e in
    let below = ltb-true x limit (and_parts (not (nat_lt x 0)) (nat_lt x limit) parts.0).1 in
    let other : (x == n) ≡ false = grind (arith, nat_tests, below) in
    rw other (not_listed xs limit n parts.1 le)

weaker : (xs : List ℕ) (limit : ℕ) → list_all (is_between 1 limit) xs ≡ true → list_all (is_between 0 limit) xs ≡ true
weaker [] limit e = refl
weaker (x ∷ xs) limit e =
    let parts = and_parts (is_between 1 limit x) (list_all (is_between 1 limit) xs) e in
    let below = (and_parts (not (nat_lt x 1)) (nat_lt x limit) parts.0).1 in
    let least : nat_lt x 0 ≡ false = le-ltb x 0 (omega arith) in
    rw (least, below) (weaker xs limit parts.1)

empty_all : (test : ℕ → Bool) (xs : List ℕ) → (length xs == 0) ≡ true → list_all test xs ≡ true
empty_all test [] e = refl
empty_all test (x ∷ xs) e = let l : length (x ∷ xs) ≡ 0 = grind (arith, nat_tests, e) in absurd (omega arith)

one_of : (a b A B C : Bool) → cond a A (cond b B C) ≡ true → (A ≡ true) ⊎ ((B ≡ true) ⊎ (C ≡ true))
one_of true b A B C e = inl e
one_of false true A B C e = inr (inl e)
one_of false false A B C e = inr (inr e)

layout_below : (t : CellType) → layout_fits t ≡ true → list_all (is_between 0 t.words) t.pointers ≡ true
layout_below t e =
    elim (one_of (t.kind == 0) (t.kind == 1) _ _ _ e) [
      | inl fixed ↦ weaker t.pointers t.words (and_parts (nat_lt 0 t.words) (list_all (is_between 1 t.words) t.pointers) (and_parts (t.dims == 0) _ fixed).1).1
      | inr (inl open_one) ↦ (and_parts (nat_lt 0 t.dims) (list_all (is_between 0 t.words) t.pointers) open_one).1
      | inr (inr text) ↦
          empty_all (is_between 0 t.words) t.pointers (and_parts (t.words == 0) (length t.pointers == 0) (and_parts (t.dims == 0) _ (and_parts (t.kind == 2) _ text).1).1).1
    ]

pub type_pointers : (procs number : ℕ) (t : CellType) → type_fits procs number t ≡ true → (rises t.pointers ≡ true) × (list_all (is_between 0 t.words) t.pointers ≡ true)
type_pointers procs number t e =
    let parts = and_parts _ _ e in
    let rest = and_parts (rises t.pointers) _ parts.1 in
    (rest.0, layout_below t (and_parts (layout_fits t) _ rest.1).0)

pub types_fit_at : (procs number : ℕ) (ts : List CellType) (k : ℕ) (t : CellType) → types_fit_from procs number ts ≡ true → slice_get ts k ≡ Some t → (n : ℕ) × (type_fits procs n t ≡ true)
types_fit_at procs number [] k t e f = absurd cc
types_fit_at procs number (x ∷ ts) zero t e f =
    let same : x ≡ t = cc in
    (number, rw (← same) (and_parts (type_fits procs number x) (types_fit_from procs (suc number) ts) e).0)
types_fit_at procs number (x ∷ ts) (suc k) t e f = types_fit_at procs (suc number) ts k t (and_parts (type_fits procs number x) (types_fit_from procs (suc number) ts) e).1 f

-- the pointers of a type that is found among good ones
pub found_pointers : (procs : ℕ) (ts : List CellType) (k : ℕ) (t : CellType) → types_fit procs ts ≡ true → Some t ≡ slice_get ts k → (rises t.pointers ≡ true) × (list_all (is_between 0 t.words) t.pointers ≡ true)
found_pointers procs ts k t e f = let good = types_fit_at procs 0 ts k t (and_parts (nat_le 2 (length ts)) (types_fit_from procs 0 ts) e).1 (sym f) in type_pointers procs good.0 t good.1

pub pointer_some : (ts : List CellType) (k at : ℕ) (t : CellType) → Some t ≡ slice_get ts k → is_pointer_of (map shape_of ts) k at ≡ is_pointer_in (Some (shape_of t)) at
pointer_some ts k at t e = rw (slice_get-map shape_of ts k, ← e) refl

pub pointer_none : (ts : List CellType) (k at : ℕ) → None ≡ slice_get ts k → is_pointer_of (map shape_of ts) k at ≡ false
pointer_none ts k at e = rw (slice_get-map shape_of ts k, ← e) refl
