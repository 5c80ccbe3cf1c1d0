-- Places that stand in a list once, and in one of two lists alone.
use Rattle.std.proofs.Common.{◌≡◌, ◌⊎◌, ℕ, ◌+◌, ◌<◌, ◌≤◌, Bool, true, false, not, ◌||◌, List, [], ◌∷◌, ◌++◌, refl, sym, ◌∙◌, inl, inr, arith}
use Rattle.std.specs.Prelude.{nat_lt}
use Rattle.std.specs.List.{flat_map}
use Rattle.std.proofs.lemmas.List.{append_assoc}
use Rattle.std.proofs.lemmas.Bool.Decides.{nat_tests}
use Rattle.m3_tables.specs.Numbers.{has, is_once}
use Rattle.m3_tables.proofs.KeepingLemmas.{choice, and_parts, not_true}
use Rattle.m3_tables.proofs.SectionLemmas.{has_append}
use Rattle.m3_roots.specs.ThreadWords.{place_from, places_from}
use Rattle.m3_roots.proofs.WordLemmas.{has_first, has_more}
use Rattle.m3_roots.proofs.MarkLemmas.{or_parts, and_true, not_false, has_cases}

pub either : (a b : Bool) → (a || b) ≡ true → (a ≡ true) ⊎ (b ≡ true)
either true b e = inl refl
either false b e = inr e

pub in_either : (xs ys : List ℕ) (q : ℕ) → has (xs ++ ys) q ≡ true → (has xs q ≡ true) ⊎ (has ys q ≡ true)
in_either xs ys q h = either (has xs q) (has ys q) (sym (has_append xs ys q) ∙ h)

pub in_neither : (xs ys : List ℕ) (q : ℕ) → has (xs ++ ys) q ≡ false → (has xs q ≡ false) × (has ys q ≡ false)
in_neither xs ys q h = or_parts (has xs q) (has ys q) (sym (has_append xs ys q) ∙ h)

pub neither_in : (xs ys : List ℕ) (q : ℕ) → has xs q ≡ false → has ys q ≡ false → has (xs ++ ys) q ≡ false
neither_in xs ys q h k = has_append xs ys q ∙ rw (h, k) refl

-- ---- lists whose places are there once

pub record Parted (xs ys : List ℕ) : Type 0 where
  pub first : is_once xs ≡ true
  pub second : is_once ys ≡ true
  pub apart : (q : ℕ) → has xs q ≡ true → has ys q ≡ false

pub once_parts : (xs ys : List ℕ) → is_once (xs ++ ys) ≡ true → Parted xs ys
once_parts [] ys h = record { first = refl; second = h; apart = λ q k. absurd cc }
once_parts (x ∷ xs) ys h =
    let parts = and_parts (not (has (xs ++ ys) x)) (is_once (xs ++ ys)) h in
    let rest = once_parts xs ys parts.1 in
    let gone = in_neither xs ys x (not_true (has (xs ++ ys) x) parts.0) in
    record {
      first = and_true (not (has xs x)) (is_once xs) (not_false (has xs x) gone.0) rest.first;
      second = rest.second;
      apart = λ q k. elim (has_cases x q xs k) [ inl same ↦ rw (← same) gone.1 | inr more ↦ rest.apart q more ];
    }

pub once_join : (xs ys : List ℕ) → Parted xs ys → is_once (xs ++ ys) ≡ true
once_join [] ys h = h.second
once_join (x ∷ xs) ys h =
    let parts = and_parts (not (has xs x)) (is_once xs) h.first in
    and_true (not (has (xs ++ ys) x)) (is_once (xs ++ ys)) (not_false (has (xs ++ ys) x) (neither_in xs ys x (not_true (has xs x) parts.0) (h.apart x (has_first x xs))))
    (once_join xs ys (record { first = parts.1; second = h.second; apart = λ q k. h.apart q (has_more x q xs k) }))

-- ---- places of a frame

pub place_once : (first a b : ℕ) → place_from first a ≡ place_from first b → a ≡ b
place_once first a b e = elim (choice (nat_lt a 16)) [
  | inl low ↦ (elim (choice (nat_lt b 16)) [
    | inl low_too ↦ (rw (low, low_too) at e)
    | inr high ↦ (let f : a ≡ first + b = rw (low, high) at e in grind (arith, nat_tests))
  ])
  | inr high ↦ (elim (choice (nat_lt b 16)) [
    | inl low ↦ (let f : first + a ≡ b = rw (high, low) at e in grind (arith, nat_tests))
    | inr high_too ↦ (let f : first + a ≡ first + b = rw (high, high_too) at e in omega arith)
  ])
]

pub place_low : (first l words end : ℕ) → l < words + 16 → first + words ≤ end → place_from first l < end + 16
place_low first l words end lt within = elim (choice (nat_lt l 16)) [
  | inl low ↦ rw low (grind (arith, nat_tests))
  | inr high ↦ rw high (omega arith)
]

-- a place of a list is that of a number of it
pub has_place : (first : ℕ) (xs : List ℕ) (q : ℕ) → has (places_from first xs) q ≡ true → (l : ℕ) × (place_from first l ≡ q) × (has xs l ≡ true)
has_place first [] q h = absurd cc
has_place first (x ∷ xs) q h = elim (has_cases (place_from first x) q (places_from first xs) h) [
  | inl same ↦ (x, same, has_first x xs)
  | inr more ↦ (let found = has_place first xs q more in (found.0, found.1, has_more x found.0 xs found.2))
]

pub flat_append : {X : Type 0} (f : X → List ℕ) (xs ys : List X) → flat_map f (xs ++ ys) ≡ flat_map f xs ++ flat_map f ys
flat_append f [] ys = refl
flat_append f (x ∷ xs) ys = rw (flat_append f xs ys) (sym (append_assoc (f x) (flat_map f xs) (flat_map f ys)))
