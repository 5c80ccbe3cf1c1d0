-- The stacks, slot by slot.
use Rattle.std.proofs.Common.{◌≡◌, ℕ, zero, suc, ◌+◌, ◌-◌, ◌/◌, ◌%◌, ◌^◌, ◌<◌, ◌≤◌, Bool, true, false, ◌&&◌, nat_le, nat_lt, List, [], ◌∷◌, ◌++◌, length, Some, refl, sym, ap, subst, ◌∙◌, inl, inr, ◌⊎◌, arith, Vec, Global, length-set}
use Rattle.std.specs.Prelude.{slice_get, slice_set, slice_index_or, replicate, vec_capacity}
use Rattle.std.proofs.lemmas.List.{map-set, map-append, length-map, replicate_more, get_or_past, length-replicate}
use Rattle.std.proofs.lemmas.Option.{slice_get-get_or}
use Rattle.std.proofs.lemmas.Bool.{cases_lt, le-ltb}
use Rattle.std.proofs.lemmas.Bool.Decides.{nat_tests}
use Rattle.m3_threads.specs.Actions.{started_stack}
use Rattle.m3_threads.specs.PlacesInside.{HaveRoom, contents}
use Rattle.m3_threads.specs.Stacked.{is_in}
use Rattle.m3_threads.proofs.Places.{some_same}
use Rattle.m3_threads.proofs.Members.{set-at}

pub content_at : (vs : List (Vec ℕ Global)) (k : ℕ) (v : Vec ℕ Global) → k < length vs → v ≡ slice_index_or vs k v → v.items ≡ slice_index_or (contents vs) k []
content_at [] k v l e = absurd (omega arith)
content_at (x ∷ xs) zero v l e = ap (λ u. u.items) e
content_at (x ∷ xs) (suc k) v l e = content_at xs k v (omega arith) e

-- as many stacks as contents
pub count-contents : (vs : List (Vec ℕ Global)) → length (contents vs) ≡ length vs
count-contents vs = length-map vs (λ v. v.items)

pub set_stack : (vs : List (Vec ℕ Global)) (k : ℕ) (v : Vec ℕ Global) → contents (slice_set vs k v) ≡ slice_set (contents vs) k v.items
set_stack vs k v = map-set (λ v. v.items) vs k v

-- a stack has room for so many words, and no more words
abbrev pub Fits : ℕ → Vec ℕ Global → Type 0
Fits s v = (s ≤ vec_capacity v) × (length v.items ≤ s)

pub room-at : (s : ℕ) (vs : List (Vec ℕ Global)) (k : ℕ) (v : Vec ℕ Global) → HaveRoom s vs → k < length vs → v ≡ slice_index_or vs k v → Fits s v
room-at s vs k v h l e = h k v (slice_get-get_or vs k v l ∙ ap Some (sym e))

pub room-set : (s : ℕ) (vs : List (Vec ℕ Global)) (k : ℕ) (v : Vec ℕ Global) → HaveRoom s vs → Fits s v → HaveRoom s (slice_set vs k v)
room-set s vs k v h l = λ j u g. elim (set-at vs k v j u g) [
  | inl new ↦ subst (λ (x : Vec ℕ Global). Fits s x) (sym new.1) l
  | inr old ↦ h j u old.1
]

first-or-later : (x : Vec ℕ Global) (xs : List (Vec ℕ Global)) (j : ℕ) (u : Vec ℕ Global) → slice_get (x ∷ xs) j ≡ Some u → (P : Type 0) → (u ≡ x → P) → ((i : ℕ) → slice_get xs i ≡ Some u → P) → P
first-or-later x xs zero u g P here later = here (some_same (sym g))
first-or-later x xs (suc j) u g P here later = later j g

only : (v : Vec ℕ Global) (j : ℕ) (u : Vec ℕ Global) → slice_get (v ∷ []) j ≡ Some u → (u ≡ v) ⊎ ⊥
only v zero u e = inl (some_same (sym e))
only v (suc j) u e = cc

room-later : (s : ℕ) (x : Vec ℕ Global) (xs : List (Vec ℕ Global)) (v : Vec ℕ Global) → HaveRoom s (x ∷ xs) → HaveRoom s (xs ++ v ∷ []) → HaveRoom s (x ∷ (xs ++ v ∷ []))
room-later s x xs v h rest = λ j u g. first-or-later x (xs ++ v ∷ []) j u g (Fits s u) (λ same. subst (λ (y : Vec ℕ Global). Fits s y) (sym same) (h 0 x refl)) (λ i m. rest i u m)

room-end : (s : ℕ) (vs : List (Vec ℕ Global)) (v : Vec ℕ Global) → HaveRoom s vs → Fits s v → HaveRoom s (vs ++ v ∷ [])
room-end s [] v h l = λ j u g. elim (only v j u g) [ inl here ↦ subst (λ (x : Vec ℕ Global). Fits s x) (sym here) l | inr none ↦ absurd none ]
room-end s (x ∷ xs) v h l = λ j u g. room-later s x xs v h (room-end s xs v (λ i w e. h (suc i) w e) l) j u g

pub room-push : (s : ℕ) (vs ws : List (Vec ℕ Global)) (v : Vec ℕ Global) → HaveRoom s vs → Fits s v → ws ≡ vs ++ v ∷ [] → HaveRoom s ws
room-push s vs ws v h l e = subst (HaveRoom s) (sym e) (room-end s vs v h l)

-- one more stack like the others
pub blank-more : (vs ws : List (Vec ℕ Global)) (v : Vec ℕ Global) (n : ℕ) (blank : List ℕ) → contents vs ≡ replicate n blank → v.items ≡ blank → ws ≡ vs ++ v ∷ [] → contents ws ≡ replicate (n + 1) blank
blank-more vs ws v n blank e i p =
    ap contents p ∙ map-append (λ v. v.items) vs (v ∷ []) ∙ ap (λ us. us ++ v.items ∷ []) e
    ∙ ap (λ u. replicate n blank ++ u ∷ []) i ∙ replicate_more n blank

-- no stack of a list of blank ones has words
pub all-blank : (n slot : ℕ) → slice_index_or {A = List ℕ} (replicate n []) slot [] ≡ []
all-blank zero slot = refl
all-blank (suc n) zero = refl
all-blank (suc n) (suc slot) = all-blank n slot

-- ---- the word of an address, found by arithmetic

abbrev pub slot_of : ℕ → ℕ
slot_of at = (at / 1099511627776 + 18446744073709551615) % 18446744073709551616

slot-same : (at n : ℕ) → at < 2 ^ 64 → n ≤ 64 → slot_of at < n → (2 ^ 40 ≤ at) × (slot_of at ≡ at / 2 ^ 40 - 1)
slot-same at n fits few low = elim (cases_lt at (2 ^ 40)) [
  | inl below ↦ let zero : at / 2 ^ 40 ≡ 0 = omega arith in absurd (omega arith)
  | inr above ↦ (above, omega arith)
]

pub word-here : (st : List (List ℕ)) (at : ℕ) → at < 2 ^ 64 → length st ≤ 64 → slot_of at < length st → at % 2 ^ 40 < length (slice_index_or st (slot_of at) []) → (is_in st at ≡ true) × (slot_of at ≡ at / 2 ^ 40 - 1)
word-here st at fits few low within =
    let s = slot-same at (length st) fits few low in
    let inside : at % 2 ^ 40 < length (slice_index_or st (at / 2 ^ 40 - 1) []) = subst (λ k. at % 2 ^ 40 < length (slice_index_or st k [])) s.1 within in
    let high = s.0 in
    let slot : at / 2 ^ 40 - 1 < 64 = omega (arith, s.1) in
    (grind (arith, nat_tests), s.1)

pub none-either : (a b c : Bool) → c ≡ false → (a && (b && c)) ≡ false
none-either true true c e = e
none-either true false c e = refl
none-either false b c e = refl

pub word-past : (st : List (List ℕ)) (at : ℕ) → at < 2 ^ 64 → length st ≤ 64 → length st ≤ slot_of at → is_in st at ≡ false
word-past st at fits few past = elim (cases_lt at (2 ^ 40)) [
  | inl below ↦ grind (arith, nat_tests)
  | inr above ↦
      let slot : length st ≤ at / 2 ^ 40 - 1 = omega arith in
      let none : slice_index_or st (at / 2 ^ 40 - 1) [] ≡ [] = get_or_past st (at / 2 ^ 40 - 1) [] slot in
      none-either (nat_le (2 ^ 40) at) (nat_lt (at / 2 ^ 40 - 1) 64) (nat_lt (at % 2 ^ 40) (length (slice_index_or st (at / 2 ^ 40 - 1) []))) (ap (λ l. nat_lt (at % 2 ^ 40) (length l)) none ∙ le-ltb (at % 2 ^ 40) 0 (omega arith))
]

pub word-behind : (st : List (List ℕ)) (at : ℕ) → at < 2 ^ 64 → length st ≤ 64 → slot_of at < length st → length (slice_index_or st (slot_of at) []) ≤ at % 2 ^ 40 → is_in st at ≡ false
word-behind st at fits few low past =
    let s = slot-same at (length st) fits few low in
    let behind : length (slice_index_or st (at / 2 ^ 40 - 1) []) ≤ at % 2 ^ 40 = subst (λ k. length (slice_index_or st k []) ≤ at % 2 ^ 40) s.1 past in
    none-either (nat_le (2 ^ 40) at) (nat_lt (at / 2 ^ 40 - 1) 64) (nat_lt (at % 2 ^ 40) (length (slice_index_or st (at / 2 ^ 40 - 1) []))) (le-ltb (at % 2 ^ 40) (length (slice_index_or st (at / 2 ^ 40 - 1) [])) behind)

-- where an address has a word, its slot and its place are there
pub word-within : (st : List (List ℕ)) (at : ℕ) → is_in st at ≡ true → (at / 2 ^ 40 - 1 < length st) × (at % 2 ^ 40 < length (slice_index_or st (at / 2 ^ 40 - 1) []))
word-within st at e =
    let within : at % 2 ^ 40 < length (slice_index_or st (at / 2 ^ 40 - 1) []) = grind (arith, nat_tests) in (
      elim (cases_lt (at / 2 ^ 40 - 1) (length st)) [
        | inl low ↦ low
        | inr past ↦
            let none : slice_index_or st (at / 2 ^ 40 - 1) [] ≡ [] = get_or_past st (at / 2 ^ 40 - 1) [] past in
            let zero = ap (λ l. length l) none in
            absurd (omega arith)
      ],
      within,
    )

-- the stack of a thread that starts is whole
pub length-started : (stack cell : ℕ) → length (started_stack stack cell) ≡ stack
length-started stack cell =
    length-set (slice_set (slice_set (replicate stack 0) 0 18446744073709551615) 1 0) 2 cell
    ∙ length-set (slice_set (replicate stack 0) 0 18446744073709551615) 1 0 ∙ length-set (replicate stack 0) 0 18446744073709551615 ∙ length-replicate stack 0
