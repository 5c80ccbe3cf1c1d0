-- Old cells and young ones, side by side in one list.
use Rattle.std.proofs.Common.{◌≡◌, ℕ, ◌+◌, ◌-◌, ◌<◌, ◌≤◌, Bool, true, false, cond, eqb, ltb, leb, List, [], ◌∷◌, ◌++◌, length, set, Option, Some, None, is_some, refl, sym, ap, ◌∙◌, arith, inl, inr, ⊎_elim}
use Rattle.std.specs.Prelude.{◌&&◌, not, slice_get}
use Rattle.std.proofs.lemmas.Bool.{cases_Bool, cond-true, cond-false, false≢true, and_parts, leb-true, ltb-true}
use Rattle.m3_heap.specs.Cells.{Cell, covers, cell_from, cell_word_at, is_start, is_writable, words_from, with_word}
use Rattle.m3_heap.specs.Heap.{nursery_base}
use Rattle.m3_generational.specs.Collecting.{IsSplit}
use Rattle.m3_heap.proofs.SpaceLemmas.{word_at-outside, with_word-outside, is_start-outside}
use Rattle.m3_heap.proofs.WordLemmas.{some-within}

-- ---- what is found in two lists, one behind the other

pub word-first : (x y : List Cell) (at : ℕ) → cell_word_at y at ≡ None → cell_word_at (x ++ y) at ≡ cell_word_at x at
word-first [] y at none = none
word-first (c ∷ cs) y at none = ap (λ o. cond (covers c at) (slice_get c.words (at - c.start)) o) (word-first cs y at none)

covered : (c : Cell) (at : ℕ) → covers c at ≡ true → is_some (slice_get c.words (at - c.start)) ≡ true
covered c at hit =
    let parts = and_parts (leb c.start at) (ltb at (c.start + length c.words)) hit in
    let low = leb-true c.start at parts.0 in
    let high = ltb-true at (c.start + length c.words) parts.1 in
    some-within c.words (at - c.start) (omega arith)

pub word-second : (x y : List Cell) (at : ℕ) → cell_word_at x at ≡ None → cell_word_at (x ++ y) at ≡ cell_word_at y at
word-second [] y at none = refl
word-second (c ∷ cs) y at none = ⊎_elim
    (λ (hit : covers c at ≡ true). absurd (false≢true (ap is_some (sym none ∙ cond-true (covers c at) (slice_get c.words (at - c.start)) (cell_word_at cs at) hit) ∙ covered c at hit)))
    (λ (miss : covers c at ≡ false).
    cond-false (covers c at) (slice_get c.words (at - c.start)) (cell_word_at (cs ++ y) at) miss
    ∙ word-second cs y at (sym (cond-false (covers c at) (slice_get c.words (at - c.start)) (cell_word_at cs at) miss) ∙ none))
    (cases_Bool (covers c at))

same-first : (b : Bool) (c : Cell) (o p : Option Cell) → is_some o ≡ is_some p → is_some (cond b (Some c) o) ≡ is_some (cond b (Some c) p)
same-first true c o p e = refl
same-first false c o p e = e

pub start-first : (x y : List Cell) (at : ℕ) → is_start y at ≡ false → is_start (x ++ y) at ≡ is_start x at
start-first [] y at none = none
start-first (c ∷ cs) y at none = same-first (eqb c.start at) c _ _ (start-first cs y at none)

pub start-second : (x y : List Cell) (at : ℕ) → is_start x at ≡ false → is_start (x ++ y) at ≡ is_start y at
start-second [] y at none = refl
start-second (c ∷ cs) y at none = ⊎_elim
    (λ (hit : eqb c.start at ≡ true). absurd (false≢true (sym none ∙ ap is_some (cond-true (eqb c.start at) (Some c) (cell_from cs at) hit))))
    (λ (miss : eqb c.start at ≡ false).
    ap is_some (cond-false (eqb c.start at) (Some c) (cell_from (cs ++ y) at) miss)
    ∙ start-second cs y at (sym (ap is_some (cond-false (eqb c.start at) (Some c) (cell_from cs at) miss)) ∙ none))
    (cases_Bool (eqb c.start at))

pub start-either : (x y : List Cell) (at : ℕ) → is_start x at ≡ true → is_start (x ++ y) at ≡ true
start-either [] y at h = absurd (false≢true h)
start-either (c ∷ cs) y at h = ⊎_elim
    (λ (hit : eqb c.start at ≡ true). ap is_some (cond-true (eqb c.start at) (Some c) (cell_from (cs ++ y) at) hit))
    (λ (miss : eqb c.start at ≡ false).
    ap is_some (cond-false (eqb c.start at) (Some c) (cell_from (cs ++ y) at) miss)
    ∙ start-either cs y at (sym (ap is_some (cond-false (eqb c.start at) (Some c) (cell_from cs at) miss)) ∙ h))
    (cases_Bool (eqb c.start at))

pub words-first : (x y : List Cell) (at : ℕ) → is_start x at ≡ true → words_from (x ++ y) at ≡ words_from x at
words-first [] y at h = absurd (false≢true h)
words-first (c ∷ cs) y at h = ⊎_elim
    (λ (hit : eqb c.start at ≡ true). cond-true (eqb c.start at) c.words (words_from (cs ++ y) at) hit ∙ sym (cond-true (eqb c.start at) c.words (words_from cs at) hit))
    (λ (miss : eqb c.start at ≡ false).
    cond-false (eqb c.start at) c.words (words_from (cs ++ y) at) miss
    ∙ words-first cs y at (sym (ap is_some (cond-false (eqb c.start at) (Some c) (cell_from cs at) miss)) ∙ h)
    ∙ sym (cond-false (eqb c.start at) c.words (words_from cs at) miss))
    (cases_Bool (eqb c.start at))

pub words-second : (x y : List Cell) (at : ℕ) → is_start x at ≡ false → words_from (x ++ y) at ≡ words_from y at
words-second [] y at none = refl
words-second (c ∷ cs) y at none = ⊎_elim
    (λ (hit : eqb c.start at ≡ true). absurd (false≢true (sym none ∙ ap is_some (cond-true (eqb c.start at) (Some c) (cell_from cs at) hit))))
    (λ (miss : eqb c.start at ≡ false).
    cond-false (eqb c.start at) c.words (words_from (cs ++ y) at) miss
    ∙ words-second cs y at (sym (ap is_some (cond-false (eqb c.start at) (Some c) (cell_from cs at) miss)) ∙ none))
    (cases_Bool (eqb c.start at))

pub with_word-both : (x y : List Cell) (at w : ℕ) → with_word (x ++ y) at w ≡ with_word x at w ++ with_word y at w
with_word-both [] y at w = refl
with_word-both (c ∷ cs) y at w = ap (λ l. (cond (covers c at) (record { start = c.start; words = set c.words (at - c.start) w }) c) ∷ l) (with_word-both cs y at w)

-- ---- old cells below the nursery, and young ones in it

pub record IsLow (y : List Cell) (at : ℕ) : Type 0 where
  pub no_word : cell_word_at y at ≡ None
  pub no_start : is_start y at ≡ false

pub low : (a : ℕ) (x y : List Cell) (at : ℕ) → IsSplit a x y → at < nursery_base → IsLow y at
low a x y at s h = record { no_word = word_at-outside nursery_base at y s.young (inl h); no_start = is_start-outside nursery_base at y s.young (inl h) }

pub high : (a : ℕ) (x y : List Cell) (at : ℕ) → IsSplit a x y → nursery_base ≤ at → IsLow x at
high a x y at s h = record { no_word = word_at-outside a at x s.old (inr (omega (arith, s.below))); no_start = is_start-outside a at x s.old (inr (omega (arith, s.below))) }

pub writable-low : (a : ℕ) (x y : List Cell) (at : ℕ) → IsSplit a x y → at < nursery_base → is_writable (x ++ y) at ≡ is_writable x at
writable-low a x y at s h =
    let l = low a x y at s h in
    ap (λ o. is_some o && not (is_start (x ++ y) at)) (word-first x y at l.no_word) ∙ ap (λ b. is_some (cell_word_at x at) && not b) (start-first x y at l.no_start)

pub writable-high : (a : ℕ) (x y : List Cell) (at : ℕ) → IsSplit a x y → nursery_base ≤ at → is_writable (x ++ y) at ≡ is_writable y at
writable-high a x y at s h =
    let l = high a x y at s h in
    ap (λ o. is_some o && not (is_start (x ++ y) at)) (word-second x y at l.no_word) ∙ ap (λ b. is_some (cell_word_at y at) && not b) (start-second x y at l.no_start)

-- the cells after a word was set, if it could be
pub set-second : (a : ℕ) (x y : List Cell) (at w : ℕ) (b : Bool) → IsSplit a x y → nursery_base ≤ at → x ++ cond b (with_word y at w) y ≡ cond b (with_word (x ++ y) at w) (x ++ y)
set-second a x y at w true s above = sym (with_word-both x y at w ∙ ap (λ l. l ++ with_word y at w) (with_word-outside a at w x s.old (inr (omega (arith, s.below)))))
set-second a x y at w false s above = refl

pub set-first : (a : ℕ) (x y : List Cell) (at w : ℕ) (b : Bool) → IsSplit a x y → at < nursery_base → cond b (with_word x at w) x ++ y ≡ cond b (with_word (x ++ y) at w) (x ++ y)
set-first a x y at w true s below = sym (with_word-both x y at w ∙ ap (λ l. with_word x at w ++ l) (with_word-outside nursery_base at w y s.young (inl below)))
set-first a x y at w false s below = refl
