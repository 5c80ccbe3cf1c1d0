-- What each address holds after a word was set, which addresses can be set then, and where words are.
use Rattle.std.specs.Prelude.{◌≡◌, ◌≢◌, ℕ, zero, suc, ◌+◌, ◌-◌, ◌^◌, ◌<◌, ◌≤◌, Bool, true, false, ◌&&◌, not, nat_lt, nat_le, ◌==◌, List, [], ◌∷◌, length, slice_get, slice_set, Option, Some, is_some}
use Rattle.std.specs.List.{AllByRecursion}
use Rattle.std.proofs.Common.{cond, refl, sym, ap, ◌∙◌, arith, ⊎_elim, length-set, leb, ltb}
use Rattle.std.proofs.lemmas.Bool.{cases_Bool, cases_eq, cond-true, cond-false, and_parts, leb-true, ltb-true, eq-eqb, ne_eqb, false≢true}
use Rattle.m3_heap.specs.Cells.{Cell, covers, cell_from, cell_word_at, is_start, is_writable, with_word, layout, IsInHeap}

-- a word that is set in a list is found there, and any other as it was
pub set_get_same : (ws : List ℕ) (i w : ℕ) → i < length ws → slice_get (slice_set ws i w) i ≡ Some w
set_get_same [] i w h = absurd (omega arith)
set_get_same (x ∷ xs) zero w h = refl
set_get_same (x ∷ xs) (suc i) w h = set_get_same xs i w (omega arith)

pub set_get_other : (ws : List ℕ) (i j w : ℕ) → j ≢ i → slice_get (slice_set ws i w) j ≡ slice_get ws j
set_get_other [] i j w n = refl
set_get_other (x ∷ xs) zero zero w n = absurd (n refl)
set_get_other (x ∷ xs) zero (suc j) w n = refl
set_get_other (x ∷ xs) (suc i) zero w n = refl
set_get_other (x ∷ xs) (suc i) (suc j) w n = set_get_other xs i j w (λ e. n (ap suc e))

-- a cell after a word of its own was set
set_in : Cell → ℕ → ℕ → Cell
set_in c at w = record { start = c.start; words = slice_set c.words (at - c.start) w }

bounds : (c : Cell) (at : ℕ) → covers c at ≡ true → (c.start ≤ at) × (at < c.start + length c.words)
bounds c at h =
    let parts = and_parts (leb c.start at) (ltb at (c.start + length c.words)) h in
    (leb-true c.start at parts.0, ltb-true at (c.start + length c.words) parts.1)

set-covers : (c : Cell) (at w x : ℕ) → covers (set_in c at w) x ≡ covers c x
unfolding set_in
set-covers c at w x = ap (λ n. nat_le c.start x && nat_lt x (c.start + n)) (length-set c.words (at - c.start) w)

-- the first cell after the word was set, if it is one of its own
step : (c : Cell) (cs : List Cell) (at w x : ℕ) (b : Bool) → covers c at ≡ b → Option ℕ
step c cs at w x true e = cond (covers (set_in c at w) x) (slice_get (slice_set c.words (at - c.start) w) (x - c.start)) (cell_word_at (with_word cs at w) x)
step c cs at w x false e = cond (covers c x) (slice_get c.words (x - c.start)) (cell_word_at (with_word cs at w) x)

stepped : (c : Cell) (cs : List Cell) (at w x : ℕ) (b : Bool) (e : covers c at ≡ b) → cell_word_at (with_word (c ∷ cs) at w) x ≡ step c cs at w x b e
unfolding step set_in
stepped c cs at w x true e = ap (λ k. cell_word_at ((cond k (record { start = c.start; words = slice_set c.words (at - c.start) w }) c) ∷ with_word cs at w) x) e
stepped c cs at w x false e = ap (λ k. cell_word_at ((cond k (record { start = c.start; words = slice_set c.words (at - c.start) w }) c) ∷ with_word cs at w) x) e

pub word_elsewhere : (cells : List Cell) (at w x : ℕ) → x ≢ at → cell_word_at (with_word cells at w) x ≡ cell_word_at cells x
unfolding step
word_elsewhere [] at w x n = refl
word_elsewhere (c ∷ cs) at w x n =
    let rest = word_elsewhere cs at w x n in
    ⊎_elim
    (λ (hit : covers c at ≡ true).
    stepped c cs at w x true hit
    ∙ ap (λ b. cond b (slice_get (slice_set c.words (at - c.start) w) (x - c.start)) (cell_word_at (with_word cs at w) x)) (set-covers c at w x)
    ∙ ⊎_elim
    (λ (here : covers c x ≡ true).
    let one = bounds c at hit in
    let two = bounds c x here in
    let apart : (x - c.start) ≢ (at - c.start) = λ e. n (omega (arith, one.0, two.0)) in
    cond-true (covers c x) _ _ here ∙ set_get_other c.words (at - c.start) (x - c.start) w apart ∙ sym (cond-true (covers c x) _ _ here))
    (λ (past : covers c x ≡ false). cond-false (covers c x) _ _ past ∙ rest ∙ sym (cond-false (covers c x) _ _ past))
    (cases_Bool (covers c x)))
    (λ (miss : covers c at ≡ false). stepped c cs at w x false miss ∙ ap (λ o. cond (covers c x) (slice_get c.words (x - c.start)) o) rest)
    (cases_Bool (covers c at))

pub word_there : (cells : List Cell) (at w : ℕ) → is_some (cell_word_at cells at) ≡ true → cell_word_at (with_word cells at w) at ≡ Some w
unfolding step
word_there [] at w h = absurd (false≢true h)
word_there (c ∷ cs) at w h =
    ⊎_elim
    (λ (hit : covers c at ≡ true).
    let one = bounds c at hit in
    stepped c cs at w at true hit ∙ cond-true (covers (set_in c at w) at) _ _ (set-covers c at w at ∙ hit)
    ∙ set_get_same c.words (at - c.start) w (omega (arith, one.0, one.1)))
    (λ (miss : covers c at ≡ false).
    stepped c cs at w at false miss ∙ cond-false (covers c at) _ _ miss
    ∙ word_there cs at w (sym (ap is_some (cond-false (covers c at) (slice_get c.words (at - c.start)) (cell_word_at cs at) miss)) ∙ h))
    (cases_Bool (covers c at))

same-first : (b : Bool) (c d : Cell) (o p : Option Cell) → is_some o ≡ is_some p → is_some (cond b (Some c) o) ≡ is_some (cond b (Some d) p)
same-first true c d o p e = refl
same-first false c d o p e = e

pub start_stays : (cells : List Cell) (at w x : ℕ) → is_start (with_word cells at w) x ≡ is_start cells x
start_stays [] at w x = refl
start_stays (c ∷ cs) at w x =
    elim (covers c at) as (λ b. is_some (cell_from ((cond b (record { start = c.start; words = slice_set c.words (at - c.start) w }) c) ∷ with_word cs at w) x) ≡ is_some (cell_from (c ∷ cs) x)) [
      | true ↦ same-first (c.start == x) _ _ _ _ (start_stays cs at w x)
      | false ↦ same-first (c.start == x) _ _ _ _ (start_stays cs at w x)
    ]

-- a word is where heaps lie, so below 2 ^ 63
pub word_low : (cells : List Cell) (at : ℕ) → AllByRecursion IsInHeap cells → is_some (cell_word_at cells at) ≡ true → (2 ^ 60 ≤ at) × (at < 2 ^ 63)
word_low [] at h e = absurd (false≢true e)
word_low (c ∷ cs) at h e =
    ⊎_elim
    (λ (hit : covers c at ≡ true). let one = bounds c at hit in (omega (arith, one.0, h.0.0), omega (arith, one.1, h.0.1)))
    (λ (miss : covers c at ≡ false). word_low cs at h.1 (sym (ap is_some (cond-false (covers c at) (slice_get c.words (at - c.start)) (cell_word_at cs at) miss)) ∙ e))
    (cases_Bool (covers c at))

-- ---- the words and the headers after a store

-- where the word was set, its address holds it and every other holds what it held
pub words_after : (cells new : List Cell) (at w : ℕ) (b : Bool) → b ≡ is_writable cells at → new ≡ cond b (with_word cells at w) cells → b ≡ true → (x : ℕ) → cell_word_at new x ≡ cond (x == at) (Some w) (cell_word_at cells x)
words_after cells new at w b can is set x =
    let there = (and_parts (is_some (cell_word_at cells at)) (not (is_start cells at)) (sym can ∙ set)).0 in
    let now : new ≡ with_word cells at w = is ∙ ap (λ k. cond k (with_word cells at w) cells) set in
    ap (λ cs. cell_word_at cs x) now ∙ ⊎_elim
    (λ (same : x ≡ at). ap (λ y. cell_word_at (with_word cells at w) y) same ∙ word_there cells at w there ∙ sym (ap (λ k. cond k (Some w) (cell_word_at cells x)) (eq-eqb x at same)))
    (λ (other : x ≢ at). word_elsewhere cells at w x other ∙ sym (ap (λ k. cond k (Some w) (cell_word_at cells x)) (ne_eqb x at other)))
    (cases_eq x at)

-- whether or not it was set, the same addresses can be set
pub writable_after : (cells new : List Cell) (at w : ℕ) (b : Bool) → b ≡ is_writable cells at → new ≡ cond b (with_word cells at w) cells → (x : ℕ) → is_writable new x ≡ is_writable cells x
writable_after cells new at w false can is x = ap (λ cs. is_writable cs x) is
writable_after cells new at w true can is x =
    let there = (and_parts (is_some (cell_word_at cells at)) (not (is_start cells at)) (sym can)).0 in
    ap (λ cs. is_writable cs x) is ∙ ap (λ b. is_some (cell_word_at (with_word cells at w) x) && not b) (start_stays cells at w x)
    ∙ ap (λ b. b && not (is_start cells x)) (⊎_elim
    (λ (same : x ≡ at). ap (λ y. is_some (cell_word_at (with_word cells at w) y)) same ∙ ap is_some (word_there cells at w there) ∙ sym (ap (λ y. is_some (cell_word_at cells y)) same ∙ there))
    (λ (other : x ≢ at). ap is_some (word_elsewhere cells at w x other))
    (cases_eq x at))

-- the cells lie where they lay
pub layout_stays : (cells : List Cell) (at w : ℕ) → layout (with_word cells at w) ≡ layout cells
layout_stays [] at w = refl
layout_stays (c ∷ cs) at w =
    elim (covers c at) as (λ b. layout ((cond b (record { start = c.start; words = slice_set c.words (at - c.start) w }) c) ∷ with_word cs at w) ≡ layout (c ∷ cs)) [
      | true ↦ ap (λ n. (c.start, n) ∷ layout (with_word cs at w)) (length-set c.words (at - c.start) w) ∙ ap (λ l. (c.start, length c.words) ∷ l) (layout_stays cs at w)
      | false ↦ ap (λ l. (c.start, length c.words) ∷ l) (layout_stays cs at w)
    ]

pub layout_after : (cells new : List Cell) (at w : ℕ) (b : Bool) → new ≡ cond b (with_word cells at w) cells → layout new ≡ layout cells
layout_after cells new at w true is = ap layout is ∙ layout_stays cells at w
layout_after cells new at w false is = ap layout is
