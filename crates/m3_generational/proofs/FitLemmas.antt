-- Which shapes agree with what a heap of generations holds, by its old cells alone.
use Rattle.std.proofs.Common.{◌≡◌, ◌≢◌, ℕ, zero, suc, ◌+◌, ◌-◌, ◌%◌, ◌<◌, ◌≤◌, Bool, true, false, cond, eqb, ltb, List, [], ◌∷◌, ◌++◌, length, set, get_or, replicate, Some, None, is_some, refl, sym, ap, subst, ◌∙◌, arith, inl, ⊎_elim, length-set}
use Rattle.std.specs.Prelude.{◌&&◌, ◌||◌, not, slice_get}
use Rattle.std.proofs.lemmas.Bool.{cases_Bool, cases_eq, cases_lt, cond-true, cond-false, false≢true, and_parts, or_left, or_right, lt-ltb, le-ltb, ltb-true}
use Rattle.std.proofs.lemmas.List.{get_or-set_same, get_or-set_other}
use Rattle.m3_heap.specs.Cells.{Cell, heap_base, header, header_of, covers, cell_word_at, is_start, is_writable, words_from, with_word, new_cell}
use Rattle.m3_heap.specs.CellWords.{word_elsewhere, start_stays}
use Rattle.m3_heap.specs.Heap.{nursery_base}
use Rattle.m3_heap.specs.Shapes.{Shape, is_pointer_word, is_pointer_of}
use Rattle.m3_heap.specs.CollectorSpace.{AreLaid}
use Rattle.m3_heap.proofs.SpaceLemmas.{start-fits, word_at-outside, word_at-cell, word_at-start}
use Rattle.m3_generational.specs.Remembering.{Remembering, Fits, FitsIn, is_old_word}
use Rattle.m3_generational.specs.Inside.{heap_seen, AreResting}
use Rattle.m3_generational.specs.Collecting.{ArePlaced}
use Rattle.m3_generational.specs.declared.spaces.Spaces.{Spaces}
use Rattle.m3_generational.specs.Collecting.{IsSplit}
use Rattle.m3_generational.proofs.PartLemmas.{start-first, start-second, start-either, words-first, words-second, low, high}
use Rattle.m3_heap.specs.CollectorSpace.{Space}
use Rattle.m3_generational.specs.declared.generations.Generations.TheInside.{Inside}
use Rattle.m3_generational.proofs.HeapLemmas.{split, IsPut, with_here, put-closed, put-resting, put-placed, put-rested, put-inside}

-- the same of the old cells by themselves
abbrev pub FitsOld : List Shape → List Cell → List Bool → ℕ → Type 0
FitsOld shapes x marks base = (start place word : ℕ) → is_start x start ≡ true → is_pointer_word shapes (words_from x start) place ≡ true → slice_get (words_from x start) place ≡ Some word
    → get_or marks (start + place - base) false ≡ false → (ltb word heap_base || is_start x word) ≡ true

low-start : (a : ℕ) (x y : List Cell) (at : ℕ) → IsSplit a x y → (ltb at nursery_base && is_start (x ++ y) at) ≡ is_start x at
low-start a x y at s = ⊎_elim
    (λ (below : at < nursery_base). ap (λ b. b && is_start (x ++ y) at) (lt-ltb at nursery_base below) ∙ start-first x y at (low a x y at s below).no_start)
    (λ (above : nursery_base ≤ at). ap (λ b. b && is_start (x ++ y) at) (le-ltb at nursery_base above) ∙ sym (high a x y at s above).no_start)
    (cases_lt at nursery_base)

old-word : (a : ℕ) (x y : List Cell) (w : ℕ) → IsSplit a x y → is_old_word (x ++ y) w ≡ (ltb w heap_base || is_start x w)
old-word a x y w s = ap (λ b. ltb w heap_base || b) (low-start a x y w s)

pub fits-down : (shapes : List Shape) (a : ℕ) (x y : List Cell) (marks : List Bool) → IsSplit a x y → FitsIn shapes (x ++ y) marks a → FitsOld shapes x marks a
fits-down shapes a x y marks s fits start place word starts pointer holds free =
    let there = start-fits a start x s.old starts in
    let words = words-first x y start starts in
    sym (old-word a x y word s)
    ∙ fits start place word (lt-ltb start nursery_base (omega (arith, there.1, there.2, s.below))) (start-either x y start starts)
    (ap (λ ws. is_pointer_word shapes ws place) words ∙ pointer) (ap (λ ws. slice_get ws place) words ∙ holds) free

pub fits-up : (shapes : List Shape) (a : ℕ) (x y : List Cell) (marks : List Bool) → IsSplit a x y → FitsOld shapes x marks a → FitsIn shapes (x ++ y) marks a
fits-up shapes a x y marks s fits start place word below starts pointer holds free =
    let there : is_start x start ≡ true = sym (start-first x y start (low a x y start s (ltb-true start nursery_base below)).no_start) ∙ starts in
    let words = sym (words-first x y start there) in
    old-word a x y word s
    ∙ fits start place word there (ap (λ ws. is_pointer_word shapes ws place) words ∙ pointer) (ap (λ ws. slice_get ws place) words ∙ holds) free

pub fits-told : (b : Bool) (shapes : List Shape) (s left : Spaces) (marks : List Bool) (asked minors fulls : ℕ) → b ≡ false → ArePlaced s → AreResting s
    → Fits shapes (record { heap = heap_seen b s left marks asked minors fulls; remembered = marks }) → FitsOld shapes s.here.cells marks s.here.base
fits-told true shapes s left marks asked minors fulls closed p r fits = absurd (cc)
fits-told false shapes s left marks asked minors fulls closed p r fits = fits-down shapes s.here.base s.here.cells s.nursery.cells marks (split s p r) fits

pub fits-again : (b : Bool) (shapes : List Shape) (s left : Spaces) (marks : List Bool) (asked minors fulls : ℕ) → b ≡ false → ArePlaced s → AreResting s
    → FitsOld shapes s.here.cells marks s.here.base → Fits shapes (record { heap = heap_seen b s left marks asked minors fulls; remembered = marks })
fits-again true shapes s left marks asked minors fulls closed p r fits = absurd (cc)
fits-again false shapes s left marks asked minors fulls closed p r fits = fits-up shapes s.here.base s.here.cells s.nursery.cells marks (split s p r) fits

-- ---- a new old cell

zero-word : (n i w : ℕ) → slice_get (replicate n 0) i ≡ Some w → w ≡ 0
zero-word zero i w h = absurd (false≢true (ap is_some h))
zero-word (suc n) zero w h = cc
zero-word (suc n) (suc i) w h = zero-word n i w h

new-word : (head n i w : ℕ) → ltb 0 i ≡ true → slice_get (head ∷ replicate n 0) i ≡ Some w → w ≡ 0
new-word head n zero w after h = absurd (false≢true after)
new-word head n (suc i) w after h = zero-word n i w h

only-start : (c : Cell) (at : ℕ) → is_start (c ∷ []) at ≡ true → words_from (c ∷ []) at ≡ c.words
only-start c at h = ⊎_elim
    (λ (hit : eqb c.start at ≡ true). cond-true (eqb c.start at) c.words [] hit)
    (λ (miss : eqb c.start at ≡ false). absurd (false≢true (sym (ap is_some (cond-false (eqb c.start at) (Some c) None miss)) ∙ h)))
    (cases_Bool (eqb c.start at))

pub fits-push : (shapes : List Shape) (x x' : List Cell) (marks : List Bool) (base base' at kind words : ℕ) → base' ≡ base → x' ≡ x ++ new_cell at kind words ∷ [] → FitsOld shapes x marks base → FitsOld shapes x' marks base'
fits-push shapes x x' marks base base' at kind words same is fits =
    let P : List Cell → Type 0 = λ l. FitsOld shapes l marks base' in
    let Q : ℕ → Type 0 = λ n. FitsOld shapes (x ++ new_cell at kind words ∷ []) marks n in
    subst P (sym is) (subst Q (sym same) pushed)
  where
    c : Cell
    c = new_cell at kind words

    old : (word : ℕ) → (ltb word heap_base || is_start x word) ≡ true → (ltb word heap_base || is_start (x ++ new_cell at kind words ∷ []) word) ≡ true
    old word h = ⊎_elim
        (λ (low : ltb word heap_base ≡ true). or_left (ltb word heap_base) (is_start (x ++ new_cell at kind words ∷ []) word) low)
        (λ (no : ltb word heap_base ≡ false). or_right (ltb word heap_base) (is_start (x ++ new_cell at kind words ∷ []) word) (start-either x (new_cell at kind words ∷ []) word (sym (ap (λ b. b || is_start x word) no) ∙ h)))
        (cases_Bool (ltb word heap_base))

    pushed : FitsOld shapes (x ++ new_cell at kind words ∷ []) marks base
    pushed start place word starts pointer holds free = ⊎_elim
        (λ (there : is_start x start ≡ true).
        let same = sym (words-first x (new_cell at kind words ∷ []) start there) in
        old word (fits start place word there (ap (λ ws. is_pointer_word shapes ws place) same ∙ pointer) (ap (λ ws. slice_get ws place) same ∙ holds) free))
        (λ (new : is_start x start ≡ false).
        let only = sym (start-second x (new_cell at kind words ∷ []) start new) ∙ starts in
        let same = words-second x (new_cell at kind words ∷ []) start new ∙ only-start (new_cell at kind words) start only in
        let after = (and_parts (ltb 0 place) _ pointer).0 in
        let is : word ≡ 0 = new-word (header_of kind words) (words - 1) place word after (sym (ap (λ ws. slice_get ws place) same) ∙ holds) in
        or_left (ltb word heap_base) (is_start (x ++ new_cell at kind words ∷ []) word) (ap (λ n. ltb n heap_base) is))
        (cases_Bool (is_start x start))

-- ---- a word of an old cell is set and remembered

within : (ws : List ℕ) (i w : ℕ) → slice_get ws i ≡ Some w → i < length ws
within [] i w h = absurd (false≢true (ap is_some h))
within (x ∷ ws) zero w h = omega arith
within (x ∷ ws) (suc i) w h = let ih = within ws i w h in omega arith

same-length : (b : Bool) (ws vs rs ts : List ℕ) → length ws ≡ length vs → length rs ≡ length ts → length (cond b ws rs) ≡ length (cond b vs ts)
same-length true ws vs rs ts e f = e
same-length false ws vs rs ts e f = f

length-words : (x : List Cell) (at w s : ℕ) → length (words_from (with_word x at w) s) ≡ length (words_from x s)
length-words [] at w s = refl
length-words (c ∷ cs) at w s =
    elim (covers c at) as (λ b. length (words_from ((cond b (record { start = c.start; words = set c.words (at - c.start) w }) c) ∷ with_word cs at w) s) ≡ length (words_from (c ∷ cs) s)) [
      | true ↦ same-length (eqb c.start s) _ _ _ _ (length-set c.words (at - c.start) w) (length-words cs at w s)
      | false ↦ same-length (eqb c.start s) _ _ _ _ refl (length-words cs at w s)
    ]

some-head : (m n : ℕ) → Some m ≡ Some n → m ≡ n
some-head m n e = cc

pub fits-set : (shapes : List Shape) (x x' : List Cell) (marks marks' : List Bool) (base base' at w : ℕ) → AreLaid base x → AreLaid base x' → is_writable x at ≡ true → at - base < length marks → base' ≡ base → x' ≡ with_word x at w → marks' ≡ set marks (at - base) true
    → FitsOld shapes x marks base → FitsOld shapes x' marks' base'
fits-set shapes x x' marks marks' base base' at w laid laid' can inside same is marked fits =
    let P : ℕ → Type 0 = λ n. FitsOld shapes x' marks' n in
    let Q : List Bool → Type 0 = λ m. FitsOld shapes x' m base in
    subst P (sym same) (subst Q (sym marked) put)
  where
    parts : (is_some (cell_word_at x at) ≡ true) × (not (is_start x at) ≡ true)
    parts = and_parts (is_some (cell_word_at x at)) (not (is_start x at)) can

    not-true : (b : Bool) → not b ≡ true → b ≡ false
    not-true true h = absurd (cc)
    not-true false h = refl

    above : base ≤ at
    above = ⊎_elim
        (λ (below : at < base). absurd (false≢true (sym (ap is_some (word_at-outside base at x laid (inl below))) ∙ parts.0)))
        (λ (ok : base ≤ at). ok)
        (cases_lt at base)

    stays : (s : ℕ) → is_start x' s ≡ is_start x s
    stays s = ap (λ l. is_start l s) is ∙ start_stays x at w s

    long : (s : ℕ) → length (words_from x' s) ≡ length (words_from x s)
    long s = ap (λ l. length (words_from l s)) is ∙ length-words x at w s

    apart : (s : ℕ) → is_start x s ≡ true → s ≢ at
    apart s starts e = false≢true (sym (ap (λ n. is_start x n) e ∙ not-true (is_start x at) parts.1) ∙ starts)

    head : (s : ℕ) → is_start x s ≡ true → header (words_from x' s) ≡ header (words_from x s)
    head s starts =
        some-head _ _ (sym (word_at-start base s x' laid' (stays s ∙ starts)) ∙ ap (λ l. cell_word_at l s) is ∙ word_elsewhere x at w s (apart s starts) ∙ word_at-start base s x laid starts)

    put : FitsOld shapes x' (set marks (at - base) true) base
    put start place word starts pointer holds free =
        let there : is_start x start ≡ true = sym (stays start) ∙ starts in
        let low = start-fits base start x laid there in
        let inside-new = within (words_from x' start) place word holds in
        let inside-old : place < length (words_from x start) = omega (arith, long start) in
        ap (λ b. ltb word heap_base || b) (stays word)
        ∙ ⊎_elim
        (λ (here : start + place ≡ at).
        absurd (false≢true (sym free ∙ ap (λ n. get_or (set marks (at - base) true) (n - base) false) here ∙ get_or-set_same marks (at - base) true false inside)))
        (λ (other : start + place ≢ at).
        let differs : start + place - base ≢ at - base = λ e. other (omega (arith, above, low.0)) in
        let word-is : slice_get (words_from x start) place ≡ Some word =
        sym (word_at-cell base start place x laid there inside-old) ∙ sym (ap (λ l. cell_word_at l (start + place)) is ∙ word_elsewhere x at w (start + place) other) ∙ word_at-cell base start place x' laid' starts inside-new ∙ holds in
        fits start place word there (ap (λ n. ltb 0 place && is_pointer_of shapes (n % 4294967296) place) (sym (head start there)) ∙ pointer) word-is (sym (get_or-set_other marks (at - base) (start + place - base) true false differs) ∙ free))
        (cases_eq (start + place) at)

-- ---- a word of an old cell was set, or couldn't be

pub put-off : (shapes : List Shape) (i : Inside) (v : Remembering) (here : Space) (at w : ℕ) → IsPut i v here at w false → Fits shapes v → Fits shapes (record { heap = heap_seen i.is_open (with_here i.spaces here) i.left.value i.remembered i.asked i.minors i.fulls; remembered = i.remembered })
put-off shapes i v here at w p was =
    let old = fits-told i.is_open shapes i.spaces i.left.value i.remembered i.asked i.minors i.fulls (put-closed i v here at w false p) p.invariant.placed (put-resting i v here at w false p) (subst (λ (u : Remembering). Fits shapes u) (sym p.view) was) in
    let P : List Cell → Type 0 = λ l. FitsOld shapes l i.remembered here.base in
    let Q : ℕ → Type 0 = λ n. FitsOld shapes i.spaces.here.cells i.remembered n in
    fits-again i.is_open shapes (with_here i.spaces here) i.left.value i.remembered i.asked i.minors i.fulls (put-closed i v here at w false p) (put-placed i v here at w false p) (put-rested i v here at w false p)
    (subst P (sym p.cells) (subst Q (sym p.base) old))

pub put-on : (shapes : List Shape) (i : Inside) (v : Remembering) (here : Space) (marks : List Bool) (at w : ℕ) → IsPut i v here at w true → marks ≡ set i.remembered (at - i.spaces.here.base) true → Fits shapes v
    → Fits shapes (record { heap = heap_seen i.is_open (with_here i.spaces here) i.left.value marks i.asked i.minors i.fulls; remembered = marks })
put-on shapes i v here marks at w p marked was =
    let old = fits-told i.is_open shapes i.spaces i.left.value i.remembered i.asked i.minors i.fulls (put-closed i v here at w true p) p.invariant.placed (put-resting i v here at w true p) (subst (λ (u : Remembering). Fits shapes u) (sym p.view) was) in
    let rested = (put-rested i v here at w true p).old in
    let P : ℕ → Type 0 = λ n. AreLaid n here.cells in
    let inside = put-inside i v here at w true p refl in
    fits-again i.is_open shapes (with_here i.spaces here) i.left.value marks i.asked i.minors i.fulls (put-closed i v here at w true p) (put-placed i v here at w true p) (put-rested i v here at w true p)
    (fits-set shapes i.spaces.here.cells here.cells i.remembered marks i.spaces.here.base here.base at w (put-resting i v here at w true p).old.laid (subst P p.base rested.laid) (sym p.answer) (omega (arith, inside.0, inside.1, p.invariant.marks)) p.base p.cells marked old)
