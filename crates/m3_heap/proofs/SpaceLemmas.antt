-- The cells in a row of marked words.
use Rattle.std.proofs.Common.{◌≡◌, ℕ, ◌+◌, ◌-◌, ◌<◌, ◌≤◌, zero, suc, Bool, true, false, eqb, List, [], ◌∷◌, ◌++◌, length, get_or, set, take, drop, replicate, Some, None, is_some, vec_len, vec_capacity, refl, sym, ap, subst, ◌∙◌, arith, ⊎_elim, inl, inr, ◌⊎◌, ◌≢◌, get_or-set_other}
use Rattle.std.specs.List.{AllByRecursion}
use Rattle.std.specs.Prelude.{slice_get}
use Rattle.std.proofs.lemmas.Bool.{cases_eq, cases_lt, lt-leb, le-leb, lt-ltb, le-ltb, eq-eqb, ne_eqb, cond-true, cond-false, false_from_ne_true, false≢true}
use Rattle.std.proofs.lemmas.List.{set_past, length-take-le, take-append-le, get_or-take, drop-take, take-take}
use Rattle.m3_heap.specs.Cells.{Cell, header, cell_from, is_start, words_from, covers, cell_word_at, with_word, total_words}
use Rattle.m3_heap.specs.CollectorSpace.{Space, unmarked, cells_in, AreLaid, AreRising}
use Rattle.m3_heap.specs.declared.half.Half.TheInside.{Inside}
use Rattle.m3_heap.specs.CollectorHalf.{IsHalf, space_of}

-- ---- cells that all start later

abbrev pub AreLater : ℕ → List Cell → Type 0
AreLater at cells = AllByRecursion (λ (c : Cell). at < c.start) cells

pub covers-later : (c : Cell) (at : ℕ) → at < c.start → covers c at ≡ false
covers-later c at h = rw (lt-leb c.start at h)

pub word_at-later : (cells : List Cell) (at : ℕ) → AreLater at cells → cell_word_at cells at ≡ None
word_at-later [] at h = refl
word_at-later (c ∷ cs) at h = cond-false (covers c at) _ _ (covers-later c at h.0) ∙ word_at-later cs at h.1

pub with_word-later : (cells : List Cell) (at word : ℕ) → AreLater at cells → with_word cells at word ≡ cells
with_word-later [] at word h = refl
with_word-later (c ∷ cs) at word h = let first = cond-false (covers c at) (record { start = c.start; words = set c.words (at - c.start) word }) c (covers-later c at h.0) in let rest = with_word-later cs at word h.1 in cc

pub cell_from-later : (cells : List Cell) (at : ℕ) → AreLater at cells → cell_from cells at ≡ None
cell_from-later [] at h = refl
cell_from-later (c ∷ cs) at h = cond-false (eqb c.start at) _ _ (ne_eqb c.start at (λ (e : c.start ≡ at). omega (arith, h.0))) ∙ cell_from-later cs at h.1

pub words_from-later : (cells : List Cell) (at : ℕ) → AreLater at cells → words_from cells at ≡ []
words_from-later [] at h = refl
words_from-later (c ∷ cs) at h = cond-false (eqb c.start at) _ _ (ne_eqb c.start at (λ (e : c.start ≡ at). omega (arith, h.0))) ∙ words_from-later cs at h.1

-- ---- the cells of marked words

cells_in-later : (a at : ℕ) (bs : List Bool) (ws : List ℕ) → at < a → AreLater at (cells_in a bs ws)
cells_in-later a at [] ws h = tt
cells_in-later a at (b ∷ bs) [] h = tt
cells_in-later a at (true ∷ bs) (w ∷ ws) h = (h, cells_in-later (a + 1) at bs ws (omega arith))
cells_in-later a at (false ∷ bs) (w ∷ ws) h = cells_in-later (a + 1) at bs ws (omega arith)

pub total-cells_in : (a : ℕ) (bs : List Bool) (ws : List ℕ) → length bs ≡ length ws → total_words (cells_in a bs ws) + length (unmarked bs ws) ≡ length ws
total-cells_in a [] [] e = refl
total-cells_in a [] (w ∷ ws) e = absurd (omega arith)
total-cells_in a (b ∷ bs) [] e = absurd (omega arith)
total-cells_in a (true ∷ bs) (w ∷ ws) e = let ih = total-cells_in (a + 1) bs ws (omega arith) in omega arith
total-cells_in a (false ∷ bs) (w ∷ ws) e = let ih = total-cells_in (a + 1) bs ws (omega arith) in omega arith

pub laid-cells_in : (a : ℕ) (bs : List Bool) (ws : List ℕ) → AreLaid (a + length (unmarked bs ws)) (cells_in a bs ws)
laid-cells_in a [] ws = tt
laid-cells_in a (true ∷ bs) [] = tt
laid-cells_in a (false ∷ bs) [] = tt
laid-cells_in a (true ∷ bs) (w ∷ ws) =
    let P : ℕ → Type 0 = λ n. AreLaid n (cells_in (a + 1) bs ws) in
    (omega arith, omega arith, subst P (omega arith) (laid-cells_in (a + 1) bs ws))
laid-cells_in a (false ∷ bs) (w ∷ ws) =
    let P : ℕ → Type 0 = λ n. AreLaid n (cells_in (a + 1) bs ws) in
    subst P (omega arith) (laid-cells_in (a + 1) bs ws)

get-unmarked : (bs : List Bool) (ws : List ℕ) (i : ℕ) → i < length (unmarked bs ws) → slice_get (unmarked bs ws) i ≡ slice_get ws i
get-unmarked [] ws i h = absurd (omega arith)
get-unmarked (true ∷ bs) ws i h = absurd (omega arith)
get-unmarked (false ∷ bs) [] i h = absurd (omega arith)
get-unmarked (false ∷ bs) (w ∷ ws) zero h = refl
get-unmarked (false ∷ bs) (w ∷ ws) (suc i) h = get-unmarked bs ws i (omega arith)

set-unmarked : (bs : List Bool) (ws : List ℕ) (i v : ℕ) → unmarked bs (set ws i v) ≡ set (unmarked bs ws) i v
set-unmarked [] ws i v = refl
set-unmarked (true ∷ bs) ws i v = refl
set-unmarked (false ∷ bs) [] i v = refl
set-unmarked (false ∷ bs) (w ∷ ws) zero v = refl
set-unmarked (false ∷ bs) (w ∷ ws) (suc i) v = ap (λ xs. w ∷ xs) (set-unmarked bs ws i v)

pub covers-first : (a : ℕ) (ws : List ℕ) (i : ℕ) → i < length ws → covers (record { start = a; words = ws }) (a + i) ≡ true
covers-first a ws i h = rw (le-leb a (a + i) (omega arith), lt-ltb (a + i) (a + length ws) (omega arith))

covers-past : (a : ℕ) (ws : List ℕ) (i : ℕ) → length ws ≤ i → covers (record { start = a; words = ws }) (a + i) ≡ false
covers-past a ws i h = rw (le-leb a (a + i) (omega arith), le-ltb (a + i) (a + length ws) (omega arith))

-- what a word of the row is, seen in its cell
pub word_at-cells_in : (a : ℕ) (bs : List Bool) (ws : List ℕ) (i : ℕ) → length bs ≡ length ws → length (unmarked bs ws) ≤ i → cell_word_at (cells_in a bs ws) (a + i) ≡ slice_get ws i
word_at-cells_in a [] [] i e h = refl
word_at-cells_in a [] (w ∷ ws) i e h = absurd (omega arith)
word_at-cells_in a (b ∷ bs) [] i e h = absurd (omega arith)
word_at-cells_in a (false ∷ bs) (w ∷ ws) zero e h = absurd (omega arith)
word_at-cells_in a (false ∷ bs) (w ∷ ws) (suc i) e h =
    let same : a + suc i ≡ (a + 1) + i = omega arith in
    ap (λ at. cell_word_at (cells_in (a + 1) bs ws) at) same ∙ word_at-cells_in (a + 1) bs ws i (omega arith) (omega arith)
word_at-cells_in a (true ∷ bs) (w ∷ ws) zero e h =
    cond-true (covers (record { start = a; words = w ∷ unmarked bs ws }) (a + 0)) (slice_get (w ∷ unmarked bs ws) ((a + 0) - a)) (cell_word_at (cells_in (a + 1) bs ws) (a + 0)) (covers-first a (w ∷ unmarked bs ws) 0 (omega arith))
    ∙ ap (λ k. slice_get (w ∷ unmarked bs ws) k) (let same : (a + 0) - a ≡ 0 = omega arith in same)
word_at-cells_in a (true ∷ bs) (w ∷ ws) (suc i) e h = ⊎_elim
    (λ (inside : i < length (unmarked bs ws)).
    cond-true (covers (record { start = a; words = w ∷ unmarked bs ws }) (a + suc i)) (slice_get (w ∷ unmarked bs ws) ((a + suc i) - a)) (cell_word_at (cells_in (a + 1) bs ws) (a + suc i)) (covers-first a (w ∷ unmarked bs ws) (suc i) (omega arith))
    ∙ ap (λ k. slice_get (w ∷ unmarked bs ws) k) (let same : (a + suc i) - a ≡ suc i = omega arith in same)
    ∙ get-unmarked bs ws i inside)
    (λ (past : length (unmarked bs ws) ≤ i).
    cond-false (covers (record { start = a; words = w ∷ unmarked bs ws }) (a + suc i)) (slice_get (w ∷ unmarked bs ws) ((a + suc i) - a)) (cell_word_at (cells_in (a + 1) bs ws) (a + suc i)) (covers-past a (w ∷ unmarked bs ws) (suc i) (omega arith))
    ∙ ap (λ at. cell_word_at (cells_in (a + 1) bs ws) at) (let same : a + suc i ≡ (a + 1) + i = omega arith in same)
    ∙ word_at-cells_in (a + 1) bs ws i (omega arith) past)
    (cases_lt i (length (unmarked bs ws)))

-- a word of the row is set
pub cells_in-set : (a : ℕ) (bs : List Bool) (ws : List ℕ) (i v : ℕ) → cells_in a bs (set ws i v) ≡ with_word (cells_in a bs ws) (a + i) v
cells_in-set a [] ws i v = refl
cells_in-set a (true ∷ bs) [] i v = refl
cells_in-set a (false ∷ bs) [] i v = refl
cells_in-set a (false ∷ bs) (w ∷ ws) zero v = sym (with_word-later (cells_in (a + 1) bs ws) (a + 0) v (cells_in-later (a + 1) (a + 0) bs ws (omega arith)))
cells_in-set a (false ∷ bs) (w ∷ ws) (suc i) v =
    cells_in-set (a + 1) bs ws i v ∙ ap (λ at. with_word (cells_in (a + 1) bs ws) at v) (let same : (a + 1) + i ≡ a + suc i = omega arith in same)
cells_in-set a (true ∷ bs) (w ∷ ws) zero v =
    let first : Cell = record { start = a; words = w ∷ unmarked bs ws } in
    let changed = cond-true (covers first (a + 0)) (record { start = a; words = set (w ∷ unmarked bs ws) ((a + 0) - a) v }) first (covers-first a (w ∷ unmarked bs ws) 0 (omega arith)) in
    let place : (a + 0) - a ≡ 0 = omega arith in
    let rest = with_word-later (cells_in (a + 1) bs ws) (a + 0) v (cells_in-later (a + 1) (a + 0) bs ws (omega arith)) in
    cc
cells_in-set a (true ∷ bs) (w ∷ ws) (suc i) v =
    let first : Cell = record { start = a; words = w ∷ unmarked bs ws } in
    let put : Cell = record { start = a; words = set (w ∷ unmarked bs ws) ((a + suc i) - a) v } in
    let place : (a + suc i) - a ≡ suc i = omega arith in
    let rest : cells_in (a + 1) bs (set ws i v) ≡ with_word (cells_in (a + 1) bs ws) (a + suc i) v =
    cells_in-set (a + 1) bs ws i v ∙ ap (λ at. with_word (cells_in (a + 1) bs ws) at v) (let same : (a + 1) + i ≡ a + suc i = omega arith in same) in
    let words : unmarked bs (set ws i v) ≡ set (unmarked bs ws) i v = set-unmarked bs ws i v in
    ⊎_elim
    (λ (inside : i < length (unmarked bs ws)).
    let changed = cond-true (covers first (a + suc i)) put first (covers-first a (w ∷ unmarked bs ws) (suc i) (omega arith)) in
    cc)
    (λ (past : length (unmarked bs ws) ≤ i).
    let kept = cond-false (covers first (a + suc i)) put first (covers-past a (w ∷ unmarked bs ws) (suc i) (omega arith)) in
    let same = set_past (unmarked bs ws) i v past in
    cc)
    (cases_lt i (length (unmarked bs ws)))

-- a mark is a cell's start
pub is_start-cells_in : (a : ℕ) (bs : List Bool) (ws : List ℕ) (i : ℕ) → length bs ≡ length ws → is_start (cells_in a bs ws) (a + i) ≡ get_or bs i false
is_start-cells_in a [] ws i e = refl
is_start-cells_in a (b ∷ bs) [] i e = absurd (omega arith)
is_start-cells_in a (false ∷ bs) (w ∷ ws) zero e = ap is_some (cell_from-later (cells_in (a + 1) bs ws) (a + 0) (cells_in-later (a + 1) (a + 0) bs ws (omega arith)))
is_start-cells_in a (true ∷ bs) (w ∷ ws) zero e = ap is_some (cond-true (eqb a (a + 0)) (Some (record { start = a; words = w ∷ unmarked bs ws })) (cell_from (cells_in (a + 1) bs ws) (a + 0)) (eq-eqb a (a + 0) (omega arith)))
is_start-cells_in a (false ∷ bs) (w ∷ ws) (suc i) e =
    ap (λ at. is_start (cells_in (a + 1) bs ws) at) (let same : a + suc i ≡ (a + 1) + i = omega arith in same) ∙ is_start-cells_in (a + 1) bs ws i (omega arith)
is_start-cells_in a (true ∷ bs) (w ∷ ws) (suc i) e =
    ap is_some (cond-false (eqb a (a + suc i)) (Some (record { start = a; words = w ∷ unmarked bs ws })) (cell_from (cells_in (a + 1) bs ws) (a + suc i)) (ne_eqb a (a + suc i) (λ (h : a ≡ a + suc i). omega arith)))
    ∙ ap (λ at. is_start (cells_in (a + 1) bs ws) at) (let same : a + suc i ≡ (a + 1) + i = omega arith in same)
    ∙ is_start-cells_in (a + 1) bs ws i (omega arith)

take-unmarked : (bs : List Bool) (ws : List ℕ) → unmarked bs ws ≡ take (length (unmarked bs ws)) ws
take-unmarked [] ws = refl
take-unmarked (true ∷ bs) ws = refl
take-unmarked (false ∷ bs) [] = refl
take-unmarked (false ∷ bs) (w ∷ ws) = ap (λ xs. w ∷ xs) (take-unmarked bs ws)

-- the words of a cell stand in the row
pub words_from-cells_in : (a : ℕ) (bs : List Bool) (ws : List ℕ) (i : ℕ) → words_from (cells_in a bs ws) (a + i) ≡ take (length (words_from (cells_in a bs ws) (a + i))) (drop i ws)
words_from-cells_in a [] ws i = refl
words_from-cells_in a (true ∷ bs) [] i = refl
words_from-cells_in a (false ∷ bs) [] i = refl
words_from-cells_in a (false ∷ bs) (w ∷ ws) zero = let none = words_from-later (cells_in (a + 1) bs ws) (a + 0) (cells_in-later (a + 1) (a + 0) bs ws (omega arith)) in rw none refl
words_from-cells_in a (false ∷ bs) (w ∷ ws) (suc i) =
    let same : a + suc i ≡ (a + 1) + i = omega arith in
    let P : ℕ → Type 0 = λ at. words_from (cells_in (a + 1) bs ws) at ≡ take (length (words_from (cells_in (a + 1) bs ws) at)) (drop i ws) in
    subst P (sym same) (words_from-cells_in (a + 1) bs ws i)
words_from-cells_in a (true ∷ bs) (w ∷ ws) zero =
    let here = cond-true (eqb a (a + 0)) (w ∷ unmarked bs ws) (words_from (cells_in (a + 1) bs ws) (a + 0)) (eq-eqb a (a + 0) (omega arith)) in
    let P : List ℕ → Type 0 = λ xs. xs ≡ take (length xs) (w ∷ ws) in
    subst P (sym here) (ap (λ xs. w ∷ xs) (take-unmarked bs ws))
words_from-cells_in a (true ∷ bs) (w ∷ ws) (suc i) =
    let same : a + suc i ≡ (a + 1) + i = omega arith in
    let there = cond-false (eqb a (a + suc i)) (w ∷ unmarked bs ws) (words_from (cells_in (a + 1) bs ws) (a + suc i)) (ne_eqb a (a + suc i) (λ (h : a ≡ a + suc i). omega arith)) in
    let P : List ℕ → Type 0 = λ xs. xs ≡ take (length xs) (drop i ws) in
    subst P (sym (there ∙ ap (λ at. words_from (cells_in (a + 1) bs ws) at) same)) (words_from-cells_in (a + 1) bs ws i)

-- ---- a cell is added at the end

unmarked-clear : (n : ℕ) (xs : List ℕ) → length xs ≡ n → unmarked (replicate n false) xs ≡ xs
unmarked-clear zero [] e = refl
unmarked-clear zero (x ∷ xs) e = absurd (omega arith)
unmarked-clear (suc n) [] e = refl
unmarked-clear (suc n) (x ∷ xs) e = ap (λ ys. x ∷ ys) (unmarked-clear n xs (omega arith))

cells_in-clear : (a n : ℕ) (xs : List ℕ) → cells_in a (replicate n false) xs ≡ []
cells_in-clear a zero xs = refl
cells_in-clear a (suc n) [] = refl
cells_in-clear a (suc n) (x ∷ xs) = cells_in-clear (a + 1) n xs

unmarked-append : (bs cs : List Bool) (ws vs : List ℕ) → length bs ≡ length ws → unmarked (bs ++ true ∷ cs) (ws ++ vs) ≡ unmarked bs ws
unmarked-append [] cs [] vs e = refl
unmarked-append [] cs (w ∷ ws) vs e = absurd (omega arith)
unmarked-append (b ∷ bs) cs [] vs e = absurd (omega arith)
unmarked-append (true ∷ bs) cs (w ∷ ws) vs e = refl
unmarked-append (false ∷ bs) cs (w ∷ ws) vs e = ap (λ xs. w ∷ xs) (unmarked-append bs cs ws vs (omega arith))

cells_in-append : (a : ℕ) (bs cs : List Bool) (ws vs : List ℕ) → length bs ≡ length ws → cells_in a (bs ++ true ∷ cs) (ws ++ vs) ≡ cells_in a bs ws ++ cells_in (a + length ws) (true ∷ cs) vs
cells_in-append a [] cs [] vs e = ap (λ at. cells_in at (true ∷ cs) vs) (let same : a ≡ a + 0 = omega arith in same)
cells_in-append a [] cs (w ∷ ws) vs e = absurd (omega arith)
cells_in-append a (b ∷ bs) cs [] vs e = absurd (omega arith)
cells_in-append a (true ∷ bs) cs (w ∷ ws) vs e =
    let rest = cells_in-append (a + 1) bs cs ws vs (omega arith) in
    let words = unmarked-append bs cs ws vs (omega arith) in
    let at : (a + 1) + length ws ≡ a + suc (length ws) = omega arith in
    cc
cells_in-append a (false ∷ bs) cs (w ∷ ws) vs e =
    let rest = cells_in-append (a + 1) bs cs ws vs (omega arith) in
    let at : (a + 1) + length ws ≡ a + suc (length ws) = omega arith in
    cc

-- one more cell
pub cells_in-push : (a n : ℕ) (bs : List Bool) (ws xs : List ℕ) (x : ℕ) → length bs ≡ length ws → length xs ≡ n → cells_in a (bs ++ true ∷ replicate n false) (ws ++ x ∷ xs) ≡ cells_in a bs ws ++ record { start = a + length ws; words = x ∷ xs } ∷ []
cells_in-push a n bs ws xs x e l =
    let all = cells_in-append a bs (replicate n false) ws (x ∷ xs) e in
    let words = unmarked-clear n xs l in
    let none = cells_in-clear (a + length ws + 1) n xs in
    cc

pub unmarked-push : (bs cs : List Bool) (ws vs : List ℕ) → length bs ≡ length ws → unmarked bs ws ≡ [] → unmarked (bs ++ true ∷ cs) (ws ++ vs) ≡ []
unmarked-push bs cs ws vs e h = unmarked-append bs cs ws vs e ∙ h

pub unmarked-set : (bs : List Bool) (ws : List ℕ) (i v : ℕ) → unmarked bs ws ≡ [] → unmarked bs (set ws i v) ≡ []
unmarked-set bs ws i v h = set-unmarked bs ws i v ∙ ap (λ xs. set xs i v) h

-- ---- the words in use of a half

abbrev pub marks_of : Inside → List Bool
marks_of half = take half.used half.starts

abbrev pub words_of : Inside → List ℕ
words_of half = take half.used half.words.items

pub length-marks_of : (half : Inside) → IsHalf half → length (marks_of half) ≡ half.used
length-marks_of half h = length-take-le half.used half.starts (omega (arith, h.used, h.within, h.marks))

pub length-words_of : (half : Inside) → IsHalf half → length (words_of half) ≡ half.used
length-words_of half h = length-take-le half.used half.words.items h.used

pub same-length : (half : Inside) → IsHalf half → length (marks_of half) ≡ length (words_of half)
same-length half h = length-marks_of half h ∙ sym (length-words_of half h)

none-before : (half : Inside) → IsHalf half → length (unmarked (marks_of half) (words_of half)) ≡ 0
none-before half h = ap (λ (xs : List ℕ). length xs) h.begins

pub total-used : (half : Inside) → IsHalf half → total_words (cells_in half.base (marks_of half) (words_of half)) ≡ half.used
total-used half h =
    let all = total-cells_in half.base (marks_of half) (words_of half) (same-length half h) in
    let none = none-before half h in
    let words = length-words_of half h in
    omega arith

pub laid-used : (half : Inside) → IsHalf half → AreLaid half.base (cells_in half.base (marks_of half) (words_of half))
laid-used half h =
    let P : ℕ → Type 0 = λ at. AreLaid at (cells_in half.base (marks_of half) (words_of half)) in
    let none = none-before half h in
    let at : half.base + length (unmarked (marks_of half) (words_of half)) ≡ half.base = omega arith in
    subst P at (laid-cells_in half.base (marks_of half) (words_of half))

-- outside the words in use there is no cell
cells-later : (a n at : ℕ) (cells : List Cell) → AreLaid a cells → at < a → AreLater at cells
cells-later a n at [] h lt = tt
cells-later a n at (c ∷ cs) h lt = (omega (arith, h.0), cells-later (a + length c.words) n at cs h.2 (omega arith))

cells-past : (a at : ℕ) (cells : List Cell) → AreLaid a cells → a + total_words cells ≤ at → AllByRecursion (λ (c : Cell). c.start + length c.words ≤ at) cells
cells-past a at [] h le = tt
cells-past a at (c ∷ cs) h le = (omega (arith, h.0), cells-past (a + length c.words) at cs h.2 (omega arith))

abbrev pub AreEarlier : ℕ → List Cell → Type 0
AreEarlier at cells = AllByRecursion (λ (c : Cell). c.start + length c.words ≤ at) cells

covers-earlier : (c : Cell) (at : ℕ) → c.start + length c.words ≤ at → covers c at ≡ false
covers-earlier c at h = rw (le-leb c.start at (omega arith), le-ltb at (c.start + length c.words) h)

word_at-earlier : (cells : List Cell) (at : ℕ) → AreEarlier at cells → cell_word_at cells at ≡ None
word_at-earlier [] at h = refl
word_at-earlier (c ∷ cs) at h = cond-false (covers c at) _ _ (covers-earlier c at h.0) ∙ word_at-earlier cs at h.1

with_word-earlier : (cells : List Cell) (at word : ℕ) → AreEarlier at cells → with_word cells at word ≡ cells
with_word-earlier [] at word h = refl
with_word-earlier (c ∷ cs) at word h = let first = cond-false (covers c at) (record { start = c.start; words = set c.words (at - c.start) word }) c (covers-earlier c at h.0) in let rest = with_word-earlier cs at word h.1 in cc

pub word_at-outside : (a at : ℕ) (cells : List Cell) → AreLaid a cells → (at < a) ⊎ (a + total_words cells ≤ at) → cell_word_at cells at ≡ None
word_at-outside a at cells h (inl lt) = word_at-later cells at (cells-later a 0 at cells h lt)
word_at-outside a at cells h (inr le) = word_at-earlier cells at (cells-past a at cells h le)

pub with_word-outside : (a at word : ℕ) (cells : List Cell) → AreLaid a cells → (at < a) ⊎ (a + total_words cells ≤ at) → with_word cells at word ≡ cells
with_word-outside a at word cells h (inl lt) = with_word-later cells at word (cells-later a 0 at cells h lt)
with_word-outside a at word cells h (inr le) = with_word-earlier cells at word (cells-past a at cells h le)

-- where a cell starts, it fits before the end
pub start-fits : (a at : ℕ) (cells : List Cell) → AreLaid a cells → is_start cells at ≡ true → (a ≤ at) × (1 ≤ length (words_from cells at)) × (at + length (words_from cells at) ≤ a + total_words cells)
start-fits a at [] h e = absurd (false≢true e)
start-fits a at (c ∷ cs) h e = ⊎_elim
    (λ (same : c.start ≡ at).
    let words = cond-true (eqb c.start at) c.words (words_from cs at) (eq-eqb c.start at same) in
    let count = ap (λ (ws : List ℕ). length ws) words in
    (omega (arith, h.0), omega (arith, h.2, h.1), omega (arith, h.0)))
    (λ (differs : c.start ≡ at → ⊥).
    let words = cond-false (eqb c.start at) c.words (words_from cs at) (ne_eqb c.start at differs) in
    let count = ap (λ (ws : List ℕ). length ws) words in
    let starts = ap is_some (cond-false (eqb c.start at) (Some c) (cell_from cs at) (ne_eqb c.start at differs)) in
    let ih = start-fits (a + length c.words) at cs h.2 (sym starts ∙ e) in
    (omega (arith, ih.0), omega (arith, ih.1), omega (arith, ih.2)))
    (cases_eq c.start at)

pub rising-fits : (a at : ℕ) (cells : List Cell) → AreRising a cells → is_start cells at ≡ true → (a ≤ at) × (1 ≤ length (words_from cells at))
rising-fits a at [] h e = absurd (false≢true e)
rising-fits a at (c ∷ cs) h e = ⊎_elim
    (λ (same : c.start ≡ at).
    let words = ap (λ (ws : List ℕ). length ws) (cond-true (eqb c.start at) c.words (words_from cs at) (eq-eqb c.start at same)) in
    (omega (arith, h.0), omega (arith, h.1)))
    (λ (differs : c.start ≡ at → ⊥).
    let words = ap (λ (ws : List ℕ). length ws) (cond-false (eqb c.start at) c.words (words_from cs at) (ne_eqb c.start at differs)) in
    let starts = ap is_some (cond-false (eqb c.start at) (Some c) (cell_from cs at) (ne_eqb c.start at differs)) in
    let ih = rising-fits (c.start + length c.words) at cs h.2 (sym starts ∙ e) in
    (omega (arith, h.0, ih.0), omega (arith, ih.1)))
    (cases_eq c.start at)

pub laid-rising : (a : ℕ) (cells : List Cell) → AreLaid a cells → AreRising a cells
laid-rising a [] h = tt
laid-rising a (c ∷ cs) h =
    let P : ℕ → Type 0 = λ n. AreRising (n + length c.words) cs in
    (omega (arith, h.0), h.1, subst P (sym h.0) (laid-rising (a + length c.words) cs h.2))

pub is_start-outside : (a at : ℕ) (cells : List Cell) → AreLaid a cells → (at < a) ⊎ (a + total_words cells ≤ at) → is_start cells at ≡ false
is_start-outside a at cells h out = false_from_ne_true (is_start cells at) (λ e.
    let fits = start-fits a at cells h e in
    ⊎_elim (λ (lt : at < a). let none : ⊥ = omega (arith, fits.0) in none) (λ (le : a + total_words cells ≤ at). let none : ⊥ = omega (arith, fits.1, fits.2) in none) out)

slice_get-some : (xs : List ℕ) (i d : ℕ) → i < length xs → slice_get xs i ≡ Some (get_or xs i d)
slice_get-some [] i d h = absurd (omega arith)
slice_get-some (x ∷ xs) zero d h = refl
slice_get-some (x ∷ xs) (suc i) d h = slice_get-some xs i d (omega arith)

-- the word that a place of the words in use holds
pub word_at-used : (half : Inside) → IsHalf half → (at w : ℕ) → half.base ≤ at → at < half.base + half.used → w ≡ get_or half.words.items (at - half.base) w → cell_word_at (space_of half).cells at ≡ Some w
word_at-used half h at w low high read =
    let i = at - half.base in
    let place : at ≡ half.base + i = omega arith in
    let none = none-before half h in
    let within : i < length (words_of half) = omega (arith, length-words_of half h) in
    ap (λ p. cell_word_at (cells_in half.base (marks_of half) (words_of half)) p) place
    ∙ word_at-cells_in half.base (marks_of half) (words_of half) i (same-length half h) (omega arith)
    ∙ slice_get-some (words_of half) i w within
    ∙ ap (λ x. Some x) (get_or-take half.used half.words.items i w (omega arith) ∙ sym read)

pub is_start-used : (half : Inside) → IsHalf half → (at : ℕ) → half.base ≤ at → at < half.base + half.used → is_start (space_of half).cells at ≡ get_or half.starts (at - half.base) false
is_start-used half h at low high =
    let i = at - half.base in
    let place : at ≡ half.base + i = omega arith in
    ap (λ p. is_start (cells_in half.base (marks_of half) (words_of half)) p) place
    ∙ is_start-cells_in half.base (marks_of half) (words_of half) i (same-length half h)
    ∙ get_or-take half.used half.starts i false (omega arith)

take-set-any : (n : ℕ) (xs : List ℕ) (i v : ℕ) → take n (set xs i v) ≡ set (take n xs) i v
take-set-any zero xs i v = refl
take-set-any (suc n) [] i v = refl
take-set-any (suc n) (x ∷ xs) zero v = refl
take-set-any (suc n) (x ∷ xs) (suc i) v = ap (λ ys. x ∷ ys) (take-set-any n xs i v)

pub put-used : (half : Inside) → (at v : ℕ) → half.base ≤ at → cells_in half.base (marks_of half) (take half.used (set half.words.items (at - half.base) v)) ≡ with_word (space_of half).cells at v
put-used half at v low =
    let place : half.base + (at - half.base) ≡ at = omega arith in
    ap (λ ws. cells_in half.base (marks_of half) ws) (take-set-any half.used half.words.items (at - half.base) v)
    ∙ cells_in-set half.base (marks_of half) (words_of half) (at - half.base) v
    ∙ ap (λ p. with_word (cells_in half.base (marks_of half) (words_of half)) p v) place

pub begins-put : (half : Inside) → IsHalf half → (i v : ℕ) → unmarked (marks_of half) (take half.used (set half.words.items i v)) ≡ []
begins-put half h i v =
    ap (λ ws. unmarked (marks_of half) ws) (take-set-any half.used half.words.items i v) ∙ unmarked-set (marks_of half) (words_of half) i v h.begins

-- one more cell after the words in use
pub cells-pushed : (half : Inside) → IsHalf half → (n : ℕ) (marks : List Bool) (words ys : List ℕ) → length ys ≡ suc n → marks ≡ marks_of half ++ true ∷ replicate n false → words ≡ words_of half ++ ys → cells_in half.base marks words ≡ (space_of half).cells ++ record { start = half.base + half.used; words = ys } ∷ []
cells-pushed half h n marks words [] e ms ws = absurd (omega arith)
cells-pushed half h n marks words (y ∷ ys) e ms ws =
    let pushed = cells_in-push half.base n (marks_of half) (words_of half) ys y (same-length half h) (omega arith) in
    let used = length-words_of half h in
    cc

pub begins-pushed : (half : Inside) → IsHalf half → (n : ℕ) (marks : List Bool) (words ys : List ℕ) → marks ≡ marks_of half ++ true ∷ replicate n false → words ≡ words_of half ++ ys → unmarked marks words ≡ []
begins-pushed half h n marks words ys ms ws =
    let none = unmarked-push (marks_of half) (replicate n false) (words_of half) ys (same-length half h) h.begins in
    cc

-- the words of a cell, in the words of its half
pub cell-words : (half : Inside) → IsHalf half → (at n : ℕ) → is_start (space_of half).cells at ≡ true → length (words_from (space_of half).cells at) ≡ n → take n (drop (at - half.base) half.words.items) ≡ words_from (space_of half).cells at
cell-words half h at n starts count =
    let cells = cells_in half.base (marks_of half) (words_of half) in
    let fits = start-fits half.base at cells (laid-used half h) starts in
    let total = total-used half h in
    let i = at - half.base in
    let place : half.base + i ≡ at = omega (arith, fits.0) in
    let row = words_from-cells_in half.base (marks_of half) (words_of half) i in
    let P : ℕ → Type 0 = λ p. words_from cells p ≡ take (length (words_from cells p)) (drop i (words_of half)) in
    let words = subst P place row in
    let cut : take n (drop i (words_of half)) ≡ take n (drop i half.words.items) =
    ap (λ m. take n (drop i (take m half.words.items))) (let sum : half.used ≡ i + (half.used - i) = omega (arith, fits.0, fits.2) in sum)
    ∙ ap (λ ws. take n ws) (drop-take i (half.used - i) half.words.items)
    ∙ take-take n (half.used - i) (drop i half.words.items) (omega (arith, fits.0, fits.2)) in
    sym (words ∙ ap (λ m. take m (drop i (words_of half))) count ∙ cut)

pub has-room : (half : Inside) → IsHalf half → (space : Space) (count : ℕ) → space_of half ≡ space → total_words space.cells + count ≤ space.size → half.used + count ≤ half.size
has-room half h space count is room =
    let total = total-used half h in
    let cells = ap (λ (s : Space). total_words s.cells) is in
    let size = ap (λ (s : Space). s.size) is in
    omega arith

pub next-start : (half : Inside) → IsHalf half → (space : Space) → space_of half ≡ space → half.base + half.used ≡ space.base + total_words space.cells
next-start half h space is =
    let total = total-used half h in
    let cells = ap (λ (s : Space). total_words s.cells) is in
    let base = ap (λ (s : Space). s.base) is in
    omega arith

-- the words reach an end, and one more cell starts behind the others
pub record IsCleared (half now : Inside) (end : ℕ) : Type 0 where
  pub base : now.base ≡ half.base
  pub size : now.size ≡ half.size
  pub starts : now.starts ≡ set half.starts half.used true
  pub kept : take half.used now.words.items ≡ take half.used half.words.items
  pub reach : end ≤ vec_len now.words
  pub within : vec_len now.words ≤ half.size
  pub room : half.size ≤ vec_capacity now.words

pub cleared-more : (half : Inside) → IsHalf half → (old now : List ℕ) → old ≡ half.words.items → (count : ℕ) → now ≡ old ++ replicate count 0 → take half.used now ≡ take half.used half.words.items
cleared-more half h old now same count more =
    ap (λ (ws : List ℕ). take half.used ws) (more ∙ ap (λ (ws : List ℕ). ws ++ replicate count 0) same) ∙ take-append-le half.used half.words.items (replicate count 0) h.used

-- what a push leaves
pub record IsPush (half : Inside) (marks : List Bool) (words ys : List ℕ) (count : ℕ) : Type 0 where
  pub marks_length : length marks ≡ length half.starts
  pub marks_rest : (k : ℕ) → half.used + count ≤ k → get_or marks k false ≡ false
  pub marks_now : take (half.used + count) marks ≡ take half.used half.starts ++ true ∷ replicate (half.used + count - (half.used + 1)) false
  pub words_reach : half.used + count ≤ length words
  pub words_within : length words ≤ half.size
  pub words_now : take (half.used + count) words ≡ take half.used half.words.items ++ ys
  pub added : length ys ≡ count
  pub some : 1 ≤ count
  pub room : half.used + count ≤ half.size

pub push-cells : (half : Inside) → IsHalf half → (space : Space) → space_of half ≡ space → (marks : List Bool) (words ys : List ℕ) (count : ℕ) → IsPush half marks words ys count → (base : ℕ) → base ≡ half.base
    → cells_in base (take (half.used + count) marks) (take (half.used + count) words) ≡ space.cells ++ record { start = base + half.used; words = ys } ∷ []
push-cells half h space is marks words ys count push base same =
    ap (λ n. cells_in n (take (half.used + count) marks) (take (half.used + count) words)) same
    ∙ cells-pushed half h (half.used + count - (half.used + 1)) (take (half.used + count) marks) (take (half.used + count) words) ys (omega (arith, push.added, push.some)) push.marks_now push.words_now
    ∙ ap (λ (s : Space). s.cells ++ record { start = half.base + half.used; words = ys } ∷ []) is
    ∙ ap (λ n. space.cells ++ record { start = n + half.used; words = ys } ∷ []) (sym same)

pub push-half : (half new : Inside) → IsHalf half → (ys : List ℕ) (count : ℕ) → IsPush half new.starts new.words.items ys count → new.base ≡ half.base → new.size ≡ half.size → new.used ≡ half.used + count → half.size ≤ vec_capacity new.words → IsHalf new
push-half half new h ys count push base size used room = record {
  used = omega (arith, push.words_reach, used);
  within = omega (arith, push.words_within, size);
  room = omega (arith, room, size);
  marks = omega (arith, push.marks_length, size, h.marks);
  begins =
      ap (λ n. unmarked (take n new.starts) (take n new.words.items)) used
      ∙ begins-pushed half h (half.used + count - (half.used + 1)) (take (half.used + count) new.starts) (take (half.used + count) new.words.items) ys push.marks_now push.words_now;
  rest = λ k past. push.marks_rest k (omega (arith, used));
  ends = omega (arith, base, size, h.ends);
}

pub source-fits : (half : Inside) → IsHalf half → (space : Space) → space_of half ≡ space → (at n : ℕ) → is_start space.cells at ≡ true → length (words_from space.cells at) ≡ n → (half.base ≤ at) × (1 ≤ n) × (at + n ≤ half.base + half.used)
source-fits half h space is at n starts count =
    let total = total-used half h in
    let P : Space → Type 0 = λ s. is_start s.cells at ≡ true in
    let found = start-fits half.base at (space_of half).cells (laid-used half h) (subst P (sym is) starts) in
    let same = ap (λ (s : Space). length (words_from s.cells at)) is ∙ count in
    (found.0, omega (arith, found.1), omega (arith, found.2))

pub source-words : (half : Inside) → IsHalf half → (space : Space) → space_of half ≡ space → (at n : ℕ) → is_start space.cells at ≡ true → length (words_from space.cells at) ≡ n → take n (drop (at - half.base) half.words.items) ≡ words_from space.cells at
source-words half h space is at n starts count =
    let P : Space → Type 0 = λ s. is_start s.cells at ≡ true in
    cell-words half h at n (subst P (sym is) starts) (ap (λ (s : Space). length (words_from s.cells at)) is ∙ count)
    ∙ ap (λ (s : Space). words_from s.cells at) is

-- a word of a cell, by the cell's start
pub word_at-cell : (a at i : ℕ) (cells : List Cell) → AreLaid a cells → is_start cells at ≡ true → i < length (words_from cells at) → cell_word_at cells (at + i) ≡ slice_get (words_from cells at) i
word_at-cell a at i [] h e lt = absurd (false≢true e)
word_at-cell a at i (c ∷ cs) h e lt = ⊎_elim
    (λ (same : c.start ≡ at).
    let words = cond-true (eqb c.start at) c.words (words_from cs at) (eq-eqb c.start at same) in
    let count = ap (λ (ws : List ℕ). length ws) words in
    let here = cond-true (covers c (at + i)) (slice_get c.words ((at + i) - c.start)) (cell_word_at cs (at + i)) (rw (le-leb c.start (at + i) (omega arith), lt-ltb (at + i) (c.start + length c.words) (omega arith))) in
    let place : (at + i) - c.start ≡ i = omega arith in
    here ∙ ap (λ k. slice_get c.words k) place ∙ ap (λ (ws : List ℕ). slice_get ws i) (sym words))
    (λ (differs : c.start ≡ at → ⊥).
    let words = cond-false (eqb c.start at) c.words (words_from cs at) (ne_eqb c.start at differs) in
    let count = ap (λ (ws : List ℕ). length ws) words in
    let starts = ap is_some (cond-false (eqb c.start at) (Some c) (cell_from cs at) (ne_eqb c.start at differs)) in
    let later = start-fits (a + length c.words) at cs h.2 (sym starts ∙ e) in
    let past = cond-false (covers c (at + i)) (slice_get c.words ((at + i) - c.start)) (cell_word_at cs (at + i)) (covers-earlier c (at + i) (omega (arith, later.0, h.0))) in
    past ∙ word_at-cell (a + length c.words) at i cs h.2 (sym starts ∙ e) (omega arith) ∙ ap (λ (ws : List ℕ). slice_get ws i) (sym words))
    (cases_eq c.start at)

header-first : (ws : List ℕ) → 0 < length ws → slice_get ws 0 ≡ Some (header ws)
header-first [] h = absurd (omega arith)
header-first (w ∷ ws) h = refl

pub word_at-start : (a at : ℕ) (cells : List Cell) → AreLaid a cells → is_start cells at ≡ true → cell_word_at cells at ≡ Some (header (words_from cells at))
word_at-start a at cells h e =
    let some = start-fits a at cells h e in
    ap (λ p. cell_word_at cells p) (let same : at ≡ at + 0 = omega arith in same)
    ∙ word_at-cell a at 0 cells h e (omega (arith, some.1))
    ∙ header-first (words_from cells at) (omega (arith, some.1))

pub half-word_at-start : (half : Inside) → IsHalf half → (space : Space) → space_of half ≡ space → (at : ℕ) → is_start space.cells at ≡ true → cell_word_at space.cells at ≡ Some (header (words_from space.cells at))
half-word_at-start half h space is at starts =
    let P : Space → Type 0 = λ s. is_start s.cells at ≡ true in
    let Q : Space → Type 0 = λ s. cell_word_at s.cells at ≡ Some (header (words_from s.cells at)) in
    subst Q is (word_at-start half.base at (space_of half).cells (laid-used half h) (subst P (sym is) starts))

-- ---- a mark that is set behind all others

clear-take : (xs : List Bool) (n : ℕ) → ((k : ℕ) → get_or xs k false ≡ false) → n ≤ length xs → take n xs ≡ replicate n false
clear-take xs zero h le = refl
clear-take [] (suc n) h le = absurd (omega arith)
clear-take (x ∷ xs) (suc n) h le = ap (λ b. b ∷ take n xs) (h zero) ∙ ap (λ l. false ∷ l) (clear-take xs n (λ k. h (suc k)) (omega arith))

pub set-take : (xs : List Bool) (i n : ℕ) → ((k : ℕ) → i ≤ k → get_or xs k false ≡ false) → i < n → n ≤ length xs → take n (set xs i true) ≡ take i xs ++ true ∷ replicate (n - (i + 1)) false
set-take xs i zero h lt le = absurd (omega arith)
set-take [] i (suc n) h lt le = absurd (omega arith)
set-take (x ∷ xs) zero (suc n) h lt le =
    let count : n ≡ suc n - (0 + 1) = omega arith in
    ap (λ l. true ∷ l) (clear-take xs n (λ k. h (suc k) (omega arith)) (omega arith) ∙ ap (λ k. replicate k false) count)
set-take (x ∷ xs) (suc i) (suc n) h lt le =
    let count : n - (i + 1) ≡ suc n - (suc i + 1) = omega arith in
    ap (λ l. x ∷ l) (set-take xs i n (λ k past. h (suc k) (omega arith)) (omega arith) (omega arith) ∙ ap (λ k. take i xs ++ true ∷ replicate k false) count)

-- the marks after a cell is added, up to its end and behind it
pub pushed-marks : (half : Inside) → IsHalf half → (marks : List Bool) (count : ℕ) → marks ≡ set half.starts half.used true → 1 ≤ count → half.used + count ≤ half.size → take (half.used + count) marks ≡ take half.used half.starts ++ true ∷ replicate (half.used + count - (half.used + 1)) false
pushed-marks half h marks count is some room =
    ap (λ l. take (half.used + count) l) is ∙ set-take half.starts half.used (half.used + count) h.rest (omega arith) (omega (arith, h.marks))

pub pushed-rest : (half : Inside) → IsHalf half → (marks : List Bool) (count : ℕ) → marks ≡ set half.starts half.used true → 1 ≤ count → (k : ℕ) → half.used + count ≤ k → get_or marks k false ≡ false
pushed-rest half h marks count is some k past =
    let other : k ≢ half.used = omega arith in
    ap (λ l. get_or l k false) is ∙ get_or-set_other half.starts half.used k true false other ∙ h.rest k (omega arith)
