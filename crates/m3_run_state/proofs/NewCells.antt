-- The words of a cell that is new in a heap are 0 behind its header, and can be set.
use Rattle.std.specs.Prelude.{ℕ, zero, suc, ◌≡◌, ◌≢◌, ◌+◌, ◌-◌, ◌<◌, ◌≤◌, ◌^◌, ◌==◌, ◌&&◌, not, Bool, true, false, List, [], ◌∷◌, ◌++◌, length, replicate, Option, Some, None, IfSome, is_some, slice_get, slice_index, nat_le, nat_lt}
use Rattle.std.specs.List.{AllByRecursion}
use Rattle.std.proofs.Common.{refl, sym, ap, subst, ◌∙◌, arith, cond, ⊎_elim}
use Rattle.std.proofs.lemmas.Bool.{cases_eq, ne_eqb, false≢true}
use Rattle.std.proofs.lemmas.List.{length-replicate}
use Rattle.std.proofs.lemmas.Bool.Decides.{nat_tests}
use Rattle.m3_heap.specs.Cells.{Cell, covers, cell_from, cell_word_at, is_start, is_writable, new_cell, AreApart, AllApart, IsHeaded, IsInHeap, AreSound}
use Rattle.m3_heap.specs.Heap.{Heap, next_start, Allots}
use Rattle.m3_threads.specs.All.{Everyone, stack_in}
use Rattle.m3_threads.specs.Spaces.{slot_at, place_at, is_in_stack}
use Rattle.m3_image_sections.specs.Parts.{Program}
use Rattle.m3_run_memory.specs.Addresses.{globals_base, constants_base, is_from}
use Rattle.m3_run_meaning.specs.State.{State, outside, settable, memory_of, can_set}

-- a fact of all cells holds of the one in the middle
of-middle : (P : Cell → Type 0) (front back : List Cell) (cell : Cell) → AllByRecursion P (front ++ cell ∷ back) → P cell
of-middle P [] back cell h = h.0
of-middle P (x ∷ front) back cell h = of-middle P front back cell h.1

covers-first : (cell : Cell) → 1 ≤ length cell.words → covers cell cell.start ≡ true
covers-first cell h = grind (arith, nat_tests)

not-true : (b : Bool) → (b ≡ true → ⊥) → b ≡ false
not-true true h = absurd (h refl)
not-true false h = refl

-- the word of a covered address is the cell's
pub covered_word : (front back : List Cell) (cell : Cell) (at : ℕ) → AllApart (front ++ cell ∷ back) → covers cell at ≡ true → cell_word_at (front ++ cell ∷ back) at ≡ slice_get cell.words (at - cell.start)
covered_word [] back cell at apart hit = ap (λ b. cond b (slice_get cell.words (at - cell.start)) (cell_word_at back at)) hit
covered_word (x ∷ front) back cell at apart hit =
    let away : AreApart x cell = of-middle (AreApart x) front back cell apart.0 in
    let miss : covers x at ≡ false = not-true (covers x at) (λ over. false≢true (sym (away at over) ∙ hit)) in
    ap (λ b. cond b (slice_get x.words (at - x.start)) (cell_word_at (front ++ cell ∷ back) at)) miss ∙ covered_word front back cell at apart.1 hit

-- no cell behind this one begins at an address that it covers
none-behind : (back : List Cell) (cell : Cell) (at : ℕ) → AllByRecursion (AreApart cell) back → AllByRecursion IsHeaded back → covers cell at ≡ true → is_start back at ≡ false
none-behind [] cell at apart headed hit = refl
none-behind (x ∷ back) cell at apart headed hit = ⊎_elim
    (λ (same : x.start ≡ at).
    let over : covers x at ≡ true = ap (λ n. covers x n) (sym same) ∙ covers-first x headed.0.1 in
    absurd (false≢true (sym (apart.0 at hit) ∙ over)))
    (λ (other : x.start ≢ at). ap (λ b. is_some (cond b (Some x) (cell_from back at))) (ne_eqb x.start at other) ∙ none-behind back cell at apart.1 headed.1 hit)
    (cases_eq x.start at)

-- no cell begins inside of one
pub none_inside : (front back : List Cell) (cell : Cell) (at : ℕ) → AllApart (front ++ cell ∷ back) → AllByRecursion IsHeaded (front ++ cell ∷ back) → covers cell at ≡ true → cell.start ≢ at
    → is_start (front ++ cell ∷ back) at ≡ false
none_inside [] back cell at apart headed hit past =
    ap (λ b. is_some (cond b (Some cell) (cell_from back at))) (ne_eqb cell.start at past) ∙ none-behind back cell at apart.0 headed.1 hit
none_inside (x ∷ front) back cell at apart headed hit past = ⊎_elim
    (λ (same : x.start ≡ at).
    let away : AreApart x cell = of-middle (AreApart x) front back cell apart.0 in
    let over : covers x at ≡ true = ap (λ n. covers x n) (sym same) ∙ covers-first x headed.0.1 in
    absurd (false≢true (sym (away at over) ∙ hit)))
    (λ (other : x.start ≢ at).
    ap (λ b. is_some (cond b (Some x) (cell_from (front ++ cell ∷ back) at))) (ne_eqb x.start at other) ∙ none_inside front back cell at apart.1 headed.1 hit past)
    (cases_eq x.start at)

-- ---- a cell that was just made

-- no stack reaches as high as the heap
low_in_stack : (at n : ℕ) → (nat_le (2 ^ 40) at && (nat_lt (slot_at at) 64 && nat_lt (place_at at) n)) ≡ true → at < 2 ^ 60
low_in_stack at n e = grind (arith, nat_tests)

pub above_stacks : (all : Everyone) (at : ℕ) → 2 ^ 60 ≤ at → is_in_stack all at ≡ false
above_stacks all at high = not-true (is_in_stack all at) (λ e. let low = low_in_stack at (length (stack_in all (slot_at at))) e in absurd (omega (arith, low)))

pub above_parts : (base words at : ℕ) → base + words ≤ at → is_from base words at ≡ false
above_parts base words at high = not-true (is_from base words at) (λ e. grind (arith, nat_tests))

zero_at : (n k : ℕ) → k < n → slice_get {X = ℕ} (replicate n 0) k ≡ Some 0
zero_at zero k h = absurd (omega arith)
zero_at (suc n) zero h = refl
zero_at (suc n) (suc k) h = zero_at n k (omega arith)

-- the words of a new cell behind its header
blank_at : (start kind words k : ℕ) → 1 ≤ k → k < words → slice_get (new_cell start kind words).words k ≡ Some 0
blank_at start kind words zero some h = absurd (omega arith)
blank_at start kind words (suc k) some h = zero_at (words - 1) k (omega arith)

blank_length : (start kind words : ℕ) → 1 ≤ words → length (new_cell start kind words).words ≡ words
blank_length start kind words some = let e = length-replicate {A = ℕ} (words - 1) 0 in omega (arith, e)

covers_at : (cell : Cell) (words k : ℕ) → length cell.words ≡ words → k < words → covers cell (cell.start + k) ≡ true
covers_at cell words k long h = grind (arith, nat_tests)

-- the cells with a new one among them
pub record HasBlank (cells : List Cell) (start kind words : ℕ) : Type 0 where
  pub front : List Cell
  pub back : List Cell
  pub is : cells ≡ front ++ new_cell start kind words ∷ back
  pub sound : AreSound cells

in_middle : (cells : List Cell) (start kind words : ℕ) (b : HasBlank cells start kind words) → AreSound (b.front ++ new_cell start kind words ∷ b.back)
in_middle cells start kind words b = subst (λ (xs : List Cell). AreSound xs) b.is b.sound

pub blank_high : (cells : List Cell) (start kind words : ℕ) → HasBlank cells start kind words → 2 ^ 60 ≤ start
blank_high cells start kind words b = (of-middle IsInHeap b.front b.back (new_cell start kind words) (in_middle cells start kind words b).in_heap).0

pub blank_low : (cells : List Cell) (start kind words : ℕ) → HasBlank cells start kind words → 1 ≤ words → start + words ≤ 2 ^ 63
blank_low cells start kind words b some =
    let within = (of-middle IsInHeap b.front b.back (new_cell start kind words) (in_middle cells start kind words b).in_heap).1 in
    let long = blank_length start kind words some in
    omega (arith, within, long)

-- its words behind the header are 0
pub blank_word : (cells : List Cell) (start kind words k : ℕ) → HasBlank cells start kind words → 1 ≤ k → k < words → cell_word_at cells (start + k) ≡ Some 0
blank_word cells start kind words k b some within =
    let cell = new_cell start kind words in
    let place : start + k - start ≡ k = omega arith in
    ap (λ (xs : List Cell). cell_word_at xs (start + k)) b.is
    ∙ covered_word b.front b.back cell (start + k) (in_middle cells start kind words b).apart (covers_at cell words k (blank_length start kind words (omega arith)) within)
    ∙ ap (λ n. slice_get cell.words n) place ∙ blank_at start kind words k some within

-- and can be set
pub blank_writable : (cells : List Cell) (start kind words k : ℕ) → HasBlank cells start kind words → 1 ≤ k → k < words → is_writable cells (start + k) ≡ true
blank_writable cells start kind words k b some within =
    let cell = new_cell start kind words in
    let sound = in_middle cells start kind words b in
    let apart : start ≢ start + k = λ e. absurd (omega arith) in
    let inside : is_start cells (start + k) ≡ false = ap (λ (xs : List Cell). is_start xs (start + k)) b.is
    ∙ none_inside b.front b.back cell (start + k) sound.apart sound.headed (covers_at cell words k (blank_length start kind words (omega arith)) within) apart in
    ap (λ (o : Option ℕ). is_some o && not (is_start cells (start + k))) (blank_word cells start kind words k b some within) ∙ ap not inside

-- ---- the same by the addresses of a machine

pub blank_held : (p : Program) (u : State) (start kind words k : ℕ) → HasBlank u.heap.cells start kind words → length u.globals < 2 ^ 32 → length p.constants < 2 ^ 32 → 1 ≤ k → k < words
    → memory_of p u (start + k) ≡ Some 0
blank_held p u start kind words k b few small some within =
    let high : 2 ^ 60 ≤ start = blank_high u.heap.cells start kind words b in
    let at = start + k in
    ap (λ c. cond c (Some (slice_index (stack_in u.all (slot_at at)) (place_at at))) (outside p u at)) (above_stacks u.all at (omega arith))
    ∙ ap (λ c. cond c (slice_get u.globals (at - globals_base)) (cond (is_from constants_base (length p.constants) at) (slice_get p.constants (at - constants_base)) (cell_word_at u.heap.cells at)))
    (above_parts globals_base (length u.globals) at (omega arith))
    ∙ ap (λ c. cond c (slice_get p.constants (at - constants_base)) (cell_word_at u.heap.cells at)) (above_parts constants_base (length p.constants) at (omega arith))
    ∙ blank_word u.heap.cells start kind words k b some within

pub blank_can_set : (u : State) (start kind words k : ℕ) → HasBlank u.heap.cells start kind words → length u.globals < 2 ^ 32 → 1 ≤ k → k < words → can_set u (start + k) ≡ true
blank_can_set u start kind words k b few some within =
    let high : 2 ^ 60 ≤ start = blank_high u.heap.cells start kind words b in
    let at = start + k in
    ap (λ c. cond c true (settable u at)) (above_stacks u.all at (omega arith))
    ∙ ap (λ c. cond c (not (at == globals_base)) (is_writable u.heap.cells at)) (above_parts globals_base (length u.globals) at (omega arith))
    ∙ blank_writable u.heap.cells start kind words k b some within

-- ---- what a store's answer tells

-- the cells with the one that was made behind them
pub made_last : (o : Option ℕ) (kind words : ℕ) (old new : Heap) → Allots old kind words o new → IfSome o (λ start. (front : List Cell) × (back : List Cell) × (new.cells ≡ front ++ new_cell start kind words ∷ back))
made_last None kind words old new h = tt
made_last (Some start) kind words old new h =
    let cells : new.cells ≡ old.cells ++ new_cell (next_start old words) kind words ∷ [] = ap (λ (x : Heap). x.cells) h.2 in
    (old.cells, [], cells ∙ ap (λ n. old.cells ++ new_cell n kind words ∷ []) (sym h.1))

pub is_low : (o : Option ℕ) (kind words : ℕ) (old new : Heap) → Allots old kind words o new → old.free < 2 ^ 32 → AreSound new.cells → 1 ≤ words → IfSome o (λ start. (start + words ≤ 2 ^ 63) × (words < 2 ^ 32))
is_low None kind words old new h small sound some = tt
is_low (Some start) kind words old new h small sound some =
    let made = made_last (Some start) kind words old new h in
    let b : HasBlank new.cells start kind words = record { front = made.0; back = made.1; is = made.2; sound = sound } in
    (blank_low new.cells start kind words b some, omega (arith, h.0, small))
