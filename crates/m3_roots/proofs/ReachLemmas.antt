-- What is reached from the roots is what is reached from the cells that were kept when all roots were visited.
use Rattle.std.proofs.Common.{◌≡◌, ◌⊎◌, ℕ, zero, suc, ◌<◌, ◌≤◌, Bool, true, false, List, [], ◌∷◌, ◌++◌, length, get_or, Some, refl, ap, ◌∙◌, inl, inr, subst, arith}
use Rattle.std.specs.Prelude.{◌==◌, Contains, nat_lt, if◌then◌else◌}
use Rattle.std.specs.List.{AllByRecursion}
use Rattle.std.proofs.lemmas.Bool.Decides.{nat_tests}
use Rattle.m3_tables.specs.Numbers.{has}
use Rattle.m3_tables.proofs.KeepingLemmas.{choice}
use Rattle.m3_heap.specs.Cells.{Cell, heap_base, cell_from, is_start, IsInHeap}
use Rattle.m3_heap.specs.Shapes.{Shape}
use Rattle.m3_heap.specs.Moves.{Move, is_kept, new_start, forwarded, kept_starts, staying}
use Rattle.m3_heap.specs.Reach.{IsWordAfter, IsReachable, HasBadPointer}
use Rattle.m3_roots.proofs.WordLemmas.{has_first, has_more}
use Rattle.m3_roots.proofs.MarkLemmas.{has_cases}
use Rattle.m3_roots.proofs.VisitLemmas.{Grew, IsKnown}

-- ---- members

pub contains_first : (x : ℕ) (xs : List ℕ) → Contains (x ∷ xs) x
contains_first x xs = (0, omega arith, refl)

pub contains_later : (x y : ℕ) (xs : List ℕ) → Contains xs y → Contains (x ∷ xs) y
contains_later x y xs h = (suc h.0, omega arith, h.2)

pub contains_has : (xs : List ℕ) (n : ℕ) → has xs n ≡ true → Contains xs n
contains_has [] n h = absurd cc
contains_has (x ∷ xs) n h = elim (has_cases x n xs h) [ inl same ↦ subst (λ (m : ℕ). Contains (x ∷ xs) m) same (contains_first x xs) | inr more ↦ contains_later x n xs (contains_has xs n more) ]

has_at : (xs : List ℕ) (k n : ℕ) → k < length xs → get_or xs k n ≡ n → has xs n ≡ true
has_at [] k n lt e = absurd (omega arith)
has_at (x ∷ xs) zero n lt e = let same : x ≡ n = e in rw (← same) (has_first x xs)
has_at (x ∷ xs) (suc k) n lt e = has_more x n xs (has_at xs k n (omega arith) e)

pub has_contains : (xs : List ℕ) (n : ℕ) → Contains xs n → has xs n ≡ true
has_contains xs n h = has_at xs h.0 n h.1 h.2

-- ---- cells lie where heaps lie

cell_high : (cells : List Cell) (at : ℕ) (cell : Cell) → AllByRecursion IsInHeap cells → cell_from cells at ≡ Some cell → heap_base ≤ at
cell_high [] at cell h e = absurd cc
cell_high (c ∷ cs) at cell h e = elim (choice (c.start == at)) [
  | inl here ↦ (let same : c.start ≡ at = grind (arith, nat_tests) in subst (λ (n : ℕ). heap_base ≤ n) same h.0.0)
  | inr other ↦ cell_high cs at cell h.1 (rw other at e)
]

start_high : (cells : List Cell) (at : ℕ) → AllByRecursion IsInHeap cells → is_start cells at ≡ true → heap_base ≤ at
start_high [] at h e = absurd cc
start_high (c ∷ cs) at h e = elim (choice (c.start == at)) [
  | inl here ↦ (let same : c.start ≡ at = grind (arith, nat_tests) in subst (λ (n : ℕ). heap_base ≤ n) same h.0.0)
  | inr other ↦ start_high cs at h.1 (rw other at e)
]

-- ---- other roots

-- each root that may refer to a cell is one of the others
abbrev pub Leads : List ℕ → List ℕ → Type 0
Leads roots others = (word : ℕ) → Contains roots word → (word < heap_base) ⊎ Contains others word

word_after : (shapes : List Shape) (cells : List Cell) (roots others : List ℕ) → AllByRecursion IsInHeap cells → Leads roots others → (word steps : ℕ) → heap_base ≤ word → IsWordAfter shapes cells roots word steps → IsWordAfter shapes cells others word steps
word_after shapes cells roots others high leads word zero le h = elim (leads word h) [ inl low ↦ absurd (omega arith) | inr there ↦ there ]
word_after shapes cells roots others high leads word (suc steps) le h =
    (h.0, word_after shapes cells roots others high leads h.0 steps (cell_high cells h.0 h.2.cell high h.2.starts) h.1, h.2)

pub reached_too : (shapes : List Shape) (cells : List Cell) (roots others : List ℕ) → AllByRecursion IsInHeap cells → Leads roots others → (start : ℕ) → IsReachable shapes cells roots start → IsReachable shapes cells others start
reached_too shapes cells roots others high leads start h = record {
  starts = h.starts;
  steps = h.steps;
  leads = word_after shapes cells roots others high leads start h.steps (start_high cells start high h.starts) h.leads;
}

pub bad_too : (shapes : List Shape) (cells : List Cell) (roots others : List ℕ) → AllByRecursion IsInHeap cells → Leads roots others → HasBadPointer shapes cells roots → HasBadPointer shapes cells others
bad_too shapes cells roots others high leads h = record {
  from = h.from;
  word = h.word;
  reached = reached_too shapes cells roots others high leads h.from h.reached;
  pointer = h.pointer;
  bad = h.bad;
}

-- ---- kept cells

pub kept_has : (moves : List Move) (at : ℕ) → is_kept moves at ≡ true → has (kept_starts moves) at ≡ true
kept_has [] at h = absurd cc
kept_has (m ∷ ms) at h = elim (choice (m.from == at)) [
  | inl here ↦ (let same : m.from ≡ at = grind (arith, nat_tests) in rw (← same) (has_first m.from (kept_starts ms)))
  | inr other ↦ has_more m.from at (kept_starts ms) (kept_has ms at (rw other at h))
]

pub known_leads : (moves : List Move) (word : ℕ) → IsKnown moves word → (word < heap_base) ⊎ Contains (kept_starts moves) word
known_leads moves word (inl low) = inl low
known_leads moves word (inr kept) = inr (contains_has (kept_starts moves) word (kept_has moves word kept))

-- ---- cells that are kept unasked

pub staying_starts : (starts : List ℕ) → kept_starts (staying starts) ≡ starts
staying_starts [] = refl
staying_starts (s ∷ ss) = ap (λ (xs : List ℕ). s ∷ xs) (staying_starts ss)

stays_first : (starts : List ℕ) (more : List Move) (at : ℕ) → has starts at ≡ true → new_start (staying starts ++ more) at ≡ Some at
stays_first [] more at h = absurd cc
stays_first (s ∷ ss) more at h = elim (choice (s == at)) [
  | inl here ↦ (let same : s ≡ at = grind (arith, nat_tests) in rw here (ap Some same))
  | inr other ↦ (let k = rw other at h in rw other (stays_first ss more at k))
]

low_or : (b : Bool) (at : ℕ) → (if b then at else at) ≡ at
low_or true at = refl
low_or false at = refl

pub stays_put : (starts : List ℕ) (moves : List Move) → Grew (staying starts) moves → (at : ℕ) → has starts at ≡ true → forwarded moves at ≡ at
stays_put starts moves grew at h =
    let e : new_start moves at ≡ Some at = ap (λ (ms : List Move). new_start ms at) grew.is ∙ stays_first starts grew.more at h in
    rw e (low_or (nat_lt at heap_base) at)
