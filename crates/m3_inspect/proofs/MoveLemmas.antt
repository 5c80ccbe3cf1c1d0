-- Cells that move: no two references become the same, none becomes NIL, and cells keep their numbers.
use Rattle.std.proofs.Common.{◌≡◌, ℕ, suc, ◌<◌, ◌≤◌, ◌==◌, Bool, true, false, if◌then◌else◌, List, [], ◌∷◌, map, Some, inl, inr, refl, sym, ap, ◌∙◌, arith}
use Rattle.std.specs.Prelude.{nat_lt}
use Rattle.std.specs.List.{AllByRecursion}
use Rattle.std.proofs.lemmas.Bool.{cases_lt}
use Rattle.std.proofs.lemmas.Bool.Decides.{nat_tests}
use Rattle.m3_tables.proofs.KeepingLemmas.{choice}
use Rattle.m3_heap.specs.Cells.{heap_base}
use Rattle.m3_heap.specs.Moves.{Move, new_start, is_kept, forwarded, DiffersFrom, AreOneToOne}
use Rattle.m3_threads.proofs.Places.{some_same}
use Rattle.m3_roots.proofs.VisitLemmas.{IsKnown}
use Rattle.m3_inspect.specs.declared.values.Value.{Value}
use Rattle.m3_inspect.specs.declared.values.VarValue.{VarValue}
use Rattle.m3_inspect.specs.Standing.{Holding}
use Rattle.m3_inspect.specs.Shown.{with_cell, cell_number, value_of, cells_with, shown_var, shown_vars, cells_after}

-- ---- where cells go

-- a forwarding list: it is one to one, and each cell goes where heaps lie
pub record AreSoundMoves (moves : List Move) : Type 0 where
  pub one_to_one : AreOneToOne moves
  pub high : AllByRecursion (λ m. heap_base ≤ m.to) moves

not_there : (m : Move) (ms : List Move) → AllByRecursion (DiffersFrom m) ms → (at : ℕ) → new_start ms at ≡ Some m.to → ⊥
not_there m [] h at e = absurd cc
not_there m (d ∷ ms) h at e = elim (choice (d.from == at)) [
  | inl here ↦ (let f : Some d.to ≡ Some m.to = rw here at e in h.0.1 (sym (some_same f)))
  | inr other ↦ not_there m ms h.1 at (rw other at e)
]

from_once : (moves : List Move) → AreOneToOne moves → (a b x : ℕ) → new_start moves a ≡ Some x → new_start moves b ≡ Some x → a ≡ b
from_once [] h a b x e f = absurd cc
from_once (m ∷ ms) h a b x e f = elim (choice (m.from == a)) [
  | inl here ↦ (elim (choice (m.from == b)) [
    | inl too ↦ (let p : m.from ≡ a = grind (arith, nat_tests) in let q : m.from ≡ b = grind (arith, nat_tests) in sym p ∙ q)
    | inr later ↦ (let g : Some m.to ≡ Some x = rw here at e in let k = rw later at f in absurd (not_there m ms h.0 b (k ∙ sym g)))
  ])
  | inr later ↦ (elim (choice (m.from == b)) [
    | inl here ↦ (let g : Some m.to ≡ Some x = rw here at f in let k = rw later at e in absurd (not_there m ms h.0 a (k ∙ sym g)))
    | inr too ↦ (let g = rw later at e in let k = rw too at f in from_once ms h.1 a b x g k)
  ])
]

-- where the cell goes that starts at an address
pub record GoesTo (moves : List Move) (at : ℕ) : Type 0 where
  pub to : ℕ
  pub goes : new_start moves at ≡ Some to
  pub high : heap_base ≤ to

kept_goes : (moves : List Move) → AllByRecursion (λ m. heap_base ≤ m.to) moves → (at : ℕ) → is_kept moves at ≡ true → GoesTo moves at
kept_goes [] high at h = absurd cc
kept_goes (m ∷ ms) high at h = elim (choice (m.from == at)) [
  | inl here ↦ record { to = m.to; goes = rw here refl; high = high.0 }
  | inr other ↦ (let rest = kept_goes ms high.1 at (rw other at h) in record { to = rest.to; goes = rw other rest.goes; high = rest.high })
]

low_stays : (moves : List Move) (word : ℕ) → word < heap_base → forwarded moves word ≡ word
low_stays moves word lt = let e : nat_lt word heap_base ≡ true = grind (arith, nat_tests) in rw e refl

-- a known word stays below the heaps, or follows its cell there
pub data Follows (moves : List Move) (word : ℕ) : Type 0 where
  stays : word < heap_base → forwarded moves word ≡ word → Follows moves word
  follows : (to : ℕ) → heap_base ≤ word → new_start moves word ≡ Some to → heap_base ≤ to → forwarded moves word ≡ to → Follows moves word

follows_cell : (moves : List Move) (word : ℕ) → heap_base ≤ word → GoesTo moves word → Follows moves word
follows_cell moves word past g =
    let e : nat_lt word heap_base ≡ false = grind (arith, nat_tests) in
    follows g.to past g.goes g.high (rw (e, g.goes) refl)

known_follows : (moves : List Move) → AreSoundMoves moves → (word : ℕ) → IsKnown moves word → Follows moves word
known_follows moves sound word (inl low) = stays low (low_stays moves word low)
known_follows moves sound word (inr kept) = elim (cases_lt word heap_base) [
  | inl low ↦ stays low (low_stays moves word low)
  | inr past ↦ follows_cell moves word past (kept_goes moves sound.high word kept)
]

once_by : (moves : List Move) → AreSoundMoves moves → (a b : ℕ) → Follows moves a → Follows moves b → forwarded moves a ≡ forwarded moves b → a ≡ b
once_by moves sound a b (stays low e) (stays under f) same = sym e ∙ same ∙ f
once_by moves sound a b (stays low e) (follows to past g high f) same = absurd (omega (arith, e, f, same))
once_by moves sound a b (follows to past g high e) (stays low f) same = absurd (omega (arith, e, f, same))
once_by moves sound a b (follows to past g high e) (follows up over k top f) same =
    let alike : to ≡ up = sym e ∙ same ∙ f in
    from_once moves sound.one_to_one a b up (g ∙ ap Some alike) k

nil_by : (moves : List Move) (word : ℕ) → Follows moves word → (forwarded moves word == 0) ≡ (word == 0)
nil_by moves word (stays low e) = ap (λ (n : ℕ). n == 0) e
nil_by moves word (follows to past g high e) =
    let a : (to == 0) ≡ false = grind (arith, nat_tests) in
    let b : (word == 0) ≡ false = grind (arith, nat_tests) in
    ap (λ (n : ℕ). n == 0) e ∙ a ∙ sym b

test_of : (a b c d : ℕ) → (a ≡ b → c ≡ d) → (c ≡ d → a ≡ b) → (a == b) ≡ (c == d)
test_of a b c d to from = elim (choice (a == b)) [
  | inl same ↦ (let e : a ≡ b = grind (arith, nat_tests) in let f = to e in let g : (c == d) ≡ true = grind (arith, nat_tests) in same ∙ sym g)
  | inr other ↦ (elim (choice (c == d)) [
    | inl same ↦ (let e : c ≡ d = grind (arith, nat_tests) in let f = from e in let g : (a == b) ≡ true = grind (arith, nat_tests) in g ∙ sym same)
    | inr too ↦ other ∙ sym too
  ])
]

same_test : (moves : List Move) → AreSoundMoves moves → (a b : ℕ) → IsKnown moves a → IsKnown moves b → (forwarded moves a == forwarded moves b) ≡ (a == b)
same_test moves sound a b h k =
    test_of (forwarded moves a) (forwarded moves b) a b (once_by moves sound a b (known_follows moves sound a h) (known_follows moves sound b k)) (λ e. ap (forwarded moves) e)

-- ---- the numbers of cells

abbrev pub AllKnown : List Move → List ℕ → Type 0
AllKnown moves cells = AllByRecursion (IsKnown moves) cells

number_moved : (moves : List Move) → AreSoundMoves moves → (cells : List ℕ) → AllKnown moves cells → (word : ℕ) → IsKnown moves word → cell_number (map (forwarded moves) cells) (forwarded moves word) ≡ cell_number cells word
number_moved moves sound [] known word h = refl
number_moved moves sound (c ∷ cs) known word h =
    ap (λ (b : Bool). if b then 1 else suc (cell_number (map (forwarded moves) cs) (forwarded moves word))) (same_test moves sound word c h known.0)
    ∙ ap (λ (n : ℕ). if word == c then 1 else suc n) (number_moved moves sound cs known.1 word h)

with_either : (moves : List Move) (c : ℕ) (cells more : List ℕ) (b : Bool) → (if b then forwarded moves c ∷ map (forwarded moves) cells else forwarded moves c ∷ map (forwarded moves) more) ≡ map (forwarded moves) (if b then c ∷ cells else c ∷ more)
with_either moves c cells more true = refl
with_either moves c cells more false = refl

with_moved : (moves : List Move) → AreSoundMoves moves → (cells : List ℕ) → AllKnown moves cells → (word : ℕ) → IsKnown moves word → with_cell (map (forwarded moves) cells) (forwarded moves word) ≡ map (forwarded moves) (with_cell cells word)
with_moved moves sound [] known word h = refl
with_moved moves sound (c ∷ cs) known word h =
    let goes = forwarded moves in
    ap (λ (b : Bool). if b then goes c ∷ map goes cs else goes c ∷ with_cell (map goes cs) (goes word)) (same_test moves sound word c h known.0)
    ∙ ap (λ (ks : List ℕ). if word == c then goes c ∷ map goes cs else goes c ∷ ks) (with_moved moves sound cs known.1 word h)
    ∙ with_either moves c cs (with_cell cs word) (word == c)

with_known : (moves : List Move) (cells : List ℕ) → AllKnown moves cells → (word : ℕ) → IsKnown moves word → AllKnown moves (with_cell cells word)
with_known moves [] known word h = (h, tt)
with_known moves (c ∷ cs) known word h = elim (choice (word == c)) [
  | inl same ↦ rw same known
  | inr other ↦ rw other (known.0, with_known moves cs known.1 word h)
]

-- ---- variables

-- what a variable holds once cells have moved, and that its cell is among them
abbrev pub moved_holding : List Move → Holding → Holding
moved_holding moves h = record { var = h.var; form = h.form; word = if h.form == 0 then h.word else forwarded moves h.word }

abbrev pub IsKnownHolding : List Move → Holding → Type 0
IsKnownHolding moves h = (h.form == 0) ≡ false → IsKnown moves h.word

value_moved : (moves : List Move) → AreSoundMoves moves → (cells : List ℕ) → AllKnown moves cells → (h : Holding) → IsKnownHolding moves h → value_of (map (forwarded moves) cells) h.form (moved_holding moves h).word ≡ value_of cells h.form h.word
value_moved moves sound cells known h k = elim (choice (h.form == 0)) [
  | inl ordinal ↦ rw ordinal refl
  | inr reference ↦ (
      let here = k reference in
      let nil = nil_by moves h.word (known_follows moves sound h.word here) in
      let number = number_moved moves sound cells known h.word here in
      rw (reference, nil, number) refl)
]

cells_moved : (moves : List Move) → AreSoundMoves moves → (cells : List ℕ) → AllKnown moves cells → (h : Holding) → IsKnownHolding moves h → cells_with (map (forwarded moves) cells) h.form (moved_holding moves h).word ≡ map (forwarded moves) (cells_with cells h.form h.word)
cells_moved moves sound cells known h k = elim (choice (h.form == 0)) [
  | inl ordinal ↦ rw ordinal refl
  | inr reference ↦ (
      let here = k reference in
      let nil = nil_by moves h.word (known_follows moves sound h.word here) in
      let more = with_moved moves sound cells known h.word here in
      elim (choice (h.word == 0)) [
        | inl none ↦ (let zero = nil ∙ none in rw (reference, zero, none) refl)
        | inr some ↦ (let zero = nil ∙ some in rw (reference, zero, some) more)
      ])
]

cells_known : (moves : List Move) (cells : List ℕ) → AllKnown moves cells → (h : Holding) → IsKnownHolding moves h → AllKnown moves (cells_with cells h.form h.word)
cells_known moves cells known h k = elim (choice (h.form == 0)) [
  | inl ordinal ↦ rw ordinal known
  | inr reference ↦ (elim (choice (h.word == 0)) [
    | inl none ↦ rw (reference, none) known
    | inr some ↦ rw (reference, some) (with_known moves cells known h.word (k reference))
  ])
]

pub shown_moved : (moves : List Move) → AreSoundMoves moves → (cells : List ℕ) → AllKnown moves cells → (hs : List Holding) → AllByRecursion (IsKnownHolding moves) hs → shown_vars (map (forwarded moves) cells) (map (moved_holding moves) hs) ≡ shown_vars cells hs
shown_moved moves sound cells known [] k = refl
shown_moved moves sound cells known (h ∷ hs) k =
    let value = value_moved moves sound cells known h k.0 in
    let more = cells_moved moves sound cells known h k.0 in
    let rest = shown_moved moves sound (cells_with cells h.form h.word) (cells_known moves cells known h k.0) hs k.1 in
    ap (λ (v : Value). (record { var = h.var; value = v }) ∷ shown_vars (cells_with (map (forwarded moves) cells) h.form (moved_holding moves h).word) (map (moved_holding moves) hs)) value
    ∙ ap (λ (cs : List ℕ). shown_var cells h ∷ shown_vars cs (map (moved_holding moves) hs)) more ∙ ap (λ (vs : List VarValue). shown_var cells h ∷ vs) rest

pub after_moved : (moves : List Move) → AreSoundMoves moves → (cells : List ℕ) → AllKnown moves cells → (hs : List Holding) → AllByRecursion (IsKnownHolding moves) hs → cells_after (map (forwarded moves) cells) (map (moved_holding moves) hs) ≡ map (forwarded moves) (cells_after cells hs)
after_moved moves sound cells known [] k = refl
after_moved moves sound cells known (h ∷ hs) k =
    ap (λ (cs : List ℕ). cells_after cs (map (moved_holding moves) hs)) (cells_moved moves sound cells known h k.0) ∙ after_moved moves sound (cells_with cells h.form h.word) (cells_known moves cells known h k.0) hs k.1

pub after_known : (moves : List Move) (cells : List ℕ) → AllKnown moves cells → (hs : List Holding) → AllByRecursion (IsKnownHolding moves) hs → AllKnown moves (cells_after cells hs)
after_known moves cells known [] k = known
after_known moves cells known (h ∷ hs) k = after_known moves (cells_with cells h.form h.word) (cells_known moves cells known h k.0) hs k.1
