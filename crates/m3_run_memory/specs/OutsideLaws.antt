-- The laws of the memory outside the stacks.
use Rattle.std.specs.Prelude.{ℕ, ◌≡◌, ◌+◌, ◌-◌, ◌^◌, ◌<◌, ◌≤◌, ◌==◌, not, true, false, List, length, slice_get, Option, Some, None, is_some, IsSome, IsTrue}
use Rattle.std.specs.List.{AllByRecursion}
use Rattle.std.proofs.Common.{refl, sym, ap, ◌∙◌, arith, cond, ⊎_elim}
use Rattle.std.proofs.lemmas.Bool.{and_parts, cases_Bool, cases_lt}
use Rattle.std.proofs.lemmas.Bool.Decides.{nat_tests}
use Rattle.std.proofs.lemmas.Option.{slice_get-get_or, slice_get_past}
use Rattle.m3_heap.specs.Cells.{Cell, cell_word_at, is_start, is_writable, IsInHeap}
use Rattle.m3_heap.specs.CellWords.{word_low}
use Rattle.m3_heap.specs.Heap.{Heap}
use Rattle.m3_run_memory.specs.Addresses.{globals_base, constants_base, is_from, outside_of, settable_of}
use Rattle.m3_run_memory.specs.Kept.{KeepsOutside}

-- a place of a list has an element
there : (words : List ℕ) (base at : ℕ) → is_from base (length words) at ≡ true → is_some (slice_get words (at - base)) ≡ true
there words base at e =
    let within : at - base < length words = grind (arith, nat_tests) in
    ap is_some (slice_get-get_or words (at - base) 0 within)

from-low : (base words at : ℕ) → is_from base words at ≡ true → base + words ≤ 2 ^ 60 → at < 2 ^ 60
from-low base words at e h = grind (arith, nat_tests)

not-from : (base words at : ℕ) → base + words ≤ at → is_from base words at ≡ false
not-from base words at h = grind (arith, nat_tests)

not-yet : (base words at : ℕ) → at < base → is_from base words at ≡ false
not-yet base words at h = grind (arith, nat_tests)

none-here : (o : Option ℕ) → (is_some o ≡ true → ⊥) → o ≡ None
none-here None h = refl
none-here (Some x) h = absurd (h refl)

pub no_cell : (cells : List Cell) (at : ℕ) → AllByRecursion IsInHeap cells → at < 2 ^ 60 → cell_word_at cells at ≡ None
no_cell cells at h low = none-here (cell_word_at cells at) (λ some. let high = (word_low cells at h some).0 in absurd (omega arith))

-- an address where heaps lie is no global and no constant
pub at_heap : (globals constants : List ℕ) (cells : List Cell) (at : ℕ) → length globals < 4294967296 → length constants < 4294967296 → 2 ^ 60 ≤ at → outside_of globals constants cells at ≡ cell_word_at cells at
at_heap globals constants cells at few small high =
    ap (λ b. cond b (slice_get globals (at - globals_base)) (cond (is_from constants_base (length constants) at) (slice_get constants (at - constants_base)) (cell_word_at cells at))) (not-from globals_base (length globals) at (omega arith))
    ∙ ap (λ b. cond b (slice_get constants (at - constants_base)) (cell_word_at cells at)) (not-from constants_base (length constants) at (omega arith))

past-from : (base words at : ℕ) → base ≤ at → is_from base words at ≡ false → words ≤ at - base
past-from base words at high e = grind (arith, nat_tests)

-- one below it is no cell's
pub at_constant : (globals constants : List ℕ) (cells : List Cell) (at : ℕ) → AllByRecursion IsInHeap cells → length globals < 4294967296 → 2 ^ 50 ≤ at → at < 2 ^ 60 → outside_of globals constants cells at ≡ slice_get constants (at - 2 ^ 50)
at_constant globals constants cells at h few high low =
    ap (λ b. cond b (slice_get globals (at - globals_base)) (cond (is_from constants_base (length constants) at) (slice_get constants (at - constants_base)) (cell_word_at cells at))) (not-from globals_base (length globals) at (omega arith))
    ∙ ⊎_elim
    (λ (hit : is_from constants_base (length constants) at ≡ true). ap (λ b. cond b (slice_get constants (at - constants_base)) (cell_word_at cells at)) hit)
    (λ (miss : is_from constants_base (length constants) at ≡ false).
    ap (λ b. cond b (slice_get constants (at - constants_base)) (cell_word_at cells at)) miss ∙ no_cell cells at h low
    ∙ sym (slice_get_past constants (at - 2 ^ 50) (past-from constants_base (length constants) at high miss)))
    (cases_Bool (is_from constants_base (length constants) at))

pub at_global : (globals constants : List ℕ) (cells : List Cell) (at : ℕ) → AllByRecursion IsInHeap cells → at < 2 ^ 50 → is_from globals_base (length globals) at ≡ true → outside_of globals constants cells at ≡ slice_get globals (at - 2 ^ 32)
at_global globals constants cells at h low hit = ap (λ b. cond b (slice_get globals (at - globals_base)) (cond (is_from constants_base (length constants) at) (slice_get constants (at - constants_base)) (cell_word_at cells at))) hit

pub at_nothing : (globals constants : List ℕ) (cells : List Cell) (at : ℕ) → AllByRecursion IsInHeap cells → at < 2 ^ 50 → is_from globals_base (length globals) at ≡ false → outside_of globals constants cells at ≡ None
at_nothing globals constants cells at h low miss =
    ap (λ b. cond b (slice_get globals (at - globals_base)) (cond (is_from constants_base (length constants) at) (slice_get constants (at - constants_base)) (cell_word_at cells at))) miss
    ∙ ap (λ b. cond b (slice_get constants (at - constants_base)) (cell_word_at cells at)) (not-yet constants_base (length constants) at low) ∙ no_cell cells at h (omega arith)

pub readable_outside : (globals constants : List ℕ) (cells : List Cell) (at : ℕ) → AllByRecursion IsInHeap cells → length globals < 4294967296 → length constants < 4294967296 → IsTrue (settable_of (length globals) cells at) → IsSome (outside_of globals constants cells at)
readable_outside globals constants cells at h few small e = ⊎_elim
    (λ (hit : is_from globals_base (length globals) at ≡ true).
    ap (λ b. is_some (cond b (slice_get globals (at - globals_base)) (cond (is_from constants_base (length constants) at) (slice_get constants (at - constants_base)) (cell_word_at cells at)))) hit
    ∙ there globals globals_base at hit)
    (λ (miss : is_from globals_base (length globals) at ≡ false).
    let can : is_writable cells at ≡ true = sym (ap (λ b. cond b (not (at == globals_base)) (is_writable cells at)) miss) ∙ e in
    let present = (and_parts (is_some (cell_word_at cells at)) (not (is_start cells at)) can).0 in
    ap is_some (at_heap globals constants cells at few small (word_low cells at h present).0) ∙ present)
    (cases_Bool (is_from globals_base (length globals) at))

pub low_outside : (globals constants : List ℕ) (cells : List Cell) (at : ℕ) → AllByRecursion IsInHeap cells → length globals < 4294967296 → length constants < 4294967296 → IsSome (outside_of globals constants cells at) → at < 2 ^ 63
low_outside globals constants cells at h few small e = ⊎_elim
    (λ (low : at < 2 ^ 60). omega arith)
    (λ (high : 2 ^ 60 ≤ at). (word_low cells at h (sym (ap is_some (at_heap globals constants cells at few small high)) ∙ e)).1)
    (cases_lt at (2 ^ 60))

pub outside_keeps_itself : (globals constants : List ℕ) (heap : Heap) → KeepsOutside globals globals constants constants heap heap
outside_keeps_itself globals constants heap = record { count = refl; same_constants = refl; rest = record { same_layout = refl; rest = refl; watched = λ e. refl } }

again : Heap → Heap → Heap
again heap new = record heap { cells = new.cells; watched = new.watched }

pub outside_keeps_on : (g g' g'' c c' c'' : List ℕ) (s t u : Heap) → KeepsOutside g g' c c' s t → KeepsOutside g' g'' c' c'' t u → KeepsOutside g g'' c c'' s u
unfolding again
outside_keeps_on g g' g'' c c' c'' s t u p q = record {
  count = q.count ∙ p.count;
  same_constants = q.same_constants ∙ p.same_constants;
  rest = record {
    same_layout = q.rest.same_layout ∙ p.rest.same_layout;
    rest = q.rest.rest ∙ ap (λ (h : Heap). again h u) p.rest.rest;
    watched = λ e. q.rest.watched (ap (λ (h : Heap). h.nursery) p.rest.rest ∙ e) ∙ p.rest.watched e;
  };
}
