-- Where a word outside the stacks is, and what is there after one was set.
use Rattle.std.specs.Prelude.{ℕ, ◌≡◌, ◌≢◌, ◌+◌, ◌-◌, ◌^◌, ◌%◌, ◌<◌, ◌≤◌, ◌==◌, not, true, false, List, length, slice_get, slice_set, Option, Some, is_some, ◌&&◌}
use Rattle.std.specs.List.{AllByRecursion}
use Rattle.std.proofs.Common.{sym, ap, ◌∙◌, arith, cond, ⊎_elim, length-set}
use Rattle.std.proofs.lemmas.Bool.{cases_Bool, cases_eq, eq-eqb, ne_eqb}
use Rattle.std.proofs.lemmas.Bool.Decides.{nat_tests}
use Rattle.m3_heap.specs.Cells.{Cell, cell_word_at, is_start, is_writable, IsInHeap}
use Rattle.m3_heap.specs.CellWords.{set_get_same, set_get_other}
use Rattle.m3_run_memory.specs.Addresses.{globals_base, constants_base, is_from, outside_of, settable_of}
use Rattle.m3_run_memory.specs.OutsideLaws.{no_cell}

-- the place of an address among the globals, as 64 bits compute it
pub placed : (at words : ℕ) → at < 18446744073709551616 → words < 4294967296 → (at + 18446744069414584320) % 18446744073709551616 < words → (is_from globals_base words at ≡ true) × ((at + 18446744069414584320) % 18446744073709551616 ≡ at - 4294967296)
placed at words fits few h = (grind (arith, nat_tests), omega arith)

pub unplaced : (at words : ℕ) → at < 18446744073709551616 → words < 4294967296 → words ≤ (at + 18446744069414584320) % 18446744073709551616 → is_from globals_base words at ≡ false
unplaced at words fits few h = grind (arith, nat_tests)

-- what stands where no global is, or at the first
pub not-settable : (globals : ℕ) (cells : List Cell) (at : ℕ) → AllByRecursion IsInHeap cells → at < 2 ^ 60 → is_from globals_base globals at ≡ false → settable_of globals cells at ≡ false
not-settable globals cells at h low miss =
    ap (λ b. cond b (not (at == globals_base)) (is_writable cells at)) miss ∙ ap (λ (o : Option ℕ). is_some o && not (is_start cells at)) (no_cell cells at h low)

pub first-not-settable : (globals : ℕ) (cells : List Cell) (at : ℕ) → AllByRecursion IsInHeap cells → at ≡ 4294967296 → settable_of globals cells at ≡ false
first-not-settable globals cells at h first = ⊎_elim
    (λ (hit : is_from globals_base globals at ≡ true). ap (λ b. cond b (not (at == globals_base)) (is_writable cells at)) hit ∙ ap not (eq-eqb at globals_base first))
    (λ (miss : is_from globals_base globals at ≡ false). not-settable globals cells at h (omega arith) miss)
    (cases_Bool (is_from globals_base globals at))

-- a global that was set
pub global_stored : (globals constants : List ℕ) (cells : List Cell) (at w x : ℕ) → is_from globals_base (length globals) at ≡ true → outside_of (slice_set globals (at - globals_base) w) constants cells x ≡ cond (x == at) (Some w) (outside_of globals constants cells x)
global_stored globals constants cells at w x there =
    let rest = cond (is_from constants_base (length constants) x) (slice_get constants (x - constants_base)) (cell_word_at cells x) in
    let set = slice_set globals (at - globals_base) w in
    let start : outside_of set constants cells x ≡ cond (is_from globals_base (length globals) x) (slice_get set (x - globals_base)) rest = ap (λ n. cond (is_from globals_base n x) (slice_get set (x - globals_base)) rest) (length-set globals (at - globals_base) w) in
    start ∙ ⊎_elim
    (λ (same : x ≡ at).
    let within : at - globals_base < length globals = grind (arith, nat_tests) in
    ap (λ y. cond (is_from globals_base (length globals) y) (slice_get set (y - globals_base)) rest) same
    ∙ ap (λ b. cond b (slice_get set (at - globals_base)) rest) there ∙ set_get_same globals (at - globals_base) w within
    ∙ sym (ap (λ b. cond b (Some w) (outside_of globals constants cells x)) (eq-eqb x at same)))
    (λ (other : x ≢ at).
    ⊎_elim
    (λ (hit : is_from globals_base (length globals) x ≡ true).
    let apart : x - globals_base ≢ at - globals_base = λ e. other (grind (arith, nat_tests)) in
    ap (λ o. cond (is_from globals_base (length globals) x) o rest) (set_get_other globals (at - globals_base) (x - globals_base) w apart))
    (λ (miss : is_from globals_base (length globals) x ≡ false). ap (λ b. cond b (slice_get set (x - globals_base)) rest) miss ∙ sym (ap (λ b. cond b (slice_get globals (x - globals_base)) rest) miss))
    (cases_Bool (is_from globals_base (length globals) x))
    ∙ sym (ap (λ b. cond b (Some w) (outside_of globals constants cells x)) (ne_eqb x at other)))
    (cases_eq x at)

from-below : (base words x : ℕ) → is_from base words x ≡ true → base + words ≤ 2 ^ 60 → x < 2 ^ 60
from-below base words x e h = grind (arith, nat_tests)

-- a word of a cell that was set
pub cell_stored : (globals constants : List ℕ) (cells new : List Cell) (at w x : ℕ) → length globals < 4294967296 → length constants < 4294967296 → 2 ^ 60 ≤ at → ((y : ℕ) → cell_word_at new y ≡ cond (y == at) (Some w) (cell_word_at cells y)) → outside_of globals constants new x ≡ cond (x == at) (Some w) (outside_of globals constants cells x)
cell_stored globals constants cells new at w x few small high h =
    let g = slice_get globals (x - globals_base) in
    let c = slice_get constants (x - constants_base) in
    let elsewhere : x < 2 ^ 60 → cond (x == at) (Some w) (outside_of globals constants cells x) ≡ outside_of globals constants cells x = λ low. ap (λ b. cond b (Some w) (outside_of globals constants cells x)) (ne_eqb x at (λ e. omega arith)) in
    ⊎_elim
    (λ (hit : is_from globals_base (length globals) x ≡ true).
    ap (λ b. cond b g (cond (is_from constants_base (length constants) x) c (cell_word_at new x))) hit
    ∙ sym (elsewhere (from-below globals_base (length globals) x hit (omega arith)) ∙ ap (λ b. cond b g (cond (is_from constants_base (length constants) x) c (cell_word_at cells x))) hit))
    (λ (miss : is_from globals_base (length globals) x ≡ false).
    ap (λ b. cond b g (cond (is_from constants_base (length constants) x) c (cell_word_at new x))) miss
    ∙ ⊎_elim
    (λ (hit : is_from constants_base (length constants) x ≡ true).
    ap (λ b. cond b c (cell_word_at new x)) hit
    ∙ sym (elsewhere (from-below constants_base (length constants) x hit (omega arith)) ∙ ap (λ b. cond b g (cond (is_from constants_base (length constants) x) c (cell_word_at cells x))) miss ∙ ap (λ b. cond b c (cell_word_at cells x)) hit))
    (λ (past : is_from constants_base (length constants) x ≡ false).
    ap (λ b. cond b c (cell_word_at new x)) past ∙ h x
    ∙ ap (λ o. cond (x == at) (Some w) o) (sym (ap (λ b. cond b g (cond (is_from constants_base (length constants) x) c (cell_word_at cells x))) miss ∙ ap (λ b. cond b c (cell_word_at cells x)) past)))
    (cases_Bool (is_from constants_base (length constants) x)))
    (cases_Bool (is_from globals_base (length globals) x))
