-- What the two parts hold together: sixteen globals from 2 ^ 32 on, and the cells of a heap.
use Rattle.std.specs.Prelude.{◌≡◌, ℕ, ◌+◌, ◌-◌, ◌^◌, ◌<◌, Bool, true, false, ◌&&◌, not, nat_le, nat_lt, if◌then◌else◌, List, Option, Some, is_some, IsSome, IsTrue, slice_index}
use Rattle.std.specs.List.{AllByRecursion}
use Rattle.std.proofs.Common.{refl, arith, cond}
use Rattle.std.proofs.lemmas.Bool.{and_parts}
use Rattle.std.proofs.lemmas.Bool.Decides.{nat_tests}
use Rattle.m3_heap.specs.Cells.{Cell, cell_word_at, is_start, is_writable, IsInHeap}
use Rattle.m3_heap.specs.CellWords.{word_low}

-- an address is that of a global
abbrev pub is_global : ℕ → Bool
is_global at = nat_le (2 ^ 32) at && nat_lt at (2 ^ 32 + 16)

abbrev pub holds_in : List ℕ → List Cell → ℕ → Option ℕ
holds_in globals cells at = if is_global at then Some (slice_index globals (at - 2 ^ 32)) else cell_word_at cells at

abbrev pub can_set : List Cell → ℕ → Bool
can_set cells at = if is_global at then true else is_writable cells at

readable-by : (b : Bool) (o : Option ℕ) (word : ℕ) (c : Bool) → (c ≡ true → is_some o ≡ true) → IsTrue (cond b true c) → IsSome (cond b (Some word) o)
readable-by true o word c h t = refl
readable-by false o word c h t = h t

pub readable_in : (globals : List ℕ) (cells : List Cell) (at : ℕ) → IsTrue (can_set cells at) → IsSome (holds_in globals cells at)
readable_in globals cells at h =
    readable-by (is_global at) (cell_word_at cells at) (slice_index globals (at - 2 ^ 32)) (is_writable cells at)
    (λ e. (and_parts (is_some (cell_word_at cells at)) (not (is_start cells at)) e).0) h

low-by : (b : Bool) (o : Option ℕ) (word at : ℕ) → (b ≡ true → at < 2 ^ 63) → (is_some o ≡ true → at < 2 ^ 63) → IsSome (cond b (Some word) o) → at < 2 ^ 63
low-by true o word at g h e = g refl
low-by false o word at g h e = h e

global-low : (at : ℕ) → is_global at ≡ true → at < 2 ^ 63
global-low at e = grind (arith, nat_tests)

pub low_in : (globals : List ℕ) (cells : List Cell) → AllByRecursion IsInHeap cells → (at : ℕ) → IsSome (holds_in globals cells at) → at < 2 ^ 63
low_in globals cells h at e =
    low-by (is_global at) (cell_word_at cells at) (slice_index globals (at - 2 ^ 32)) at (global-low at) (λ some. (word_low cells at h some).1) e
