-- A new text while it is filled: what its memory was before, and the bytes that come into it.
use Rattle.std.specs.Prelude.{ℕ, ◌≡◌, ◌+◌, ◌-◌, ◌*◌, ◌^◌, ◌<◌, ◌≤◌, true, false, List, [], length, take, drop, slice_get, slice_index, Option, None, Some}
use Rattle.std.specs.Int.{div_ceil}
use Rattle.std.proofs.Common.{refl, sym, ap, ◌∙◌, arith, cond, add-one, append-nil, length-append}
use Rattle.std.proofs.lemmas.List.{get_or_append_left, get_or-append_right, get_or_past}
use Rattle.std.proofs.lemmas.List.FromFn.{length-map-range_with_len, get_or-map-range_with_len}
use Rattle.std.proofs.lemmas.Bool.Decides.{nat_tests}
use Rattle.m3_isa.specs.Memory.{Memory}
use Rattle.m3_image_sections.specs.Parts.{Program}
use Rattle.m3_run_memory.specs.Addresses.{is_from}
use Rattle.m3_run_meaning.specs.State.{State, memory_of}
use Rattle.m3_run_meaning.specs.Texts.{text_words, text_byte, packed, text_rest}
use Rattle.m3_run_meaning.specs.NewTexts.{with_words, both}
use Rattle.m3_run_state.specs.declared.texts.Part.{Part}
use Rattle.m3_run_state.specs.Blanks.{WasBlank, part_bytes, both_bytes}
use Rattle.m3_run_state.proofs.NewCells.{HasBlank, blank_held}

-- ---- addresses of the new cell

pub inside : (start words at : ℕ) → start < at → at - start < words → is_from (start + 1) (words - 1) at ≡ true
inside start words at low high = grind (arith, nat_tests)

pub below : (start words at : ℕ) → at ≤ start → is_from (start + 1) (words - 1) at ≡ false
below start words at low = grind (arith, nat_tests)

pub above : (start words at : ℕ) → start < at → words ≤ at - start → is_from (start + 1) (words - 1) at ≡ false
above start words at low high = grind (arith, nat_tests)

low_in : (start words at : ℕ) → is_from (start + 1) (words - 1) at ≡ true → start + 1 ≤ at
low_in start words at e = grind (arith, nat_tests)

high_in : (start words at : ℕ) → is_from (start + 1) (words - 1) at ≡ true → at < start + words
high_in start words at e = grind (arith, nat_tests)

past : (from few many at : ℕ) → few ≤ many → is_from from many at ≡ false → is_from from few at ≡ false
past from few many at fits e = grind (arith, nat_tests)

-- a state in which some words of a new cell were put has the memory of the one before, but for that cell
pub was_blank : (p : Program) (u : State) (now : Memory) (start kind words : ℕ) (put : List ℕ) → HasBlank u.heap.cells start kind words → length u.globals < 2 ^ 32 → length p.constants < 2 ^ 32
    → length put ≤ words - 1 → ((x : ℕ) → now x ≡ with_words (start + 1) put (memory_of p u) x) → WasBlank start words (memory_of p u) now
was_blank p u now start kind words put b few small fits is = record {
  blank = λ at e.
      let low = low_in start words at e in
      let high = high_in start words at e in
      let place : start + (at - start) ≡ at = omega (arith, low) in
      ap (λ x. memory_of p u x) (sym place) ∙ blank_held p u start kind words (at - start) b few small (omega (arith, low)) (omega (arith, low, high));
  same = λ at e. is at ∙ ap (λ c. cond c (slice_get put (at - (start + 1))) (memory_of p u at)) (past (start + 1) (length put) (words - 1) at fits e);
}

-- ---- the bytes of one part and then another

left_length : (memory : Memory) (left : Part) → length (part_bytes memory left) ≡ left.count
left_length memory left = length-map-range_with_len (text_byte memory left.text) left.from left.count

pub both_length : (memory : Memory) (left right : Part) → length (both_bytes memory left right) ≡ left.count + right.count
both_length memory left right =
    let all = length-append (part_bytes memory left) (part_bytes memory right) in
    let l = left_length memory left in
    let r = left_length memory right in
    omega (arith, all, l, r)

pub both_left : (memory : Memory) (left right : Part) (n : ℕ) → n < left.count → slice_index (both_bytes memory left right) n ≡ text_byte memory left.text (left.from + n)
both_left memory left right n within =
    let long = left_length memory left in
    get_or_append_left (part_bytes memory left) (part_bytes memory right) 0 n (omega (arith, long, within))
    ∙ get_or-map-range_with_len (text_byte memory left.text) left.from left.count n (left.from + n) 0 within refl

pub both_right : (memory : Memory) (left right : Part) (n : ℕ) → left.count ≤ n → n - left.count < right.count → slice_index (both_bytes memory left right) n ≡ text_byte memory right.text (right.from + (n - left.count))
both_right memory left right n past within =
    get_or-append_right (part_bytes memory left) (part_bytes memory right) left.count n 0 (left_length memory left) past
    ∙ get_or-map-range_with_len (text_byte memory right.text) right.from right.count (n - left.count) (right.from + (n - left.count)) 0 within refl

pub both_past : (memory : Memory) (left right : Part) (n : ℕ) → left.count ≤ n → right.count ≤ n - left.count → slice_index (both_bytes memory left right) n ≡ 0
both_past memory left right n past end =
    let long = both_length memory left right in
    get_or_past (both_bytes memory left right) n 0 (omega (arith, long, past, end))

-- ---- the words of a text behind its header

pub rest_length : (bytes : List ℕ) → length (text_rest bytes) + 1 ≡ text_words (length bytes)
rest_length bytes =
    let words = length-map-range_with_len (λ k. packed (take 8 (drop (8 * k) bytes))) 0 (div_ceil (length bytes) 8) in
    omega (arith, words)

pub rest_word : (bytes : List ℕ) (k : ℕ) → k < div_ceil (length bytes) 8 → slice_index (text_rest bytes) (k + 1) ≡ packed (take 8 (drop (8 * k) bytes))
rest_word bytes k within =
    ap (λ n. slice_index (text_rest bytes) n) (add-one k)
    ∙ get_or-map-range_with_len (λ k. packed (take 8 (drop (8 * k) bytes))) 0 (div_ceil (length bytes) 8) k k 0 within (omega arith)

-- nothing comes after a part
pub both_empty : (found : Option (List ℕ)) → both found (Some []) ≡ found
both_empty None = refl
both_empty (Some bytes) = ap (λ (xs : List ℕ). Some xs) (append-nil bytes)
