-- Marks packed into words, as a list.
use Rattle.std.proofs.Common.{◌≡◌, ◌≢◌, ℕ, ◌*◌, ◌/◌, ◌%◌, ◌<◌, ◌≤◌, Bool, false, eqb, List, length, get_or, set, sym, ap, ◌∙◌, arith, length-set, get_or-set_same, get_or-set_other, ⊎_elim}
use Rattle.std.specs.Int.{bit_at}
use Rattle.std.proofs.lemmas.List.{same_lists, get_or_past}
use Rattle.std.proofs.lemmas.List.FromFn.{length-map-range_with_len, get_or-map-range_with_len}
use Rattle.std.proofs.lemmas.Bool.{cases_eq, cases_lt}
use Rattle.std.proofs.lemmas.Nat.Bits.{bit_at-zero}
use Rattle.m3_heap.specs.CollectorMarks.{is_marked, marks_in}

pub length-marks_in : (bits : List ℕ) (count : ℕ) → length (marks_in bits count) ≡ count
length-marks_in bits count = length-map-range_with_len (is_marked bits) 0 count

pub get_or-marks_in : (bits : List ℕ) (count i : ℕ) (d : Bool) → i < count → get_or (marks_in bits count) i d ≡ is_marked bits i
get_or-marks_in bits count i d h = get_or-map-range_with_len (is_marked bits) 0 count i i d h (omega arith)

is_marked-set : (bits : List ℕ) (i k word : ℕ) → i / 64 < length bits → k ≢ i → ((j : ℕ) → j < 64 → j ≢ i % 64 → bit_at word j ≡ bit_at (get_or bits (i / 64) 0) j) → is_marked (set bits (i / 64) word) k ≡ is_marked bits k
is_marked-set bits i k word within other keeps = ⊎_elim
    (λ (same : k / 64 ≡ i / 64).
    let there : get_or (set bits (i / 64) word) (k / 64) 0 ≡ word = ap (λ p. get_or (set bits (i / 64) word) p 0) same ∙ get_or-set_same bits (i / 64) word 0 within in
    let was : get_or bits (i / 64) 0 ≡ get_or bits (k / 64) 0 = ap (λ p. get_or bits p 0) (sym same) in
    let kept = keeps (k % 64) (omega arith) (λ (e : k % 64 ≡ i % 64). other (omega arith)) in
    ap (λ w. eqb (bit_at w (k % 64)) 1) there ∙ ap (λ b. eqb b 1) (kept ∙ ap (λ w. bit_at w (k % 64)) was))
    (λ differs. ap (λ w. eqb (bit_at w (k % 64)) 1) (get_or-set_other bits (i / 64) (k / 64) word 0 differs))
    (cases_eq (k / 64) (i / 64))

-- one mark changes
pub marks_in-set : (bits : List ℕ) (count i word : ℕ) (on : Bool) → i < count → count ≤ 64 * length bits → eqb (bit_at word (i % 64)) 1 ≡ on → ((j : ℕ) → j < 64 → j ≢ i % 64 → bit_at word j ≡ bit_at (get_or bits (i / 64) 0) j) → marks_in (set bits (i / 64) word) count ≡ set (marks_in bits count) i on
marks_in-set bits count i word on within room here keeps =
    let place : i / 64 < length bits = omega arith in
    same_lists _ _
    (length-marks_in (set bits (i / 64) word) count ∙ sym (length-set (marks_in bits count) i on ∙ length-marks_in bits count))
    (λ k d h.
    let below : k < count = omega (arith, length-marks_in (set bits (i / 64) word) count) in
    get_or-marks_in (set bits (i / 64) word) count k d below ∙ ⊎_elim
    (λ (same : k ≡ i).
    ap (λ n. is_marked (set bits (i / 64) word) n) same
    ∙ ap (λ w. eqb (bit_at w (i % 64)) 1) (get_or-set_same bits (i / 64) word 0 place)
    ∙ here
    ∙ sym (ap (λ n. get_or (set (marks_in bits count) i on) n d) same ∙ get_or-set_same (marks_in bits count) i on d (omega (arith, length-marks_in bits count))))
    (λ differs.
    is_marked-set bits i k word place differs keeps
    ∙ sym (get_or-set_other (marks_in bits count) i k on d differs ∙ get_or-marks_in bits count k d below))
    (cases_eq k i))

-- a mark isn't set where its word is 0, or behind the last one
pub unmarked-zero : (bits : List ℕ) (count k : ℕ) → (k < count → get_or bits (k / 64) 0 ≡ 0) → get_or (marks_in bits count) k false ≡ false
unmarked-zero bits count k h = ⊎_elim
    (λ (low : k < count). get_or-marks_in bits count k false low ∙ ap (λ w. eqb (bit_at w (k % 64)) 1) (h low) ∙ ap (λ b. eqb b 1) (bit_at-zero (k % 64)))
    (λ (high : count ≤ k). get_or_past (marks_in bits count) k false (omega (arith, length-marks_in bits count)))
    (cases_lt k count)

-- a mark is the same where its word is the same
pub marked-same : (bits other : List ℕ) (count k : ℕ) → get_or bits (k / 64) 0 ≡ get_or other (k / 64) 0 → get_or (marks_in bits count) k false ≡ get_or (marks_in other count) k false
marked-same bits other count k same = ⊎_elim
    (λ (low : k < count). get_or-marks_in bits count k false low ∙ ap (λ w. eqb (bit_at w (k % 64)) 1) same ∙ sym (get_or-marks_in other count k false low))
    (λ (high : count ≤ k). get_or_past (marks_in bits count) k false (omega (arith, length-marks_in bits count)) ∙ sym (get_or_past (marks_in other count) k false (omega (arith, length-marks_in other count))))
    (cases_lt k count)
