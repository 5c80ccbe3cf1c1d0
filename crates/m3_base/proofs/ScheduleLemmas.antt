-- Numbers past 64 bits, and the first line of a text.
use Rattle.std.proofs.Common.{◌≡◌, ℕ, zero, suc, ◌+◌, ◌-◌, ◌*◌, ◌^◌, ◌≤◌, ◌<◌, ◌==◌, true, false, cond, List, [], ◌∷◌, length, get_or, take, drop, None, refl, arith, eq-eqb}
use Rattle.std.proofs.lemmas.Grind.{common_steps}
use Rattle.std.proofs.lemmas.Bool.Decides.{nat_tests}
use Rattle.m3_base.specs.Schedules.{lines_of, number_after, is_digit}

-- digits behind a number past 64 bits say none
pub number_after_large : (n : ℕ) (digits : List ℕ) → 2 ^ 64 ≤ n → number_after n digits ≡ None
unfolding number_after
number_after_large n [] large = grind (arith, nat_tests)
number_after_large n (b ∷ digits) large =
    let next : 2 ^ 64 ≤ 10 * n + (b - 48) = omega arith in
    elim (is_digit b) as (λ t. cond t (number_after (10 * n + (b - 48)) digits) None ≡ None)
    [ true ↦ number_after_large (10 * n + (b - 48)) digits next | false ↦ refl ]

-- a line ends at the first line feed
pub lines_at : (text : List ℕ) (end : ℕ) → ((k : ℕ) → k < end → get_or text k 0 ≡ 10 → ⊥) → end < length text → get_or text end 0 ≡ 10 → lines_of text ≡ take end text ∷ lines_of (drop (end + 1) text)
unfolding lines_of
lines_at [] end before inside here = absurd (omega arith)
lines_at (b ∷ text) zero before inside here =
    let is_feed : (b == 10) ≡ true = eq-eqb b 10 here in rw is_feed
lines_at (b ∷ text) (suc end) before inside here =
    let other : b ≡ 10 → ⊥ = before 0 (omega arith) in
    let no_feed : (b == 10) ≡ false = grind (arith, nat_tests) in
    let above : suc end + 1 ≡ suc (end + 1) = omega arith in
    let later : lines_of text ≡ take end text ∷ lines_of (drop (end + 1) text) = lines_at text end (λ k below. before (suc k) (omega arith)) (omega arith) here in
    rw (no_feed, later, above)

-- without a line feed the text is one line
pub lines_whole : (text : List ℕ) → ((k : ℕ) → k < length text → get_or text k 0 ≡ 10 → ⊥) → 0 < length text → lines_of text ≡ text ∷ lines_of []
unfolding lines_of
lines_whole [] before some = absurd (omega arith)
lines_whole (b ∷ []) before some =
    let other : b ≡ 10 → ⊥ = before 0 (omega arith) in
    let no_feed : (b == 10) ≡ false = grind (arith, nat_tests) in
    rw no_feed
lines_whole (b ∷ c ∷ text) before some =
    let other : b ≡ 10 → ⊥ = before 0 (omega arith) in
    let no_feed : (b == 10) ≡ false = grind (arith, nat_tests) in
    let later : lines_of (c ∷ text) ≡ (c ∷ text) ∷ lines_of [] = lines_whole (c ∷ text) (λ k below. before (suc k) (omega arith)) (omega arith) in
    rw (no_feed, later)

-- a slice to its end
pub rest_taken : (text : List ℕ) (n : ℕ) → take (length text - n) (drop n text) ≡ drop n text
rest_taken text n = grind (arith, common_steps)
