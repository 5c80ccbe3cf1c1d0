-- Copying by one word more, with addresses that don't wrap.
use Rattle.std.proofs.Common.{◌≡◌, ℕ, ◌+◌, ◌-◌, ◌^◌, ◌<◌, ◌≤◌, Bool, true, false, ◌&&◌, Option, Some, None, is_some, refl, ap, ◌∙◌, inl, inr, ◌⊎◌, IsSome, IsTrue, MatchBool, arith, rules}
use Rattle.std.proofs.lemmas.Bool.Decides.{nat_tests}
use Rattle.std.proofs.lemmas.Bool.{cases_lt}
use Rattle.m3_base.specs.Words.{add_words, sub_words}
use Rattle.m3_isa.specs.Memory.{Memory, put}
use Rattle.m3_isa.specs.Effects.{every, are_there, are_writable, copied, is_among}
use Rattle.m3_isa.specs.LowCopies.{copied_low}
use Rattle.m3_isa.proofs.Every.{every-fails, every-holds, and-false}

-- the sum is the address where nothing wraps
pub add_words-low : (at k : ℕ) → at + k < 2 ^ 64 → add_words at k ≡ at + k
add_words-low at k h = omega arith

-- word k of a stretch is among its words, at distance k
pub distance-word : (at k : ℕ) → at < 2 ^ 64 → k < 2 ^ 64 → sub_words (add_words at k) at ≡ k
distance-word at k a b = omega arith

pub is_among-word : (at k n : ℕ) → at < 2 ^ 64 → n < 2 ^ 64 → k < n → is_among (add_words at k) at n ≡ true
is_among-word at k n a b h =
    let d : sub_words (add_words at k) at ≡ k = distance-word at k a (omega arith) in
    let low : add_words at k < 2 ^ 64 = omega arith in
    grind (arith, nat_tests)

-- an address outside a low stretch
pub is_among-outside : (x at n : ℕ) → at + n ≤ 2 ^ 63 → is_among x at n ≡ false → (x < at) ⊎ (at + n ≤ x)
is_among-outside x at n h e =
    elim (cases_lt x at) [
      | inl low ↦ inl low
      | inr high ↦
          elim (cases_lt x (at + n)) [
            | inl inside ↦ absurd (grind (arith, nat_tests))
            | inr past ↦ inr past
          ]
    ]

-- copying where nothing wraps
pub copied-low : (memory : Memory) (n from to x : ℕ) → from + n ≤ 2 ^ 63 → to + n ≤ 2 ^ 63 → copied_low memory n from to x ≡ copied memory n from to x
copied-low memory n from to x f t =
    elim (cases_lt x to) [
      | inl low ↦ grind (arith, nat_tests)
      | inr high ↦
          elim (cases_lt x (to + n)) [
            | inl inside ↦
                let d : sub_words x to ≡ x - to = omega arith in
                let a : add_words from (sub_words x to) ≡ from + (x - to) = omega arith in
                let same = ap memory a in
                grind (arith, nat_tests)
            | inr past ↦ grind (arith, nat_tests)
          ]
    ]

-- one word more from the front
pub rising-more : (old now : Memory) (word k from to x : ℕ) → now x ≡ copied_low old k from to x → old (from + k) ≡ Some word → put now (to + k) word x ≡ copied_low old (k + 1) from to x
rising-more old now word k from to x e w =
    let here : x ≡ to + k → from + (x - to) ≡ from + k = λ s. omega arith in
    let same : x ≡ to + k → old (from + (x - to)) ≡ Some word = λ s. ap old (here s) ∙ w in
    grind (arith, nat_tests)

-- one word more from the back
pub falling-more : (old now : Memory) (word j k n from to x : ℕ) → j ≡ k + 1 → k < n → now x ≡ copied_low old (n - j) (from + j) (to + j) x → old (from + k) ≡ Some word → put now (to + k) word x ≡ copied_low old (n - k) (from + k) (to + k) x
falling-more old now word j k n from to x m h e w =
    let here : x ≡ to + k → (from + k) + (x - (to + k)) ≡ from + k = λ s. omega arith in
    let same : x ≡ to + k → old ((from + k) + (x - (to + k))) ≡ Some word = λ s. ap old (here s) ∙ w in
    let there : to + k < x → (from + k) + (x - (to + k)) ≡ (from + j) + (x - (to + j)) = λ s. omega arith in
    let kept : to + k < x → old ((from + k) + (x - (to + k))) ≡ old ((from + j) + (x - (to + j))) = λ s. ap old (there s) in
    grind (arith, nat_tests)

-- outside the words copied so far, each address holds what it held
pub copied_low-outside : (old : Memory) (n from to x : ℕ) → (x < to) ⊎ (to + n ≤ x) → copied_low old n from to x ≡ old x
copied_low-outside old n from to x (inl low) = grind (arith, nat_tests)
copied_low-outside old n from to x (inr past) = grind (arith, nat_tests)

-- a word that isn't there
pub not_there : (old : Memory) (can : ℕ → Bool) (from to k n : ℕ) → k < n → from + n ≤ 2 ^ 63 → old (from + k) ≡ None → (are_there old from n && are_writable can to n) ≡ false
not_there old can from to k n h low e =
    let at : add_words from k ≡ from + k = omega arith in
    let gone : is_some (old (add_words from k)) ≡ false = ap is_some (ap old at ∙ e) in
    ap (λ b. b && are_writable can to n) (every-fails (λ j. is_some (old (add_words from j))) k n h gone)

-- a word that can't be replaced
pub not_writable : (old : Memory) (can : ℕ → Bool) (from to k n : ℕ) → k < n → to + n ≤ 2 ^ 63 → can (to + k) ≡ false → (are_there old from n && are_writable can to n) ≡ false
not_writable old can from to k n h low e =
    let at : add_words to k ≡ to + k = omega arith in
    let fixed : can (add_words to k) ≡ false = ap can at ∙ e in
    ap (λ b. are_there old from n && b) (every-fails (λ j. can (add_words to j)) k n h fixed) ∙ and-false (are_there old from n)

-- all words are there and can be replaced
pub all_there : (old : Memory) (can : ℕ → Bool) (from to n : ℕ) → from + n ≤ 2 ^ 63 → to + n ≤ 2 ^ 63 → ((j : ℕ) → j < n → is_some (old (from + j)) ≡ true) → ((j : ℕ) → j < n → can (to + j) ≡ true) → (are_there old from n && are_writable can to n) ≡ true
all_there old can from to n f t there writes =
    let one : are_there old from n ≡ true = every-holds (λ j. is_some (old (add_words from j))) n (λ j h. ap (λ a. is_some (old a)) (add_words-low from j (omega arith)) ∙ there j h) in
    let two : are_writable can to n ≡ true = every-holds (λ j. can (add_words to j)) n (λ j h. ap can (add_words-low to j (omega arith)) ∙ writes j h) in
    ap (λ b. b && are_writable can to n) one ∙ two

-- no address from 2 ^ 63 on passes the test, and a stretch has one
pub every-high : (test : ℕ → Bool) (at n : ℕ) → ((x : ℕ) → 2 ^ 63 ≤ x → test x ≡ false) → at < 2 ^ 64 → n < 2 ^ 64 → 0 < n → 2 ^ 63 < at + n → every (λ k. test (add_words at k)) n ≡ false
every-high test at n high a b p h =
    elim (cases_lt at (2 ^ 63)) [
      | inl low ↦
          let k : ℕ = 2 ^ 63 - at in
          let address : add_words at k ≡ 2 ^ 63 = omega arith in
          every-fails (λ j. test (add_words at j)) k n (omega arith) (high (add_words at k) (omega arith))
      | inr past ↦
          let address : add_words at 0 ≡ at = omega arith in
          every-fails (λ j. test (add_words at j)) 0 n p (high (add_words at 0) (omega arith))
    ]

pub not_some : (o : Option ℕ) (x : ℕ) → (IsSome o → x < 2 ^ 63) → 2 ^ 63 ≤ x → is_some o ≡ false
not_some None x h past = refl
not_some (Some word) x h past = let low : x < 2 ^ 63 = h (search rules) in absurd (omega arith)

pub not_true : (b : Bool) (x : ℕ) → (IsTrue b → x < 2 ^ 63) → 2 ^ 63 ≤ x → b ≡ false
not_true false x h past = refl
not_true true x h past = let low : x < 2 ^ 63 = h (search rules) in absurd (omega arith)

-- a memory known by one law is known by an equal one
pub with_copied : (b : Bool) (P Q : Type 0) (new low wide : Memory) → ((x : ℕ) → low x ≡ wide x) → MatchBool b (P × ((x : ℕ) → new x ≡ low x)) Q → MatchBool b (P × ((x : ℕ) → new x ≡ wide x)) Q
with_copied true P Q new low wide e h = (h.0, λ x. h.1 x ∙ e x)
with_copied false P Q new low wide e h = h
