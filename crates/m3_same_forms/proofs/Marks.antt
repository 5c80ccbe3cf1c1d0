-- Forms with different marks differ.
use Rattle.std.proofs.Common.{◌≡◌, ℕ, ◌+◌, ◌*◌, ◌%◌, ◌^◌, ◌<◌, Bool, true, false, [], ◌∷◌, refl, sym, ap, ◌∙◌, arith}
use Rattle.std.specs.Prelude.{◌==◌}
use Rattle.std.proofs.lemmas.Bool.Decides.{nat_tests}
use Rattle.std.proofs.lemmas.Nat.{mul-mod_second}
use Rattle.m3_base.specs.Words.{add_words, mul_words}
use Rattle.m3_mid_meaning.specs.Words.{Word, number}
use Rattle.m3_same_forms.specs.declared.forms.Symbol.{Symbol}
use Rattle.m3_same_forms.specs.Forms.{Form, weight, mark_onto, mark, same_form}
use Rattle.m3_same_forms.specs.Meaning.{eval}
use Rattle.m3_same_forms.proofs.Sums.{same_eval}

-- each symbol as a number
abbrev weighed : Symbol → Word
weighed s = number (weight s)

moved : (out m r : ℕ) → ((out + m) % 2 ^ 64 + r) % 2 ^ 64 ≡ (out + (m + r) % 2 ^ 64) % 2 ^ 64
moved out m r = omega arith

nothing_more : (out : ℕ) → out % 2 ^ 64 ≡ (out + 0) % 2 ^ 64
nothing_more out = omega arith

mark_so : (out : ℕ) (xs : Form) → mark_onto out xs % 2 ^ 64 ≡ (out + (eval weighed xs).offset) % 2 ^ 64
mark_so out [] = nothing_more out
mark_so out (x ∷ xs) =
    mark_so (add_words out (mul_words x.times (weight x.symbol))) xs ∙ moved out (mul_words x.times (weight x.symbol)) (eval weighed xs).offset
    ∙ ap (λ m. (out + (m + (eval weighed xs).offset) % 2 ^ 64) % 2 ^ 64) (sym (mul-mod_second x.times (weight x.symbol) (2 ^ 64)))

small : (a b : ℕ) → add_words a b < 2 ^ 64
small a b = omega arith

mark_small : (out : ℕ) (xs : Form) → out < 2 ^ 64 → mark_onto out xs < 2 ^ 64
mark_small out [] h = h
mark_small out (x ∷ xs) h = mark_small (add_words out (mul_words x.times (weight x.symbol))) xs (small out (mul_words x.times (weight x.symbol)))

one_number : (m n : ℕ) → m < 2 ^ 64 → n < 2 ^ 64 → m % 2 ^ 64 ≡ n % 2 ^ 64 → m ≡ n
one_number m n h k e = omega arith

same_marks : (a b : Form) → same_form a b ≡ true → mark a ≡ mark b
same_marks a b e =
    one_number (mark a) (mark b) (mark_small 0 a (omega arith)) (mark_small 0 b (omega arith))
    (mark_so 0 a ∙ ap (λ w. (0 + w.offset) % 2 ^ 64) (same_eval weighed a b e) ∙ sym (mark_so 0 b))

differ_if : (a b : Form) (t : Bool) → same_form a b ≡ t → (mark a == mark b) ≡ false → false ≡ t
differ_if a b true e d =
    absurd (
    let same : mark a ≡ mark b = same_marks a b e in
    let one : (mark a == mark b) ≡ true = grind (arith, nat_tests) in
    let bad : false ≡ true = sym d ∙ one in cc
    )
differ_if a b false e d = refl

pub differ : (a b : Form) → (mark a == mark b) ≡ false → false ≡ same_form a b
differ a b d = differ_if a b (same_form a b) refl d
