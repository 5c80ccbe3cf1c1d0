-- Bytes in words, and the bytes of two parts.
use Rattle.std.specs.Prelude.{ℕ, zero, suc, ◌≡◌, ◌+◌, ◌*◌, ◌<◌, List, [], ◌∷◌, map, length, take, drop, slice_index}
use Rattle.std.specs.List.{range_with_len}
use Rattle.std.specs.Int.{w64, from_le_bytes}
use Rattle.std.proofs.Common.{refl, ap, ◌∙◌, arith, add-one, get_or}
use Rattle.std.proofs.lemmas.List.FromFn.{fill_by_all}
use Rattle.m3_run_meaning.specs.Texts.{packed}
use Rattle.m3_run_state.proofs.TextBytes.{moved}

-- ---- a word of eight bytes

packed_none : (n from : ℕ) → packed (take n (drop from [])) ≡ 0
packed_none zero zero = refl
packed_none zero (suc from) = refl
packed_none (suc n) zero = refl
packed_none (suc n) (suc from) = refl

packed_step : (n from : ℕ) (bytes : List ℕ) → slice_index bytes from + 256 * packed (take n (drop (suc from) bytes)) ≡ packed (take (suc n) (drop from bytes))
packed_step n zero [] = let e = packed_none n 1 in omega (arith, e)
packed_step n (suc from) [] = let e = packed_none n (suc (suc from)) in omega (arith, e)
packed_step n zero (b ∷ bytes) = refl
packed_step n (suc from) (b ∷ bytes) = packed_step n from bytes

-- the first bytes from one on, and zeros past the end
pub packed_window : (n from : ℕ) (bytes : List ℕ) → packed (map (λ j. slice_index bytes j) (range_with_len from n)) ≡ packed (take n (drop from bytes))
packed_window zero from bytes = refl
packed_window (suc n) from bytes =
    ap (λ w. slice_index bytes from + 256 * w) (packed_window n (from + 1) bytes)
    ∙ ap (λ m. slice_index bytes from + 256 * packed (take n (drop m bytes))) (add-one from)
    ∙ packed_step n from bytes

-- eight bytes as a word
pub le_packed : (bytes : List ℕ) → length bytes ≡ 8 → from_le_bytes w64 bytes ≡ packed bytes
le_packed (a ∷ b ∷ c ∷ d ∷ e ∷ f ∷ g ∷ h ∷ []) long = omega arith
le_packed [] long = absurd (omega arith)
le_packed (a ∷ []) long = absurd (omega arith)
le_packed (a ∷ b ∷ []) long = absurd (omega arith)
le_packed (a ∷ b ∷ c ∷ []) long = absurd (omega arith)
le_packed (a ∷ b ∷ c ∷ d ∷ []) long = absurd (omega arith)
le_packed (a ∷ b ∷ c ∷ d ∷ e ∷ []) long = absurd (omega arith)
le_packed (a ∷ b ∷ c ∷ d ∷ e ∷ f ∷ []) long = absurd (omega arith)
le_packed (a ∷ b ∷ c ∷ d ∷ e ∷ f ∷ g ∷ []) long = absurd (omega arith)
le_packed (a ∷ b ∷ c ∷ d ∷ e ∷ f ∷ g ∷ h ∷ i ∷ rest) long = absurd (omega arith)

-- the word of eight bytes from one on
pub word_from : (bytes all : List ℕ) (from word : ℕ) → length bytes ≡ 8 → ((j : ℕ) → j < 8 → get_or bytes j 0 ≡ slice_index all (from + j)) → word ≡ from_le_bytes w64 bytes → word ≡ packed (take 8 (drop from all))
word_from bytes all from word long each is =
    let none : from + 0 ≡ from = omega arith in
    is ∙ le_packed bytes long ∙ ap packed (fill_by_all (λ j. slice_index all (from + j)) bytes 8 0 long each ∙ moved (λ j. slice_index all j) from 0 8)
    ∙ ap (λ n. packed (map (λ j. slice_index all j) (range_with_len n 8))) none ∙ packed_window 8 from all
