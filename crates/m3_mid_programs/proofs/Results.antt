-- Results have their words.
use Rattle.std.proofs.Common.{◌≡◌, ℕ, zero, suc, List, [], ◌∷◌, length, Option, Some, None, refl, sym, ap, ◌∙◌}
use Rattle.std.specs.Option.{option_map}
use Rattle.m3_mid_meaning.specs.Words.{Word, further, ◌>>=◌}
use Rattle.m3_mid_meaning.specs.Memory as words
use Rattle.m3_mid_meaning.specs.Memory.{Around, load, row_at}
use Rattle.m3_mid_programs.specs.Values.{Value, Words}
use Rattle.m3_mid_programs.specs.Laws.{ResultsHaveWords}

row_of : Value → List Word
row_of (Words ws) = ws
row_of _ = []

words_in : Option (Option Value) → List Word
words_in (Some (Some v)) = row_of v
words_in _ = []

behind : (w : Word) (o : Option (List Word)) (ws : List Word) (n : ℕ) → ((us : List Word) → o ≡ Some us → length us ≡ n) → option_map (λ ws. w ∷ ws) o ≡ Some ws → length ws ≡ suc n
behind w None ws n h e = absurd (let bad : None ≡ Some ws = e in cc)
behind w (Some us) ws n h e = let same : w ∷ us ≡ ws = cc in ap length (sym same) ∙ ap suc (h us refl)

module _ (around : Around) (memory : words.Memory) where
  loaded : (o : Option Word) (rest : Option (List Word)) (ws : List Word) (n : ℕ) → ((us : List Word) → rest ≡ Some us → length us ≡ n) → (o >>= λ w. option_map (λ ws. w ∷ ws) rest) ≡ Some ws → length ws ≡ suc n
  loaded None rest ws n h e = absurd (let bad : None ≡ Some ws = e in cc)
  loaded (Some w) rest ws n h e = behind w rest ws n h e

  row_length : (n : ℕ) (at : Word) (ws : List Word) → row_at around memory n at ≡ Some ws → length ws ≡ n
  row_length zero at ws e = let same : [] ≡ ws = cc in ap length (sym same)
  row_length (suc n) at ws e = loaded (load around memory at) (row_at around memory n (further at 1)) ws n (λ us k. row_length n (further at 1) us k) e

  told : (o : Option (List Word)) (n : ℕ) (ws : List Word) → ((us : List Word) → o ≡ Some us → length us ≡ n) → (o >>= λ ws. Some (Some (Words ws))) ≡ Some (Some (Words ws)) → length ws ≡ n
  told None n ws h e = absurd (let bad : None ≡ Some (Some (Words ws)) = e in cc)
  told (Some us) n ws h e = let same : us ≡ ws = cc in ap length (sym same) ∙ h us refl

  wide : (at : Option Word) (n : ℕ) (ws : List Word) → (at >>= row_at around memory n >>= λ ws. Some (Some (Words ws))) ≡ Some (Some (Words ws)) → length ws ≡ n
  wide None n ws e = absurd (let bad : None ≡ Some (Some (Words ws)) = e in cc)
  wide (Some at) n ws e = told (row_at around memory n at) n ws (λ us k. row_length n at us k) e

pub results_have_words : ResultsHaveWords
results_have_words f memory zero None ws e = let same : [] ≡ ws = cc in ap length (sym same)
results_have_words f memory zero (Some w) ws e = absurd (let bad : None ≡ Some (Some (Words ws)) = e in cc)
results_have_words f memory (suc zero) None ws e = absurd (let bad : None ≡ Some (Some (Words ws)) = e in cc)
results_have_words f memory (suc zero) (Some w) ws e = let same : w ∷ [] ≡ ws = cc in ap length (sym same)
results_have_words f memory (suc (suc n)) None ws e = wide f.around memory f.result_at (suc (suc n)) ws e
results_have_words f memory (suc (suc n)) (Some w) ws e = absurd (let bad : None ≡ Some (Some (Words ws)) = e in cc)
