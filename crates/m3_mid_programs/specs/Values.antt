-- What travels between activations of middle code: words in rows, one row for each formal, result
-- and operand of the checked program, so that these are one for one with the source's.
use Rattle.std.specs.Prelude.{ℕ, List, [], ◌∷◌, Option, Some, None}
use Rattle.m3_mid_meaning.specs.Words.{Word, number}

-- The words of something; or, beside the formals of a call, what else its callee is told: the frame
-- of the activation around it, which is left open where it takes none, and the address at which a
-- wide result is wanted. That address is no formal, since the source has none for it, and it isn't
-- kept with the caller, since the action is all that a call is known by while the caller stands at
-- it.
pub data Value : Type 0 where
  Words : List Word → Value
  Beside : (environment result_at : Option Word) → Value

abbrev pub word : Word → Value
word w = Words (w ∷ [])

abbrev pub number_value : ℕ → Value
number_value n = word (number n)

-- what is made of a value of one word
abbrev pub on_word : {A : Type 0} → (Word → Option A) → Value → Option A
on_word f (Words (w ∷ [])) = f w
on_word f _ = None

abbrev pub the_word : Value → Option Word
the_word v = on_word Some v
