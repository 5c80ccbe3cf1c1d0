-- What a call comes to in any language, told the answers to its actions one after the other.
use Rattle.std.specs.Prelude.{ℕ, List, [], ◌∷◌, ◌++◌}
use Rattle.m3_runs.specs.Languages.{Action, Answer, Move, Acts, Begins, Language}

-- a procedure is called above older activations, with its environment, its formals and memory
pub record Call (S V M : Type 0) : Type 0 where
  pub stack : List S
  pub procedure : ℕ
  pub environment : V
  pub formals : List V
  pub memory : M

-- an answer, and memory as it is then
pub record Told (V M : Type 0) : Type 0 where
  pub answer : Answer V
  pub memory : M

-- one answer more
abbrev pub told_more : {V M : Type 0} → List (Told V M) → Answer V → M → List (Told V M)
told_more told answer m = told ++ record { answer = answer; memory = m } ∷ []

-- THE MOVES OF A CALL: the first one as it is entered, and one behind each answer
pub data MovesTo {S V M : Type 0} (L : Language S V M) (c : Call S V M)
    : List (Told V M) → Move S V M → Type 0 where
  first : (move : Move S V M)
      → L.enters c.stack c.procedure c.environment c.formals c.memory (Begins move)
      → MovesTo L c [] move
  next : (told : List (Told V M)) (action : Action V) (s : S) (before m : M) (answer : Answer V)
      (move : Move S V M)
      → MovesTo L c told (Acts action s before) → L.goes s answer m move
      → MovesTo L c (told_more told answer m) move
