-- SEQUENCES and BLOCKS (report, 2.3.6 and 2.3.11), and WITH (2.3.17).
use Rattle.std.specs.Prelude.{ℕ, List, [], ◌∷◌}
use Rattle.m3_core.specs.declared.stmts.Bound.{Bound}
use Rattle.m3_core.specs.declared.stmts.Bound.TheVariants as bind
use Rattle.m3_core.specs.declared.stmts.WithBinding.{WithBinding}
use Rattle.m3_values.specs.Programs.{Program}
use Rattle.m3_values.specs.Places.{Thing, Is}
use Rattle.m3_source_meaning.specs.Meanings.{Evaluates, Acts, done, given, in_scope, ◌>>=◌, ◌>>◌}
use Rattle.m3_source_meaning.specs.Phrases.{Here}
use Rattle.m3_source_meaning.specs.Expressions.{expression, chain}
use Rattle.m3_source_meaning.specs.Assignment.{bound, each_made}

-- statements in order
abbrev pub in_turn : List Acts → Acts
in_turn [] = done
in_turn (s ∷ ss) = s >> in_turn ss

module _ (p : Program) (here : Here) where
  -- all variables with their defaults, then their initial values in order, then the body
  abbrev pub block : List ℕ → (initial body : List Acts) → Acts
  block variables initial body =
      in_scope variables (each_made p here variables >> in_turn initial >> in_turn body)

  -- a designator gives the place that the name stands for, another value a new variable
  abbrev pub bound_thing : Bound → Evaluates Thing
  bound_thing (bind.Place c) = (chain p here c.now).thing
  bound_thing (bind.Value e) = (expression p here e.now).value >>= (λ v. given (Is v))

  -- each name is in scope from its binding on
  abbrev pub with : List WithBinding → Acts → Acts
  with [] body = body
  with (b ∷ bs) body = do
    thing ← bound_thing b.bound
    bound p here b.variable thing
    in_scope (b.variable ∷ []) (with bs body)
