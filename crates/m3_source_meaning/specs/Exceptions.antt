-- EXCEPTIONS (report, 2.3.4 to 2.3.7): RAISE, RETURN, TRY EXCEPT and TRY FINALLY.
use Rattle.std.specs.Prelude.{ℕ, ◌==◌, true, false, List, [], ◌∷◌, map, Option, Some, None}
use Rattle.std.specs.Option.{option_to_list}
use Rattle.std.specs.List.{list_any}
use Rattle.m3_values.specs.Values.{Value}
use Rattle.m3_values.specs.Programs.{Program}
use Rattle.m3_values.specs.Places.{Thing, Is}
use Rattle.m3_source_meaning.specs.Meanings.{Raised, Evaluates, Acts, given, raising, holding_all, ◌>>=◌}
use Rattle.m3_source_meaning.specs.Phrases.{Here, Expression}
use Rattle.m3_source_meaning.specs.Branches.{Otherwise, with_variable}

-- ---- RAISE and RETURN

abbrev pub optional : Option Expression → Evaluates (Option Value)
optional None = given None
optional (Some e) = e.value >>= (λ v. given (Some v))

abbrev pub raise : (exception : ℕ) → Option Expression → Acts
raise exception argument =
    optional argument >>= (λ v. raising (record { exception = exception; argument = v }))

abbrev pub returning : Option Value → Acts
returning v around now exits = exits.return v now

abbrev pub return : Option Expression → Acts
return e = optional e >>= returning

-- ---- TRY EXCEPT

-- a handler, with the variable that gets the argument
pub record Handling : Type 0 where
  pub exceptions : List ℕ
  pub variable : Option ℕ
  pub body : Acts

-- what is waited for while something else runs
abbrev pub kept_value : Option Value → List Thing
kept_value v = map Is (option_to_list v)

module _ (p : Program) (here : Here) where
  abbrev pub with_argument : Option ℕ → Option Value → Acts → Acts
  with_argument variable None body = body
  with_argument variable (Some v) body = with_variable p here variable v body

  -- the first handler that names the exception, else the ELSE, else it goes on outwards
  abbrev pub handled : List Handling → Otherwise → Raised → Acts
  handled [] otherwise r = elim otherwise.is_written [ true ↦ otherwise.body | false ↦ raising r ]
  handled (h ∷ hs) otherwise r = elim (list_any (λ e. r.exception == e) h.exceptions) [
    | true ↦ with_argument h.variable r.argument h.body
    | false ↦ handled hs otherwise r
  ]

  -- RETURN and EXIT are exceptions without a name: only the ELSE handles them
  abbrev pub unless_handled : Otherwise → Acts → Acts
  unless_handled otherwise leaving =
      elim otherwise.is_written [ true ↦ otherwise.body | false ↦ leaving ]

  abbrev pub exiting : Acts
  exiting around now exits = exits.exit now

  abbrev pub try_except : Acts → List Handling → Otherwise → Acts
  try_except body handlers otherwise around now exits = body around now (record {
    gives = exits.gives;
    raised = λ r later. handled handlers otherwise r around later exits;
    exit = λ later. unless_handled otherwise exiting around later exits;
    return = λ v later. unless_handled otherwise (returning v) around later exits;
  })

  -- ---- TRY FINALLY

  -- The last part runs before each of the four ways out; where it is left otherwise than at its
  -- end, that counts instead. Meanwhile the argument of an exception and a result are waited for.
  abbrev pub try_finally : (body last : Acts) → Acts
  try_finally body last around now exits = body around now (record {
    gives = λ u later. last around later (record exits { gives = λ w after. exits.gives u after });
    raised = λ r later. holding_all (kept_value r.argument) last around later
        (record exits { gives = λ w after. exits.raised r after });
    exit = λ later. last around later (record exits { gives = λ w after. exits.exit after });
    return = λ v later. holding_all (kept_value v) last around later
        (record exits { gives = λ w after. exits.return v after });
  })
