-- LOOPS (report, 2.3.9 to 2.3.13): LOOP, EXIT, WHILE, REPEAT and FOR. A turn is completed when its
-- body ends normally, and the end of a completed turn is a point.
use Rattle.std.specs.Prelude.{ℕ, ℤ, zero, suc, pos, ◌+ℤ◌, Bool, true, false, not, [], ◌∷◌, length, Option, Some, None, int_le, int_lt}
use Rattle.m3_runs.specs.Languages.{Passes}
use Rattle.m3_values.specs.Values.{Value, Ordinal}
use Rattle.m3_values.specs.Programs.{Program}
use Rattle.m3_values.specs.Places.{Is}
use Rattle.m3_source_meaning.specs.Meanings.{Evaluates, Acts, given, done, undefined, acting, holding, in_scope, ◌>>=◌, ◌>>◌}
use Rattle.m3_source_meaning.specs.Phrases.{Here, Expression}
use Rattle.m3_source_meaning.specs.Assignment.{bound}

-- whether statements end normally; EXIT from them doesn't leave the loop's statement
abbrev pub ends_normally : Acts → Evaluates Bool
ends_normally body around now exits = body around now (record {
  gives = λ u later. exits.gives true later;
  raised = exits.raised;
  exit = λ later. exits.gives false later;
  return = exits.return;
})

-- EXIT leaves the innermost loop
abbrev pub exit_loop : Acts
exit_loop around now exits = exits.exit now

-- the point at the end of a turn
abbrev pub passing : Acts
passing = acting Passes >>= (λ a. done)

-- ---- turns

-- Turns until one says that it was the last. There are no more turns than answers and 1, since
-- each that isn't the last takes one.
abbrev pub again : (limit : ℕ) → Evaluates Bool → Acts
again zero turn = undefined
again (suc limit) turn =
    turn >>= (λ goes_on. elim goes_on [ true ↦ again limit turn | false ↦ done ])

abbrev pub repeatedly : Evaluates Bool → Acts
repeatedly turn around now = again (suc (length now.answers)) turn around now

-- the body, and its point; an EXIT makes it the last turn
abbrev pub body_turn : Acts → Evaluates Bool
body_turn body = do
  ends ← ends_normally body
  elim ends [ true ↦ passing >> given true | false ↦ given false ]

abbrev pub loop : Acts → Acts
loop body = repeatedly (body_turn body)

-- ---- WHILE and REPEAT

abbrev pub truth_of : Value → Evaluates Bool
truth_of (Ordinal (pos zero)) = given false
truth_of (Ordinal _) = given true
truth_of _ = undefined

abbrev pub test : Expression → Evaluates Bool
test condition = condition.value >>= truth_of

abbrev pub while : Expression → Acts → Acts
while condition body = repeatedly (do
  holds ← test condition
  elim holds [ true ↦ body_turn body | false ↦ given false ])

-- the point comes before the test
abbrev pub repeat : Acts → Expression → Acts
repeat body condition = repeatedly (do
  ends ← body_turn body
  elim ends [ true ↦ (test condition >>= (λ holds. given (not holds))) | false ↦ given false ])

-- ---- FOR

-- with a step of at least 0 while the value is at most the last one, else while it is at least
-- that; a value outside INTEGER is past every last one
abbrev pub is_further : (step last value : ℤ) → Bool
is_further step last z = elim (int_lt step (pos 0)) [ true ↦ int_le last z | false ↦ int_le z last ]

abbrev pub step_of : Option Expression → Evaluates Value
step_of None = given (Ordinal (pos 1))
step_of (Some e) = e.value

module _ (p : Program) (here : Here) where
  -- a turn with a new variable
  abbrev pub for_turn : (variable : ℕ) → ℤ → Acts → Evaluates Bool
  for_turn x z body = bound p here x (Is (Ordinal z)) >> in_scope (x ∷ []) (body_turn body)

  abbrev pub counting : (limit : ℕ) → (variable : ℕ) → (step last value : ℤ) → Acts → Acts
  counting zero x step last z body = undefined
  counting (suc limit) x step last z body = elim (is_further step last z) [
    | true ↦ (for_turn x z body >>= (λ ends.
        elim ends [ true ↦ counting limit x step last (z +ℤ step) body | false ↦ done ]))
    | false ↦ done
  ]

  abbrev pub counted : (variable : ℕ) → (first last step : Value) → Acts → Acts
  counted x (Ordinal first) (Ordinal last) (Ordinal step) body around now =
      counting (suc (length now.answers)) x step last first body around now
  counted x _ _ _ body around now = undefined around now

  -- first, last and step are evaluated once
  abbrev pub for : (variable : ℕ) → (first last : Expression) → Option Expression → Acts → Acts
  for x first last step body = do
    a ← first.value
    b ← holding (Is a) last.value
    c ← holding (Is a) (holding (Is b) (step_of step))
    counted x a b c body
