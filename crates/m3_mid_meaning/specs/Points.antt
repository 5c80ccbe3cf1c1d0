-- What a point does: the environment is told the action, and answers; then the operation goes on.
use Rattle.std.specs.Prelude.{ℕ, ◌==◌, not, List, Option, Some, None}
use Rattle.m3_base.specs.declared.outcomes.FaultKind.{FaultKind}
use Rattle.m3_base.specs.declared.places.Pos.{Pos}
use Rattle.m3_isa.specs.Arithmetic.{flag}
use Rattle.m3_mid.specs.declared.procs.Slot.{Slot}
use Rattle.m3_mid.specs.declared.calls.Raised.{Raised}
use Rattle.m3_mid.specs.declared.marks.Shown.{Shown}
use Rattle.m3_mid_meaning.specs.Words.{Word, number, ◌>>=◌}
use Rattle.m3_mid_meaning.specs.Memory.{Memory, Around, seen}
use Rattle.m3_mid_meaning.specs.States.{State, Ending, Next, Goes, Ends, Undefined, Faulted, state_with, with_memory}
use Rattle.m3_mid_meaning.specs.Actions.{Action, each_of, shown_word}

-- what the environment learns at a point: the action, the values of the variables that are shown,
-- each by its place among those of the procedure, and memory
pub record Event : Type 0 where
  pub action : Action
  pub shown : List (ℕ × Word)
  pub memory : Memory

-- What it answers, when the action is over: what memory is then, the result, the exception by
-- which the action was left (its place in the program's list and 1 more, or 0 for none) with its
-- argument as a number and as a pointer, and the fault of a service. What an action doesn't have
-- of these isn't looked at.
pub record Answer : Type 0 where
  pub memory : Memory
  pub result : Word
  pub exception : ℕ
  pub number : Word
  pub tidy : Word
  pub fault : Option FaultKind

-- what an operation does: it is carried out at once, or by what the environment answers
pub data Effect : Type 0 where
  Plain : Next → Effect
  Acts : Event → (Answer → Next) → Effect

-- The state after a point: memory is as the answer has it, but for the own words, which no answer
-- changes; they stay, and so do temporaries.
abbrev pub state_after : List Slot → Around → State → Answer → State
state_after slots around s answer = with_memory s (seen slots around answer.memory)

-- ---- points

abbrev pub event_of : List Slot → Around → State → List Shown → Option Action → Option Event
event_of slots around s shown action =
    action >>= λ a.
    each_of (shown_word slots around s) shown >>= λ values.
    Some (record { action = a; shown = values; memory = s.memory })

abbrev pub effect_at : Option Event → (Answer → Next) → Effect
effect_at None go = Plain (Ends Undefined)
effect_at (Some event) go = Acts event go

-- what follows an answer, in the state behind the point
abbrev pub Reply : Type 0
Reply = State → Answer → Next

-- a point, where its action and what is shown are defined
abbrev pub passes : List Slot → Around → State → List Shown → Option Action → Reply → Effect
passes slots around s shown action go =
    let event = event_of slots around s shown action in
    effect_at event (λ answer. go (state_after slots around s answer) answer)

-- a temporary is set, where one is named
abbrev pub state_with_any : State → Option ℕ → Word → State
state_with_any s None w = s
state_with_any s (Some to) w = state_with s to w

abbrev pub state_with_raised : State → Option Raised → Answer → State
state_with_raised s None answer = s
state_with_raised s (Some raised) answer =
    let told = state_with s raised.exception (number answer.exception) in
    state_with (state_with told raised.number answer.number) raised.tidy answer.tidy

-- behind a call
abbrev pub after_call : Option ℕ → Option Raised → State → Answer → Next
after_call to raised s answer =
    Goes (state_with_raised (state_with_any s to answer.result) raised answer)

-- behind the making of a cell
abbrev pub after_make : ℕ → State → Answer → Next
after_make to s answer = Goes (state_with s to answer.result)

-- behind a service: its fault, or its result, and whether it was left by Thread.Alerted
abbrev pub served : Option ℕ → Option ℕ → Pos → State → Answer → Option FaultKind → Next
served to raised place s answer (Some kind) = Ends (Faulted kind place)
served to raised place s answer None =
    let alerted = number (flag (not (answer.exception == 0))) in
    Goes (state_with_any (state_with_any s to answer.result) raised alerted)

abbrev pub after_service : Option ℕ → Option ℕ → Pos → State → Answer → Next
after_service to raised place s answer = served to raised place s answer answer.fault

-- behind a point without an action
abbrev pub after_nothing : State → Answer → Next
after_nothing s answer = Goes s

-- a run: the events at its points, in order, and its end
pub record Outcome : Type 0 where
  pub events : List Event
  pub ending : Ending
