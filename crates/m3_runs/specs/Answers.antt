-- THE LAW OF LIFTING: every run of a language that follows another is answered by a run of that
-- other one, turn by turn.
use Rattle.std.specs.Prelude.{◌≡◌, ℕ, ◌+◌, ◌<◌, List, Some}
use Rattle.m3_base.specs.declared.outcomes.Entry.{Entry}
use Rattle.m3_base.specs.declared.outcomes.Outcome.{Outcome}
use Rattle.m3_base.specs.declared.outcomes.Outcome.TheVariants as outcome
use Rattle.m3_runs.specs.Languages.{Parts, Language}
use Rattle.m3_runs.specs.States.{Given, State, shown}
use Rattle.m3_runs.specs.Choice.{choice}
use Rattle.m3_runs.specs.Runs.{Result, Goes, Ends, Undefined, Runs, first_entry, entries_after}
use Rattle.m3_runs.specs.Follows.{Each, Invariant, Standing, SameShown, Shows, Room}

module _ {W SA VA MA SB VB MB : Type 0} (R : Standing W SA VA MA SB VB MB)
    (K : Language SA VA MA) (L : Language SB VB MB) (room : Room R) (given : Given) where
  -- The run of K came after fewer turns to a state whose next thread lacks room, of which `P` is
  -- known; the other run ended in that turn, in a state with the same output and this point more.
  pub record Lacks (P : Parts SA VA MA → ℕ → Type 0) (s : State SA VA MA) (schedule : List Entry)
      (turns : ℕ) (u' : State SB VB MB) : Type 0 where
    pub before : ℕ
    pub fewer : before < turns
    pub state : State SA VA MA
    pub runs : Runs K given s schedule before (Goes state)
    pub thread : ℕ
    pub next : choice K state.parts
        (first_entry (entries_after before schedule)).to state.running ≡ Some thread
    pub known : P state.parts thread
    pub output : state.output ≡ u'.output
    pub points : u'.points ≡ state.points + 1

  -- What the run of K does for a run of L of as many turns: it comes to a state that the other one
  -- shows; or it ends with the same outcome, output and points; or the other one ends since its
  -- heap or a stack is full, and `room` says what is known of K's thread; or what K's run does
  -- isn't defined.
  pub data Answers (s : State SA VA MA) (schedule : List Entry) (turns : ℕ)
      : Result SB VB MB → Type 0 where
    comes : (w : W) (u : State SA VA MA) (u' : State SB VB MB)
        → Runs K given s schedule turns (Goes u) → Shows R w u u'
        → Answers s schedule turns (Goes u')
    ends : (u : State SA VA MA) (u' : State SB VB MB) (o : Outcome)
        → Runs K given s schedule turns (Ends u o) → u.output ≡ u'.output → u.points ≡ u'.points
        → Answers s schedule turns (Ends u' o)
    no_cell : (u' : State SB VB MB) → Lacks room.no_cell s schedule turns u'
        → Answers s schedule turns (Ends u' outcome.HeapFull)
    no_frame : (u' : State SB VB MB) → Lacks room.no_frame s schedule turns u'
        → Answers s schedule turns (Ends u' outcome.StackFull)
    undefined : (r' : Result SB VB MB) → Runs K given s schedule turns Undefined
        → Answers s schedule turns r'

  abbrev pub RunsTheSame : Invariant SA VA MA → Invariant SB VB MB → Type 0
  RunsTheSame I J =
      (w : W) (s : State SA VA MA) (s' : State SB VB MB) →
      (schedule : List Entry) (turns : ℕ) (r' : Result SB VB MB) →
      I.between s → J.between s' → Shows R w s s' → Runs L given s' schedule turns r' → Answers s schedule turns r'

-- States of which one shows the other show the same variables, activation by activation, with
-- values that stand for one another.
abbrev pub ShownTheSame : {W SA VA MA SB VB MB : Type 0} → Standing W SA VA MA SB VB MB
    → Language SA VA MA → Language SB VB MB → Invariant SA VA MA → Invariant SB VB MB → Type 0
ShownTheSame {W} {SA} {VA} {MA} {SB} {VB} {MB} R K L I J =
    (w : W) (s : State SA VA MA) (s' : State SB VB MB) →
    I.between s → J.between s' → Shows R w s s' →
    Each (Each (Each (SameShown R w))) (shown K s) (shown L s')
