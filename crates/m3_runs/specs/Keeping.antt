-- WHAT A LANGUAGE KEEPS: an invariant that holds wherever its runs come, once it holds at the start.
use Rattle.std.specs.Prelude.{◌≡◌, ℕ, ◌<◌, List, [], ◌∷◌, Some}
use Rattle.m3_base.specs.declared.outcomes.Entry.{Entry}
use Rattle.m3_runs.specs.Languages.{Action, Answer, Move, Acts, Leaves, Thread, Parts, Language}
use Rattle.m3_runs.specs.States.{Given, State, thread_at, with_parts, with_memory, changing, come_to}
use Rattle.m3_runs.specs.Choice.{choice}
use Rattle.m3_runs.specs.Services.{Comes_to, Rests}
use Rattle.m3_runs.specs.Runs.{Over, Goes, Does, Collected_if, Turns, passed, runs_on, settled}
use Rattle.m3_runs.specs.Follows.{Invariant}

pub record Keeps {S V M : Type 0} (L : Language S V M) (given : Given) (I : Invariant S V M)
    : Type 0 where
  -- as the turn of a thread begins, behind a collection or without one
  pub begins : (s : State S V M) (entry : Entry) (n : ℕ) (parts : Parts S V M)
      → I.between s → s.points < given.points → Collected_if L s.parts entry.collect parts
      → choice L parts entry.to s.running ≡ Some n
      → I.acting (runs_on n (passed (with_parts s parts))) n
  -- by the action of the thread
  pub does : (n : ℕ) (t : Thread S V) (s after : State S V M) (stack : List S) (move : Move S V M)
      → I.acting s n → thread_at s.parts.threads n ≡ Some t
      → Does L given n t s t.action (Comes_to after stack move)
      → I.within after n stack move
  -- as the newest of its activations is told what the one above it came to
  pub goes : (u : State S V M) (n : ℕ) (s : S) (rest : List S) (answer : Answer V) (m : M)
      (move : Move S V M)
      → I.within u n (s ∷ rest) (Leaves answer m) → L.goes s answer m move
      → I.within u n rest move
  -- as the thread comes to its next point, as it is over, and as it sleeps
  pub stands : (u : State S V M) (n : ℕ) (s : S) (rest : List S) (action : Action V) (m : M)
      → I.within u n rest (Acts action s m)
      → I.between (with_memory (changing (come_to action (s ∷ rest)) n u) m)
  pub ends : (u after : State S V M) (n : ℕ) (answer : Answer V) (m : M)
      → I.within u n [] (Leaves answer m) → settled L u n (Over answer m) ≡ Goes after
      → I.between after
  pub rests : (n : ℕ) (t : Thread S V) (s after : State S V M)
      → I.acting s n → thread_at s.parts.threads n ≡ Some t
      → Does L given n t s t.action (Rests after) → I.between after

-- Then it holds behind every turn.
abbrev pub TurnsKeep : {S V M : Type 0} → Language S V M → Given → Invariant S V M → Type 0
TurnsKeep {S} {V} {M} L given I =
    (s after : State S V M) (entry : Entry) →
    I.between s → Turns L given s entry (Goes after) → I.between after
