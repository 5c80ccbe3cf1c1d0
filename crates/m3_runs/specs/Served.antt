-- WHAT A SERVICE CHANGES of threads and memory: what threads wait for, their alert marks, and at most
-- one mutex or one thread's cell.
use Rattle.std.specs.Prelude.{◌≡◌, ℕ, ◌+◌, ◌≤◌, List, Option, Some}
use Rattle.m3_runs.specs.Languages.{Service, Answer, Thread, Language}
use Rattle.m3_runs.specs.States.{Given, State}
use Rattle.m3_runs.specs.Services.{Done, Rests, answers, undefined, serves}
use Rattle.m3_runs.specs.Follows.{Each, Both}

-- the same action, cell and activations
pub record SameButWaiting {S V : Type 0} (t u : Thread S V) : Type 0 where
  pub action : u.action ≡ t.action
  pub cell : u.cell ≡ t.cell
  pub stack : u.stack ≡ t.stack

module _ {S V M : Type 0} (L : Language S V M) (n : ℕ) where
  -- what thread n wrote
  pub data Wrote (m : M) : M → Type 0 where
    nothing : Wrote m m
    holder : (v : V) (holder : ℕ) (after : M) → holder ≤ n + 1 → L.hold m v holder ≡ Some after
        → Wrote m after
    join : (v : V) (after : M) → L.join m v ≡ Some after → Wrote m after

  pub record Left (s after : State S V M) : Type 0 where
    pub threads : Each (Both SameButWaiting) s.parts.threads after.parts.threads
    pub memory : Wrote s.parts.memory after.parts.memory

  -- the thread is told an answer, falls asleep, or did what isn't defined
  pub data ServedSo (t : Thread S V) (s : State S V M) : Done S V M → Type 0 where
    answered : (after : State S V M) (answer : Answer V) → Left s after
        → ServedSo t s (answers after t answer)
    slept : (after : State S V M) → Left s after → ServedSo t s (Rests after)
    not_defined : (after : State S V M) → ServedSo t s (undefined after)

abbrev pub ServesSo : {S V M : Type 0} → Language S V M → Type 0
ServesSo {S} {V} {M} L =
    (given : Given) (n : ℕ) (t : Thread S V) (s : State S V M) (service : Service V) →
    ServedSo L n t s (serves L given n t service s)
