-- The machine point: between two turns the machine may stop, collect and choose another thread.
use Rattle.std.specs.Prelude.{ℕ, ◌≡◌, Bool, true, false, List, [], ◌∷◌, Option, None, Some}
use Rattle.m3_base.specs.declared.outcomes.Entry.{Entry}
use Rattle.m3_base.specs.declared.outcomes.Outcome.{Outcome}
use Rattle.m3_base.specs.declared.outcomes.Outcome.TheVariants.{Deadlock, Spent, Trap}
use Rattle.m3_threads.specs.Going.{IsChoice, NoneGoes}
use Rattle.m3_image_sections.specs.Parts.{Program}
use Rattle.m3_run_meaning.specs.State.{State, outside, raised}
use Rattle.m3_run_meaning.specs.Collecting.{Collects, Spoils}

-- past its last entry a schedule names no thread and asks for no collection
abbrev pub first_entry : List Entry → Entry
first_entry [] = record { to = None; collect = false }
first_entry (entry ∷ entries) = entry

abbrev pub later_entries : List Entry → List Entry
later_entries [] = []
later_entries (entry ∷ entries) = entries

-- a point is passed
abbrev pub passed : State → State
passed s = record s { points = raised 64 s.points }

-- the heap is collected where the entry asks for it, or that meets trap 9
pub data Collected_if (p : Program) (s : State) : Bool → Option State → Type 0 where
  left : Collected_if p s false (Some s)
  made : (u : State) → Collects p s u → Collected_if p s true (Some u)
  stuck : Collected_if p s true None

-- a thread was chosen
abbrev pub runs_on : State → ℕ → State
runs_on s n = record s { running = n }

-- some thread may go, and the points aren't used up: an entry is taken, and a thread is chosen
pub record Chooses (p : Program) (entry : Entry) (s turn : State) : Type 0 where
  pub some : NoneGoes s.all (outside p s) → ⊥
  pub ready : State
  pub collected : Collected_if p (passed s) entry.collect (Some ready)
  pub chosen : ℕ
  pub choice : IsChoice ready.all (outside p ready) entry.to ready.running (Some chosen)
  pub turns : turn ≡ runs_on ready chosen

-- or the run stops here: no thread may go, before the points are counted or once the heap was collected; or the
-- collection has to stop, in trap 9
pub data StopsAtPoint (p : Program) (entry : Entry) (s : State) : State → Outcome → Type 0 where
  nobody : NoneGoes s.all (outside p s) → StopsAtPoint p entry s s Deadlock
  trapped : (u : State) → (NoneGoes s.all (outside p s) → ⊥) → Collected_if p (passed s) entry.collect None → Spoils p (passed s) u → StopsAtPoint p entry s u (Trap 9)
  nobody_left : (ready : State) → (NoneGoes s.all (outside p s) → ⊥) → Collected_if p (passed s) entry.collect (Some ready)
      → NoneGoes ready.all (outside p ready) → StopsAtPoint p entry s ready Deadlock

-- what the machine says where no points are left
pub data Says_spent (p : Program) (s : State) : Outcome → Type 0 where
  deadlock : NoneGoes s.all (outside p s) → Says_spent p s Deadlock
  points_used : (NoneGoes s.all (outside p s) → ⊥) → Says_spent p s Spent
