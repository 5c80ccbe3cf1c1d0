-- Where the threads of a program stand between two of its instructions.
use Rattle.std.specs.Prelude.{ℕ, ◌≡◌, ◌≤◌, true, List, length, find, Some, slice_get}
use Rattle.std.specs.List.{AllByRecursion}
use Rattle.m3_threads.specs.declared.status.Thread.{Thread}
use Rattle.m3_threads.specs.All.{Everyone, is_named}
use Rattle.m3_threads.specs.Going.{IsAwake}
use Rattle.m3_threads.specs.Actions.{without}
use Rattle.m3_image_sections.specs.declared.procs.ProcPart.{ProcPart}
use Rattle.m3_image_sections.specs.Parts.{Program}
use Rattle.m3_image_sections.specs.Ranges.{is_point_at}

-- a thread stands at a point instruction
abbrev pub AtPoint : Program → Thread → Type 0
AtPoint p t = is_point_at p.code t.regs.pc ≡ true

-- the thread of a number is there, and a fact holds of it
abbrev pub Has : (Thread → Type 0) → ℕ → List Thread → Type 0
Has P n threads = (t : Thread) × (find (is_named n) threads ≡ Some t) × P t

-- between two turns each thread stands at a point instruction, and there are no more than are allowed
pub record AllAtPoints (p : Program) (all : Everyone) : Type 0 where
  pub each : AllByRecursion (AtPoint p) all.threads
  pub few : length all.threads ≤ all.allowed

-- in the turn of a thread it is awake, and each other one stands at a point instruction
pub record InTurnOf (p : Program) (n : ℕ) (all : Everyone) : Type 0 where
  pub running : Has IsAwake n all.threads
  pub others : AllByRecursion (AtPoint p) (without n all.threads)
  pub few : length all.threads ≤ all.allowed

-- the threads of a program begin with a point instruction of its procedure 1
pub record BeginsAtPoints (p : Program) : Type 0 where
  pub first : ProcPart
  pub there : slice_get p.procs 1 ≡ Some first
  pub point : is_point_at p.code first.first ≡ true
