-- Instructions on threads, mutexes, conditions and alerts: what m3_threads says, over the memory outside the stacks.
use Rattle.std.specs.Prelude.{ℕ, ◌≡◌, Bool}
use Rattle.m3_base.specs.declared.outcomes.Outcome.TheVariants.{Trap}
use Rattle.m3_isa.specs.Memory.{Memory}
use Rattle.m3_isa.specs.declared.instructions.Op.{Op}
use Rattle.m3_isa.specs.declared.instructions.Op.TheVariants as op
use Rattle.m3_isa.specs.declared.instructions.Instr.{Instr}
use Rattle.m3_threads.specs.declared.answers.Done.{Done}
use Rattle.m3_threads.specs.declared.answers.Done.TheVariants.{Went, Jumped, Slept, Trapped}
use Rattle.m3_threads.specs.declared.status.Thread.{Thread}
use Rattle.m3_threads.specs.All.{Everyone}
use Rattle.m3_threads.specs.Actions.{IsAfter, Signals, acquires, releases, waits, broadcasts, joins, ends, alerts, tests_alert, alert_waits, alert_joins}
use Rattle.m3_image_sections.specs.Parts.{Program}
use Rattle.m3_run_meaning.specs.declared.progress.Progress.{Progress as Answer}
use Rattle.m3_run_meaning.specs.declared.progress.Progress.TheVariants.{Goes, Rests, Ends}
use Rattle.m3_run_meaning.specs.State.{State, outside, settable, HasOtherWords, with_all}
use Rattle.m3_run_meaning.specs.Progress.{Progress, became}

-- THE TABLE of the operations on threads: the answer, the threads and the memory outside that such an operation of
-- an awake thread leaves
abbrev pub Acts_on_threads : Op → Thread → Instr → Everyone → Memory → (ℕ → Bool) → Done → Everyone → Memory → Type 0
Acts_on_threads op.Join t i all memory can done new_all new = IsAfter (joins t i all memory can) done new_all new
Acts_on_threads op.Acq t i all memory can done new_all new = IsAfter (acquires t i all memory can) done new_all new
Acts_on_threads op.Rel t i all memory can done new_all new = IsAfter (releases t i all memory can) done new_all new
Acts_on_threads op.Wait t i all memory can done new_all new = IsAfter (waits t i all memory can) done new_all new
Acts_on_threads op.Sig t i all memory can done new_all new = Signals t i all memory done new_all new
Acts_on_threads op.Bca t i all memory can done new_all new = IsAfter (broadcasts t i all memory) done new_all new
Acts_on_threads op.Alert t i all memory can done new_all new = IsAfter (alerts t i all memory) done new_all new
Acts_on_threads op.Talert t i all memory can done new_all new = IsAfter (tests_alert t i all memory) done new_all new
Acts_on_threads op.Await t i all memory can done new_all new = IsAfter (alert_waits t i all memory can) done new_all new
Acts_on_threads op.Ajoin t i all memory can done new_all new = IsAfter (alert_joins t i all memory can) done new_all new
Acts_on_threads op.Endt t i all memory can done new_all new = IsAfter (ends t i all memory can) done new_all new
Acts_on_threads _ t i all memory can done new_all new = Unit {0}

-- the thread goes on, or it rests since it sleeps, or the instruction trapped
abbrev pub answer_of : Done → Answer
answer_of Went = Goes
answer_of Jumped = Goes
answer_of Slept = Rests
answer_of (Trapped n) = Ends (Trap n)

-- a thread that ended rests
abbrev pub answer_of_end : Done → Answer
answer_of_end (Trapped n) = Ends (Trap n)
answer_of_end _ = Rests

-- what such an instruction of the running thread makes of a state; the thread goes on or rests by the answer
pub record On_threads (p : Program) (t : Thread) (i : Instr) (s : State) (answer : Done → Answer) (progress : Progress) : Type 0 where
  pub done : Done
  pub left : State
  pub acts : Acts_on_threads i.op t i s.all (outside p s) (settable s) done left.all (outside p left)
  pub others : HasOtherWords (with_all s left.all) left
  pub became : progress ≡ became (answer done) left
