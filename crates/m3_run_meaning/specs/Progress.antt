-- What becomes of a state by one instruction.
use Rattle.std.specs.Prelude.{ℕ, ◌≡◌, ◌+◌}
use Rattle.m3_base.specs.declared.outcomes.Outcome.{Outcome}
use Rattle.m3_base.specs.declared.outcomes.Outcome.TheVariants.{Trap}
use Rattle.m3_isa.specs.Memory.{Memory}
use Rattle.m3_image_sections.specs.Parts.{Program}
use Rattle.m3_run_meaning.specs.declared.progress.Progress.{Progress as Answer}
use Rattle.m3_run_meaning.specs.declared.progress.Progress.TheVariants as answer
use Rattle.m3_run_meaning.specs.Act as act
use Rattle.m3_run_meaning.specs.Act.{Act}
use Rattle.m3_run_meaning.specs.State.{State, Becomes, with_regs}

-- the thread goes on in its turn; or it rests since it fell asleep or ended; or the run ends
pub data Progress : Type 0 where
  Goes : State → Progress
  Rests : State → Progress
  Ends : State → Outcome → Progress

abbrev pub ends_with_trap : ℕ → State → Progress
ends_with_trap n s = Ends s (Trap n)

-- the answer of an instruction that trapped
abbrev pub trapped : ℕ → Answer
trapped n = answer.Ends (Trap n)

-- an answer with the state that was left
abbrev pub became : Answer → State → Progress
became answer.Goes s = Goes s
became answer.Rests s = Rests s
became (answer.Ends outcome) s = Ends s outcome

-- it goes on over another memory
abbrev pub GoesOver : Program → State → Memory → Progress → Type 0
GoesOver p s memory (Goes u) = Becomes p s memory u
GoesOver p s memory _ = ⊥

-- what an act of the running thread makes of a state
abbrev pub Follows : Program → Act → State → Progress → Type 0
Follows p (act.Proceeds regs) s progress = progress ≡ Goes (with_regs s regs)
Follows p (act.Writes regs memory) s progress = GoesOver p (with_regs s regs) memory progress
Follows p (act.Puts bytes regs) s progress = progress ≡ Goes (with_regs s regs)
Follows p (act.Takes regs) s progress = progress ≡ Goes (with_regs (record s { taken = s.taken + 1 }) regs)
Follows p (act.Stops outcome) s progress = progress ≡ Ends s outcome
