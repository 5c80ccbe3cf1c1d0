-- What an instruction of the running thread needs so that its deed is told.
use Rattle.std.specs.Prelude.{◌≡◌, ◌<◌, ◌+◌, ◌^◌, true, false}
use Rattle.m3_isa.specs.Instructions.{is_plain, is_point}
use Rattle.m3_isa.specs.declared.instructions.Op.{Op}
use Rattle.m3_isa.specs.declared.instructions.Op.TheVariants.{Put, Putn, Putc}
use Rattle.m3_isa.specs.declared.instructions.Instr.{Instr}
use Rattle.m3_heap.specs.declared.store.Store.{Ghosts}
use Rattle.m3_threads.specs.declared.status.Thread.{Thread}
use Rattle.m3_threads.specs.Going.{IsAwake}
use Rattle.m3_run_state.specs.declared.parts.Parts.{Parts}
use Rattle.m3_run_state.specs.Seen.{IsGoing, Running}

-- the thread runs and is awake, the instruction isn't plain, there is room in the counts of forks and waits, and no
-- collection ended in trap 9
pub record MayAct {S L : Type 0} {g : Ghosts S} (m : Parts S L g) (t : Thread) (i : Instr) : Type 0 where
  pub running : Running m t
  pub awake : IsAwake t
  pub acts : is_plain i.op ≡ false
  pub few : m.made < 2 ^ 63
  pub spare : is_point i.op ≡ true → m.made + 1 < 2 ^ 63
  pub going : IsGoing m

-- it puts nothing
abbrev pub IsSilent : Op → Type 0
IsSilent Put = ⊥
IsSilent Putn = ⊥
IsSilent Putc = ⊥
IsSilent _ = Unit {0}
