-- What an instruction makes of the registers of its thread and of the words.
use Rattle.std.specs.Prelude.{ℕ, List, [], Option, None, Some, Result, Ok, Err}
use Rattle.m3_base.specs.declared.outcomes.Outcome.{Outcome}
use Rattle.m3_base.specs.declared.outcomes.Outcome.TheVariants.{Trap}
use Rattle.m3_isa.specs.Memory.{Memory}
use Rattle.m3_isa.specs.declared.registers.Regs.{Regs}

-- the thread goes on with these registers; with them and this memory; having put these bytes; or having taken a
-- byte of the input; or the run ends
pub data Act : Type 0 where
  Proceeds : Regs → Act
  Writes : Regs → Memory → Act
  Puts : List ℕ → Regs → Act
  Takes : Regs → Act
  Stops : Outcome → Act

-- the bytes that it puts
abbrev pub bytes_of : Act → List ℕ
bytes_of (Puts bytes regs) = bytes
bytes_of _ = []

abbrev pub stops_with_trap : ℕ → Act
stops_with_trap n = Stops (Trap n)

-- what was found is used; where it wasn't, the run ends
abbrev pub using : {A : Type 0} → Result A Outcome → (A → Act) → Act
using (Ok x) go = go x
using (Err outcome) go = Stops outcome

-- what was found leads to something else, that may not be found either
abbrev pub finding : {A B : Type 0} → Result A Outcome → (A → Result B Outcome) → Result B Outcome
finding (Ok x) go = go x
finding (Err outcome) go = Err outcome

-- what isn't there is trap n
abbrev pub or_trap : {A : Type 0} → ℕ → Option A → Result A Outcome
or_trap n None = Err (Trap n)
or_trap n (Some x) = Ok x

-- a word is loaded, or the instruction traps
abbrev pub loading : Option ℕ → (ℕ → Act) → Act
loading word go = using (or_trap 2 word) go
