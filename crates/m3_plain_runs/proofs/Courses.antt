-- The course of plain code: what each of its instructions does, and where so many of them lead.
use Rattle.std.specs.Prelude.{ℕ, zero, suc, ◌+◌, Bool, false, Option, None, Some, List, [], ◌++◌, slice_get}
use Rattle.std.specs.Int.{cast_unsigned, w32}
use Rattle.std.specs.Fmt.{signed_decimal}
use Rattle.m3_base.specs.declared.outcomes.FaultKind.{FaultKind}
use Rattle.m3_base.specs.declared.outcomes.Outcome.{Outcome}
use Rattle.m3_base.specs.declared.outcomes.Outcome.TheVariants.{Done, Fault as FaultOutcome}
use Rattle.m3_isa.specs.declared.instructions.Op.{Op}
use Rattle.m3_isa.specs.declared.instructions.Op.TheVariants.{Point, Fault, Endp, Putn, Li, Lih, Addo, Subo, Mulo}
use Rattle.m3_isa.specs.declared.instructions.Instr.{Instr}
use Rattle.m3_isa.specs.declared.registers.Regs.{Regs}
use Rattle.m3_isa.specs.Memory.{Memory}
use Rattle.m3_isa.specs.Effects.{Effect, Goes, Traps, NotPlain, effect, signed, next}
use Rattle.m3_threads.specs.Actions.{started_regs}
use Rattle.m3_run_meaning.specs.Acts.{fault_kinds}

-- between two instructions: the registers, the output so far, the points passed and the instructions executed
pub record Stage : Type 0 where
  pub regs : Regs
  pub output : List ℕ
  pub points : ℕ
  pub instructions : ℕ

-- on to a stage, to an outcome, or to an instruction that plain code doesn't have
pub data Course : Type 0 where
  GoesOn : Stage → Course
  Ends : Stage → Outcome → Course
  Strays : Course

abbrev pub first_stage : Stage
first_stage = record { regs = started_regs 0 0; output = []; points = 0; instructions = 0 }

-- one instruction more is executed
abbrev pub counted : Stage → Stage
counted s = record s { instructions = s.instructions + 1 }

-- and a point is passed, some bytes are put, and the next instruction comes
abbrev pub passed : Stage → List ℕ → Stage
passed s bytes = record (counted s) { regs = next s.regs; output = s.output ++ bytes; points = s.points + 1 }

abbrev pub faults : Stage → Option FaultKind → Option ℕ → Course
faults s (Some kind) (Some line) = Ends (counted s) (FaultOutcome kind 0 line)
faults s (Some kind) None = Strays
faults s None line = Strays

-- no instruction of plain code reads or writes a word of memory
abbrev pub nothing : Memory
nothing at = None

abbrev pub nowhere : ℕ → Bool
nowhere at = false

abbrev pub plainly : Stage → Effect → Course
plainly s (Goes regs memory) = GoesOn (record (counted s) { regs = regs })
plainly s (Traps n) = Strays
plainly s NotPlain = Strays

abbrev pub by_table : Instr → Stage → Course
by_table i s = plainly s (effect i s.regs nothing nowhere)

abbrev pub acts : Op → Instr → List ℕ → Stage → Course
acts Point i lines s = GoesOn (passed s [])
acts Putn i lines s = GoesOn (passed s (signed_decimal (signed s.regs i.a)))
acts Endp i lines s = Ends (counted s) Done
acts Fault i lines s = faults s (slice_get fault_kinds i.a) (slice_get lines (cast_unsigned w32 i.imm))
acts Li i lines s = by_table i s
acts Lih i lines s = by_table i s
acts Addo i lines s = by_table i s
acts Subo i lines s = by_table i s
acts Mulo i lines s = by_table i s
acts _ i lines s = Strays

abbrev pub act : Option Instr → List ℕ → Stage → Course
act None lines s = Strays
act (Some i) lines s = acts i.op i lines s

abbrev pub step : List Instr → List ℕ → Stage → Course
step code lines s = act (slice_get code s.regs.pc) lines s

abbrev pub and_then : Course → (Stage → Course) → Course
and_then (GoesOn s) go = go s
and_then (Ends s outcome) go = Ends s outcome
and_then Strays go = Strays

-- so many instructions at most
abbrev pub run : List Instr → List ℕ → ℕ → Stage → Course
run code lines zero s = GoesOn s
run code lines (suc n) s = and_then (step code lines s) (run code lines n)
