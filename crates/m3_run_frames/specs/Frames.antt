-- The frames of a thread, by the rows of its image.
use Rattle.std.specs.Prelude.{◌≡◌, ℕ, ◌+◌, ◌≤◌, ◌<◌, Bool, true, false, List, length, Some}
use Rattle.std.specs.List.{slice_get}
use Rattle.std.specs.Option.{option_map_or}
use Rattle.m3_image.specs.Programs.{is_call}
use Rattle.m3_tables.specs.Numbers.{word_in}
use Rattle.m3_tables.specs.Sections.{instruction_in}
use Rattle.m3_image_sections.specs.declared.procs.ProcPart.{ProcPart}
use Rattle.m3_image_sections.specs.Parts.{Program}
use Rattle.m3_image_sections.specs.Ranges.{containing}
use Rattle.m3_run_frames.specs.declared.frame.Frame.{Frame}

-- a frame begins at a place of the stack and has an instruction: the row is that instruction's, and the frame has as
-- many words as that of the procedure that the instruction is in, all of them in the stack
pub record IsFrame (p : Program) (stack : List ℕ) (first instr : ℕ) (f : Frame) : Type 0 where
  pub row : f.row < word_in p.tables
  pub named : instruction_in p.tables f.row ≡ instr
  pub home : ProcPart
  pub housed : containing p.procs instr ≡ Some home
  pub words : f.words ≡ home.frame
  pub begins : f.first ≡ first
  pub within : f.first + f.words ≤ length stack

-- whether a call stands at a place of the code
abbrev pub is_call_at : Program → ℕ → Bool
is_call_at p pc = option_map_or (λ i. is_call i.op) (slice_get p.code pc) false

-- the frame below another: the newer one's first word is the number of the instruction behind the call that made
-- it, and its second the address where the older one begins
pub record IsOlder (p : Program) (base : ℕ) (stack : List ℕ) (newer older : Frame) : Type 0 where
  pub instr : ℕ
  pub back : slice_get stack newer.first ≡ Some (instr + 1)
  pub start : slice_get stack (newer.first + 1) ≡ Some (base + older.first)
  pub below : older.first < newer.first
  pub call : is_call_at p instr ≡ true
  pub frame : IsFrame p stack older.first instr older
