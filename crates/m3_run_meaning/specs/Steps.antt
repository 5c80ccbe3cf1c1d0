-- One instruction of the thread that runs, whatever it is.
use Rattle.std.specs.Prelude.{ℕ, ◌≡◌, false, List, [], length, Ok, slice_get}
use Rattle.std.specs.Int.{cast_unsigned, w32}
use Rattle.m3_base.specs.declared.outcomes.Outcome.TheVariants.{Done, Trap}
use Rattle.m3_base.specs.Words.{add_words}
use Rattle.m3_isa.specs.Memory.{Memory}
use Rattle.m3_isa.specs.Effects as isa
use Rattle.m3_isa.specs.Effects.{Effect, reg, effect, may_write, next}
use Rattle.m3_isa.specs.declared.instructions.Op.{Op}
use Rattle.m3_isa.specs.declared.instructions.Op.TheVariants as op
use Rattle.m3_isa.specs.declared.instructions.Instr.{Instr}
use Rattle.m3_threads.specs.declared.status.Thread.{Thread}
use Rattle.m3_image_sections.specs.Parts.{Program}
use Rattle.m3_run_meaning.specs.State.{State, memory_of, can_set, Becomes, HasOtherWords, with_regs}
use Rattle.m3_run_meaning.specs.Act as act
use Rattle.m3_run_meaning.specs.Act.{Act, bytes_of, or_trap}
use Rattle.m3_run_meaning.specs.Progress.{Progress, Goes, Ends, Follows}
use Rattle.m3_run_meaning.specs.Calls.{stack_of, place_of, calls, number_before, method_called, returns, tells_method, Tests_type}
use Rattle.m3_run_meaning.specs.Acts.{faults_at, is_uncaught, puts_number, puts_byte, puts_text, gets, tells_end, tells_self}
use Rattle.m3_run_meaning.specs.OnThreads.{On_threads, answer_of, answer_of_end}
use Rattle.m3_run_meaning.specs.Making.{Makes_fixed, fixed_words}
use Rattle.m3_run_meaning.specs.NewTexts.{Makes_open, open_type, Cats, lengths_at, Makes_char, Subs, Forks_thread}

-- ---- plain instructions, by the instruction table

-- an instruction that traps may have put words at addresses that it may write
pub record Breaks_off (p : Program) (t : Thread) (i : Instr) (s u : State) : Type 0 where
  pub others : HasOtherWords s u
  pub words : (at : ℕ) → may_write i t.regs at ≡ false → memory_of p u at ≡ memory_of p s at

pub data Plainly (p : Program) (t : Thread) (i : Instr) (s : State) : Effect → Progress → Type 0 where
  goes : (regs : _) (memory : Memory) (u : State) → Becomes p (with_regs s regs) memory u → Plainly p t i s (isa.Goes regs memory) (Goes u)
  trap : (n : ℕ) (u : State) → Breaks_off p t i s u → Plainly p t i s (isa.Traps n) (Ends u (Trap n))

-- ---- THE TABLE, one line for each operation that isn't plain

-- an act of the running thread, and the bytes that it puts
abbrev pub Acted : Program → State → Act → List ℕ → Progress → Type 0
Acted p s deed bytes progress = (bytes ≡ bytes_of deed) × Follows p deed s progress

-- something that puts nothing
abbrev pub Silently : List ℕ → Type 0 → Type 0
Silently bytes fact = (bytes ≡ []) × fact

abbrev pub Acts : Program → List ℕ → Thread → Instr → State → List ℕ → Progress → Op → Type 0
Acts p input t i s bytes progress op.Call = Acted p s (calls p (Ok (cast_unsigned w32 i.imm)) (stack_of s.all t) t.regs (memory_of p s) (can_set s)) bytes progress
Acts p input t i s bytes progress op.Callr = Acted p s (calls p (number_before 3 (reg t.regs i.a)) (stack_of s.all t) t.regs (memory_of p s) (can_set s)) bytes progress
Acts p input t i s bytes progress op.Callm =
    Acted p s (calls p (method_called p (cast_unsigned w32 i.imm) (place_of t.regs) (memory_of p s)) (stack_of s.all t) t.regs (memory_of p s) (can_set s)) bytes progress
Acts p input t i s bytes progress op.Ret = Acted p s (returns (length p.code) t.regs (memory_of p s)) bytes progress
Acts p input t i s bytes progress op.Meth = Acted p s (tells_method p.types i t.regs (memory_of p s)) bytes progress
Acts p input t i s bytes progress op.Subt = (deed : Act) × Tests_type p.types i t.regs (memory_of p s) deed × Acted p s deed bytes progress
Acts p input t i s bytes progress op.New = Silently bytes (Makes_fixed p i (cast_unsigned w32 i.imm) s (fixed_words (slice_get p.types (cast_unsigned w32 i.imm))) progress)
Acts p input t i s bytes progress op.Newo = Silently bytes (Makes_open p t i s (open_type (slice_get p.types (cast_unsigned w32 i.imm))) progress)
Acts p input t i s bytes progress op.Point = Acted p s (act.Proceeds (next t.regs)) bytes progress
Acts p input t i s bytes progress op.Fault = Acted p s (faults_at p i) bytes progress
Acts p input t i s bytes progress op.Unc = Acted p s (is_uncaught p i t.regs) bytes progress
Acts p input t i s bytes progress op.Endp = Acted p s (act.Stops Done) bytes progress
Acts p input t i s bytes progress op.Endt = Silently bytes (On_threads p t i s answer_of_end progress)
Acts p input t i s bytes progress op.Cat = Silently bytes (Cats p i s (lengths_at (memory_of p s) (reg t.regs i.b) (reg t.regs i.c)) progress)
Acts p input t i s bytes progress op.Tchr = Silently bytes (Makes_char p i s progress)
Acts p input t i s bytes progress op.Tsub = Silently bytes (Subs p t i s (or_trap 2 (memory_of p s (add_words (reg t.regs i.b) 1))) progress)
Acts p input t i s bytes progress op.Fork = Silently bytes (Forks_thread p i s progress)
Acts p input t i s bytes progress op.Join = Silently bytes (On_threads p t i s answer_of progress)
Acts p input t i s bytes progress op.Acq = Silently bytes (On_threads p t i s answer_of progress)
Acts p input t i s bytes progress op.Rel = Silently bytes (On_threads p t i s answer_of progress)
Acts p input t i s bytes progress op.Wait = Silently bytes (On_threads p t i s answer_of progress)
Acts p input t i s bytes progress op.Sig = Silently bytes (On_threads p t i s answer_of progress)
Acts p input t i s bytes progress op.Bca = Silently bytes (On_threads p t i s answer_of progress)
Acts p input t i s bytes progress op.Self_ = Acted p s (tells_self (stack_of s.all t) i t.regs (memory_of p s)) bytes progress
Acts p input t i s bytes progress op.Put = Acted p s (puts_text i t.regs (memory_of p s)) bytes progress
Acts p input t i s bytes progress op.Putn = Acted p s (puts_number i t.regs) bytes progress
Acts p input t i s bytes progress op.Putc = Acted p s (puts_byte i t.regs) bytes progress
Acts p input t i s bytes progress op.Alert = Silently bytes (On_threads p t i s answer_of progress)
Acts p input t i s bytes progress op.Talert = Silently bytes (On_threads p t i s answer_of progress)
Acts p input t i s bytes progress op.Await = Silently bytes (On_threads p t i s answer_of progress)
Acts p input t i s bytes progress op.Ajoin = Silently bytes (On_threads p t i s answer_of progress)
Acts p input t i s bytes progress op.Getc = Acted p s (gets input s.taken i t.regs) bytes progress
Acts p input t i s bytes progress op.Eof = Acted p s (tells_end input s.taken i t.regs) bytes progress
Acts p input t i s bytes progress _ = Silently bytes (Plainly p t i s (effect i t.regs (memory_of p s) (can_set s)) progress)

-- one instruction of a thread that stands at it, which was counted before: what it puts and what becomes of the state
abbrev pub Does : Program → List ℕ → Thread → Instr → State → List ℕ → Progress → Type 0
Does p input t i s bytes progress = Acts p input t i s bytes progress i.op
