-- Activations of middle code, and where an activation stands.
use Rattle.std.specs.Prelude.{◌≡◌, ℕ, List, [], ◌∷◌, Option, Some, None, slice_get}
use Rattle.m3_mid.specs.declared.procs.Proc.{Proc}
use Rattle.m3_mid.specs.declared.procs.Block.{Block}
use Rattle.m3_mid.specs.declared.procs.End.{End}
use Rattle.m3_mid.specs.declared.ops.MidOp.{MidOp}
use Rattle.m3_mid_meaning.specs.Words.{Word}
use Rattle.m3_mid_meaning.specs.Memory as words
use Rattle.m3_mid_meaning.specs.Memory.{Around}
use Rattle.m3_mid_meaning.specs.States.{State, Ending, Undefined, Next, Goes, Ends}
use Rattle.m3_mid_meaning.specs.Points.{Event, Answer, Plain, Acts}
use Rattle.m3_mid_meaning.specs.Meaning.{effect_of, To, Over, exit_of}
use Rattle.m3_mid_meaning.specs.Stops.{Code}
use Rattle.m3_mid_programs.specs.Linked.{Procedure}

-- ---- memory

-- The words of memory; how many cells were made, so that the next one has this for its name; the
-- address of the frame of each activation, by the activation's number, and none once it was left;
-- and by its number each thread's slot, in which its stack lies. Cells and activations are numbered
-- in the order of their making, as in the source.
pub record Memory : Type 0 where
  pub words : words.Memory
  pub cells : ℕ
  pub frames : List (Option ℕ)
  pub slots : List ℕ

abbrev pub with_words : Memory → words.Memory → Memory
with_words m words = record m { words = words }

-- ---- activations

-- the frame of an activation, by the activation's number: its procedure, the first address of the
-- stack in which it lies, what stands around it, its own address among that, and where its caller
-- wants a wide result
pub record Frame : Type 0 where
  pub number : ℕ
  pub procedure : Procedure
  pub stack : ℕ
  pub around : Around
  pub result_at : Option Word

-- An activation stands before an operation that is a point. In its state are its temporaries and its
-- unshared slots. Memory is there as it was when it came to the point, and isn't looked at again.
pub record Activation : Type 0 where
  pub frame : Frame
  pub state : State
  pub op : MidOp
  pub rest : Code

-- The lowest activation of a thread, over the start of its stack, calls the module bodies that are
-- left, or hands on what the closure's method gives; each other one is that of a procedure.
pub data Activity : Type 0 where
  Bodies : (stack : ℕ) (order : List ℕ) → Activity
  Applying : (stack : ℕ) → Activity
  Within : Activation → Activity

-- ---- up to the next point

-- it comes to a point: its state there, the operation, what it tells and the code behind; or it ends
pub data Came : Type 0 where
  Stands : State → MidOp → Event → (rest : Code) → Came
  Ended : Ending → Came

-- from these operations and this end of a block on
pub data Comes (p : Proc) (around : Around) : List MidOp → End → State → Came → Type 0 where
  stands : (op : MidOp) (ops : List MidOp) (end : End) (s : State) (event : Event)
      (reply : Answer → Next)
      → effect_of p.slots.now around s op ≡ Acts event reply
      → Comes p around (op ∷ ops) end s (Stands s op event (record { ops = ops; end = end }))
  goes : (op : MidOp) (ops : List MidOp) (end : End) (s after : State) (came : Came)
      → effect_of p.slots.now around s op ≡ Plain (Goes after)
      → Comes p around ops end after came → Comes p around (op ∷ ops) end s came
  ends : (op : MidOp) (ops : List MidOp) (end : End) (s : State) (ending : Ending)
      → effect_of p.slots.now around s op ≡ Plain (Ends ending)
      → Comes p around (op ∷ ops) end s (Ended ending)
  leads : (end : End) (s : State) (b : ℕ) (block : Block) (came : Came) → exit_of s end ≡ To b
      → slice_get p.blocks.now b ≡ Some block
      → Comes p around block.ops.now block.end s came → Comes p around [] end s came
  leads_nowhere : (end : End) (s : State) (b : ℕ) → exit_of s end ≡ To b
      → slice_get p.blocks.now b ≡ None → Comes p around [] end s (Ended Undefined)
  leaves : (end : End) (s : State) (ending : Ending) → exit_of s end ≡ Over ending
      → Comes p around [] end s (Ended ending)
