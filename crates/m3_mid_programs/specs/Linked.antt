-- A LINKED PROGRAM of middle code: its procedures by their numbers, and what all activations find
-- around them. Addresses are the machine's, but for those of cells.
use Rattle.std.specs.Prelude.{ℕ, List, Option, slice_get}
use Rattle.m3_mid.specs.declared.procs.Proc.{Proc}
use Rattle.m3_mid_meaning.specs.Memory.{Memory, Around}

-- A procedure: how many words each formal has, in order, and how many the result, where it has one.
-- A result of one word is returned. A wider one is stored at an address that the caller passes in
-- one word more, behind those of the formals. The frame of a procedure that this one calls begins
-- `body` words above its own, and of its own frame it uses the first `frame` words.
pub record Procedure : Type 0 where
  pub code : Proc
  pub formals : List ℕ
  pub result : Option ℕ
  pub body : ℕ
  pub frame : ℕ

-- a type of cells: its number, and the words of a cell with such sizes of its open dimensions, the
-- header and the sizes among them
pub record CellType : Type 0 where
  pub number : ℕ
  pub words : List ℕ → ℕ

pub record Linked : Type 0 where
  pub procedures : List Procedure
  -- the module bodies in the order in which they run
  pub order : List ℕ
  -- what stands around each activation, where its frame is put in
  pub around : Around
  -- the type of the cells that are made for a type of the checked program; and for which of those a
  -- type of cells, by its number, is
  pub cells : (kind : ℕ) → Option CellType
  pub kinds : (cell : ℕ) → Option ℕ
  pub text_cell : ℕ
  pub thread_cell : ℕ
  -- The first address of the stack in each slot, and the words of each. The frame of what the lowest
  -- activation of a thread calls begins so many words above the start of its stack.
  pub stacks : (slot : ℕ) → ℕ
  pub stack_words : ℕ
  pub lowest : ℕ
  -- memory at the start: the words of globals, the first of which are the main thread's cell
  pub memory : Memory
  -- the number of the exception Alerted
  pub alerted : ℕ

module _ (linked : Linked) where
  abbrev pub procedure_at : ℕ → Option Procedure
  procedure_at procedure = slice_get linked.procedures procedure

  -- what stands around an activation whose frame is at this address
  abbrev pub around_at : (frame : ℕ) → Around
  around_at frame = record linked.around { frame = frame }
