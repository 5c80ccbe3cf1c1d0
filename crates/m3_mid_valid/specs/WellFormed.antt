-- When a procedure of middle code is well formed: each name in it stands for something, and each operation
-- takes and gives words of the kinds that it is defined for.
use Rattle.std.specs.Prelude.{◌≡◌, ◌<◌, ◌≤◌, ◌+◌, ◌⊎◌, ⊤, ℕ, pos, ◌≤ℤ◌, [], length, All, slice_get, Option, Some, None, IsSomeAnd}
use Rattle.m3_mid.specs.declared.procs.Kind.TheVariants as kinds
use Rattle.m3_mid.specs.declared.procs.Proc.{Proc}
use Rattle.m3_mid.specs.declared.procs.Block.{Block}
use Rattle.m3_mid.specs.declared.procs.End.{End}
use Rattle.m3_mid.specs.declared.procs.End.TheVariants as ends
use Rattle.m3_mid.specs.declared.ops.MidOp.{MidOp}
use Rattle.m3_mid.specs.declared.ops.MidOp.TheVariants as ops
use Rattle.m3_mid.specs.declared.ops.Operand.{Operand}
use Rattle.m3_mid.specs.declared.ops.Operand.TheVariants as operands
use Rattle.m3_mid.specs.declared.marks.AccessMark.{AccessMark}
use Rattle.m3_mid.specs.declared.marks.ForMark.{ForMark}
use Rattle.m3_mid_valid.specs.declared.operands.Surroundings.{Surroundings}
use Rattle.m3_mid_valid.specs.Kinds.{HasKind, IsUntidy, IsNumber, IsTidy, IsWord}
use Rattle.m3_mid_valid.specs.Operations.{FitsNumber, FitsMove, FitsArith, IsNumberSum, FitsRelation, FitsIndex}
use Rattle.m3_mid_valid.specs.Memory.{HasSlotKind, IsSharedSlot, FitsLoad, FitsStore, FitsRow, FitsFill}
use Rattle.m3_mid_valid.specs.Calls.{IsActual, FitsCallee, FitsResult, FitsRaised, AreShown, FitsService}

-- the slots from which the sizes of a new cell are taken begin at one that is there
abbrev pub FitsSizes : Proc → Option ℕ → Type 0
FitsSizes p None = ⊤
FitsSizes p (Some first) = first < length p.slots.now

-- an operation of a procedure that stands in a program
abbrev pub IsOp : Proc → Surroundings → MidOp → Type 0
IsOp p around (ops.Number to value) = FitsNumber p.temps.now to value
IsOp p around (ops.Move to from) = FitsMove p.temps.now to from
IsOp p around (ops.Arith to operator left right) = FitsArith p.temps.now to operator left right
IsOp p around (ops.Checked to operator left right place) = IsNumberSum p.temps.now to left right
IsOp p around (ops.Compare to relation left right) =
    HasKind p.temps.now to kinds.Number × FitsRelation p.temps.now relation left right
IsOp p around (ops.Load to from) = FitsLoad p around.global_words to from
IsOp p around (ops.Store at from) = FitsStore p around.global_words at from
IsOp p around (ops.SlotAddress to slot) = IsUntidy p.temps.now to × IsSharedSlot p.slots.now slot
IsOp p around (ops.FrameAddress to) = HasKind p.temps.now to kinds.Number
IsOp p around (ops.GlobalAddress to word) = IsUntidy p.temps.now to × (word < around.global_words)
IsOp p around (ops.TextCell to text) = HasKind p.temps.now to kinds.Tidy × (text < around.texts)
IsOp p around (ops.ConstantAddress to constant) = IsUntidy p.temps.now to × (constant < around.constants)
IsOp p around (ops.Index to array index words offset) = FitsIndex p.temps.now to array index
IsOp p around (ops.Copy to from words) = FitsRow p to from words
IsOp p around (ops.Fill at words distance) = FitsFill p at words distance
IsOp p around (ops.EqualWords to left right words) =
    HasKind p.temps.now to kinds.Number × FitsRow p left right words
IsOp p around (ops.Check relation left right fault place) = FitsRelation p.temps.now relation left right
IsOp p around (ops.TypeTest to cell tested) =
    HasKind p.temps.now to kinds.Number × (HasKind p.temps.now cell kinds.Tidy × (tested < around.types))
IsOp p around (ops.MethodOf to object method) =
    HasKind p.temps.now to kinds.Number × HasKind p.temps.now object kinds.Tidy
IsOp p around (ops.TextByte to text index) =
    HasKind p.temps.now to kinds.Number × (HasKind p.temps.now text kinds.Tidy × IsNumber p.temps.now index)
IsOp p around (ops.EqualTexts to left right) =
    HasKind p.temps.now to kinds.Number × (HasKind p.temps.now left kinds.Tidy × HasKind p.temps.now right kinds.Tidy)
IsOp p around (ops.Call callee passed result raised shown) =
    FitsCallee p around.formals.now callee passed.now
    × (All (IsActual p) passed.now × (FitsResult p result × (FitsRaised p raised × AreShown p shown.now)))
IsOp p around (ops.Make to cell sizes shown) =
    HasKind p.temps.now to kinds.Tidy × ((cell < around.types) × (FitsSizes p sizes × AreShown p shown.now))
IsOp p around (ops.Service service row to raised place shown) =
    FitsService p.temps.now service row.now to raised × AreShown p shown.now
IsOp p around (ops.Point shown) = AreShown p shown.now

-- an exception that is told by a number is one of the program's
abbrev pub FitsException : Proc → ℕ → Operand → Type 0
FitsException p exceptions (operands.Temp t) = HasKind p.temps.now t kinds.Number
FitsException p exceptions (operands.Number n) = (pos 1 ≤ℤ n) × (n ≤ℤ pos exceptions)

-- the block is there
abbrev pub IsBlockNumber : Proc → ℕ → Type 0
IsBlockNumber p block = block < length p.blocks.now

-- how a block ends
abbrev pub IsEnd : Proc → Surroundings → End → Type 0
IsEnd p around (ends.Goto to) = IsBlockNumber p to
IsEnd p around (ends.If relation left right target other) =
    FitsRelation p.temps.now relation left right × (IsBlockNumber p target × IsBlockNumber p other)
IsEnd p around (ends.Return None) = ⊤
IsEnd p around (ends.Return (Some value)) = IsWord p.temps.now value
IsEnd p around (ends.FaultAt kind place) = ⊤
IsEnd p around (ends.Raise exception number tidy) =
    FitsException p around.exceptions exception × (IsNumber p.temps.now number × IsTidy p.temps.now tidy)

abbrev pub IsBlock : Proc → Surroundings → Block → Type 0
IsBlock p around block = All (IsOp p around) block.ops.now × IsEnd p around block.end

-- a derived pointer in a slot is the address of a formal by reference, and its base is behind it
abbrev pub IsSlot : Proc → ℕ → Type 0
IsSlot p s =
    HasSlotKind p.slots.now s kinds.Number
    ⊎ (HasSlotKind p.slots.now s kinds.Tidy
    ⊎ ((s + 1 < p.formals) × HasSlotKind p.slots.now (s + 1) kinds.Tidy))

-- an access that is marked is an Index into an array that a tidy pointer reaches
abbrev pub IsIndex : MidOp → Type 0
IsIndex (ops.Index to array index words offset) = ⊤
IsIndex _ = ⊥

abbrev pub IsAccess : Proc → AccessMark → Type 0
IsAccess p access =
    HasKind p.temps.now access.array kinds.Tidy
    × IsSomeAnd (slice_get p.blocks.now access.block) (λ block. IsSomeAnd (slice_get block.ops.now access.op) IsIndex)

abbrev pub IsMark : Proc → ForMark → Type 0
IsMark p mark =
    IsBlockNumber p mark.before
    × (IsBlockNumber p mark.turn
    × (((mark.accesses.now ≡ []) ⊎ HasKind p.temps.now mark.index kinds.Number) × All (IsAccess p) mark.accesses.now))

-- a well formed procedure, in a program that has what stands around it
pub record IsWellFormed (p : Proc) (around : Surroundings) : Type 0 where
  pub formals : p.formals ≤ length p.slots.now
  pub slots : (s : ℕ) → s < length p.slots.now → IsSlot p s
  pub start : IsBlockNumber p p.start
  pub blocks : All (IsBlock p around) p.blocks.now
  pub loops : All (IsMark p) p.loops.now
