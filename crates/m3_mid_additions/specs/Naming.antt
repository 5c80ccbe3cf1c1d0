-- Operations that read no temporaries but those of their procedure.
use Rattle.std.specs.Prelude.{◌<◌, ℕ, List, [], ◌∷◌, length, Option, Some, None}
use Rattle.m3_mid.specs.declared.procs.Proc.{Proc}
use Rattle.m3_mid.specs.declared.procs.Block.{Block}
use Rattle.m3_mid.specs.declared.procs.End.{End}
use Rattle.m3_mid.specs.declared.procs.End.TheVariants as ends
use Rattle.m3_mid.specs.declared.ops.MidOp.{MidOp}
use Rattle.m3_mid.specs.declared.ops.MidOp.TheVariants as ops
use Rattle.m3_mid.specs.declared.ops.Operand.{Operand}
use Rattle.m3_mid.specs.declared.ops.Operand.TheVariants as operands
use Rattle.m3_mid.specs.declared.ops.MemoryWord.{MemoryWord}
use Rattle.m3_mid.specs.declared.ops.MemoryWord.TheVariants as places
use Rattle.m3_mid.specs.declared.calls.Actual.{Actual}
use Rattle.m3_mid.specs.declared.calls.Actual.TheVariants as actuals
use Rattle.m3_mid.specs.declared.calls.Callee.{Callee}
use Rattle.m3_mid.specs.declared.calls.Callee.TheVariants as callees
use Rattle.m3_mid.specs.declared.marks.Held.{Held}
use Rattle.m3_mid.specs.declared.marks.Held.TheVariants as held
use Rattle.m3_mid.specs.declared.marks.Shown.{Shown}

-- of so many temporaries
module _ (temps : ℕ) where
  abbrev pub IsOwn : Operand → Type 0
  IsOwn (operands.Temp t) = t < temps
  IsOwn (operands.Number n) = Unit {0}

  abbrev pub IsOwnIfAny : Option Operand → Type 0
  IsOwnIfAny None = Unit {0}
  IsOwnIfAny (Some o) = IsOwn o

  abbrev pub AreOwn : List Operand → Type 0
  AreOwn [] = Unit {0}
  AreOwn (o ∷ os) = IsOwn o × AreOwn os

  abbrev pub IsOwnWord : MemoryWord → Type 0
  IsOwnWord (places.At base offset) = base < temps
  IsOwnWord _ = Unit {0}

  abbrev pub IsOwnActual : Actual → Type 0
  IsOwnActual (actuals.Word operand) = IsOwn operand
  IsOwnActual (actuals.Slots first count) = Unit {0}
  IsOwnActual (actuals.Reference address base) = (address < temps) × IsOwn base

  abbrev pub AreOwnActuals : List Actual → Type 0
  AreOwnActuals [] = Unit {0}
  AreOwnActuals (a ∷ more) = IsOwnActual a × AreOwnActuals more

  abbrev pub IsOwnCallee : Callee → Type 0
  IsOwnCallee (callees.Outermost procedure) = Unit {0}
  IsOwnCallee (callees.Inner procedure environment) = environment < temps
  IsOwnCallee (callees.Value code environment) = (code < temps) × (environment < temps)
  IsOwnCallee (callees.Method method) = Unit {0}

  abbrev pub IsOwnHeld : Held → Type 0
  IsOwnHeld (held.Temp t) = t < temps
  IsOwnHeld (held.Slot slot) = Unit {0}

  abbrev pub AreOwnShown : List Shown → Type 0
  AreOwnShown [] = Unit {0}
  AreOwnShown (s ∷ more) = IsOwnHeld s.at × AreOwnShown more

  -- the operation reads no other temporary
  abbrev pub ReadsOwn : MidOp → Type 0
  ReadsOwn (ops.Number to value) = Unit {0}
  ReadsOwn (ops.Move to from) = from < temps
  ReadsOwn (ops.Arith to operator left right) = IsOwn left × IsOwn right
  ReadsOwn (ops.Checked to operator left right place) = IsOwn left × IsOwn right
  ReadsOwn (ops.Compare to relation left right) = IsOwn left × IsOwn right
  ReadsOwn (ops.Load to from) = IsOwnWord from
  ReadsOwn (ops.Store at from) = IsOwnWord at × IsOwn from
  ReadsOwn (ops.SlotAddress to slot) = Unit {0}
  ReadsOwn (ops.FrameAddress to) = Unit {0}
  ReadsOwn (ops.GlobalAddress to word) = Unit {0}
  ReadsOwn (ops.TextCell to text) = Unit {0}
  ReadsOwn (ops.ConstantAddress to constant) = Unit {0}
  ReadsOwn (ops.Index to array index words offset) = (array < temps) × IsOwn index
  ReadsOwn (ops.Copy to from words) = (to < temps) × (from < temps) × IsOwn words
  ReadsOwn (ops.Fill at words distance) = (at < temps) × IsOwn words × IsOwn distance
  ReadsOwn (ops.EqualWords to left right words) = (left < temps) × (right < temps) × IsOwn words
  ReadsOwn (ops.Check relation left right fault place) = IsOwn left × IsOwn right
  ReadsOwn (ops.TypeTest to cell tested) = cell < temps
  ReadsOwn (ops.MethodOf to object method) = object < temps
  ReadsOwn (ops.TextByte to text index) = (text < temps) × IsOwn index
  ReadsOwn (ops.EqualTexts to left right) = (left < temps) × (right < temps)
  ReadsOwn (ops.Call callee passed result raised shown) =
      IsOwnCallee callee × AreOwnActuals passed.now × AreOwnShown shown.now
  ReadsOwn (ops.Make to cell sizes shown) = AreOwnShown shown.now
  ReadsOwn (ops.Service service row to raised place shown) = AreOwn row.now × AreOwnShown shown.now
  ReadsOwn (ops.Point shown) = AreOwnShown shown.now

  abbrev pub ReadOwn : List MidOp → Type 0
  ReadOwn [] = Unit {0}
  ReadOwn (op ∷ more) = ReadsOwn op × ReadOwn more

  abbrev pub EndReadsOwn : End → Type 0
  EndReadsOwn (ends.Goto to) = Unit {0}
  EndReadsOwn (ends.If relation left right target other) = IsOwn left × IsOwn right
  EndReadsOwn (ends.Return value) = IsOwnIfAny value
  EndReadsOwn (ends.FaultAt kind place) = Unit {0}
  EndReadsOwn (ends.Raise exception number tidy) = IsOwn exception × IsOwn number × IsOwn tidy

  abbrev pub BlocksReadOwn : List Block → Type 0
  BlocksReadOwn [] = Unit {0}
  BlocksReadOwn (b ∷ bs) = (ReadOwn b.ops.now × EndReadsOwn b.end) × BlocksReadOwn bs

-- the procedure names no temporary that it hasn't, where it reads one
abbrev pub NamesOwnTemporaries : Proc → Type 0
NamesOwnTemporaries p = BlocksReadOwn (length p.temps.now) p.blocks.now
