-- The kinds of words that operations take and give.
use Rattle.std.specs.Prelude.{◌≡◌, ◌⊎◌, ℕ, ℤ, pos, List, slice_get}
use Rattle.m3_mid.specs.declared.procs.Kind.{Kind}
use Rattle.m3_mid.specs.declared.procs.Kind.TheVariants as kinds
use Rattle.m3_mid.specs.declared.ops.Operand.{Operand}
use Rattle.m3_mid.specs.declared.ops.Relation.{Relation}
use Rattle.m3_mid.specs.declared.ops.Relation.TheVariants.{Equal, NotEqual}
use Rattle.m3_mid.specs.declared.ops.WordOperator.{WordOperator}
use Rattle.m3_mid.specs.declared.ops.WordOperator.TheVariants.{Add, Subtract}
use Rattle.m3_mid_valid.specs.Kinds.{IsTemp, HasKind, IsUntidy, IsNumber, IsTidy, IsOperand, AreNumbers}

-- a number goes into a temporary for numbers, and 0 into any
abbrev pub FitsNumber : List Kind → ℕ → ℤ → Type 0
FitsNumber temps to value = HasKind temps to kinds.Number ⊎ (IsTemp temps to × (value ≡ pos 0))

-- a temporary is moved to one of its own kind, or to one for addresses
abbrev pub FitsMove : List Kind → ℕ → ℕ → Type 0
FitsMove temps to from =
    IsTemp temps from × ((slice_get temps to ≡ slice_get temps from) ⊎ HasKind temps to kinds.Address)

-- a number of numbers
abbrev pub IsNumberSum : List Kind → ℕ → Operand → Operand → Type 0
IsNumberSum temps to left right = HasKind temps to kinds.Number × AreNumbers temps left right

-- an address of pointers and numbers
abbrev pub IsAddressSum : List Kind → ℕ → Operand → Operand → Type 0
IsAddressSum temps to left right =
    HasKind temps to kinds.Address × (IsOperand temps left × IsOperand temps right)

-- the distance of an address from the pointer that it was made from
abbrev pub IsDistance : List Kind → ℕ → Operand → Operand → Type 0
IsDistance temps to left right =
    HasKind temps to kinds.Number × (IsOperand temps left × IsTidy temps right)

-- Sums and differences may be addresses, and differences distances; all else is of numbers.
abbrev pub FitsArith : List Kind → ℕ → WordOperator → Operand → Operand → Type 0
FitsArith temps to Add left right = IsAddressSum temps to left right ⊎ IsNumberSum temps to left right
FitsArith temps to Subtract left right =
    IsAddressSum temps to left right ⊎ (IsDistance temps to left right ⊎ IsNumberSum temps to left right)
FitsArith temps to _ left right = IsNumberSum temps to left right

-- two numbers may be compared, and two tidy pointers by equality
abbrev pub FitsRelation : List Kind → Relation → Operand → Operand → Type 0
FitsRelation temps Equal left right =
    AreNumbers temps left right ⊎ (IsTidy temps left × IsTidy temps right)
FitsRelation temps NotEqual left right =
    AreNumbers temps left right ⊎ (IsTidy temps left × IsTidy temps right)
FitsRelation temps _ left right = AreNumbers temps left right

-- An element of an array that is reached by a pointer has an address of Kind Address. One in a frame, in the
-- globals or in a constant is reached by a number, and may have such a number as its address.
abbrev pub FitsIndex : List Kind → ℕ → ℕ → Operand → Type 0
FitsIndex temps to array index =
    IsNumber temps index
    × ((HasKind temps array kinds.Number × IsUntidy temps to) ⊎ (IsTemp temps array × HasKind temps to kinds.Address))
