-- What temporaries and operands hold.
use Rattle.std.specs.Prelude.{◌≡◌, ◌<◌, ◌⊎◌, ⊤, ℕ, pos, List, length, slice_get, Some}
use Rattle.m3_mid.specs.declared.procs.Kind.{Kind}
use Rattle.m3_mid.specs.declared.procs.Kind.TheVariants as kinds
use Rattle.m3_mid.specs.declared.ops.Operand.{Operand}
use Rattle.m3_mid.specs.declared.ops.Operand.TheVariants as operands

-- the temporary is there
abbrev pub IsTemp : List Kind → ℕ → Type 0
IsTemp temps t = t < length temps

-- the temporary is there and of the kind
abbrev pub HasKind : List Kind → ℕ → Kind → Type 0
HasKind temps t kind = slice_get temps t ≡ Some kind

-- the temporary holds no derived pointer
abbrev pub IsPlain : List Kind → ℕ → Type 0
IsPlain temps t = HasKind temps t kinds.Number ⊎ HasKind temps t kinds.Tidy

-- the temporary may hold an address outside the heap
abbrev pub IsUntidy : List Kind → ℕ → Type 0
IsUntidy temps t = HasKind temps t kinds.Number ⊎ HasKind temps t kinds.Address

-- the operand is a number
abbrev pub IsNumber : List Kind → Operand → Type 0
IsNumber temps (operands.Temp t) = HasKind temps t kinds.Number
IsNumber temps (operands.Number n) = ⊤

-- the operand is NIL or a tidy pointer
abbrev pub IsTidy : List Kind → Operand → Type 0
IsTidy temps (operands.Temp t) = HasKind temps t kinds.Tidy
IsTidy temps (operands.Number n) = n ≡ pos 0

-- the operand is a number or a tidy pointer
abbrev pub IsWord : List Kind → Operand → Type 0
IsWord temps (operands.Temp t) = IsPlain temps t
IsWord temps (operands.Number n) = ⊤

-- the operand is a number, or a temporary that is there
abbrev pub IsOperand : List Kind → Operand → Type 0
IsOperand temps (operands.Temp t) = IsTemp temps t
IsOperand temps (operands.Number n) = ⊤

-- both are numbers
abbrev pub AreNumbers : List Kind → Operand → Operand → Type 0
AreNumbers temps left right = IsNumber temps left × IsNumber temps right
