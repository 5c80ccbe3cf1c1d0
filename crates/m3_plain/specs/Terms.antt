-- What the plain form puts: whole numbers joined by operators. Their values, in the order of
-- evaluation, and what a list of puts gives.
use Rattle.std.specs.Prelude.{ℕ, ℤ, ◌+◌, ◌≤◌, max, ◌+ℤ◌, ◌-ℤ◌, ◌*ℤ◌, if◌then◌else◌, List, [], ◌∷◌, length, map, IsTrue, flat_map}
use Rattle.std.specs.Fmt.{signed_decimal}
use Rattle.m3_base.specs.declared.outcomes.FaultKind.TheVariants.{Overflow}
use Rattle.m3_base.specs.declared.outcomes.Outcome.{Outcome}
use Rattle.m3_base.specs.declared.outcomes.Outcome.TheVariants.{Done, Fault}
use Rattle.m3_base.specs.Integers.{is_integer}
use Rattle.m3_plain.specs.declared.plain.Arith.{Arith}
use Rattle.m3_plain.specs.declared.plain.Arith.TheVariants.{Add, Sub, Mul}
use Rattle.m3_plain.specs.declared.plain.Plain.{Plain}
use Rattle.m3_plain.specs.declared.plain.Plain.TheVariants.{Number as PlainNumber, Apply' as PlainApply}

-- a number, or an operator with its line and its two operands
pub data Term : Type 0 where
  Number : ℤ → Term
  Apply : Arith → ℕ → Term → Term → Term

-- what a `Plain` is, wherever its parts lie in memory
abbrev pub term_of : Plain → Term
term_of (PlainNumber n) = Number n
term_of (PlainApply op line p a q b) = Apply op line (term_of a) (term_of b)

abbrev pub terms_of : List Plain → List Term
terms_of puts = map term_of puts

-- how many numbers and operators a term has
abbrev pub nodes : Term → ℕ
nodes (Number n) = 1
nodes (Apply op line a b) = 1 + nodes a + nodes b

-- each number is an integer of the language
abbrev pub AreIntegers : Term → Type 0
AreIntegers (Number n) = IsTrue (is_integer n)
AreIntegers (Apply op line a b) = AreIntegers a × AreIntegers b

abbrev pub AllIntegers : List Term → Type 0
AllIntegers [] = Unit {0}
AllIntegers (put ∷ puts) = AreIntegers put × AllIntegers puts

abbrev pub all_nodes : List Term → ℕ
all_nodes [] = 0
all_nodes (put ∷ puts) = nodes put + all_nodes puts

-- how many values there are at once while a term is worked out, the left operand first
abbrev pub values_at_once : Term → ℕ
values_at_once (Number n) = 1
values_at_once (Apply op line a b) = max (values_at_once a) (1 + values_at_once b)

-- there are never more values at once than registers
abbrev pub AreShallow : List Term → Type 0
AreShallow [] = Unit {0}
AreShallow (put ∷ puts) = (values_at_once put ≤ 16) × AreShallow puts

-- what a term gives: an integer, or the line of the first operation whose result is none
pub data Value : Type 0 where
  Gives : ℤ → Value
  Overflows : ℕ → Value

abbrev pub result_of : Arith → ℤ → ℤ → ℤ
result_of Add x y = x +ℤ y
result_of Sub x y = x -ℤ y
result_of Mul x y = x *ℤ y

-- the left operand comes first, then the right one, then the operation
abbrev pub applied : Arith → ℕ → Value → Value → Value
applied op line (Overflows at) b = Overflows at
applied op line (Gives x) (Overflows at) = Overflows at
applied op line (Gives x) (Gives y) = if is_integer (result_of op x y) then Gives (result_of op x y) else Overflows line

abbrev pub value_of : Term → Value
value_of (Number n) = Gives n
value_of (Apply op line a b) = applied op line (value_of a) (value_of b)

-- an overflow ends the puts
abbrev pub put_first : Value → List ℤ → List ℤ
put_first (Gives z) values = z ∷ values
put_first (Overflows line) values = []

abbrev pub ended_by : Value → Outcome → Outcome
ended_by (Gives z) outcome = outcome
ended_by (Overflows line) outcome = Fault Overflow 0 line

-- the values that are put, in order, up to the first overflow
abbrev pub values_of : List Term → List ℤ
values_of [] = []
values_of (put ∷ puts) = put_first (value_of put) (values_of puts)

-- the decimals of the values
abbrev pub output_of : List Term → List ℕ
output_of puts = flat_map signed_decimal (values_of puts)

-- the call of the module's body, and each put
abbrev pub points_of : List Term → ℕ
points_of puts = 1 + length (values_of puts)

-- Done, or the fault of the first overflow, with its line in file 0
abbrev pub outcome_of : List Term → Outcome
outcome_of [] = Done
outcome_of (put ∷ puts) = ended_by (value_of put) (outcome_of puts)
