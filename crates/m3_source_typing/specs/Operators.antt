-- WHICH OPERANDS FIT AN OPERATOR, and the type of what it gives.
use Rattle.std.specs.Prelude.{ℕ, ◌&&◌, Bool, true, false, List, [], ◌∷◌, Option, Some, None, int_le}
use Rattle.m3_types.specs.declared.nodes.TypeNode.{TypeNode}
use Rattle.m3_types.specs.declared.nodes.TypeNode.TheVariants as node
use Rattle.m3_core.specs.declared.exprs.Compared.{Compared}
use Rattle.m3_core.specs.declared.exprs.Compared.TheVariants as compared
use Rattle.m3_core.specs.declared.exprs.Operator.{Operator}
use Rattle.m3_core.specs.declared.exprs.Operator.TheVariants as operator
use Rattle.m3_core.specs.declared.exprs.Prefix.{Prefix}
use Rattle.m3_core.specs.declared.exprs.PrefixOperator.{PrefixOperator}
use Rattle.m3_core.specs.declared.exprs.PrefixOperator.TheVariants as prefix
use Rattle.m3_core.specs.declared.exprs.Relation.{Relation}
use Rattle.m3_core.specs.declared.exprs.Relation.TheVariants as relation
use Rattle.m3_values.specs.Values.{same_integer}
use Rattle.m3_values.specs.Programs.{Program}
use Rattle.m3_values.specs.Types.{Bounds, bounds, node_of, is_same}
use Rattle.m3_source_typing.specs.ValueTypes.{Class, OfNumbers, OfReferences, OfProcedures, OfRecords, OfArrays, class_of, member_in, member_bounds}

-- ---- kinds of types

abbrev pub is_integer_in : Option TypeNode → Bool
is_integer_in (Some node.Integer) = true
is_integer_in _ = false

abbrev pub is_boolean_in : Option TypeNode → Bool
is_boolean_in (Some node.Boolean) = true
is_boolean_in _ = false

-- the values of TEXT and of the type of NIL are texts or NIL
abbrev pub is_text_in : Option TypeNode → Bool
is_text_in (Some node.Text) = true
is_text_in _ = false

abbrev pub is_text_or_nil_in : Option TypeNode → Bool
is_text_or_nil_in (Some node.Text) = true
is_text_or_nil_in (Some node.Null) = true
is_text_or_nil_in _ = false

-- the base of a subrange; every other type is its own
abbrev pub base_in : ℕ → Option TypeNode → ℕ
base_in t (Some (node.Subrange base first last)) = base.0
base_in t _ = t

abbrev pub is_numbers : Class → Bool
is_numbers OfNumbers = true
is_numbers _ = false

abbrev pub is_references : Class → Bool
is_references OfReferences = true
is_references _ = false

abbrev pub is_procedures : Class → Bool
is_procedures OfProcedures = true
is_procedures _ = false

abbrev pub is_structured : Class → Bool
is_structured OfRecords = true
is_structured OfArrays = true
is_structured _ = false

-- both are there and the same
abbrev pub same_bounds : Option Bounds → Option Bounds → Bool
same_bounds (Some a) (Some b) = same_integer a.first b.first && same_integer a.last b.last
same_bounds _ _ = false

-- each number of the first is one of the second
abbrev pub within_bounds : Option Bounds → Option Bounds → Bool
within_bounds (Some a) (Some b) = int_le b.first a.first && int_le a.last b.last
within_bounds _ _ = false

abbrev pub is_equality : Relation → Bool
is_equality relation.Equal = true
is_equality relation.NotEqual = true
is_equality _ = false

module _ (p : Program) where
  abbrev pub base : ℕ → ℕ
  base t = base_in t (node_of p t)

  abbrev pub is_ordinal : ℕ → Bool
  is_ordinal t = is_numbers (class_of p t)

  -- numbers whose base is INTEGER
  abbrev pub is_number : ℕ → Bool
  is_number t = is_ordinal t && is_integer_in (node_of p (base t))

  abbrev pub is_truth : ℕ → Bool
  is_truth t = is_ordinal t && is_boolean_in (node_of p (base t))

  abbrev pub is_integer : ℕ → Bool
  is_integer t = is_integer_in (node_of p t)

  abbrev pub is_boolean : ℕ → Bool
  is_boolean t = is_boolean_in (node_of p t)

  -- sets of the same members
  abbrev pub same_sets : ℕ → ℕ → Bool
  same_sets t u = same_bounds (member_bounds p t) (member_bounds p u)

  abbrev pub is_part : ℕ → ℕ → Bool
  is_part t u = within_bounds (bounds p t) (bounds p u)

  -- ---- operators before an operand

  abbrev pub prefix_fits : PrefixOperator → (operand result : ℕ) → Bool
  prefix_fits prefix.Not operand result = is_truth operand && is_boolean result
  prefix_fits prefix.Minus operand result = is_number operand && is_integer result
  prefix_fits prefix.Abs operand result = is_number operand && is_integer result

  -- a row of them, of which all give the same type
  abbrev pub prefixes_fit : List Prefix → (operand result : ℕ) → Bool
  prefixes_fit [] operand result = false
  prefixes_fit (o ∷ []) operand result = prefix_fits o.operator operand result
  prefixes_fit (o ∷ more ∷ os) operand result =
      prefix_fits o.operator result result && prefixes_fit (more ∷ os) operand result

  -- ---- operators between two operands

  -- where two references are compared, or two procedures, one has to be assignable to the other;
  -- what they come to doesn't hang on that
  abbrev pub comparison_fits : Relation → Compared → (left right : ℕ) → Bool
  comparison_fits r compared.Ordinals left right =
      is_ordinal left && is_ordinal right && is_same p (base left) (base right)
  comparison_fits r compared.Sets left right = same_sets left right
  comparison_fits r compared.References left right =
      is_references (class_of p left) && is_references (class_of p right) && is_equality r
  comparison_fits r compared.Procedures left right =
      is_procedures (class_of p left) && is_procedures (class_of p right) && is_equality r
  comparison_fits r compared.Structures left right =
      is_structured (class_of p left) && is_structured (class_of p right) && is_equality r

  abbrev pub logic_fits : (left right result : ℕ) → Bool
  logic_fits left right result =
      is_boolean result && is_truth left && is_truth right && is_part left result
      && is_part right result

  abbrev pub arithmetic_fits : (left right result : ℕ) → Bool
  arithmetic_fits left right result = is_number left && is_number right && is_integer result

  abbrev pub sets_fit : (left right result : ℕ) → Bool
  sets_fit left right result = same_sets left right && same_sets left result

  abbrev pub is_member_of : (t set : ℕ) → Option ℕ → Bool
  is_member_of t set None = false
  is_member_of t set (Some member) = is_same p (base t) (base member)

  abbrev pub operator_fits : Operator → (left right result : ℕ) → Bool
  operator_fits operator.Or left right result = logic_fits left right result
  operator_fits operator.And left right result = logic_fits left right result
  operator_fits operator.Plus left right result = arithmetic_fits left right result
  operator_fits operator.Minus left right result = arithmetic_fits left right result
  operator_fits operator.Times left right result = arithmetic_fits left right result
  operator_fits operator.Div left right result = arithmetic_fits left right result
  operator_fits operator.Mod left right result = arithmetic_fits left right result
  operator_fits operator.Union left right result = sets_fit left right result
  operator_fits operator.Difference left right result = sets_fit left right result
  operator_fits operator.Intersection left right result = sets_fit left right result
  operator_fits operator.SymmetricDifference left right result = sets_fit left right result
  operator_fits operator.Concatenate left right result =
      is_text_or_nil_in (node_of p left) && is_text_or_nil_in (node_of p right)
      && is_text_in (node_of p result)
  operator_fits operator.In left right result =
      is_ordinal left && is_member_of left right (member_in (node_of p right)) && is_boolean result
  operator_fits (operator.Compare r c) left right result =
      comparison_fits r c left right && is_boolean result
