-- The constants and texts that stand in a program, and the first values of variables.
use Rattle.std.specs.Prelude.{ℕ, ℤ, zero, suc, pos, ◌∷◌, ◌++◌, List, [], map, Option, Some, None, slice_get, if◌then◌else◌, fold}
use Rattle.std.specs.Option.{option_map, option_map_or, unwrap_or}
use Rattle.m3_core.specs.declared.texts.Text.{Text as ProgramText}
use Rattle.m3_core.specs.declared.texts.Text.TheVariants as text
use Rattle.m3_core.specs.declared.values.Value.{Value as Constant}
use Rattle.m3_core.specs.declared.values.Value.TheVariants as constant
use Rattle.m3_core.specs.declared.values.ValueId.{ValueId}
use Rattle.m3_types.specs.declared.nodes.Field.{Field}
use Rattle.m3_types.specs.declared.nodes.Initial.{Initial}
use Rattle.m3_types.specs.declared.nodes.TypeNode.{TypeNode}
use Rattle.m3_types.specs.declared.nodes.TypeNode.TheVariants as node
use Rattle.m3_values.specs.Values.{Value, Ordinal, Nil, Text, Procedure, Members, Record, Array, items, row_of}
use Rattle.m3_values.specs.Integers.{is_between}
use Rattle.m3_values.specs.Programs.{Program}
use Rattle.m3_values.specs.Types.{node_of, depth, members, type_shape, element}
use Rattle.m3_values.specs.Arrays.{array_of, array_filled, up_to}

-- ---- texts

-- a text by those before it
abbrev pub text_bytes : List (List ℕ) → ProgramText → List ℕ
text_bytes known (text.Literal bytes) = bytes.now
text_bytes known (text.Made bytes) = bytes.now
text_bytes known (text.Joined left right length) =
    unwrap_or (slice_get known left) [] ++ unwrap_or (slice_get known right) []

-- the bytes of each text of the program
abbrev pub texts_of : List ProgramText → List (List ℕ)
texts_of texts = fold (λ known t. known ++ text_bytes known t ∷ []) [] texts

-- ---- constants

abbrev pub named : List Value → ValueId → Value
named known c = unwrap_or (slice_get known c.0) Nil

-- a constant by those before it
abbrev pub constant_value : List Value → Constant → Value
constant_value known (constant.Number n) = Ordinal n
constant_value known constant.Nil = Nil
constant_value known (constant.Text t) = Text t
constant_value known (constant.Procedure procedure) = Procedure procedure None
constant_value known (constant.Set numbers) = Members numbers.now
constant_value known (constant.Record fields) = Record (row_of (map (named known) fields.now))
constant_value known (constant.Array elements count) =
    array_of [] (up_to count (map (named known) elements.now))

-- the value of each constant of the program
abbrev pub constants_of : List Constant → List Value
constants_of constants = fold (λ known c. known ++ constant_value known c ∷ []) [] constants

module _ (p : Program) where
  -- A constant doesn't say which shape the elements have of an array without any: its type does.
  abbrev pub fitted_row : List (Value → Value) → List Value → List Value
  fitted_row [] vs = vs
  fitted_row (fit ∷ fits) [] = []
  fitted_row (fit ∷ fits) (v ∷ vs) = fit v ∷ fitted_row fits vs

  abbrev pub fitted_as : Option TypeNode → (ℕ → Value → Value) → Value → Value
  fitted_as (Some (node.FixedArray index element)) fit (Array below elements) =
      array_of (type_shape p element.0) (map (fit element.0) (items elements))
  fitted_as (Some (node.OpenArray element)) fit (Array below elements) =
      array_of (type_shape p element.0) (map (fit element.0) (items elements))
  fitted_as (Some (node.Fields fields)) fit (Record vs) =
      Record (row_of (fitted_row (map (λ f. fit f.kind.0) fields.now) (items vs)))
  fitted_as _ fit v = v

  abbrev pub fitted_to : (limit : ℕ) → (kind : ℕ) → Value → Value
  fitted_to zero kind v = v
  fitted_to (suc limit) kind v = fitted_as (node_of p kind) (fitted_to limit) v

  -- a constant of the program as a value of a type
  abbrev pub constant_at : (kind : ℕ) → (place : ℕ) → Option Value
  constant_at kind place =
      option_map (fitted_to (depth p) kind) (slice_get (constants_of p.constants) place)

  -- ---- first values

  -- 0 where the type has it, else its first value
  abbrev pub first_between : ℤ → ℤ → ℤ
  first_between first last = if is_between first last (pos 0) then pos 0 else first

  -- the default of a field, by what the type of the field has where none is written
  abbrev pub field_default : (ℕ → Value) → Field → Value
  field_default of_type f =
      option_map_or (λ (d : Initial). unwrap_or (constant_at f.kind.0 d.source) Nil) f.default
      (of_type f.kind.0)

  abbrev pub default_as : Option TypeNode → (ℕ → Value) → Value
  default_as (Some node.Integer) of_type = Ordinal (pos 0)
  default_as (Some node.Boolean) of_type = Ordinal (pos 0)
  default_as (Some node.Character) of_type = Ordinal (pos 0)
  default_as (Some (node.Enumeration names)) of_type = Ordinal (pos 0)
  default_as (Some (node.Subrange base first last)) of_type = Ordinal (first_between first last)
  default_as (Some (node.FixedArray index element)) of_type =
      array_filled (members p index.0) (of_type element.0)
  default_as (Some (node.OpenArray element)) of_type = array_filled 0 (of_type element.0)
  default_as (Some (node.Fields fields)) of_type =
      Record (row_of (map (field_default of_type) fields.now))
  default_as (Some (node.SetOf base)) of_type = Members []
  default_as _ of_type = Nil

  abbrev pub default_to : (limit : ℕ) → ℕ → Value
  default_to zero kind = Nil
  default_to (suc limit) kind = default_as (node_of p kind) (default_to limit)

  -- THE DEFAULT of a type: what a variable, field or element without initial value holds
  abbrev pub default_of : ℕ → Value
  default_of kind = default_to (depth p) kind

  -- an array of these sizes of open dimensions, with the defaults of its elements
  abbrev pub sized_default : (sizes : List ℕ) → (kind : ℕ) → Value
  sized_default [] kind = default_of kind
  sized_default (size ∷ sizes) kind =
      array_filled size (option_map_or (sized_default sizes) (element p kind) Nil)

  -- ---- before the first turn

  abbrev pub zero_as : Option TypeNode → (ℕ → Value) → Value
  zero_as (Some node.Integer) of_type = Ordinal (pos 0)
  zero_as (Some node.Boolean) of_type = Ordinal (pos 0)
  zero_as (Some node.Character) of_type = Ordinal (pos 0)
  zero_as (Some (node.Enumeration names)) of_type = Ordinal (pos 0)
  zero_as (Some (node.Subrange base first last)) of_type = Ordinal (pos 0)
  zero_as (Some (node.FixedArray index element)) of_type =
      array_filled (members p index.0) (of_type element.0)
  zero_as (Some (node.Fields fields)) of_type =
      Record (row_of (map (λ f. of_type f.kind.0) fields.now))
  zero_as (Some (node.SetOf base)) of_type = Members []
  zero_as _ of_type = Nil

  abbrev pub zero_to : (limit : ℕ) → ℕ → Value
  zero_to zero kind = Nil
  zero_to (suc limit) kind = zero_as (node_of p kind) (zero_to limit)

  -- what a variable of a module or interface holds before the first turn: 0, NIL, the empty set,
  -- or such parts
  abbrev pub zero_of : ℕ → Value
  zero_of kind = zero_to (depth p) kind
