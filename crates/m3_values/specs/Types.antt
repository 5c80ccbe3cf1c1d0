-- What the meaning asks of types: members, shapes, ancestors, and what stands behind an opaque one.
use Rattle.std.specs.Prelude.{ℕ, ℤ, zero, suc, pos, negsuc, ◌-ℤ◌, ◌+◌, Bool, true, false, is_none, count_by, List, [], ◌∷◌, ◌++◌, length, Option, Some, None}
use Rattle.std.specs.Option.{option_map_or, option_and_then, unwrap_or}
use Rattle.std.specs.List.{list_any}
use Rattle.m3_types.specs.declared.nodes.Field.{Field}
use Rattle.m3_types.specs.declared.nodes.Formal.{Formal}
use Rattle.m3_types.specs.declared.nodes.Method.{Method}
use Rattle.m3_types.specs.declared.nodes.Secret.TheVariants as secret
use Rattle.m3_types.specs.declared.nodes.TypeNode.{TypeNode}
use Rattle.m3_types.specs.declared.nodes.TypeNode.TheVariants as node
use Rattle.m3_types.specs.Definitions.{head_at, node_at}
use Rattle.m3_types.specs.Kinds.{size_of, is_reference}
use Rattle.m3_types.specs.Reveals.{full_reveal}
use Rattle.m3_values.specs.Programs.{Program}
use Rattle.m3_values.specs.Sameness.{is_same_type}

-- the numbers of the first and the last member of an ordinal type
pub record Bounds : Type 0 where
  pub first : ℤ
  pub last : ℤ

abbrev pub bounds_in : Option TypeNode → Option Bounds
bounds_in (Some node.Integer) =
    Some (record { first = negsuc 9223372036854775807; last = pos 9223372036854775807 })
bounds_in (Some node.Boolean) = Some (record { first = pos 0; last = pos 1 })
bounds_in (Some node.Character) = Some (record { first = pos 0; last = pos 255 })
bounds_in (Some (node.Enumeration names)) =
    Some (record { first = pos 0; last = pos (length names.now) -ℤ pos 1 })
bounds_in (Some (node.Subrange base first last)) = Some (record { first = first; last = last })
bounds_in _ = None

-- the type of the elements of an array
abbrev pub element_in : Option TypeNode → Option ℕ
element_in (Some (node.FixedArray index element)) = Some element.0
element_in (Some (node.OpenArray element)) = Some element.0
element_in _ = None

-- the index type of a fixed array
abbrev pub index_in : Option TypeNode → Option ℕ
index_in (Some (node.FixedArray index element)) = Some index.0
index_in _ = None

abbrev pub is_open_in : Option TypeNode → Bool
is_open_in (Some (node.OpenArray element)) = true
is_open_in _ = false

-- the fields that a record type has, or that an object type adds to its parent's
abbrev pub fields_in : Option TypeNode → List Field
fields_in (Some (node.Fields fields)) = fields.now
fields_in (Some (node.Object brand parent fields methods overrides)) = fields.now
fields_in _ = []

abbrev pub methods_in : Option TypeNode → List Method
methods_in (Some (node.Object brand parent fields methods overrides)) = methods.now
methods_in _ = []

abbrev pub target_in : Option TypeNode → Option ℕ
target_in (Some (node.RefTo brand target)) = Some target.0
target_in _ = None

abbrev pub formals_in : Option TypeNode → List Formal
formals_in (Some (node.Procedure formals result raises)) = formals.now
formals_in _ = []

-- a type that stands below ROOT, and whose values are objects of it or NIL
abbrev pub is_object_in : Option TypeNode → Bool
is_object_in (Some (node.Object brand parent fields methods overrides)) = true
is_object_in (Some node.Root) = true
is_object_in (Some node.Mutex) = true
is_object_in (Some (node.Opaque bound secret.Condition)) = true
is_object_in (Some (node.Opaque bound secret.Thread)) = true
is_object_in _ = false

abbrev pub is_mutex_in : Option TypeNode → Bool
is_mutex_in (Some node.Mutex) = true
is_mutex_in _ = false

abbrev pub first_such : (count : ℕ) → (at : ℕ) → (ℕ → Bool) → Option ℕ
first_such zero at test = None
first_such (suc count) at test =
    elim (test at) [ true ↦ Some at | false ↦ first_such count (suc at) test ]

module _ (p : Program) where
  abbrev pub node_of : ℕ → Option TypeNode
  node_of t = node_at p.nodes t

  -- how far any chain or nesting of types of the program can go
  abbrev pub depth : ℕ
  depth = length p.nodes

  -- ---- ordinal types

  abbrev pub bounds : ℕ → Option Bounds
  bounds t = bounds_in (node_of t)

  -- how many members it has
  abbrev pub members : ℕ → ℕ
  members t = size_of (head_at p.nodes t)

  -- ---- arrays

  abbrev pub element : ℕ → Option ℕ
  element t = element_in (node_of t)

  abbrev pub is_open : ℕ → Bool
  is_open t = is_open_in (node_of t)

  -- the index of the first element: 0 of an open array
  abbrev pub first_index : ℕ → ℤ
  first_index t =
      option_map_or (λ b. b.first) (option_and_then bounds (index_in (node_of t))) (pos 0)

  -- how many elements an array type says that there are: none of an open one
  abbrev pub elements : ℕ → ℕ
  elements t = option_map_or members (index_in (node_of t)) 0

  -- the sizes of all dimensions, as far as types say them
  abbrev pub shape_to : (limit : ℕ) → ℕ → List ℕ
  shape_to zero t = []
  shape_to (suc limit) t = option_map_or (λ e. elements t ∷ shape_to limit e) (element t) []

  abbrev pub type_shape : ℕ → List ℕ
  type_shape t = shape_to depth t

  abbrev pub below_type : Option ℕ → List ℕ
  below_type e = option_map_or type_shape e []

  -- the sizes that it says of its dimensions: none of an open one
  abbrev pub size_said : ℕ → Option ℕ
  size_said t = elim (is_open t) [ true ↦ None | false ↦ Some (elements t) ]

  abbrev pub sizes_to : (limit : ℕ) → ℕ → List (Option ℕ)
  sizes_to zero t = []
  sizes_to (suc limit) t = option_map_or (λ e. size_said t ∷ sizes_to limit e) (element t) []

  abbrev pub type_sizes : ℕ → List (Option ℕ)
  type_sizes t = sizes_to depth t

  -- how many open dimensions it has
  abbrev pub open_dimensions : ℕ → ℕ
  open_dimensions t = count_by is_none (type_sizes t)

  -- ---- opaque types and objects

  -- An opaque type stands for the type that fully reveals it, whatever a unit sees.
  abbrev pub unveiled_in : ℕ → Option TypeNode → ℕ
  unveiled_in t (Some (node.Opaque bound secret.Revealed)) = unwrap_or (full_reveal p.reveals t) t
  unveiled_in t _ = t

  abbrev pub unveiled : ℕ → ℕ
  unveiled t = unveiled_in t (node_of t)

  abbrev pub parent_in : Option TypeNode → Option ℕ
  parent_in (Some (node.Object brand parent fields methods overrides)) = Some (unveiled parent.0)
  parent_in _ = None

  abbrev pub parent : ℕ → Option ℕ
  parent t = parent_in (node_of t)

  -- a type's ancestors and the type itself, the topmost first
  abbrev pub line_to : (limit : ℕ) → ℕ → List ℕ
  line_to zero t = []
  line_to (suc limit) t = option_map_or (line_to limit) (parent t) [] ++ t ∷ []

  abbrev pub line : ℕ → List ℕ
  line t = line_to depth t

  abbrev pub fields_of_all : List ℕ → List Field
  fields_of_all [] = []
  fields_of_all (t ∷ ts) = fields_in (node_of t) ++ fields_of_all ts

  -- the fields of an object, those of its ancestors first
  abbrev pub object_fields : ℕ → List Field
  object_fields t = fields_of_all (line t)

  -- the place of a field among those of an object, by the type that declares it
  abbrev pub object_field : (owner field : ℕ) → ℕ
  object_field owner field =
      option_map_or (λ above. length (object_fields above)) (parent owner) 0 + field

  -- ---- references in values

  abbrev pub any_field : (ℕ → Bool) → List Field → Bool
  any_field test fields = list_any (λ (f : Field). test f.kind.0) fields

  abbrev pub holds_reference_in : Option TypeNode → (ℕ → Bool) → (self : Bool) → Bool
  holds_reference_in (Some (node.Fields fields)) test self = any_field test fields.now
  holds_reference_in (Some (node.FixedArray index element)) test self = test element.0
  holds_reference_in _ test self = self

  abbrev pub holds_reference_to : (limit : ℕ) → ℕ → Bool
  holds_reference_to zero t = false
  holds_reference_to (suc limit) t =
      holds_reference_in (node_of t) (holds_reference_to limit) (is_reference (head_at p.nodes t))

  -- whether a value of the type has a reference in it
  abbrev pub holds_reference : ℕ → Bool
  holds_reference t = holds_reference_to depth t

  -- ---- the types of cells

  abbrev pub is_same : ℕ → ℕ → Bool
  is_same t u = is_same_type p.nodes t u

  -- the type itself, or an ancestor of it, is the same as the other one
  abbrev pub is_below : ℕ → ℕ → Bool
  is_below t u = list_any (λ a. is_same a u) (line t)

  -- Types that are the same have cells of one kind: that of the first of them.
  abbrev pub kind_of : ℕ → ℕ
  kind_of t = unwrap_or (first_such depth 0 (λ u. is_same u (unveiled t))) (unveiled t)
