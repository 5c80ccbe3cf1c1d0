-- What is told of a type by going down to a depth, or up to a limit, that suffices for every type that has
-- a cell. The loops count by these; what they mean stands in Cells and Pointers.
use Rattle.std.specs.Prelude.{ℕ, zero, suc, ◌+◌, min, List, [], ◌∷◌, ◌++◌, length, Bool, true, false, Option, Some, None, IsSome}
use Rattle.std.specs.Option.{option_map_or}
use Rattle.m3_types.specs.declared.nodes.Field.{Field}
use Rattle.m3_types.specs.declared.nodes.Reveal.{Reveal}
use Rattle.m3_types.specs.declared.nodes.Secret.TheVariants.{Revealed, Thread, Condition}
use Rattle.m3_types.specs.declared.nodes.TypeNode.{TypeNode}
use Rattle.m3_types.specs.declared.nodes.TypeNode.TheVariants.{OpenArray, Object, Opaque, Mutex, Root}
use Rattle.m3_types.specs.Definitions.{node_at}
use Rattle.m3_types.specs.Reveals.{full_reveal}
use Rattle.m3_types_sizes.specs.Sizes.{words_to_depth, field_words, EachField, HasSize}
use Rattle.m3_layout.specs.Pointers.{field_pointers, pointers_to_depth}
use Rattle.m3_layout.specs.Cells.{Layout, array_element, parent_at}

-- The words of a value of a type. The parts of a type that has a size are nested less deep than there
-- are types.
abbrev pub value_words : List TypeNode → ℕ → ℕ
value_words nodes i = words_to_depth nodes (length nodes) i

-- the words that are pointers of a value of a type, where its first word has the number `at`
abbrev pub value_pointers : List TypeNode → ℕ → ℕ → List ℕ
value_pointers nodes at i = pointers_to_depth nodes (length nodes) at i

-- ---- open arrays

-- No array that doesn't contain itself has more dimensions than this. A type's place is below 2 ^ 32.
abbrev pub most_dims : List TypeNode → ℕ
most_dims nodes = min (length nodes) 4294967295

-- the type below at most so many open dimensions, and how many there are
abbrev pub element_below : List TypeNode → ℕ → ℕ → ℕ
element_below nodes zero i = i
element_below nodes (suc limit) i = option_map_or (element_below nodes limit) (array_element (node_at nodes i)) i

abbrev pub dims_below : List TypeNode → ℕ → ℕ → ℕ
dims_below nodes zero i = 0
dims_below nodes (suc limit) i = option_map_or (λ j. suc (dims_below nodes limit j)) (array_element (node_at nodes i)) 0

-- the element type of an open array; any other type itself
abbrev pub open_element : List TypeNode → ℕ → ℕ
open_element nodes i = element_below nodes (most_dims nodes) i

-- how many open dimensions a type has
abbrev pub open_dims : List TypeNode → ℕ → ℕ
open_dims nodes i = dims_below nodes (most_dims nodes) i

-- ---- objects

-- the words that a cell of a type has beside fields, and the pointers among them: a mutex has its
-- holder, a thread its number, its state and its result
abbrev pub own_words : List TypeNode → Option TypeNode → ℕ
own_words nodes (Some (Object brand parent fields methods overrides)) = field_words (value_words nodes) fields.now
own_words nodes (Some (Opaque bound Thread)) = 3
own_words nodes (Some Mutex) = 1
own_words nodes _ = 0

abbrev pub own_pointers : List TypeNode → ℕ → Option TypeNode → List ℕ
own_pointers nodes at (Some (Object brand parent fields methods overrides)) = field_pointers (value_words nodes) (value_pointers nodes) at fields.now
own_pointers nodes at (Some (Opaque bound Thread)) = (at + 2) ∷ []
own_pointers nodes at _ = []

abbrev pub object_fields : Option TypeNode → Option (List Field)
object_fields (Some (Object brand parent fields methods overrides)) = Some fields.now
object_fields _ = None

abbrev pub is_thread : Option TypeNode → Bool
is_thread (Some (Opaque bound Thread)) = true
is_thread _ = false

abbrev pub mutex_words : Option TypeNode → ℕ
mutex_words (Some Mutex) = 1
mutex_words _ = 0

-- a type and its ancestors, the topmost first. An object type that isn't its own ancestor has fewer
-- ancestors than there are types
abbrev pub line_to : List TypeNode → List Reveal → ℕ → ℕ → List ℕ
line_to nodes reveals zero i = []
line_to nodes reveals (suc limit) i = option_map_or (line_to nodes reveals limit) (parent_at nodes reveals i) [] ++ i ∷ []

abbrev pub line_of : List TypeNode → List Reveal → ℕ → List ℕ
line_of nodes reveals i = line_to nodes reveals (length nodes) i

-- the words and pointers that types of a line have together, from a word on
abbrev pub line_words : List TypeNode → List ℕ → ℕ
line_words nodes [] = 0
line_words nodes (i ∷ is) = own_words nodes (node_at nodes i) + line_words nodes is

abbrev pub line_pointers : List TypeNode → ℕ → List ℕ → List ℕ
line_pointers nodes at [] = []
line_pointers nodes at (i ∷ is) = own_pointers nodes at (node_at nodes i) ++ line_pointers nodes (at + own_words nodes (node_at nodes i)) is

-- ---- cells

-- a value of a type behind so many words of a header
abbrev pub value_cell : List TypeNode → ℕ → ℕ → ℕ → Layout
value_cell nodes header dims i = record { words = header + value_words nodes i; dims = dims; pointers = value_pointers nodes header i }

-- a header, and a value of a type that is no open array
abbrev pub plain_cell : List TypeNode → ℕ → Layout
plain_cell nodes i = value_cell nodes 1 0 i

-- an element of an open array, without the header and the sizes in front of all elements
abbrev pub open_cell : List TypeNode → ℕ → Layout
open_cell nodes i = value_cell nodes 0 (open_dims nodes i) (open_element nodes i)

-- a header, and the words of a type and its ancestors
abbrev pub object_cell : List TypeNode → List Reveal → ℕ → Layout
object_cell nodes reveals i = record { words = 1 + line_words nodes (line_of nodes reveals i); dims = 0; pointers = line_pointers nodes 1 (line_of nodes reveals i) }

abbrev pub target_cell : List TypeNode → ℕ → Option TypeNode → Layout
target_cell nodes i (Some (OpenArray element)) = open_cell nodes i
target_cell nodes i _ = plain_cell nodes i

-- ---- types that have cells

-- a type that an object type may be or come from: its fields have sizes, or it is fully revealed, or it is
-- ROOT, MUTEX or a type of the interface Thread
abbrev pub CanStand : List TypeNode → List Reveal → ℕ → Option TypeNode → Type 0
CanStand nodes reveals i (Some (Object brand parent fields methods overrides)) = EachField (HasSize nodes) fields.now
CanStand nodes reveals i (Some (Opaque bound Revealed)) = IsSome (full_reveal reveals i)
CanStand nodes reveals i (Some (Opaque bound Thread)) = Unit {0}
CanStand nodes reveals i (Some (Opaque bound Condition)) = Unit {0}
CanStand nodes reveals i (Some Mutex) = Unit {0}
CanStand nodes reveals i (Some Root) = Unit {0}
CanStand nodes reveals i _ = ⊥

abbrev pub OfParent : (ℕ → Type 0) → Option ℕ → Type 0
OfParent P None = Unit {0}
OfParent P (Some t) = P t

-- an object type, whose ancestors end fewer than so many steps above it
abbrev pub EndsWithin : List TypeNode → List Reveal → ℕ → ℕ → Type 0
EndsWithin nodes reveals zero i = ⊥
EndsWithin nodes reveals (suc limit) i = CanStand nodes reveals i (node_at nodes i) × OfParent (EndsWithin nodes reveals limit) (parent_at nodes reveals i)
