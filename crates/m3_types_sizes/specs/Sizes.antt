-- How many words a value takes, and what a program may contain.
use Rattle.std.specs.Prelude.{◌≡◌, ℕ, zero, suc, ◌+◌, ◌*◌, ◌/◌, ◌≤◌, max, Bool, true, false, cond, List, [], ◌∷◌, length, Option, Some, None, IsSome, slice_get, count_by, is_none}
use Rattle.std.specs.Option.{option_map_or, option_and_then, unwrap_or}
use Rattle.m3_types.specs.declared.nodes.Field.{Field}
use Rattle.m3_types.specs.declared.nodes.TypeNode.{TypeNode}
use Rattle.m3_types.specs.declared.nodes.TypeNode.TheVariants.{Reserved, Fields, FixedArray, OpenArray, SetOf, Procedure, Constant}
use Rattle.m3_types.specs.Definitions.{node_at, head_at}
use Rattle.m3_types.specs.Kinds.{size_of}

-- the most words that a type of a program may take
abbrev pub most_words : ℕ
most_words = 1000000000

-- a set has a bit for each member, and at least a word
abbrev pub set_words : ℕ → ℕ
set_words members = max 1 ((members + 63) / 64)

-- the words of all fields, where w has those of their types
abbrev pub field_words : (ℕ → ℕ) → List Field → ℕ
field_words w [] = 0
field_words w (f ∷ fs) = w f.kind.0 + field_words w fs

-- The words of a value: 1 for an ordinal or a reference, 2 for a procedure, a bit for each member of
-- a set's base, and for a record or fixed array the sum of its parts, whose words w has.
abbrev pub words_of_node : List TypeNode → (ℕ → ℕ) → TypeNode → ℕ
words_of_node nodes w (Fields fields) = field_words w fields.now
words_of_node nodes w (FixedArray index element) = size_of (head_at nodes index.0) * w element.0
words_of_node nodes w (OpenArray element) = 0
words_of_node nodes w Reserved = 0
words_of_node nodes w (Constant value) = 0
words_of_node nodes w (SetOf base) = set_words (size_of (head_at nodes base.0))
words_of_node nodes w (Procedure formals result raises) = 2
words_of_node nodes w _ = 1

-- the words of a type whose parts are nested less than so deep
abbrev pub words_to_depth : List TypeNode → ℕ → ℕ → ℕ
words_to_depth nodes zero i = 0
words_to_depth nodes (suc depth) i = option_map_or (words_of_node nodes (words_to_depth nodes depth)) (node_at nodes i) 0

-- P holds of the type of each field
abbrev pub EachField : (ℕ → Type 0) → List Field → Type 0
EachField P [] = Unit {0}
EachField P (f ∷ fs) = P f.kind.0 × EachField P fs

-- P holds of the types of the fields or elements; there is no open array, and the definition is that
-- of a type
abbrev pub EachPart : (ℕ → Type 0) → TypeNode → Type 0
EachPart P (Fields fields) = EachField P fields.now
EachPart P (FixedArray index element) = P element.0
EachPart P (OpenArray element) = ⊥
EachPart P Reserved = ⊥
EachPart P (Constant value) = ⊥
EachPart P _ = Unit {0}

abbrev pub HasParts : (ℕ → Type 0) → Option TypeNode → Type 0
HasParts P None = ⊥
HasParts P (Some node) = EachPart P node

-- A value of the type has a size: its parts are nested less than so deep, none of them is an open
-- array, and none of them takes more words than a type of a program may.
abbrev pub IsSized : List TypeNode → ℕ → ℕ → Type 0
IsSized nodes zero i = ⊥
IsSized nodes (suc depth) i = HasParts (IsSized nodes depth) (node_at nodes i) × (words_to_depth nodes (suc depth) i ≤ most_words)

-- The words of a value of the type are w, however deep its parts are nested.
abbrev pub AreWords : List TypeNode → ℕ → ℕ → Type 0
AreWords nodes i w = ∥ ((depth : ℕ) × (IsSized nodes depth i × (w ≡ words_to_depth nodes depth i))) ∥₁

-- A value of the type has a size, however deep its parts are nested.
abbrev pub HasSize : List TypeNode → ℕ → Type 0
HasSize nodes i = ∥ ((depth : ℕ) × IsSized nodes depth i) ∥₁

-- A type that has a size doesn't contain itself, and so its parts are nested less deep than there are types.
abbrev pub IsShallow : List TypeNode → Type 0
IsShallow nodes = (i : ℕ) → HasSize nodes i → ∥ IsSized nodes (length nodes) i ∥₁

-- ---- the table of words

-- what the table has for a type: nothing where the type has no size
abbrev pub known_at : List (Option ℕ) → ℕ → Option ℕ
known_at table i = option_and_then (λ known. known) (slice_get table i)

abbrev pub Known : List (Option ℕ) → ℕ → Type 0
Known table i = IsSome (known_at table i)

-- the words of a type by the table
abbrev pub known_words : List (Option ℕ) → ℕ → ℕ
known_words table i = unwrap_or (known_at table i) 0

-- the table has the words of types
abbrev pub IsRight : List TypeNode → List (Option ℕ) → Type 0
IsRight nodes table = (i depth w : ℕ) → known_at table i ≡ Some w → IsSized nodes depth i → w ≡ words_to_depth nodes depth i

-- no words in the table pass the limit
abbrev pub IsLow : List (Option ℕ) → Type 0
IsLow table = (i w : ℕ) → known_at table i ≡ Some w → w ≤ most_words

-- the table has each type that has a size
abbrev pub IsFull : List TypeNode → List (Option ℕ) → Type 0
IsFull nodes table = (i depth : ℕ) → IsSized nodes depth i → known_at table i ≡ None → ⊥

-- the words of the definition's parts are in the table, and the words of the type within the limit
abbrev pub CanBeTold : List TypeNode → List (Option ℕ) → TypeNode → Type 0
CanBeTold nodes table node = EachPart (Known table) node × (words_of_node nodes (known_words table) node ≤ most_words)

-- how many types the table has
abbrev pub having : List (Option ℕ) → ℕ
having [] = 0
having (None ∷ table) = having table
having (Some words ∷ table) = suc (having table)

-- The types that are in the table have a size: their parts are nested no deeper than the table has types.
abbrev pub AreSized : List TypeNode → List (Option ℕ) → Type 0
AreSized nodes table = (i w : ℕ) → known_at table i ≡ Some w → ∥ IsSized nodes (having table) i ∥₁

-- how many types the table lacks
abbrev pub lacking : List (Option ℕ) → ℕ
lacking table = count_by is_none table

-- the table has the type, or can't have it yet
abbrev pub IsTold : List TypeNode → List (Option ℕ) → ℕ → Type 0
IsTold nodes table i = (node : TypeNode) → node_at nodes i ≡ Some node → known_at table i ≡ None → CanBeTold nodes table node → ⊥
