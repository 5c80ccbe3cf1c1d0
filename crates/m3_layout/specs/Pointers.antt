-- Which words of a value are pointers to cells.
use Rattle.std.specs.Prelude.{◌≡◌, ℕ, zero, suc, ◌+◌, ◌≤◌, List, [], ◌∷◌, ◌++◌}
use Rattle.std.specs.Option.{option_map_or}
use Rattle.m3_types.specs.declared.nodes.Field.{Field}
use Rattle.m3_types.specs.declared.nodes.TypeNode.{TypeNode}
use Rattle.m3_types.specs.declared.nodes.TypeNode.TheVariants.{FixedArray, Fields, RefTo, Object, Opaque, Null, RefAny, Text, Mutex, Root}
use Rattle.m3_types.specs.Definitions.{node_at, head_at}
use Rattle.m3_types.specs.Kinds.{size_of}
use Rattle.m3_types_sizes.specs.Sizes.{words_to_depth, IsSized}

-- The pointers of fields that follow one another from a word on, where w has the words of their types
-- and p the pointers of a value that begins at a word.
abbrev pub field_pointers : (ℕ → ℕ) → (ℕ → ℕ → List ℕ) → ℕ → List Field → List ℕ
field_pointers w p at [] = []
field_pointers w p at (f ∷ fs) = p at f.kind.0 ++ field_pointers w p (at + w f.kind.0) fs

-- The pointers of so many elements of so many words each that follow one another from a word on.
abbrev pub element_pointers : ℕ → (ℕ → List ℕ) → ℕ → ℕ → List ℕ
element_pointers words p at zero = []
element_pointers words p at (suc count) = p at ++ element_pointers words p (at + words) count

-- The pointers of a value that begins at a word: the word itself where it is a reference, those of the
-- fields of a record and of the elements of a fixed array, and none else. A procedure value has none.
abbrev pub pointers_of_node : List TypeNode → (ℕ → ℕ) → (ℕ → ℕ → List ℕ) → ℕ → TypeNode → List ℕ
pointers_of_node nodes w p at (Fields fields) = field_pointers w p at fields.now
pointers_of_node nodes w p at (FixedArray index element) = element_pointers (w element.0) (λ k. p k element.0) at (size_of (head_at nodes index.0))
pointers_of_node nodes w p at (RefTo brand target) = at ∷ []
pointers_of_node nodes w p at (Object brand parent fields methods overrides) = at ∷ []
pointers_of_node nodes w p at (Opaque bound secret) = at ∷ []
pointers_of_node nodes w p at Null = at ∷ []
pointers_of_node nodes w p at RefAny = at ∷ []
pointers_of_node nodes w p at Text = at ∷ []
pointers_of_node nodes w p at Mutex = at ∷ []
pointers_of_node nodes w p at Root = at ∷ []
pointers_of_node nodes w p at _ = []

-- the pointers of a value of a type whose parts are nested less than so deep
abbrev pub pointers_to_depth : List TypeNode → ℕ → ℕ → ℕ → List ℕ
pointers_to_depth nodes zero at i = []
pointers_to_depth nodes (suc depth) at i = option_map_or (pointers_of_node nodes (words_to_depth nodes depth) (pointers_to_depth nodes depth) at) (node_at nodes i) []

-- The pointers of a value of the type, where its first word has the number `at`, are ps, however deep its
-- parts are nested.
abbrev pub ArePointers : List TypeNode → ℕ → ℕ → List ℕ → Type 0
ArePointers nodes at i ps = ∥ ((depth : ℕ) × (IsSized nodes depth i × (ps ≡ pointers_to_depth nodes depth at i))) ∥₁

-- the numbers rise strictly, from low on, and stay below high
abbrev pub RisesWithin : ℕ → ℕ → List ℕ → Type 0
RisesWithin low high [] = low ≤ high
RisesWithin low high (x ∷ xs) = (low ≤ x) × RisesWithin (suc x) high xs
