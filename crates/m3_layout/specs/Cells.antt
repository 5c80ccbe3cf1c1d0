-- How the cells of a type are laid out.
use Rattle.std.specs.Prelude.{◌≡◌, ℕ, zero, suc, ◌+◌, ◌<◌, ◌^◌, List, [], ◌∷◌, ◌++◌, Option, Some, None, IsSome}
use Rattle.std.specs.Option.{unwrap_or}
use Rattle.m3_types.specs.declared.nodes.Reveal.{Reveal}
use Rattle.m3_types.specs.declared.nodes.Secret.TheVariants.{Revealed, Thread, Condition}
use Rattle.m3_types.specs.declared.nodes.TypeNode.{TypeNode}
use Rattle.m3_types.specs.declared.nodes.TypeNode.TheVariants.{OpenArray, RefTo, Object, Opaque, Mutex, Root}
use Rattle.m3_types.specs.Definitions.{node_at}
use Rattle.m3_types.specs.Reveals.{full_reveal}
use Rattle.m3_types_sizes.specs.Sizes.{AreWords}
use Rattle.m3_layout.specs.Pointers.{ArePointers}

-- The words of a cell that isn't open, its header counted, or of an element of an open one; the number
-- of open dimensions; and the pointers, counted from the header or from the start of each element.
pub record Layout : Type 0 where
  pub words : ℕ
  pub dims : ℕ
  pub pointers : List ℕ

-- where a value in a cell begins: behind the header, or an element of an open array at its own first word
abbrev pub first_word : ℕ → ℕ
first_word zero = 1
first_word (suc dims) = 0

-- ---- values in a row

-- A value of the type that begins at a word takes so many words, and these are the pointers among them.
abbrev pub IsValue : List TypeNode → ℕ → ℕ → ℕ → List ℕ → Type 0
IsValue nodes at i words pointers = AreWords nodes i words × ArePointers nodes at i pointers

-- Parts that follow one another from a word on take so many words, and these are the pointers among them,
-- where P says so of one part.
abbrev pub AreInTurn : {A : Type 0} → (ℕ → A → ℕ → List ℕ → Type 0) → ℕ → List A → ℕ → List ℕ → Type 0
AreInTurn P at [] words pointers = (words ≡ 0) × (pointers ≡ [])
AreInTurn P at (x ∷ xs) words pointers = (w : ℕ) × (ps : List ℕ) × (v : ℕ) × (qs : List ℕ) × P at x w ps × AreInTurn P (at + w) xs v qs × (words ≡ w + v) × (pointers ≡ ps ++ qs)

-- ---- open arrays

-- the element type of an open array
abbrev pub array_element : Option TypeNode → Option ℕ
array_element (Some (OpenArray element)) = Some element.0
array_element _ = None

-- The type e lies below so many open dimensions of i, and is no open array itself.
abbrev pub IsBelow : List TypeNode → ℕ → ℕ → ℕ → Type 0
IsBelow nodes zero i e = (i ≡ e) × (array_element (node_at nodes i) ≡ None)
IsBelow nodes (suc dims) i e = (j : ℕ) × (array_element (node_at nodes i) ≡ Some j) × IsBelow nodes dims j e

-- ---- objects

-- what an object type adds its fields to: its parent, or the type that fully reveals an opaque type
abbrev pub parent_in : List Reveal → ℕ → Option TypeNode → Option ℕ
parent_in reveals i (Some (Object brand parent fields methods overrides)) = Some parent.0
parent_in reveals i (Some (Opaque bound Revealed)) = full_reveal reveals i
parent_in reveals i _ = None

abbrev pub parent_at : List TypeNode → List Reveal → ℕ → Option ℕ
parent_at nodes reveals i = parent_in reveals i (node_at nodes i)

-- The types lead from one down to i, each the parent of the next.
abbrev pub LeadsTo : List TypeNode → List Reveal → ℕ → ℕ → List ℕ → Type 0
LeadsTo nodes reveals i above [] = above ≡ i
LeadsTo nodes reveals i above (j ∷ js) = (parent_at nodes reveals j ≡ Some above) × LeadsTo nodes reveals i j js

-- A type's ancestors and the type itself, the topmost first, which has no parent.
abbrev pub IsLine : List TypeNode → List Reveal → ℕ → List ℕ → Type 0
IsLine nodes reveals i [] = ⊥
IsLine nodes reveals i (top ∷ js) = (parent_at nodes reveals top ≡ None) × LeadsTo nodes reveals i top js

-- What a type of a line adds to a cell from a word on: an object type its fields, one after another; MUTEX
-- a word for its holder; Thread.T the thread's number, state and result, and the result is a pointer. A
-- revealed type, ROOT and Thread.Condition add nothing, and no other type stands in a line.
abbrev pub AddsIn : List TypeNode → List Reveal → ℕ → ℕ → Option TypeNode → ℕ → List ℕ → Type 0
AddsIn nodes reveals at i (Some (Object brand parent fields methods overrides)) words pointers = AreInTurn (λ k f. IsValue nodes k f.kind.0) at fields.now words pointers
AddsIn nodes reveals at i (Some Mutex) words pointers = (words ≡ 1) × (pointers ≡ [])
AddsIn nodes reveals at i (Some (Opaque bound Thread)) words pointers = (words ≡ 3) × (pointers ≡ (at + 2) ∷ [])
AddsIn nodes reveals at i (Some (Opaque bound Condition)) words pointers = (words ≡ 0) × (pointers ≡ [])
AddsIn nodes reveals at i (Some Root) words pointers = (words ≡ 0) × (pointers ≡ [])
AddsIn nodes reveals at i (Some (Opaque bound Revealed)) words pointers = IsSome (full_reveal reveals i) × (words ≡ 0) × (pointers ≡ [])
AddsIn nodes reveals at i _ words pointers = ⊥

abbrev pub Adds : List TypeNode → List Reveal → ℕ → ℕ → ℕ → List ℕ → Type 0
Adds nodes reveals at i words pointers = AddsIn nodes reveals at i (node_at nodes i) words pointers

-- ---- cells

-- so many words of a header, and a value of a type
abbrev pub IsBehind : List TypeNode → ℕ → ℕ → Layout → Type 0
IsBehind nodes header i layout = (w : ℕ) × (layout.words ≡ header + w) × IsValue nodes header i w layout.pointers

-- A header and a value of a type; or, of an open array, an element, without the header and the sizes in
-- front of all elements.
abbrev pub IsTarget : List TypeNode → ℕ → Layout → Type 0
IsTarget nodes i layout = (e : ℕ) × IsBelow nodes layout.dims i e × IsBehind nodes (first_word layout.dims) e layout

-- a header, and what a type and its ancestors add, the topmost first
abbrev pub IsObject : List TypeNode → List Reveal → ℕ → Layout → Type 0
IsObject nodes reveals i layout = (line : List ℕ) × (w : ℕ) × IsLine nodes reveals i line × AreInTurn (Adds nodes reveals) 1 line w layout.pointers × (layout.words ≡ 1 + w) × (layout.dims ≡ 0)

-- the target of a REF type
abbrev pub ref_target : Option TypeNode → Option ℕ
ref_target (Some (RefTo brand target)) = Some target.0
ref_target _ = None

-- an opaque type has the cells of the type that fully reveals it
abbrev pub unveiled_in : List Reveal → ℕ → Option TypeNode → ℕ
unveiled_in reveals i (Some (Opaque bound Revealed)) = unwrap_or (full_reveal reveals i) i
unveiled_in reveals i _ = i

abbrev pub unveiled : List TypeNode → List Reveal → ℕ → ℕ
unveiled nodes reveals i = unveiled_in reveals i (node_at nodes i)

abbrev pub IsCellIn : List TypeNode → List Reveal → ℕ → Option TypeNode → Layout → Type 0
IsCellIn nodes reveals i (Some (RefTo brand target)) layout = IsTarget nodes target.0 layout
IsCellIn nodes reveals i (Some (OpenArray element)) layout = IsTarget nodes i layout
IsCellIn nodes reveals i _ layout = IsObject nodes reveals i layout

-- So the cells of a type are laid out: of a REF type its target, of an open array type its elements, and
-- of an object type its line.
abbrev pub IsCell : List TypeNode → List Reveal → ℕ → Layout → Type 0
IsCell nodes reveals i layout = IsCellIn nodes reveals (unveiled nodes reveals i) (node_at nodes (unveiled nodes reveals i)) layout

-- The type has cells: their layout is there, and its dimensions and words fit.
abbrev pub HasCell : List TypeNode → List Reveal → ℕ → Type 0
HasCell nodes reveals i = ∥ ((layout : Layout) × IsCell nodes reveals i layout × (layout.dims < 2 ^ 32) × (layout.words < 2 ^ 64)) ∥₁
