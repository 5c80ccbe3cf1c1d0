-- WELL TYPED STORES, and what stays of a store.
use Rattle.std.specs.Prelude.{◌≡◌, ℕ, ◌&&◌, Bool, true, false, List, [], ◌∷◌, length, Option, Some, nat_lt}
use Rattle.std.specs.List.{list_all}
use Rattle.m3_core.specs.declared.program.VarDef.{VarDef}
use Rattle.m3_types.specs.declared.nodes.TypeNode.{TypeNode}
use Rattle.m3_types.specs.declared.nodes.TypeNode.TheVariants as node
use Rattle.m3_values.specs.Values.{Value, Record}
use Rattle.m3_values.specs.Arrays.{shape}
use Rattle.m3_values.specs.Programs.{Program}
use Rattle.m3_values.specs.Types.{node_of, object_fields, is_below}
use Rattle.m3_values.specs.Store.{Cell, Made, Bytes, Forked, Store, cell_at}
use Rattle.m3_source_meaning.specs.Assignment.{type_of_variable}
use Rattle.m3_source_typing.specs.ValueTypes.{HasType, AreFields, is_count}

-- ---- what stays

-- what a cell may become: it keeps its type and the shape of what it holds, a text its bytes, and
-- the cell of a thread its number
pub data Becomes : Cell → Cell → Type 0 where
  made : (kind : ℕ) (v u : Value) (m n : ℕ) → shape v ≡ shape u
      → Becomes (Made kind v m) (Made kind u n)
  text : (bytes : List ℕ) → Becomes (Bytes bytes) (Bytes bytes)
  thread : (number : ℕ) (v u : Option Value) (a b : Bool)
      → Becomes (Forked number v a) (Forked number u b)

pub record HasStill (t : Store) (c : ℕ) (cell : Cell) : Type 0 where
  pub now : Cell
  pub there : cell_at t c ≡ Some now
  pub becomes : Becomes cell now

-- a store from which the run has gone on: all its cells are there still
pub record IsLater (s t : Store) : Type 0 where
  pub cells : (c : ℕ) (cell : Cell) → cell_at s c ≡ Some cell → HasStill t c cell

-- ---- well typed stores

-- ---- texts

abbrev pub is_byte : ℕ → Bool
is_byte n = nat_lt n 256

-- bytes, of which there are no more than INTEGER has numbers
abbrev pub are_bytes : List ℕ → Bool
are_bytes bytes = is_count (length bytes) && list_all is_byte bytes

module _ (p : Program) where
  -- no cell of the type is a text
  abbrev pub IsNoText : ℕ → Type 0
  IsNoText kind = (t : ℕ) → node_of p t ≡ Some node.Text → is_below p kind t ≡ false

  -- what a cell of a type holds: the referent of a REF, the array that was copied for a formal, or
  -- all fields of an object
  abbrev pub IsContentOf : Store → Value → ℕ → Option TypeNode → Type 0
  IsContentOf s v kind (Some (node.RefTo brand target)) = HasType p s v target.0
  IsContentOf s v kind (Some (node.OpenArray element)) = HasType p s v kind
  IsContentOf s (Record vs) kind _ = AreFields p s vs (object_fields p kind)
  IsContentOf s _ kind _ = ⊥

  abbrev pub AreVariables : Store → List Value → List VarDef → Type 0
  AreVariables s [] [] = Unit {0}
  AreVariables s (v ∷ vs) (x ∷ xs) =
      HasType p s v (type_of_variable x.kind) × AreVariables s vs xs
  AreVariables s _ _ = ⊥

  -- THE STORE IS WELL TYPED, but for a cell whose defaults are still to be stored, if there is one
  pub record IsTyped (new : Option ℕ) (s : Store) : Type 0 where
    pub cells : (c kind : ℕ) (v : Value) (holder : ℕ) → cell_at s c ≡ Some (Made kind v holder)
        → (Some c ≡ new → ⊥) → IsContentOf s v kind (node_of p kind)
    pub made : (c kind : ℕ) (v : Value) (holder : ℕ) → cell_at s c ≡ Some (Made kind v holder)
        → IsNoText kind
    pub texts : (c : ℕ) (bytes : List ℕ) → cell_at s c ≡ Some (Bytes bytes)
        → are_bytes bytes ≡ true
    pub globals : AreVariables s s.globals p.globals
