-- THE STORE: what all threads share. Cells and activations are only added, and a cell keeps its
-- type; nothing moves and nothing is freed.
use Rattle.std.specs.Prelude.{ℕ, Bool, true, false, List, [], ◌∷◌, ◌++◌, Option, Some, None, slice_get, slice_set, if◌then◌else◌}
use Rattle.std.specs.Option.{option_map, option_and_then, option_flatten}
use Rattle.std.specs.List.{list_any}
use Rattle.m3_types.specs.declared.nodes.Secret.TheVariants as secret
use Rattle.m3_types.specs.declared.nodes.TypeNode.{TypeNode}
use Rattle.m3_types.specs.declared.nodes.TypeNode.TheVariants as node
use Rattle.m3_values.specs.Values.{Value, Nil, Pointer, Text, MainThread}
use Rattle.m3_values.specs.Programs.{Program}
use Rattle.m3_values.specs.Types.{node_of, line, unveiled, is_below, is_object_in, is_mutex_in}
use Rattle.m3_values.specs.Constants.{texts_of}
use Rattle.m3_values.specs.Places.{Name, Referent, Global, Local, Own, Fresh, Place, Thing, Is, At, value_in, value_with, with_item}

pub data Cell : Type 0 where
  -- made by NEW, or the copy of an open array: of a REF type its referent, of an object type the
  -- record of all its fields. A mutex has the number of the thread that holds it and 1, or 0.
  Made : (kind : ℕ) (content : Value) (holder : ℕ) → Cell
  -- a text that was made
  Bytes : List ℕ → Cell
  -- A thread that was forked: its number, its result from its end on, and whether it was joined.
  Forked : (number : ℕ) (result : Option Value) (is_joined : Bool) → Cell

-- the variables of an activation by their places; none where one isn't in scope yet, or not kept
-- here
abbrev pub Variables : Type 0
Variables = List (Option Thing)

-- an activation as others reach it: the activation around it, and the variables that it shares
pub record Kept : Type 0 where
  pub around : Option ℕ
  pub variables : Variables

pub record Store : Type 0 where
  pub cells : List Cell
  pub globals : List Value
  pub activations : List Kept

-- all that an activation reaches: its own variables and the store
pub record Memory : Type 0 where
  pub own : Variables
  pub store : Store

-- ---- variables of an activation

abbrev pub thing_in : Variables → ℕ → Option Thing
thing_in variables x = option_flatten (slice_get variables x)

abbrev pub with_thing : ℕ → Thing → Variables → Variables
with_thing x thing variables = slice_set variables x (Some thing)

abbrev pub kept_at : Store → ℕ → Option Kept
kept_at store activation = slice_get store.activations activation

abbrev pub shared_thing : Store → (activation variable : ℕ) → Option Thing
shared_thing store activation x =
    option_and_then (λ (k : Kept). thing_in k.variables x) (kept_at store activation)

abbrev pub with_shared_in : Store → ℕ → ℕ → Thing → Option Kept → Store
with_shared_in store activation x thing None = store
with_shared_in store activation x thing (Some k) = record store {
  activations = slice_set store.activations activation
      (record k { variables = with_thing x thing k.variables });
}

abbrev pub with_shared : (activation variable : ℕ) → Thing → Store → Store
with_shared activation x thing store =
    with_shared_in store activation x thing (kept_at store activation)

-- ---- cells

abbrev pub cell_at : Store → ℕ → Option Cell
cell_at store c = slice_get store.cells c

abbrev pub with_cell : ℕ → Cell → Store → Store
with_cell c cell store = record store { cells = slice_set store.cells c cell }

-- a cell more, which has the next name
abbrev pub with_new_cell : Cell → Store → Store
with_new_cell cell store = record store { cells = store.cells ++ cell ∷ [] }

abbrev pub content_in : Cell → Option Value
content_in (Made kind content holder) = Some content
content_in _ = None

abbrev pub content_of : Store → ℕ → Option Value
content_of store c = option_and_then content_in (cell_at store c)

abbrev pub with_content_in : Store → ℕ → Value → Option Cell → Option Store
with_content_in store c v (Some (Made kind content holder)) =
    Some (with_cell c (Made kind v holder) store)
with_content_in store c v _ = None

abbrev pub with_content : ℕ → Value → Store → Option Store
with_content c v store = with_content_in store c v (cell_at store c)

-- ---- reading and writing

abbrev pub value_of : Thing → Option Value
value_of (Is v) = Some v
value_of (At place) = None

-- what a variable holds
abbrev pub held_by : Memory → Name → Option Value
held_by m (Referent c) = content_of m.store c
held_by m (Global g) = slice_get m.store.globals g
held_by m (Local activation x) = option_and_then value_of (shared_thing m.store activation x)
held_by m (Own x) = option_and_then value_of (thing_in m.own x)
held_by m (Fresh v) = Some v

abbrev pub with_globals : Store → Option (List Value) → Option Store
with_globals store globals = option_map (λ gs. record store { globals = gs }) globals

abbrev pub with_store : Memory → Option Store → Option Memory
with_store m store = option_map (λ s. record m { store = s }) store

-- the variable holds another value
abbrev pub holding : Name → Value → Memory → Option Memory
holding (Referent c) v m = with_store m (with_content c v m.store)
holding (Global g) v m = with_store m (with_globals m.store (with_item g v m.store.globals))
holding (Local activation x) v m =
    with_store m (Some (with_shared activation x (Is v) m.store))
holding (Own x) v m = Some (record m { own = with_thing x (Is v) m.own })
holding (Fresh u) v m = None

-- READING a place
abbrev pub read : Memory → Place → Option Value
read m place = option_and_then (value_in place.path) (held_by m place.name)

-- WRITING to a place
abbrev pub write : Place → Value → Memory → Option Memory
write place v m =
    option_and_then (λ old. option_and_then (λ new. holding place.name new m)
    (value_with place.path v old)) (held_by m place.name)

-- the value of a thing now
abbrev pub value_now : Memory → Thing → Option Value
value_now m (Is v) = Some v
value_now m (At place) = read m place

module _ (p : Program) where
  -- ---- texts

  abbrev pub bytes_in : Cell → Option (List ℕ)
  bytes_in (Bytes bytes) = Some bytes
  bytes_in _ = None

  -- the bytes of a text
  abbrev pub bytes_of : Store → Value → Option (List ℕ)
  bytes_of store (Text t) = slice_get (texts_of p.texts) t
  bytes_of store (Pointer c) = option_and_then bytes_in (cell_at store c)
  bytes_of store _ = None

  -- ---- the types of references

  abbrev pub is_text_type : Option TypeNode → Bool
  is_text_type (Some node.Text) = true
  is_text_type (Some node.RefAny) = true
  is_text_type _ = false

  abbrev pub is_thread_type : Option TypeNode → Bool
  is_thread_type (Some (node.Opaque bound secret.Thread)) = true
  is_thread_type (Some node.Root) = true
  is_thread_type (Some node.RefAny) = true
  is_thread_type _ = false

  -- Objects, mutexes and conditions are below ROOT, and every cell is below REFANY.
  abbrev pub is_made_type : (kind tested : ℕ) → Option TypeNode → Bool
  is_made_type kind tested (Some node.RefAny) = true
  is_made_type kind tested (Some node.Root) = is_object_in (node_of p kind)
  is_made_type kind tested _ = is_below p kind tested

  abbrev pub cell_has_type : ℕ → Cell → Bool
  cell_has_type t (Made kind content holder) = is_made_type kind t (node_of p t)
  cell_has_type t (Bytes bytes) = is_text_type (node_of p t)
  cell_has_type t (Forked number result is_joined) = is_thread_type (node_of p t)

  -- whether a reference is a value of a type, whatever a unit sees of that type: NIL is
  abbrev pub has_type : Store → (tested : ℕ) → Value → Option Bool
  has_type store t Nil = Some true
  has_type store t (Text text) = Some (is_text_type (node_of p (unveiled p t)))
  has_type store t MainThread = Some (is_thread_type (node_of p (unveiled p t)))
  has_type store t (Pointer c) = option_map (cell_has_type (unveiled p t)) (cell_at store c)
  has_type store t _ = None

  abbrev pub kind_in : Cell → Option ℕ
  kind_in (Made kind content holder) = Some kind
  kind_in _ = None

  -- the type of the object that a reference leads to
  abbrev pub kind_of_object : Store → Value → Option ℕ
  kind_of_object store (Pointer c) = option_and_then kind_in (cell_at store c)
  kind_of_object store _ = None

  -- ---- mutexes

  abbrev pub is_mutex : ℕ → Bool
  is_mutex kind = list_any (λ t. is_mutex_in (node_of p t)) (line p kind)

  abbrev pub holder_in : Cell → Option ℕ
  holder_in (Made kind content holder) = if is_mutex kind then Some holder else None
  holder_in _ = None

  -- who holds a mutex: the number of a thread and 1, or 0 for nobody
  abbrev pub holder_of : Store → Value → Option ℕ
  holder_of store (Pointer c) = option_and_then holder_in (cell_at store c)
  holder_of store _ = None

  abbrev pub with_holder_in : Store → ℕ → ℕ → Option Cell → Option Store
  with_holder_in store c holder (Some (Made kind content before)) =
      if is_mutex kind then Some (with_cell c (Made kind content holder) store) else None
  with_holder_in store c holder _ = None

  abbrev pub with_holder : Value → ℕ → Store → Option Store
  with_holder (Pointer c) holder store = with_holder_in store c holder (cell_at store c)
  with_holder _ holder store = None
