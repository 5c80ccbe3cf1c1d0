-- DESIGNATORS (report, 2.6.3): what a name stands for, and the steps behind it.
use Rattle.std.specs.Prelude.{ℕ, zero, suc, pos, ◌-ℤ◌, ◌-◌, ◌==◌, ◌&&◌, not, nat_le, ◌+◌, Bool, true, false, List, [], ◌∷◌, Option, Some, None}
use Rattle.std.specs.Option.{option_map, option_map_or, option_and_then}
use Rattle.std.specs.List.{list_any}
use Rattle.m3_base.specs.declared.outcomes.FaultKind.TheVariants as fault_kind
use Rattle.m3_base.specs.declared.places.Pos.{Pos}
use Rattle.m3_values.specs.Values.{Value, Ordinal, Nil, Pointer}
use Rattle.m3_values.specs.Integers.{count_of}
use Rattle.m3_values.specs.Programs.{Program}
use Rattle.m3_values.specs.Types.{first_index, object_field}
use Rattle.m3_values.specs.Arrays.{count}
use Rattle.m3_values.specs.Places.{Name, Referent, Local, Own, Fresh, Field, Element, Part, Place, Thing, Is, At, whole, further}
use Rattle.m3_values.specs.Store.{Store, Kept, thing_in, shared_thing, kept_at}
use Rattle.m3_source_meaning.specs.Meanings.{Evaluates, given, fault, undefined, seeing, reading, valued, holding, unless, ◌>>=◌, ◌>>◌}
use Rattle.m3_source_meaning.specs.Phrases.{Here, Expression, Chained, Based, Before, Stepped}

-- ---- names

-- A name of WITH, a VAR or READONLY formal and an open array formal stand for a place; any other
-- name is a variable.
abbrev pub stands_for : Name → Thing → Thing
stands_for name (Is v) = At (whole name)
stands_for name (At place) = At place

-- the place that a name stands for, if it does
abbrev pub place_in : Thing → Option Thing
place_in (At place) = Some (At place)
place_in (Is v) = None

-- so many activations outwards
abbrev pub outwards : (steps : ℕ) → Store → ℕ → Option ℕ
outwards zero store activation = Some activation
outwards (suc steps) store activation =
    option_and_then (outwards steps store)
    (option_and_then (λ (k : Kept). k.around) (kept_at store activation))

module _ (p : Program) (here : Here) where
  abbrev pub is_shared_here : ℕ → Bool
  is_shared_here x = list_any (λ y. x == y) here.shared

  -- the activation of the procedure at a level around the one that speaks, or that one itself
  abbrev pub activation_at : (level : ℕ) → Evaluates ℕ
  activation_at level = seeing (λ m. outwards (here.level - level) m.store here.activation)

  abbrev pub shared_name : ℕ → ℕ → Evaluates Thing
  shared_name x activation = seeing (λ m.
      option_map (stands_for (Local activation x)) (shared_thing m.store activation x))

  abbrev pub own_name : ℕ → Evaluates Thing
  own_name x = seeing (λ m. option_map (stands_for (Own x)) (thing_in m.own x))

  -- it is the variable of the activation that speaks, which shares it with nobody
  abbrev pub is_own : (level variable : ℕ) → Bool
  is_own level x = (level == here.level) && not (is_shared_here x)

  abbrev pub named_by : (is_own : Bool) → (level variable : ℕ) → Evaluates Thing
  named_by true level x = own_name x
  named_by false level x = activation_at level >>= shared_name x

  -- THE VARIABLE of a procedure at a level around this place: that activation's
  abbrev pub named : (level variable : ℕ) → Evaluates Thing
  named level x = named_by (is_own level x) level x

  abbrev pub alias_by : (is_own : Bool) → (level variable : ℕ) → Evaluates Thing
  alias_by true level x = seeing (λ m. option_and_then place_in (thing_in m.own x))
  alias_by false level x = activation_at level
      >>= (λ a. seeing (λ m. option_and_then place_in (shared_thing m.store a x)))

  -- THE PLACE that a name of WITH, a VAR or a READONLY formal stands for
  abbrev pub alias : (level variable : ℕ) → Evaluates Thing
  alias level x = alias_by (is_own level x) level x

  -- ---- steps

  -- the value that the place holds now
  abbrev pub read_step : Thing → Evaluates Thing
  read_step thing = do
    v ← valued thing
    given (Is v)

  -- a new variable that holds the value
  abbrev pub keep_step : Thing → Evaluates Thing
  keep_step (Is v) = given (At (whole (Fresh v)))
  keep_step (At place) = given (At place)

  -- r^ : the referent of r
  abbrev pub dereferenced : Pos → Value → Evaluates Thing
  dereferenced at (Pointer c) = given (At (whole (Referent c)))
  dereferenced at Nil = fault fault_kind.Nil at
  dereferenced at _ = undefined

  -- r.f : a field of the record
  abbrev pub field_step : ℕ → Thing → Evaluates Thing
  field_step f (At place) = given (At (further place (Field f)))
  field_step f (Is v) = undefined

  -- o.f : a field of the object that o refers to
  abbrev pub object_field_of : Pos → (owner field : ℕ) → Value → Evaluates Thing
  object_field_of at owner f (Pointer c) =
      given (At (further (whole (Referent c)) (Field (object_field p owner f))))
  object_field_of at owner f Nil = fault fault_kind.Nil at
  object_field_of at owner f _ = undefined

  -- a value in place of a thing
  abbrev pub by_value : (Value → Evaluates Thing) → Thing → Evaluates Thing
  by_value go (Is v) = go v
  by_value go (At place) = undefined

  -- a[i] : fixes the place of a, then evaluates i, then checks that there is such an element
  abbrev pub element_there : Pos → Place → (size : ℕ) → Option ℕ → Evaluates Thing
  element_there at place size None = fault fault_kind.Index at
  element_there at place size (Some i) = do
    unless fault_kind.Index at (nat_le size i)
    given (At (further place (Element i)))

  abbrev pub element_at : Pos → Option ℕ → Place → (array index : Value) → Evaluates Thing
  element_at at kind place array (Ordinal z) =
      element_there at place (count array)
      (count_of (z -ℤ option_map_or (first_index p) kind (pos 0)))
  element_at at kind place array _ = undefined

  abbrev pub element_step : Expression → Option ℕ → Thing → Evaluates Thing
  element_step index kind (At place) = do
    i ← holding (At place) index.value
    array ← reading place
    element_at index.pos kind place array i
  element_step index kind (Is v) = undefined

  -- SUBARRAY(a, start, count)
  abbrev pub part_there : Pos → Place → (size : ℕ) → (start count : Option ℕ) → Evaluates Thing
  part_there at place size (Some start) (Some n) = do
    unless fault_kind.Subarray at (not (nat_le (start + n) size))
    given (At (further place (Part start n)))
  part_there at place size _ _ = fault fault_kind.Subarray at

  abbrev pub part_at : Pos → Place → (array start count : Value) → Evaluates Thing
  part_at at place array (Ordinal start) (Ordinal n) =
      part_there at place (count array) (count_of start) (count_of n)
  part_at at place array _ _ = undefined

  abbrev pub subarray_of : Pos → Expression → Expression → Thing → Evaluates Thing
  subarray_of at start n (At place) = do
    s ← holding (At place) start.value
    c ← holding (At place) (holding (Is s) n.value)
    array ← reading place
    part_at at place array s c
  subarray_of at start n (Is v) = undefined

  abbrev pub subarray : Pos → Chained → Expression → Expression → Evaluates Thing
  subarray at array start n = array.thing >>= subarray_of at start n

  -- ---- chains

  -- steps in a row, each of what the one before it gives
  abbrev pub stepping : Before → List Stepped → Thing → Evaluates Thing
  stepping before [] thing = given thing
  stepping before (s ∷ steps) thing =
      s.goes before thing >>= stepping (record before { kind = s.kind }) steps

  -- the same without a read at their end
  abbrev pub stepping_unread : Before → List Stepped → Thing → Evaluates Thing
  stepping_unread before [] thing = given thing
  stepping_unread before (s ∷ []) thing =
      elim s.is_read [ true ↦ given thing | false ↦ s.goes before thing ]
  stepping_unread before (s ∷ t ∷ steps) thing =
      s.goes before thing >>= stepping_unread (record before { kind = s.kind }) (t ∷ steps)

  abbrev pub chain_unread : Pos → Based → List Stepped → Evaluates Thing
  chain_unread at base [] = base.unread at
  chain_unread at base (s ∷ steps) =
      base.thing at >>= stepping_unread (record { pos = at; kind = base.kind }) (s ∷ steps)

  abbrev pub chained : Pos → Based → List Stepped → Option ℕ → Chained
  chained at base steps kind = record {
    pos = at;
    kind = kind;
    thing = base.thing at >>= stepping (record { pos = at; kind = base.kind }) steps;
    unread = chain_unread at base steps;
  }
