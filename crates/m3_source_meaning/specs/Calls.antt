-- CALLS (report, 2.3.2): the procedure or the method, the actuals in order, the copies of open
-- arrays, and the call's point.
use Rattle.std.specs.Prelude.{ℕ, Bool, true, false, not, List, [], ◌∷◌, ◌++◌, map, take, Option, Some, None, slice_get}
use Rattle.std.specs.Option.{option_map_or}
use Rattle.m3_base.specs.declared.outcomes.FaultKind.TheVariants as fault_kind
use Rattle.m3_base.specs.declared.places.Pos.{Pos}
use Rattle.m3_types.specs.declared.nodes.Formal.{Formal}
use Rattle.m3_types.specs.declared.nodes.Method.{Method}
use Rattle.m3_types.specs.declared.nodes.Mode.{Mode}
use Rattle.m3_types.specs.declared.nodes.Mode.TheVariants as mode
use Rattle.m3_runs.specs.Languages.{Calls, Makes, Cell}
use Rattle.m3_values.specs.Values.{Value, Nil, Pointer, Procedure, number}
use Rattle.m3_values.specs.Programs.{Program}
use Rattle.m3_values.specs.Types.{node_of, formals_in, methods_in, is_open, open_dimensions, type_sizes, kind_of}
use Rattle.m3_values.specs.Arrays.{shape, fits}
use Rattle.m3_values.specs.Methods.{method_place, procedure_of}
use Rattle.m3_values.specs.Places.{Referent, Fresh, Thing, Is, At, whole}
use Rattle.m3_values.specs.Store.{kind_of_object, holding as held_in}
use Rattle.m3_source_meaning.specs.Meanings.{Evaluates, Acts, given, done, fault, undefined, seeing, changing, valued, unless, acting, holding, holding_all, ◌>>=◌, ◌>>◌}
use Rattle.m3_source_meaning.specs.Phrases.{Expression, Passing, By_value, By_place, Before}
use Rattle.m3_source_meaning.specs.Operators.{made}
use Rattle.m3_source_meaning.specs.Constructors.{in_order}
use Rattle.m3_source_meaning.specs.Travelling.{result_of}

-- an actual that was evaluated: it is passed, or an open array is copied once all are evaluated
pub data Passed : Type 0 where
  Passes : Thing → Passed
  Copies : (kind : ℕ) → Thing → Passed

abbrev pub thing_of : Passed → Thing
thing_of (Passes thing) = thing
thing_of (Copies kind thing) = thing

-- what goes into a new variable, which the formal stands for
abbrev pub new_variable : Value → Passed
new_variable v = Passes (At (whole (Fresh v)))

module _ (p : Program) where
  -- ---- actuals

  abbrev pub mode_of : List Formal → ℕ → Mode
  mode_of formals formal =
      option_map_or (λ (f : Formal). f.mode) (slice_get formals formal) mode.Value

  -- A VALUE formal gets the value; of an open array it gets a copy, and the actual stays a place
  -- until then.
  abbrev pub value_for : Mode → (is_open : Bool) → (kind : ℕ) → Expression → Evaluates Passed
  value_for mode.Value true kind e = e.unread >>= (λ thing. given (Copies kind thing))
  value_for mode.Value false kind e = e.value >>= (λ v. given (Passes (Is v)))
  value_for _ is_open kind e = e.value >>= (λ v. given (new_variable v))

  abbrev pub check_of_shape : Bool → Pos → (kind : ℕ) → Thing → Acts
  check_of_shape false at kind thing = done
  check_of_shape true at kind thing = do
    v ← valued thing
    unless fault_kind.Shape at (not (fits (type_sizes p kind) (shape v)))

  abbrev pub actual : List Formal → Passing → Evaluates (ℕ × Passed)
  actual formals (By_value formal kind e) = do
    passed ← value_for (mode_of formals formal) (is_open p kind) kind e
    given (formal, passed)
  actual formals (By_place formal kind chain checks_shape) = do
    thing ← chain.thing
    check_of_shape checks_shape chain.pos kind thing
    given (formal, Passes thing)

  -- in the order of evaluation; what was evaluated is held
  abbrev pub each_actual : List Formal → (before : List (ℕ × Passed)) → List Passing
      → Evaluates (List (ℕ × Passed))
  each_actual formals before [] = given before
  each_actual formals before (a ∷ more) = do
    x ← holding_all (map (λ b. thing_of b.1) before) (actual formals a)
    each_actual formals (before ++ x ∷ []) more

  -- ---- copies of open arrays

  abbrev pub sizes_of : (kind : ℕ) → Value → List Thing
  sizes_of kind v = map (λ n. Is (number n)) (take (open_dimensions p kind) (shape v))

  abbrev pub copied_into : Value → Value → Evaluates Value
  copied_into (Pointer c) v = changing (held_in (Referent c) v) >> given (Pointer c)
  copied_into _ v = undefined

  -- a new cell with what the place holds when the cell is made
  abbrev pub copy_of : (kind : ℕ) → Thing → Evaluates Value
  copy_of kind thing = do
    before ← valued thing
    a ← holding thing (acting (Makes (Cell (kind_of p kind) (sizes_of kind before))))
    c ← made a
    v ← valued thing
    copied_into c v

  -- in the order of formals, each a point
  abbrev pub each_copied : List Passed → Evaluates (List Thing)
  each_copied [] = given []
  each_copied (Passes thing ∷ rest) = do
    things ← holding thing (each_copied rest)
    given (thing ∷ things)
  each_copied (Copies kind thing ∷ rest) = do
    c ← holding_all (map thing_of rest) (copy_of kind thing)
    things ← holding (Is c) (each_copied rest)
    given (Is c ∷ things)

  -- ---- the call

  -- the action names the procedure, with the procedure value for the environment
  abbrev pub called : (procedure : ℕ) → (around : Option ℕ) → List Thing → Evaluates Thing
  called procedure around formals = do
    a ← acting (Calls procedure (Is (Procedure procedure around)) formals)
    v ← result_of p a
    given (Is v)

  abbrev pub call_with : List Formal → (first : List Thing) → ℕ → Option ℕ → List Passing
      → Evaluates Thing
  call_with formals first procedure around actuals = do
    passed ← holding_all first (each_actual formals [] actuals)
    things ← holding_all first (each_copied (in_order passed))
    called procedure around (first ++ things)

  -- a procedure value of a type is called
  abbrev pub call_of : Before → List Passing → Value → Evaluates Thing
  call_of before actuals (Procedure procedure around) =
      call_with (option_map_or (λ t. formals_in (node_of p t)) before.kind []) [] procedure around
      actuals
  call_of before actuals Nil = fault fault_kind.Nil before.pos
  call_of before actuals _ = undefined

  -- ---- methods

  abbrev pub signature_of : Option Method → List Formal
  signature_of None = []
  signature_of (Some m) = formals_in (node_of p m.signature.0)

  abbrev pub bound_call : Pos → List Formal → List Passing → Value → Option ℕ → Evaluates Thing
  bound_call at formals actuals object None = fault fault_kind.Nil at
  bound_call at formals actuals object (Some procedure) =
      call_with formals (Is object ∷ []) procedure None actuals

  abbrev pub method_of : Pos → (owner method : ℕ) → List Passing → Value → Evaluates Thing
  method_of at owner method actuals object = do
    kind ← seeing (λ m. kind_of_object p m.store object)
    bound_call at (signature_of (slice_get (methods_in (node_of p owner)) method)) actuals object
        (procedure_of p kind (method_place p owner method))

  -- a method of an object, which becomes the first actual
  abbrev pub method_call : Pos → (owner method : ℕ) → List Passing → Value → Evaluates Thing
  method_call at owner method actuals Nil = fault fault_kind.Nil at
  method_call at owner method actuals object = method_of at owner method actuals object
