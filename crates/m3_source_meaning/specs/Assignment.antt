-- ASSIGNMENT (report, 2.3.1), INC and DEC (2.3.19), and variables that are made.
use Rattle.std.specs.Prelude.{ℕ, ℤ, pos, ◌+ℤ◌, ◌-ℤ◌, ◌++◌, Bool, true, false, not, List, [], ◌∷◌, Option, Some, None, slice_get}
use Rattle.std.specs.Option.{option_map, option_and_then}
use Rattle.m3_base.specs.declared.outcomes.FaultKind.TheVariants as fault_kind
use Rattle.m3_base.specs.declared.places.Pos.{Pos}
use Rattle.m3_core.specs.declared.program.ProcDef.{ProcDef}
use Rattle.m3_core.specs.declared.program.VarDef.{VarDef}
use Rattle.m3_core.specs.declared.program.VarKind.{VarKind}
use Rattle.m3_core.specs.declared.program.VarKind.TheVariants as kind
use Rattle.m3_values.specs.Values.{Value, Ordinal}
use Rattle.m3_values.specs.Integers.{within_integer}
use Rattle.m3_values.specs.Programs.{Program, procedure_at}
use Rattle.m3_values.specs.Types.{bounds}
use Rattle.m3_values.specs.Arrays.{shape, same_shape}
use Rattle.m3_values.specs.Constants.{default_of}
use Rattle.m3_values.specs.Places.{Place, Thing, Is, At}
use Rattle.m3_values.specs.Store.{Memory, with_thing, with_shared}
use Rattle.m3_source_meaning.specs.Meanings.{Evaluates, Acts, given, done, undefined, there, computed, reading, writing, changing, unless, holding, ◌>>=◌, ◌>>◌}
use Rattle.m3_source_meaning.specs.Phrases.{Here, Expression, Chained}
use Rattle.m3_source_meaning.specs.Designators.{is_shared_here}
use Rattle.m3_source_meaning.specs.Operators.{within}

-- ---- assignment

abbrev pub shape_check : Bool → Pos → Place → Value → Acts
shape_check false at place v = done
shape_check true at place v = do
  before ← reading place
  unless fault_kind.Shape at (not (same_shape (shape before) (shape v)))

abbrev pub assigned : (checks_shape : Bool) → Expression → Thing → Acts
assigned checks_shape e (At place) = do
  v ← holding (At place) e.value
  shape_check checks_shape e.pos place v
  writing place v
assigned checks_shape e (Is v) = undefined

-- fixes the place, evaluates the value, and writes
abbrev pub assignment : Chained → Expression → (checks_shape : Bool) → Acts
assignment target e checks_shape = target.thing >>= assigned checks_shape e

-- ---- INC and DEC

abbrev pub changed_by : (is_decrement : Bool) → ℤ → ℤ → ℤ
changed_by false x n = x +ℤ n
changed_by true x n = x -ℤ n

abbrev pub amount_of : Option Expression → Evaluates Value
amount_of None = given (Ordinal (pos 1))
amount_of (Some e) = e.value

-- ---- variables

abbrev pub type_of_variable : VarKind → ℕ
type_of_variable (kind.Variable t) = t.0
type_of_variable (kind.ByValue t) = t.0
type_of_variable (kind.ByVar t) = t.0
type_of_variable (kind.ByReadonly t) = t.0
type_of_variable (kind.Alias t) = t.0

-- the formals of a procedure, and behind them all variables of its body
abbrev pub variables_of : ProcDef → List VarDef
variables_of q = q.formals.now ++ q.locals.now

module _ (p : Program) (here : Here) where
  abbrev pub changed : Bool → Pos → (target_type : ℕ) → Place → (before amount : Value) → Acts
  changed is_decrement at t place (Ordinal x) (Ordinal n) = do
    z ← computed at (within_integer (changed_by is_decrement x n))
    within at (bounds p t) z
    writing place (Ordinal z)
  changed is_decrement at t place _ _ = undefined

  abbrev pub change_at : Bool → Pos → Option ℕ → Option Expression → Thing → Acts
  change_at is_decrement at (Some t) e (At place) = do
    n ← holding (At place) (amount_of e)
    before ← reading place
    changed is_decrement at t place before n
  change_at is_decrement at _ e _ = undefined

  -- fixes the place, evaluates the amount, reads, computes, checks, and writes
  abbrev pub change : Bool → Pos → Chained → Option Expression → Acts
  change is_decrement at target e = target.thing >>= change_at is_decrement at target.kind e

  -- the variable as its declaration has it
  abbrev pub declared : ℕ → Option VarDef
  declared x = option_and_then (λ (q : ProcDef). slice_get (variables_of q) x)
      (procedure_at p here.procedure)

  abbrev pub bound_in : Bool → ℕ → Thing → Memory → Memory
  bound_in true x thing m = record m { store = with_shared here.activation x thing m.store }
  bound_in false x thing m = record m { own = with_thing x thing m.own }

  -- A NEW VARIABLE of the activation holds a value, or a name stands for a place from now on.
  abbrev pub bound : ℕ → Thing → Acts
  bound x thing = changing (λ m. Some (bound_in (is_shared_here p here x) x thing m))

  abbrev pub default_for : ℕ → Evaluates Value
  default_for x =
      there (option_map (λ (v : VarDef). default_of p (type_of_variable v.kind)) (declared x))

  -- variables with their defaults, in order
  abbrev pub each_made : List ℕ → Acts
  each_made [] = done
  each_made (x ∷ xs) = do
    v ← default_for x
    bound x (Is v)
    each_made xs
