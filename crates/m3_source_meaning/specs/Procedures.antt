-- PROCEDURES (report, 2.2.8 and 2.3.2): how one begins, and what leaves it.
use Rattle.std.specs.Prelude.{ℕ, suc, ◌==◌, Bool, true, false, List, [], ◌∷◌, ◌++◌, length, Option, Some, None}
use Rattle.std.specs.Option.{option_map, option_map_or}
use Rattle.std.specs.List.{list_any, range_with_len}
use Rattle.m3_base.specs.declared.outcomes.FaultKind.TheVariants as fault_kind
use Rattle.m3_core.specs.declared.exprs.CoreExpr.{CoreExpr}
use Rattle.m3_core.specs.declared.program.ProcDef.{ProcDef}
use Rattle.m3_core.specs.declared.program.VarDef.{VarDef}
use Rattle.m3_core.specs.declared.program.VarKind.{VarKind}
use Rattle.m3_core.specs.declared.program.VarKind.TheVariants as kind
use Rattle.m3_runs.specs.Languages.{Gives}
use Rattle.m3_values.specs.Values.{Pointer}
use Rattle.m3_values.specs.Programs.{Program}
use Rattle.m3_values.specs.Types.{is_open}
use Rattle.m3_values.specs.Constants.{default_of}
use Rattle.m3_values.specs.Places.{Referent, Global, Thing, Is, At, whole}
use Rattle.m3_values.specs.Store.{Variables, Kept, Store, Memory}
use Rattle.m3_source_meaning.specs.Meanings.{Told, Raised, Around, End, Left, Faulted, Undefined, Now, Exits, Acts, done, writing, ◌>>=◌, ◌>>◌}
use Rattle.m3_source_meaning.specs.Phrases.{Here}
use Rattle.m3_source_meaning.specs.Travelling.{raised_answer}
use Rattle.m3_source_meaning.specs.Expressions.{expression}
use Rattle.m3_source_meaning.specs.Assignment.{variables_of, type_of_variable}
use Rattle.m3_source_meaning.specs.Statements.{statements}
use Rattle.m3_source_meaning.specs.Sharing.{shared_by}

-- ---- the variables at the start

-- A formal holds its actual or stands for it. A VALUE formal of an open array type stands for the
-- array in the cell that was made for it.
abbrev pub array_in : Thing → Thing
array_in (Is (Pointer c)) = At (whole (Referent c))
array_in thing = thing

abbrev pub is_among : List ℕ → ℕ → Bool
is_among xs x = list_any (λ y. x == y) xs

abbrev pub if_is : Bool → Bool → Option Thing → Option Thing
if_is true true thing = thing
if_is false false thing = thing
if_is _ _ thing = None

-- those that are shared, or those that aren't
abbrev pub part_of : (shared : List ℕ) → (wanted : Bool) → (at : ℕ) → List (Option Thing)
    → Variables
part_of shared wanted at [] = []
part_of shared wanted at (thing ∷ things) =
    if_is wanted (is_among shared at) thing ∷ part_of shared wanted (suc at) things

-- an activation at its start: who it is, and what memory is then
pub record Start : Type 0 where
  pub here : Here
  pub memory : Memory

module _ (p : Program) where
  abbrev pub formal_by_value : (is_open : Bool) → Thing → Thing
  formal_by_value true thing = array_in thing
  formal_by_value false thing = thing

  abbrev pub formal_thing : VarKind → Thing → Thing
  formal_thing (kind.ByValue t) thing = formal_by_value (is_open p t.0) thing
  formal_thing _ thing = thing

  -- the formals, and behind them the other variables, which aren't made yet
  abbrev pub first_things : List VarDef → List Thing → List (Option Thing)
  first_things [] things = []
  first_things (v ∷ vs) [] = None ∷ first_things vs []
  first_things (v ∷ vs) (thing ∷ things) =
      Some (formal_thing v.kind thing) ∷ first_things vs things

  -- ---- the body

  -- In the first turn each variable of a module or interface gets its default, and each interface
  -- variable with an initial value that constant, before the first body begins.
  abbrev pub global_defaults : (at : ℕ) → List VarDef → Acts
  global_defaults at [] = done
  global_defaults at (v ∷ vs) =
      writing (whole (Global at)) (default_of p (type_of_variable v.kind))
      >> global_defaults (suc at) vs

  abbrev pub initial_value : Here → (at : ℕ) → Option CoreExpr → Acts
  initial_value here at None = done
  initial_value here at (Some e) = (expression p here e).value >>= writing (whole (Global at))

  abbrev pub initial_values : Here → (at : ℕ) → List VarDef → Acts
  initial_values here at [] = done
  initial_values here at (v ∷ vs) =
      initial_value here at (option_map (λ e. e.now) v.initial) >> initial_values here (suc at) vs

  abbrev pub is_first_body : ℕ → List ℕ → Bool
  is_first_body q [] = false
  is_first_body q (first ∷ rest) = q == first

  abbrev pub globals_made : Bool → Here → Acts
  globals_made false here = done
  globals_made true here = global_defaults 0 p.globals >> initial_values here 0 p.globals

  abbrev pub body : Here → ProcDef → Acts
  body here q =
      globals_made (is_first_body here.procedure p.order) here >> statements p here q.body.now

  -- ---- the ways out

  -- a function doesn't reach its END
  abbrev pub at_end : ProcDef → (has_result : Bool) → Store → End
  at_end q true store = Faulted fault_kind.NoReturn q.end
  at_end q false store = Left (Gives None) store

  -- RAISES: an exception that the heading lacks doesn't leave the procedure
  abbrev pub may_raise : Option (List ℕ) → ℕ → Bool
  may_raise None exception = true
  may_raise (Some exceptions) exception = list_any (λ e. exception == e) exceptions

  abbrev pub leaves_raised : ProcDef → Bool → Raised → Store → End
  leaves_raised q true r store = Left (raised_answer p r) store
  leaves_raised q false r store = Faulted fault_kind.Raises q.pos

  abbrev pub has_result : ProcDef → Bool
  has_result q = option_map_or (λ t. true) q.result false

  abbrev pub ways_out : ProcDef → Exits (Unit {0})
  ways_out q = record {
    gives = λ u now. at_end q (has_result q) now.memory.store;
    raised = λ r now.
        leaves_raised q (may_raise (option_map (λ es. es.now) q.raises) r.exception) r now.memory.store;
    exit = λ now. Undefined;
    return = λ v now. Left (Gives (option_map Is v)) now.memory.store;
  }

  -- THE MEANING OF A PROCEDURE in an activation, for each list of answers, from the variables and
  -- the store at its start
  abbrev pub ends : Here → ProcDef → Memory → List Told → End
  ends here q memory answers =
      let around : Around = record { scope = range_with_len 0 (length q.formals.now); held = [] } in
      let now : Now = record { memory = memory; answers = answers } in
      body here q around now (ways_out q)

  -- ---- an activation begins

  abbrev pub here_in : Store → (procedure : ℕ) → ProcDef → Here
  here_in store procedure q = record {
    procedure = procedure;
    level = q.level;
    activation = length store.activations;
    shared = shared_by p procedure;
  }

  -- it gets the next number, and the store keeps the variables that it shares
  abbrev pub started : Here → (around : Option ℕ) → List (Option Thing) → Store → Start
  started here around things store =
      let kept : Kept = record { around = around; variables = part_of here.shared true 0 things } in
      record {
        here = here;
        memory = record {
          own = part_of here.shared false 0 things;
          store = record store { activations = store.activations ++ kept ∷ [] };
        };
      }

  abbrev pub start_of : (procedure : ℕ) → ProcDef → (around : Option ℕ) → List Thing → Store → Start
  start_of procedure q around formals store =
      started (here_in store procedure q) around (first_things (variables_of q) formals) store
