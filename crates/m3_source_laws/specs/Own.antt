-- OWN VARIABLES. A variable that its activation doesn't share is reached by nobody else: no place
-- of it gets out, and no store keeps it.
use Rattle.std.specs.Prelude.{◌≡◌, ℕ, true, List, [], ◌∷◌, Option, Some, None}
use Rattle.std.specs.Borrow.{Bor}
use Rattle.std.specs.Option.{option_map_or}
use Rattle.m3_core.specs.declared.exprs.CoreExpr.{CoreExpr}
use Rattle.m3_core.specs.declared.program.ProcDef.{ProcDef}
use Rattle.m3_core.specs.declared.program.VarDef.{VarDef}
use Rattle.m3_runs.specs.Languages as asked
use Rattle.m3_runs.specs.Languages.{New, Cell, Concatenated, ByteText, Subtext, ThreadCell, Service, Action, Calls, Makes, Forks, Serves, Passes, Answer, Gives, Raises, Fails}
use Rattle.m3_values.specs.Programs.{Program, procedure_at}
use Rattle.m3_values.specs.Places.{Name, Local, Own, Thing, Is, At}
use Rattle.m3_values.specs.Store.{Variables, Store, thing_in, shared_thing}
use Rattle.m3_source_meaning.specs.Meanings.{Told, End, Waits, Left, Faulted, Undefined}
use Rattle.m3_source_meaning.specs.Phrases.{Here}
use Rattle.m3_source_meaning.specs.Designators.{is_shared_here}
use Rattle.m3_source_meaning.specs.Sharing.{in_expression}
use Rattle.m3_source_meaning.specs.Procedures.{Start, start_of, ends}

-- of each of a list
abbrev pub AllOf : {A : Type 0} → (A → Type 0) → List A → Type 0
AllOf P [] = Unit {0}
AllOf P (x ∷ xs) = P x × AllOf P xs

-- ---- what an action and an answer carry

abbrev pub things_in_new : New Thing → List Thing
things_in_new (Cell kind sizes) = sizes
things_in_new (Concatenated t u) = t ∷ u ∷ []
things_in_new (ByteText v) = v ∷ []
things_in_new (Subtext t start count) = t ∷ start ∷ count ∷ []
things_in_new (ThreadCell number) = []

abbrev pub things_in_service : Service Thing → List Thing
things_in_service (asked.Put form v) = v ∷ []
things_in_service (asked.Join t alertable) = t ∷ []
things_in_service (asked.Acquire m) = m ∷ []
things_in_service (asked.Release m) = m ∷ []
things_in_service (asked.Wait m c alertable) = m ∷ c ∷ []
things_in_service (asked.Signal c) = c ∷ []
things_in_service (asked.Broadcast c) = c ∷ []
things_in_service (asked.Alert t) = t ∷ []
things_in_service _ = []

abbrev pub things_of_action : Action Thing → List Thing
things_of_action (Calls procedure environment formals) = environment ∷ formals
things_of_action (Makes new) = things_in_new new
things_of_action (Forks closure) = closure ∷ []
things_of_action (Serves service) = things_in_service service
things_of_action Passes = []

abbrev pub things_of_answer : Answer Thing → List Thing
things_of_answer (Gives None) = []
things_of_answer (Gives (Some thing)) = thing ∷ []
things_of_answer (Raises exception number tidy) = number ∷ tidy ∷ []
things_of_answer (Fails kind) = []

-- ---- what others may know

module _ (p : Program) (here : Here) where
  -- the name of a variable of its own is the activation's own matter, and a variable of it that the
  -- store keeps is one that it shares
  abbrev pub IsOutName : Name → Type 0
  IsOutName (Own x) = ⊥
  IsOutName (Local a x) = a ≡ here.activation → is_shared_here p here x ≡ true
  IsOutName _ = Unit {0}

  abbrev pub IsOut : Thing → Type 0
  IsOut (Is v) = Unit {0}
  IsOut (At place) = IsOutName place.name

  -- what its own names stand for
  abbrev pub AliasesOut : Variables → Type 0
  AliasesOut variables = (x : ℕ) (thing : Thing) → thing_in variables x ≡ Some thing → IsOut thing

  -- what names of the store stand for; and the store keeps no own variable
  pub record StoreOut (s : Store) : Type 0 where
    pub aliases : (a x : ℕ) (thing : Thing) → shared_thing s a x ≡ Some thing → IsOut thing
    pub shared : (x : ℕ) (thing : Thing) → shared_thing s here.activation x ≡ Some thing
        → is_shared_here p here x ≡ true

  -- where a turn leads, no place of an own variable is in what others see
  abbrev pub EndOut : End → Type 0
  EndOut (Waits action standing s) =
      AllOf IsOut (things_of_action action) × AliasesOut standing.own × StoreOut s
  EndOut (Left answer s) = AllOf IsOut (things_of_answer answer) × StoreOut s
  EndOut (Faulted kind at) = Unit {0}
  EndOut Undefined = Unit {0}

-- The initial value of a variable of a module or interface names no variable of a procedure.
abbrev pub NamesNone : VarDef → Type 0
NamesNone v = option_map_or (λ (e : Bor CoreExpr). in_expression e.now) v.initial [] ≡ []

-- NO PLACE OF AN OWN VARIABLE GETS OUT: not in an actual, not by a name that stands for it, not
-- in the store; whatever the activation is called with and told that names none.
abbrev pub OwnStays : Type 0
OwnStays =
    (p : Program) (procedure : ℕ) (q : ProcDef) (around : Option ℕ) (formals : List Thing)
    (s : Store) (answers : List Told) →
    procedure_at p procedure ≡ Some q → AllOf NamesNone p.globals →
    let start : Start = start_of p procedure q around formals s in
    AllOf (IsOut p start.here) formals → StoreOut p start.here s →
    AllOf (λ (told : Told). StoreOut p start.here told.store) answers →
    EndOut p start.here (ends p start.here q start.memory answers)
