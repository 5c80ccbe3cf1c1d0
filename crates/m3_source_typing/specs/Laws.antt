-- What is well typed is defined.
use Rattle.std.specs.Prelude.{◌≡◌, ℕ, true, false, List, Option, None}
use Rattle.m3_core.specs.declared.program.ProcDef.{ProcDef}
use Rattle.m3_core.specs.declared.exprs.CoreExpr.{CoreExpr}
use Rattle.m3_values.specs.Values.{Value}
use Rattle.m3_values.specs.Programs.{Program}
use Rattle.m3_values.specs.Types.{is_same}
use Rattle.m3_values.specs.Places.{Thing}
use Rattle.m3_values.specs.Store.{Store}
use Rattle.m3_source_meaning.specs.Meanings.{Told, Around, Now}
use Rattle.m3_source_meaning.specs.Phrases.{Here}
use Rattle.m3_source_meaning.specs.Statements.{statements}
use Rattle.m3_source_meaning.specs.Procedures.{ways_out, is_first_body, start_of, ends}
use Rattle.m3_source_meaning.specs.Expressions.{expression}
use Rattle.m3_source_typing.specs.ValueTypes.{HasType}
use Rattle.m3_source_typing.specs.Stores.{IsLater, IsTyped}
use Rattle.m3_source_typing.specs.Sound.{Scope, IsDefined, AllFit, IsGood, IsOfType}
use Rattle.m3_source_typing.specs.Expressions.{IsExpression}
use Rattle.m3_source_typing.specs.Statements.{AreStatements}
use Rattle.m3_source_typing.specs.Procedures.{result_of, IsProcedure, AreActualsFor}

-- A value keeps its type, however the store goes on.
abbrev pub TypesStay : Type 0
TypesStay =
    (p : Program) (s t : Store) (v : Value) (kind : ℕ) → IsLater s t → HasType p s v kind →
    HasType p t v kind

-- Types that are the same have the same values.
abbrev pub SameTypesShareValues : Type 0
SameTypesShareValues =
    (p : Program) (s : Store) (v : Value) (t u : ℕ) → is_same p t u ≡ true → HasType p s v t →
    HasType p s v u

-- THE MEANING OF A WELL TYPED EXPRESSION IS DEFINED, in each activation, and gives values of its
-- type.
abbrev pub ExpressionsAreSound : Type 0
ExpressionsAreSound =
    (p : Program) (here : Here) (own : Scope) (e : CoreExpr) (t : ℕ) →
    IsExpression p here own e t → IsOfType p own (expression p here e) t

-- THE BODY OF A PROCEDURE IS DEFINED whose statements are well typed: where each answer fits, no
-- list of answers leads it to what isn't defined; and wherever it stops, the store is well typed.
abbrev pub BodiesAreSound : Type 0
BodiesAreSound =
    (p : Program) (here : Here) (own : Scope) (q : ProcDef) (around : Around) (now : Now) →
    AreStatements p here own (record { in_loop = false; result = result_of p q }) q.body.now →
    IsGood p own now.memory →
    AllFit p (λ later. statements p here q.body.now around later (ways_out p q)) now →
    IsDefined p (statements p here q.body.now around now (ways_out p q))

-- A WELL TYPED PROCEDURE IS NEVER UNDEFINED, called in a well typed store with actuals that fit its
-- formals, whatever answers that fit it is told; and wherever it stops, the store is well typed.
-- The body that runs first, which makes the variables of all modules, isn't meant.
abbrev pub ProceduresAreSound : Type 0
ProceduresAreSound =
    (p : Program) (n : ℕ) (q : ProcDef) (around : Option ℕ) (actuals : List Thing) (s : Store)
    (answers : List Told) → is_first_body p n p.order ≡ false → IsProcedure p s n q →
    IsTyped p None s → AreActualsFor p s q.formals.now actuals →
    AllFit p
    (λ now. ends p (start_of p n q around actuals s).here q now.memory now.answers)
    (record { memory = (start_of p n q around actuals s).memory; answers = answers }) →
    IsDefined p
    (ends p (start_of p n q around actuals s).here q
    (start_of p n q around actuals s).memory answers)
