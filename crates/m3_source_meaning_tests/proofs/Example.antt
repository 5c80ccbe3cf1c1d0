use Rattle.std.proofs.Common.{◌≡◌, ℕ, pos, List, [], ◌∷◌, Some, None, refl, ap, ◌∙◌, map}
use Rattle.m3_core.specs.declared.exprs.CoreExpr.{CoreExpr}
use Rattle.m3_core.specs.declared.exprs.Operator.{Operator}
use Rattle.m3_core.specs.declared.exprs.Operator.TheVariants.{Plus, Div}
use Rattle.m3_core.specs.declared.calls.Routine.TheVariants as routine
use Rattle.m3_values.specs.Programs.{Program}
use Rattle.m3_values.specs.Values.{Ordinal}
use Rattle.m3_source_meaning.specs.Meanings.{Acts, given}
use Rattle.m3_source_meaning.specs.Phrases.{Here, Expression, Operated}
use Rattle.m3_source_meaning.specs.Expressions.{expression, plain, of_operations}
use Rattle.m3_source_meaning.specs.Statements.{statement, dropped}
use Rattle.m3_source_meaning.specs.Routines.{routine_call}
use Rattle.m3_source_meaning.proofs.Trees as trees
use Rattle.m3_source_meaning.proofs.Trees.{expression_is, operation_is, routine_is, statement_is}
use Rattle.m3_source_meaning_tests.specs.Trees.{at, integer, number, number_node, operation, operation_node, operations, operations_node, put, put_node, put_call, builtin_node}
use Rattle.m3_source_meaning_tests.specs.Example.{second, body, example, ExamplePutsThree}
use Rattle.std.specs.Prelude.{◌<◌}
use Rattle.std.proofs.Common.{true, arith}
use Rattle.m3_base.specs.declared.outcomes.FaultKind.TheVariants.{DivZero}
use Rattle.m3_runs.specs.Languages.{Action, Serves, Put, Decimal, Gives, Acts as Acting, Faults, Begins}
use Rattle.m3_runs.specs.Runs as run
use Rattle.m3_values.specs.Values.{Procedure}
use Rattle.m3_values.specs.Places.{Thing, Is}
use Rattle.m3_values.specs.Store.{Store}
use Rattle.m3_source_meaning.specs.Meanings.{Told, End, Around, Now, ◌>>◌}
use Rattle.m3_source_meaning.specs.Blocks.{in_turn}
use Rattle.m3_source_meaning.specs.Procedures.{Start, start_of, ends, globals_made, ways_out}
use Rattle.m3_source_meaning.specs.Programs.{Activation, Within, first_store, first_activation, move_of, begins, goes_on, told_more}
use Rattle.m3_source_meaning_tests.specs.Trees.{main_body}

module _ (p : Program) (here : Here) where
  number_means : (n : ℕ) → expression p here (number n) ≡ plain (at 1) integer (given (Ordinal (pos n)))
  number_means n = expression_is p here (number_node n)

  abbrev plain_number : ℕ → Expression
  plain_number n = plain (at 1) integer (given (Ordinal (pos n)))

  abbrev operated : Operator → ℕ → Expression → Operated
  operated o line right = record { operator = o; pos = at line; right = right; kind = Some 0 }

  operation_means : (o : Operator) (line n : ℕ) → trees.operation p here (operation o line (number n)) ≡ operated o line (plain_number n)
  operation_means o line n =
      operation_is p here (operation_node o line (number n)) ∙ ap (operated o line) (number_means n)

  abbrev sum : Operator → ℕ → ℕ → ℕ → Expression
  sum o line m n = of_operations (at line) (plain_number m) (operated o line (plain_number n) ∷ [])

  sum_means : (o : Operator) (line m n : ℕ) → expression p here (operations line (number m) (operation o line (number n) ∷ [])) ≡ sum o line m n
  sum_means o line m n =
      expression_is p here (operations_node line (number m) (operation o line (number n) ∷ []))
      ∙ ap (λ e. of_operations (at line) e (trees.operation p here (operation o line (number n)) ∷ [])) (number_means m)
      ∙ ap (λ r. of_operations (at line) (plain_number m) (r ∷ [])) (operation_means o line n)

  abbrev put_meaning : ℕ → Expression → Acts
  put_meaning line e = dropped p here (routine_call p routine.PutInt (at line) (e ∷ []) (0 ∷ []) None)

  put_means : (line : ℕ) (e : CoreExpr) (m : Expression) → expression p here e ≡ m → statement p here (put line e) ≡ put_meaning line m
  put_means line e m is =
      statement_is p here (builtin_node line (put_call line e))
      ∙ ap (λ r. dropped p here r.value) (routine_is p here (put_node line e))
      ∙ ap (put_meaning line) is

  body_means : map (statement p here) body ≡ put_meaning 2 (sum Plus 2 1 2) ∷ put_meaning 3 (sum Div 3 4 0) ∷ []
  body_means =
      ap (λ m. m ∷ statement p here second ∷ []) (put_means 2 _ _ (sum_means Plus 2 1 2))
      ∙ ap (λ m. put_meaning 2 (sum Plus 2 1 2) ∷ m ∷ []) (put_means 3 _ _ (sum_means Div 3 4 0))

-- ---- the run

abbrev call : Thing
call = Is (Procedure 0 None)

abbrev here : Here
here = record { procedure = 0; level = 0; activation = 0; shared = [] }

abbrev beginning : Start
beginning = start_of example 0 (main_body body) None [] (first_store example)

-- where the body leads, whose statements have these meanings
abbrev leads : List Told → List Acts → End
leads answers ms =
    let around : Around = record { scope = []; held = [] } in
    let now : Now = record { memory = beginning.memory; answers = answers } in
    (globals_made example true beginning.here >> in_turn ms) around now (ways_out example (main_body body))

abbrev meanings : List Acts
meanings =
    put_meaning example beginning.here 2 (sum example beginning.here Plus 2 1 2)
    ∷ put_meaning example beginning.here 3 (sum example beginning.here Div 3 4 0) ∷ []

leads_so : (answers : List Told) → ends example beginning.here (main_body body) beginning.memory answers ≡ leads answers meanings
leads_so answers = ap (leads answers) (body_means example beginning.here)

abbrev waiting : Activation
waiting = record (first_activation example beginning) { standing = record { own = []; scope = []; held = [] } }

abbrev puts : Action Thing
puts = Serves (Put Decimal (Is (Ordinal (pos 3))))

first_move : begins example 0 call [] (first_store example) ≡ Acting puts (Within waiting) beginning.memory.store
first_move = ap (move_of (first_activation example beginning)) (leads_so [])

second_move : (store : Store) → goes_on example (Within waiting) (Gives None) store ≡ Faults DivZero 0 3
second_move store =
    ap (move_of (told_more example waiting (Gives None) store)) (leads_so (record { answer = Gives None; store = store } ∷ []))

within_none : 0 < 5
within_none = omega arith

within_one : 1 < 5
within_one = omega arith

pub puts_three : ExamplePutsThree
puts_three = record {
  state = _;
  runs =
      run.turn _ _ _ _ _ (run.goes 0 0 _ _ refl refl within_none (run.left) refl
      (run.carries_out _ _ _ refl (run.begins 0 call [] _ (ap Begins first_move)) (run.comes _ _ _ _ (run.stands _ _ _ _))))
      (run.ends _ _ _ _ _ (run.goes 0 0 _ _ refl refl within_one (run.left) refl
      (run.carries_out _ _ _ refl (run.served _) (run.comes _ _ _ _ (run.back _ _ _ _ _ _ (second_move _) (run.faults _ _ _ _))))));
  output = refl;
}
