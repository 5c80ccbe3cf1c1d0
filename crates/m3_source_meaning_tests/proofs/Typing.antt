-- The example is well typed: its rules, one for each node.
use Rattle.std.proofs.Common.{◌≡◌, ◌<◌, ℕ, zero, suc, pos, true, false, [], ◌∷◌, Some, None, refl, subst, arith}
use Rattle.std.specs.Prelude.{◌==◌, slice_get}
use Rattle.std.specs.List.{list_any}
use Rattle.m3_core.specs.declared.calls.Routine.TheVariants as routine
use Rattle.m3_core.specs.declared.exprs.CoreExpr.{CoreExpr}
use Rattle.m3_core.specs.declared.exprs.Operator.{Operator}
use Rattle.m3_core.specs.declared.exprs.Operator.TheVariants.{Plus, Div}
use Rattle.m3_source_meaning.specs.Phrases.{Here}
use Rattle.m3_source_meaning.specs.Procedures.{here_in}
use Rattle.m3_source_typing.specs.Sound.{Scope, Leaving}
use Rattle.m3_source_typing.specs.Operators.{operator_fits}
use Rattle.m3_source_typing.specs.Expressions as expressions
use Rattle.m3_source_typing.specs.Expressions.{IsExpression, HasEachNumber}
use Rattle.m3_source_typing.specs.Statements as statements
use Rattle.m3_source_typing.specs.Statements.{IsStatement}
use Rattle.m3_source_typing.specs.Procedures.{scope_at_start}
use Rattle.m3_source_meaning_tests.specs.Trees.{to, at, integer, number, operation, operations, put, put_call, main_body}
use Rattle.m3_source_meaning_tests.specs.Example.{first, second, body, example, ExampleIsWellTyped}

only_zero : HasEachNumber 1 (0 ∷ [])
only_zero = record {
  long = refl;
  each = λ n less. let none : 0 ≡ n = omega arith in subst (λ m. list_any (λ k. k == m) (0 ∷ []) ≡ true) none refl;
  no_other = below;
}
  where
    below : (n i : ℕ) → slice_get (0 ∷ []) i ≡ Some n → n < 1
    below n zero e = let one : Some 0 ≡ Some n = e in let same : 0 ≡ n = cc in omega arith
    below n (suc i) e = absurd (let bad : None ≡ Some n = e in cc)

module _ (here : Here) (own : Scope) (a : Leaving) where
  two_numbers : (o : Operator) (line m n : ℕ) → operator_fits example o 0 0 0 ≡ true → IsExpression example here own (number m) 0 → IsExpression example here own (number n) 0 → IsExpression example here own (operations line (number m) (operation o line (number n) ∷ [])) 0
  two_numbers o line m n fits left right =
      expressions.operations (at line) (to (number m)) (to (operation o line (number n) ∷ [])) 0 0 left
      (expressions.next 0 0 0 o (at line) (to (number n)) integer [] right fits (expressions.last 0))

  puts : (line : ℕ) (e : CoreExpr) → IsExpression example here own e 0 → IsStatement example here own a (put line e)
  puts line e is = statements.builtin own a (at line) (to (put_call line e)) None
      (expressions.routine_call (at line) routine.PutInt (to (e ∷ [])) (to (0 ∷ [])) None (0 ∷ []) (expressions.one_operand e [] 0 [] is expressions.no_operands) only_zero refl)

pub is_well_typed : ExampleIsWellTyped
is_well_typed s =
    let here : Here = here_in example s 0 (main_body body) in
    let own : Scope = scope_at_start example 0 (main_body body) in
    let a : Leaving = record { in_loop = false; result = None } in
    statements.one_statement own a first (second ∷ [])
    (puts here own a 2 _ (two_numbers here own a Plus 2 1 2 refl (expressions.number (at 1) integer (pos 1) refl refl) (expressions.number (at 1) integer (pos 2) refl refl)))
    (statements.one_statement own a second []
    (puts here own a 3 _ (two_numbers here own a Div 3 4 0 refl (expressions.number (at 1) integer (pos 4) refl refl) (expressions.number (at 1) integer (pos 0) refl refl)))
    (statements.no_statements own a))
