-- The turns of loops are defined.
use Rattle.std.proofs.Common.{◌≡◌, ℕ, ℤ, zero, suc, pos, negsuc, Bool, true, false, refl, sym, subst}
use Rattle.std.specs.Prelude.{not}
use Rattle.m3_runs.specs.Languages.{Passes}
use Rattle.m3_values.specs.Values as value
use Rattle.m3_values.specs.Programs.{Program}
use Rattle.m3_values.specs.Store.{Store}
use Rattle.m3_source_meaning.specs.Meanings.{Evaluates, Acts, given, done, acting, ◌>>=◌, ◌>>◌}
use Rattle.m3_source_meaning.specs.Phrases.{Here, Expression}
use Rattle.m3_source_meaning.specs.Loops.{ends_normally, passing, body_turn, truth_of, test}
use Rattle.m3_source_laws.specs.Limits.{while_turn, repeat_turn}
use Rattle.m3_source_typing.specs.Sound.{Scope, Leaving, Gives, IsOfType, Does}
use Rattle.m3_source_typing.specs.Operators as rule
use Rattle.m3_source_typing.specs.Statements.{inside}
use Rattle.m3_source_typing.proofs.Combining.{given_sound, bind_sound, acting_sound}
use Rattle.m3_source_typing.proofs.Operands.{left_true, number_of}
use Rattle.m3_source_typing.proofs.Operating.{Typed}
use Rattle.m3_source_typing.proofs.Leaving.{Nothing, DoesAll, gives_does, does_given, does_bind}

module _ (p : Program) (own : Scope) (here : Here) where
  truth_given : (z : ℤ) (s : Store) → Gives p own s (λ u b. Unit {0}) (truth_of (value.Ordinal z))
  truth_given (pos zero) s = given_sound p own s _ false (λ t l. tt)
  truth_given (pos (suc n)) s = given_sound p own s _ true (λ t l. tt)
  truth_given (negsuc n) s = given_sound p own s _ true (λ t l. tt)

  abbrev AnyTruth : Store → Bool → Type 0
  AnyTruth s b = Unit {0}

  test_sound : (e : Expression) (t : ℕ) → IsOfType p own e t → rule.is_truth p t ≡ true → (s : Store) → Gives p own s AnyTruth (test e)
  test_sound e t is truth s = bind_sound p own s (Typed p t) AnyTruth _ _ (is.value s)
      (λ v u l q. let z = number_of p u v t (left_true _ _ truth) q in subst (λ w. Gives p own u AnyTruth (truth_of w)) (sym z.1) (truth_given z.0 u))

  ends_sound : (a : Leaving) (body : Acts) → DoesAll p own (inside a) body → (s : Store) → Does p own a s AnyTruth (ends_normally body)
  ends_sound a body h s = record {
    ends = λ around now exits l good b. (h s).ends around now _ l good (record {
      after = record { gives = λ u later k fine q. b.after.gives true later k fine tt; raised = b.after.raised };
      exit = λ is later k fine. b.after.gives false later k fine tt;
      return = b.return;
    });
  }

  passing_sound : (a : Leaving) → DoesAll p own a passing
  passing_sound a s = gives_does p own a s (Nothing p own a) passing (bind_sound p own s _ (Nothing p own a) (acting Passes) (λ x. done) (acting_sound p own s Passes (λ x. refl)) (λ x u l q. given_sound p own u (Nothing p own a) tt (λ k m. tt)))

  turn_next : (a : Leaving) (b : Bool) (s : Store) → Does p own a s AnyTruth (elim b as (λ x. Evaluates Bool) [ true ↦ passing >> given true | false ↦ given false ])
  turn_next a true s = does_bind p own a s (Nothing p own a) AnyTruth passing (λ u. given true) (passing_sound a s) (λ u t l q. does_given p own a t AnyTruth true (λ k m. tt))
  turn_next a false s = does_given p own a s AnyTruth false (λ k m. tt)

  pub body_sound : (a : Leaving) (body : Acts) → DoesAll p own (inside a) body → (s : Store) → Does p own a s AnyTruth (body_turn body)
  body_sound a body h s = does_bind p own a s AnyTruth AnyTruth (ends_normally body) _ (ends_sound a body h s) (λ b t l q. turn_next a b t)

  while_next : (a : Leaving) (body : Acts) → DoesAll p own (inside a) body → (b : Bool) (s : Store) → Does p own a s AnyTruth (elim b as (λ x. Evaluates Bool) [ true ↦ body_turn body | false ↦ given false ])
  while_next a body h true s = body_sound a body h s
  while_next a body h false s = does_given p own a s AnyTruth false (λ k m. tt)

  pub while_sound : (a : Leaving) (e : Expression) (t : ℕ) (body : Acts) → IsOfType p own e t → rule.is_truth p t ≡ true → DoesAll p own (inside a) body → (s : Store) → Does p own a s AnyTruth (while_turn e body)
  while_sound a e t body is truth h s = does_bind p own a s AnyTruth AnyTruth (test e) _ (gives_does p own a s AnyTruth (test e) (test_sound e t is truth s)) (λ b u l q. while_next a body h b u)

  repeat_next : (a : Leaving) (e : Expression) (t : ℕ) → IsOfType p own e t → rule.is_truth p t ≡ true → (b : Bool) (s : Store) → Does p own a s AnyTruth (elim b as (λ x. Evaluates Bool) [ true ↦ (test e >>= (λ holds. given (not holds))) | false ↦ given false ])
  repeat_next a e t is truth true s = gives_does p own a s AnyTruth _ (bind_sound p own s AnyTruth AnyTruth (test e) (λ holds. given (not holds)) (test_sound e t is truth s) (λ b u l q. given_sound p own u AnyTruth (not b) (λ k m. tt)))
  repeat_next a e t is truth false s = does_given p own a s AnyTruth false (λ k m. tt)

  pub repeat_sound : (a : Leaving) (body : Acts) (e : Expression) (t : ℕ) → DoesAll p own (inside a) body → IsOfType p own e t → rule.is_truth p t ≡ true → (s : Store) → Does p own a s AnyTruth (repeat_turn body e)
  repeat_sound a body e t h is truth s = does_bind p own a s AnyTruth AnyTruth (body_turn body) _ (body_sound a body h s) (λ b u l q. repeat_next a e t is truth b u)
