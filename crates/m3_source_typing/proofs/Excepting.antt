-- RAISE, RETURN, TRY EXCEPT and TRY FINALLY are defined.
use Rattle.std.proofs.Common.{◌≡◌, ℕ, Bool, true, false, List, [], ◌∷◌, ◌++◌, Option, Some, None, refl, sym, ap, ◌∙◌, subst}
use Rattle.std.specs.Prelude.{◌==◌}
use Rattle.std.specs.Borrow.{Bor}
use Rattle.std.specs.Option.{option_map}
use Rattle.std.specs.List.{list_any}
use Rattle.std.proofs.lemmas.Bool.{eqb-true}
use Rattle.m3_core.specs.declared.exprs.CoreExpr.{CoreExpr}
use Rattle.m3_values.specs.Values.{Value}
use Rattle.m3_values.specs.Programs.{Program}
use Rattle.m3_values.specs.Store.{Store}
use Rattle.m3_source_meaning.specs.Meanings.{Raised, Now, Exits, End, Acts, raising}
use Rattle.m3_source_meaning.specs.Phrases.{Here}
use Rattle.m3_source_meaning.specs.Branches.{Otherwise}
use Rattle.m3_source_meaning.specs.Exceptions.{Handling, optional, returning, with_argument, handled, exiting, try_except, try_finally, kept_value}
use Rattle.m3_source_meaning.specs.Travelling.{argument_type}
use Rattle.m3_source_meaning.specs.Expressions.{expression}
use Rattle.m3_source_typing.specs.ValueTypes.{HasType}
use Rattle.m3_source_typing.specs.Stores.{IsLater}
use Rattle.m3_source_typing.specs.Points.{IsArgument}
use Rattle.m3_source_typing.specs.Sound.{Scope, Leaving, IsSound, IsGood, AreSoundFor, Does}
use Rattle.m3_source_typing.specs.Statements.{and_variable, HaveArgument, IsOptional, IsNew}
use Rattle.m3_source_typing.proofs.Staying.{now_itself, and_later, type_stays}
use Rattle.m3_source_typing.proofs.Combining.{given_sound, bind_sound}
use Rattle.m3_source_typing.proofs.Operating.{Typed}
use Rattle.m3_source_typing.proofs.Expressions.{expression_sound}
use Rattle.m3_source_typing.proofs.Leaving.{Nothing, DoesAll, later_for, gives_does, does_given, does_exit, does_raise, does_return}
use Rattle.std.specs.Prelude.{◌||◌}
use Rattle.m3_source_typing.proofs.Making.{does_variable}
use Rattle.m3_source_typing.proofs.Staying.{argument_stays}

module _ (p : Program) (own : Scope) (here : Here) where
  pub optional_sound : (a : Leaving) (e : Option (Bor CoreExpr)) (k : Option ℕ) → IsOptional p here own e k → (s : Store) → Does p own a s (λ t v. IsArgument p t v k) (optional (option_map (λ (e : Bor CoreExpr). expression p here e.now) e))
  optional_sound a None None h s = does_given p own a s _ None (λ t l. tt)
  optional_sound a None (Some k) h s = absurd h
  optional_sound a (Some e) None h s = absurd h
  optional_sound a (Some e) (Some k) h s =
      gives_does p own a s _ _ (bind_sound p own s (Typed p k) (λ t v. IsArgument p t v (Some k)) _ _ ((expression_sound p own here e.now k h).value s)
      (λ v u l q. given_sound p own u (λ t v. IsArgument p t v (Some k)) (Some v) (λ t m. type_stays p u t m v k q)))

  -- what comes behind the last part of a TRY FINALLY
  last_for : (a : Leaving) (s : Store) (later : Now) (exits : Exits (Unit {0})) (next : Now → End) → IsLater s later.memory.store → AreSoundFor p own a s (Nothing p own a) exits → ((after : Now) → IsLater later.memory.store after.memory.store → IsGood p own after.memory → IsSound p next after) → AreSoundFor p own a later.memory.store (Nothing p own a) (record exits { gives = λ w after. next after })
  last_for a s later exits next k b h = record {
    after = record {
      gives = λ w after m well q. h after m well;
      raised = λ r after m well q. b.after.raised r after (and_later s later.memory.store after.memory.store k m) well q;
    };
    exit = λ is after m well. b.exit is after (and_later s later.memory.store after.memory.store k m) well;
    return = λ v after m well q. b.return v after (and_later s later.memory.store after.memory.store k m) well q;
  }

  pub finally_sound : (a : Leaving) (body last : Acts) → DoesAll p own a body → DoesAll p own a last → DoesAll p own a (try_finally p here body last)
  finally_sound a body last h g s = record {
    ends = λ around now exits l good b. (h s).ends around now _ l good (record {
      after = record {
        gives = λ u later k fine q. (g later.memory.store).ends around later _ (now_itself later.memory.store) fine (last_for a s later exits (exits.gives u) k b (λ after m well. b.after.gives tt after (and_later s later.memory.store after.memory.store k m) well tt));
        raised = λ r later k fine q. (g later.memory.store).ends (record around { held = kept_value r.argument ++ around.held }) later _ (now_itself later.memory.store) fine (last_for a s later exits (exits.raised r) k b (λ after m well. b.after.raised r after (and_later s later.memory.store after.memory.store k m) well (argument_stays p later.memory.store after.memory.store m r.argument (argument_type p r.exception) q)));
      };
      exit = λ is later k fine. (g later.memory.store).ends around later _ (now_itself later.memory.store) fine (last_for a s later exits exits.exit k b (λ after m well. b.exit is after (and_later s later.memory.store after.memory.store k m) well));
      return = λ v later k fine q. (g later.memory.store).ends (record around { held = kept_value v ++ around.held }) later _ (now_itself later.memory.store) fine (last_for a s later exits (exits.return v) k b (λ after m well. b.return v after (and_later s later.memory.store after.memory.store k m) well (argument_stays p later.memory.store after.memory.store m v a.result q)));
    });
  }

  -- ---- TRY EXCEPT

  -- handlers of which each is sound, whatever exception of its own it handles
  pub data AreHandling (a : Leaving) : List Handling → Type 0 where
    no_handling : AreHandling a []
    handling : (h : Handling) (hs : List Handling)
        → ((r : Raised) (s : Store) → list_any (λ e. r.exception == e) h.exceptions ≡ true → IsArgument p s r.argument (argument_type p r.exception) → Does p own a s (Nothing p own a) (with_argument p here h.variable r.argument h.body))
        → AreHandling a hs → AreHandling a (h ∷ hs)

  -- where an exception is one of several, it has the argument that all of them have
  argument_of : (t e : ℕ) (es : List ℕ) → HaveArgument p es t → list_any (λ x. e == x) es ≡ true → argument_type p e ≡ Some t
  argument_of t e [] all h = absurd (let bad : false ≡ true = h in cc)
  argument_of t e (x ∷ es) all h = at (e == x) refl h (argument_of t e es all.1)
    where
      at : (b : Bool) → (e == x) ≡ b → (b || list_any (λ y. e == y) es) ≡ true → (list_any (λ y. e == y) es ≡ true → argument_type p e ≡ Some t) → argument_type p e ≡ Some t
      at true is k rest = ap (argument_type p) (eqb-true e x is) ∙ all.0
      at false is k rest = rest k

  argument_there : (s : Store) (t : ℕ) (v : Option Value) (o : Option ℕ) → o ≡ Some t → IsArgument p s v o → (w : Value) × (v ≡ Some w) × HasType p s w t
  argument_there s t v None e h = absurd (let bad : None ≡ Some t = e in cc)
  argument_there s t None (Some k) e h = absurd h
  argument_there s t (Some w) (Some k) e h = let same : k ≡ t = cc in (w, refl, subst (HasType p s w) same h)

  pub without_variable : (a : Leaving) (v : Option Value) (body : Acts) → DoesAll p own a body → DoesAll p own a (with_argument p here None v body)
  without_variable a None body h = h
  without_variable a (Some v) body h = h

  pub with_its_argument : (a : Leaving) (x t : ℕ) (es : List ℕ) (body : Acts) → HaveArgument p es t → IsNew p here own x → DoesAll p (and_variable x t own) a body →
      (r : Raised) (s : Store) → list_any (λ e. r.exception == e) es ≡ true → IsArgument p s r.argument (argument_type p r.exception) → Does p own a s (Nothing p own a) (with_argument p here (Some x) r.argument body)
  with_its_argument a x t es body all new h r s named q =
      let w = argument_there s t r.argument (argument_type p r.exception) (argument_of t r.exception es all named) q in
      subst (λ v. Does p own a s (Nothing p own a) (with_argument p here (Some x) v body)) (sym w.1) (does_variable p here own a s x t w.0 body new w.2 h)

  choice_of : (a : Leaving) (b : Bool) (body leaving : Acts) (s : Store) → Does p own a s (Nothing p own a) body → Does p own a s (Nothing p own a) leaving → Does p own a s (Nothing p own a) (elim b as (λ x. Acts) [ true ↦ body | false ↦ leaving ])
  choice_of a true body leaving s h g = h
  choice_of a false body leaving s h g = g

  handled_sound : (a : Leaving) (hs : List Handling) (otherwise : Otherwise) (r : Raised) → AreHandling a hs → DoesAll p own a otherwise.body → (s : Store) → IsArgument p s r.argument (argument_type p r.exception) → Does p own a s (Nothing p own a) (handled p here hs otherwise r)
  handled_sound a _ otherwise r no_handling h s q = choice_of a otherwise.is_written otherwise.body (raising r) s (h s) (does_raise p own a s r (λ t l. argument_stays p s t l r.argument (argument_type p r.exception) q))
  handled_sound a _ otherwise r (handling x hs is more) h s q =
      at (list_any (λ e. r.exception == e) x.exceptions) refl (handled_sound a hs otherwise r more h s q)
    where
      at : (b : Bool) → list_any (λ e. r.exception == e) x.exceptions ≡ b → Does p own a s (Nothing p own a) (handled p here hs otherwise r) → Does p own a s (Nothing p own a) (elim b as (λ y. Acts) [ true ↦ with_argument p here x.variable r.argument x.body | false ↦ handled p here hs otherwise r ])
      at true e rest = is r s e q
      at false e rest = rest

  pub except_sound : (a : Leaving) (body : Acts) (hs : List Handling) (otherwise : Otherwise) → DoesAll p own a body → AreHandling a hs → DoesAll p own a otherwise.body → DoesAll p own a (try_except p here body hs otherwise)
  except_sound a body hs otherwise h all g s = record {
    ends = λ around now exits l good b. (h s).ends around now _ l good (record {
      after = record {
        gives = b.after.gives;
        raised = λ r later k fine q. (handled_sound a hs otherwise r all g later.memory.store q).ends around later exits (now_itself later.memory.store) fine (later_for p own a s later.memory.store (Nothing p own a) exits k b);
      };
      exit = λ is later k fine. (choice_of a otherwise.is_written otherwise.body (exiting p here) later.memory.store (g later.memory.store) (does_exit p own a later.memory.store is)).ends around later exits (now_itself later.memory.store) fine (later_for p own a s later.memory.store (Nothing p own a) exits k b);
      return = λ v later k fine q. (choice_of a otherwise.is_written otherwise.body (returning v) later.memory.store (g later.memory.store) (does_return p own a later.memory.store v (λ t m. argument_stays p later.memory.store t m v a.result q))).ends around later exits (now_itself later.memory.store) fine (later_for p own a s later.memory.store (Nothing p own a) exits k b);
    });
  }
