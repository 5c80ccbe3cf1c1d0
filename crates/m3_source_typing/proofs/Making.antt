-- Variables that are made, and what follows them.
use Rattle.std.proofs.Common.{◌≡◌, ◌≤◌, ℕ, ◌<◌, Bool, true, false, List, [], ◌∷◌, length, Option, Some, None, refl, sym, ap, ◌∙◌, subst, arith}
use Rattle.std.specs.Prelude.{◌==◌}
use Rattle.std.specs.Option.{option_map}
use Rattle.std.proofs.lemmas.Bool.{eqb-true}
use Rattle.m3_core.specs.declared.program.VarDef.{VarDef}
use Rattle.m3_core.specs.declared.stmts.WithBinding.{WithBinding}
use Rattle.m3_values.specs.Values.{Value}
use Rattle.m3_values.specs.Programs.{Program}
use Rattle.m3_values.specs.Constants.{default_of}
use Rattle.m3_values.specs.Places.{Place, Thing, Is, At}
use Rattle.m3_values.specs.Store.{Store, Memory}
use Rattle.m3_source_meaning.specs.Meanings.{Evaluates, Exits, Acts, given, done, there, in_scope, changing, ◌>>=◌, ◌>>◌}
use Rattle.m3_source_meaning.specs.Phrases.{Here, Expression}
use Rattle.m3_source_meaning.specs.Assignment.{type_of_variable, bound, bound_in, each_made}
use Rattle.m3_source_meaning.specs.Blocks.{in_turn, block, with}
use Rattle.m3_source_meaning.specs.Branches.{with_variable}
use Rattle.m3_source_meaning.specs.Expressions.{expression}
use Rattle.m3_source_typing.specs.ValueTypes.{HasType}
use Rattle.m3_source_typing.specs.Stores.{IsLater}
use Rattle.m3_source_typing.specs.Sound.{Owned, Knows, Alias, IsFair, IsPlaceOf, HasName, Scope, Leaving, HasOwn, IsGood, Gives, IsOfType, AreSoundFor, Does}
use Rattle.m3_source_typing.specs.Expressions.{PlaceOf, ValueOf}
use Rattle.m3_source_typing.specs.Statements as typed
use Rattle.m3_source_typing.specs.Statements.{and_kind, and_name, inside, and_variable, IsNew, AreMade, AreBound}
use Rattle.m3_source_typing.proofs.Staying.{place_stays, now_itself, and_later, type_stays}
use Rattle.m3_source_typing.proofs.Combining.{given_sound, bind_sound}
use Rattle.m3_source_typing.proofs.Operating.{Typed}
use Rattle.m3_source_typing.proofs.Places.{IsGiven, knows_itself, less_fair, new_thing, other_thing}
use Rattle.m3_source_typing.proofs.Expressions.{expression_sound, chain_typed}
use Rattle.m3_source_typing.proofs.Leaving.{Nothing, DoesAll, later_for, gives_does, does_bind, does_done, does_then, does_in_scope}
use Rattle.std.proofs.lemmas.List.{length-set}
use Rattle.m3_values.specs.Store.{thing_in, with_thing}

-- what is known in a scope inside is all that is known outside, and more
pub record IsInside (own inner : Scope) : Type 0 where
  pub holds : Knows own.holds inner.holds
  pub names : (x : ℕ) (a : Alias) → own.names x ≡ Some a → inner.names x ≡ Some a

kinds_more : (own : Owned) (x t : ℕ) → own.kind x ≡ None → Knows own (and_kind x t own)
kinds_more own x t new = record { count = omega arith; kinds = λ y u is. at y u is (x == y) refl }
  where
    at : (y u : ℕ) → own.kind y ≡ Some u → (b : Bool) → (x == y) ≡ b → (elim b as (λ c. Option ℕ) [ true ↦ Some t | false ↦ own.kind y ]) ≡ Some u
    at y u is true e = let bad : None ≡ Some u = sym new ∙ ap own.kind (eqb-true x y e) ∙ is in absurd cc
    at y u is false e = is

variable_more : (own : Scope) (x t : ℕ) → own.holds.kind x ≡ None → IsInside own (and_variable x t own)
variable_more own x t new = record { holds = kinds_more own.holds x t new; names = λ y a is. is }

name_more : (own : Scope) (x : ℕ) (a : Alias) → own.names x ≡ None → IsInside own (and_name x a own)
name_more own x a new = record { holds = knows_itself own.holds; names = λ y b is. at y b is (x == y) refl }
  where
    at : (y : ℕ) (b : Alias) → own.names y ≡ Some b → (c : Bool) → (x == y) ≡ c → (elim c as (λ d. Option Alias) [ true ↦ Some a | false ↦ own.names y ]) ≡ Some b
    at y b is true e = let bad : None ≡ Some b = sym new ∙ ap own.names (eqb-true x y e) ∙ is in absurd cc
    at y b is false e = is

module _ (p : Program) where
  less_good : (own inner : Scope) (m : Memory) → IsInside own inner → IsGood p inner m → IsGood p own m
  less_good own inner m k good = record { fair = less_fair p own.holds inner.holds m k.holds good.fair; names = λ x a is. good.names x a (k.names x a is) }

  -- what is sound where less is known is so where more is
  less_sound : {A : Type 0} (own inner : Scope) (a : Leaving) (s : Store) (P : Store → A → Type 0) (exits : Exits A) → IsInside own inner → AreSoundFor p own a s P exits → AreSoundFor p inner a s P exits
  less_sound own inner a s P exits k b = record {
    after = record {
      gives = λ x later l good q. b.after.gives x later l (less_good own inner later.memory k good) q;
      raised = λ r later l good q. b.after.raised r later l (less_good own inner later.memory k good) q;
    };
    exit = λ is later l good. b.exit is later l (less_good own inner later.memory k good);
    return = λ v later l good q. b.return v later l (less_good own inner later.memory k good) q;
  }

  -- ---- variables and names that are made

  abbrev with_thing_of : Memory → ℕ → Thing → Memory
  with_thing_of m x thing = record m { own = with_thing x thing m.own }

  room_stays : (m : Memory) (x n : ℕ) (thing : Thing) → n ≤ length m.own → n ≤ length (with_thing_of m x thing).own
  room_stays m x n thing room = subst (λ k. n ≤ k) (sym (length-set m.own x (Some thing))) room

  others_stay : (own : Owned) (m : Memory) (x : ℕ) (thing : Thing) → own.kind x ≡ None → (y u : ℕ) → own.kind y ≡ Some u → HasOwn p m y u → HasOwn p (with_thing_of m x thing) y u
  others_stay own m x thing new y u is w = record { value = w.value; is = other_thing m.own x thing y (Is w.value) w.is (λ q. let bad : None ≡ Some u = sym new ∙ ap own.kind q ∙ is in absurd cc); typed = w.typed }

  names_stay : (own : Scope) (m : Memory) (x : ℕ) (thing : Thing) → own.names x ≡ None → (y : ℕ) (a : Alias) → own.names y ≡ Some a → HasName p m y a → HasName p (with_thing_of m x thing) y a
  names_stay own m x thing new y a is n = record { place = n.place; is = other_thing m.own x thing y (At n.place) n.is (λ q. let bad : None ≡ Some a = sym new ∙ ap own.names q ∙ is in absurd cc); leads = n.leads }

  made_fair : (own : Owned) (m : Memory) (x t : ℕ) (v : Value) → x < own.count → own.kind x ≡ None → IsFair p own m → HasType p m.store v t → IsFair p (and_kind x t own) (with_thing_of m x (Is v))
  made_fair own m x t v less new good h = record {
    store = good.store;
    room = room_stays m x own.count (Is v) good.room;
    variables = λ y u is. at y u (x == y) refl is;
  }
    where
      within : x < length m.own
      within = let room : own.count ≤ length m.own = good.room in omega arith

      at : (y u : ℕ) (b : Bool) → (x == y) ≡ b → (elim b as (λ c. Option ℕ) [ true ↦ Some t | false ↦ own.kind y ]) ≡ Some u → HasOwn p (with_thing_of m x (Is v)) y u
      at y u true e is =
          let one : t ≡ u = cc in
          let same : x ≡ y = eqb-true x y e in
          record { value = v; is = subst (λ z. thing_in (with_thing x (Is v) m.own) z ≡ Some (Is v)) same (new_thing m.own x (Is v) within); typed = subst (HasType p m.store v) one h }
      at y u false e is = others_stay own m x (Is v) new y u is (good.variables y u is)

  module _ (here : Here) where
    made_good : (own : Scope) (m : Memory) (x t : ℕ) (v : Value) → IsNew p here own x → IsGood p own m → HasType p m.store v t → IsGood p (and_variable x t own) (with_thing_of m x (Is v))
    made_good own m x t v new good h = record {
      fair = made_fair own.holds m x t v new.within new.unmade good.fair h;
      names = λ y a is. names_stay own m x (Is v) new.unnamed y a is (good.names y a is);
    }

    named_good : (own : Scope) (m : Memory) (x : ℕ) (a : Alias) (to : Place) → IsNew p here own x → IsGood p own m → IsPlaceOf p a.known a.is_variable m.store to a.kind → IsGood p (and_name x a own) (with_thing_of m x (At to))
    named_good own m x a to new good h = record {
      fair = record {
        store = good.fair.store;
        room = room_stays m x own.holds.count (At to) good.fair.room;
        variables = λ y u is. others_stay own.holds m x (At to) new.unmade y u is (good.fair.variables y u is);
      };
      names = λ y b is. at y b (x == y) refl is;
    }
      where
        within : x < length m.own
        within = let room : own.holds.count ≤ length m.own = good.fair.room in let less : x < own.holds.count = new.within in omega arith

        at : (y : ℕ) (b : Alias) (c : Bool) → (x == y) ≡ c → (elim c as (λ d. Option Alias) [ true ↦ Some a | false ↦ own.names y ]) ≡ Some b → HasName p (with_thing_of m x (At to)) y b
        at y b true e is =
            let one : a ≡ b = cc in
            let same : x ≡ y = eqb-true x y e in
            subst (λ d. HasName p (with_thing_of m x (At to)) y d) one (record { place = to; is = subst (λ z. thing_in (with_thing x (At to) m.own) z ≡ Some (At to)) same (new_thing m.own x (At to) within); leads = h })
        at y b false e is = names_stay own m x (At to) new.unnamed y b is (good.names y b is)

    -- A NEW VARIABLE or name is made, and what follows knows it.
    bound_so : {A : Type 0} (own inner : Scope) (a : Leaving) (s : Store) (P : Store → A → Type 0) (x : ℕ) (thing : Thing) (f : Evaluates A) → IsNew p here own x → IsInside own inner → ((m : Memory) → IsLater s m.store → IsGood p own m → IsGood p inner (with_thing_of m x thing)) → ((u : Store) → IsLater s u → Does p inner a u P f) → Does p own a s P (bound p here x thing >> f)
    bound_so own inner a s P x thing f new more h n =
        subst (λ b. Does p own a s P (changing (λ m. Some (bound_in p here b x thing m)) >> f)) (sym new.alone)
        (record {
          ends = λ around now exits l good b.
              (n now.memory.store l).ends around (record now { memory = with_thing_of now.memory x thing }) exits (now_itself now.memory.store)
              (h now.memory l good)
              (less_sound own inner a now.memory.store P exits more (later_for p own a s now.memory.store P exits l b));
        })

    pub giving_bound : {A : Type 0} (own : Scope) (a : Leaving) (s : Store) (P : Store → A → Type 0) (x t : ℕ) (v : Value) (f : Evaluates A) → IsNew p here own x → HasType p s v t → ((u : Store) → IsLater s u → Does p (and_variable x t own) a u P f) → Does p own a s P (bound p here x (Is v) >> f)
    giving_bound own a s P x t v f new h n = bound_so own (and_variable x t own) a s P x (Is v) f new (variable_more own x t new.unmade) (λ m l good. made_good own m x t v new good (type_stays p s m.store l v t h)) n

    pub does_bound : (own : Scope) (a : Leaving) (s : Store) (x t : ℕ) (v : Value) (f : Acts) → IsNew p here own x → HasType p s v t → ((u : Store) → IsLater s u → Does p (and_variable x t own) a u (Nothing p own a) f) → Does p own a s (Nothing p own a) (bound p here x (Is v) >> f)
    does_bound own a s x t v f new h n = bound_so own (and_variable x t own) a s (Nothing p own a) x (Is v) f new (variable_more own x t new.unmade) (λ m l good. made_good own m x t v new good (type_stays p s m.store l v t h)) n

    does_named : (own : Scope) (a : Leaving) (s : Store) (x : ℕ) (to : Place) (b : Bool) (t : ℕ) (f : Acts) → IsNew p here own x → IsPlaceOf p own.holds b s to t → ((u : Store) → IsLater s u → Does p (and_name x (record { known = own.holds; is_variable = b; kind = t }) own) a u (Nothing p own a) f) → Does p own a s (Nothing p own a) (bound p here x (At to) >> f)
    does_named own a s x to b t f new h n =
        let name : Alias = record { known = own.holds; is_variable = b; kind = t } in
        bound_so own (and_name x name own) a s (Nothing p own a) x (At to) f new (name_more own x name new.unnamed) (λ m l good. named_good own m x name to new good (place_stays p own.holds b s m.store to t l h)) n

    -- variables with their defaults, and what follows
    pub does_made : (own inner : Scope) (a : Leaving) (xs : List ℕ) (f : Acts) → AreMade p here own xs inner → (s : Store) → ((u : Store) → IsLater s u → Does p inner a u (Nothing p own a) f) → Does p own a s (Nothing p own a) (each_made p here xs >> f)
    does_made _ _ a _ f (typed.none_made own) s n = does_then p own a s done f (does_done p own a s) n
    does_made _ _ a _ f (typed.one_made own inner x v xs is new default more) s n =
        subst (λ o. Does p own a s (Nothing p own a) ((there (option_map (λ (v : VarDef). default_of p (type_of_variable v.kind)) o) >>= (λ v. bound p here x (Is v) >> each_made p here xs)) >> f)) (sym is)
        (record {
          ends = λ around now exits l good b.
              (does_bound own a s x (type_of_variable v.kind) (default_of p (type_of_variable v.kind)) (each_made p here xs >> f) new (default s)
              (λ u k. does_made (and_variable x (type_of_variable v.kind) own) inner a xs f more u (λ w m. n w (and_later s u w k m)))).ends around now exits l good b;
        })

    pub does_block : (own inner : Scope) (a : Leaving) (xs : List ℕ) (initial body : List Acts) → AreMade p here own xs inner → DoesAll p inner a (in_turn initial) → DoesAll p inner a (in_turn body) → DoesAll p own a (block p here xs initial body)
    does_block own inner a xs initial body made first rest s =
        does_in_scope p own a s (Nothing p own a) xs _ (record {
          ends = λ around now exits l good b.
              (does_made own inner a xs (in_turn initial >> in_turn body) made s
              (λ u k. does_then p inner a u (in_turn initial) (in_turn body) (first u) (λ t m. rest t))).ends around now exits l good b;
        })

    -- ---- WITH

    thing_bound : (own : Scope) (e : Expression) (t : ℕ) → IsOfType p own e t → (s : Store) → Gives p own s (IsGiven p own.holds (ValueOf t)) (e.value >>= (λ v. given (Is v)))
    thing_bound own e t is s = bind_sound p own s (Typed p t) (IsGiven p own.holds (ValueOf t)) _ _ (is.value s) (λ v u l q. given_sound p own u (IsGiven p own.holds (ValueOf t)) (Is v) (λ w k. type_stays p u w k v t q))

    pub does_with : (own inner : Scope) (a : Leaving) (bs : List WithBinding) (body : Acts) → AreBound p here own bs inner → DoesAll p inner a body → DoesAll p own a (with p here bs body)
    does_with _ _ a _ body (typed.none_bound own) n s = n s
    does_with _ _ a _ body (typed.value_bound own inner x e t bs is new more) n s =
        does_bind p own a s (IsGiven p own.holds (ValueOf t)) (Nothing p own a) _ _ (gives_does p own a s _ _ (thing_bound own (expression p here e.now) t (expression_sound p own here e.now t is) s))
        (λ thing u l q. go thing u q (does_with (and_variable x t own) inner a bs body more n))
      where
        go : (thing : Thing) (u : Store) → IsGiven p own.holds (ValueOf t) u thing → DoesAll p (and_variable x t own) a (with p here bs body) → Does p own a u (Nothing p own a) (bound p here x thing >> in_scope (x ∷ []) (with p here bs body))
        go (Is v) u q h = does_bound own a u x t v (in_scope (x ∷ []) (with p here bs body)) new q (λ w k. does_in_scope p (and_variable x t own) a w (Nothing p own a) (x ∷ []) (with p here bs body) (h w))
        go (At to) u q h = absurd q
    does_with _ _ a _ body (typed.place_bound own inner x c b t bs is new more) n s =
        does_bind p own a s (IsGiven p own.holds (PlaceOf b t)) (Nothing p own a) _ _ (gives_does p own a s _ _ ((chain_typed p own here c.now (PlaceOf b t) is).thing s))
        (λ thing u l q. go thing u q (does_with (and_name x (record { known = own.holds; is_variable = b; kind = t }) own) inner a bs body more n))
      where
        go : (thing : Thing) (u : Store) → IsGiven p own.holds (PlaceOf b t) u thing → DoesAll p (and_name x (record { known = own.holds; is_variable = b; kind = t }) own) a (with p here bs body) → Does p own a u (Nothing p own a) (bound p here x thing >> in_scope (x ∷ []) (with p here bs body))
        go (At to) u q h = does_named own a u x to b t (in_scope (x ∷ []) (with p here bs body)) new q (λ w k. does_in_scope p (and_name x (record { known = own.holds; is_variable = b; kind = t }) own) a w (Nothing p own a) (x ∷ []) (with p here bs body) (h w))
        go (Is v) u q h = absurd q

    -- a variable of a branch or a handler, and its statements
    pub does_variable : (own : Scope) (a : Leaving) (s : Store) (x t : ℕ) (v : Value) (body : Acts) → IsNew p here own x → HasType p s v t → DoesAll p (and_variable x t own) a body → Does p own a s (Nothing p own a) (with_variable p here (Some x) v body)
    does_variable own a s x t v body new h n = does_bound own a s x t v (in_scope (x ∷ []) body) new h (λ u l. does_in_scope p (and_variable x t own) a u (Nothing p own a) (x ∷ []) body (n u))
