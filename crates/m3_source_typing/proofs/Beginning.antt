-- Procedures begin with what is known at their start.
use Rattle.std.proofs.Common.{◌≡◌, ◌+◌, ℕ, zero, suc, Bool, true, false, List, [], ◌∷◌, ◌++◌, length, Option, Some, None, refl, sym, ap, ◌∙◌, subst, arith}
use Rattle.std.specs.Prelude.{slice_get}
use Rattle.std.specs.Option.{option_and_then}
use Rattle.std.specs.List.{range_with_len}
use Rattle.m3_core.specs.declared.program.ProcDef.{ProcDef}
use Rattle.m3_core.specs.declared.program.VarDef.{VarDef}
use Rattle.m3_core.specs.declared.program.VarKind.{VarKind}
use Rattle.m3_core.specs.declared.program.VarKind.TheVariants as kind
use Rattle.m3_values.specs.Values as value
use Rattle.m3_values.specs.Values.{Value}
use Rattle.m3_values.specs.Programs.{Program}
use Rattle.m3_values.specs.Types.{node_of, is_open}
use Rattle.m3_values.specs.Places.{Referent, Place, Thing, Is, At, whole}
use Rattle.m3_values.specs.Store.{Store, Memory, thing_in}
use Rattle.m3_source_meaning.specs.Meanings.{Now, Around}
use Rattle.m3_source_meaning.specs.Phrases.{Here}
use Rattle.m3_source_meaning.specs.Assignment.{variables_of}
use Rattle.m3_source_meaning.specs.Statements.{statements}
use Rattle.m3_source_meaning.specs.Procedures as procedures
use Rattle.m3_source_meaning.specs.Procedures.{is_among, if_is, part_of, formal_thing, first_things, here_in, start_of, globals_made, is_first_body, ways_out, ends}
use Rattle.m3_source_meaning.specs.Meanings.{◌>>◌}
use Rattle.m3_source_meaning.specs.Sharing.{shared_by}
use Rattle.m3_source_typing.specs.ValueTypes.{HasType}
use Rattle.m3_source_typing.specs.Stores.{IsLater, IsTyped}
use Rattle.m3_source_typing.specs.Sound.{Alias, IsDefined, IsPlaceOf, IsGood}
use Rattle.m3_source_typing.specs.Procedures.{anywhere, unless_shared, unless_open, if_open, kind_of_formal, name_of_formal, scope_at_start, IsValueFor, IsActualFor, AreActualsFor}
use Rattle.m3_source_typing.specs.Laws.{ProceduresAreSound}
use Rattle.m3_source_typing.proofs.Staying.{later_keeps, place_stays, becomes_itself, type_stays}
use Rattle.m3_source_typing.proofs.Places.{variables_stay, content_stays}
use Rattle.m3_source_typing.proofs.Statements.{bodies_are_sound}

-- ---- rows of variables

length_things : (p : Program) (vs : List VarDef) (things : List Thing) → length (first_things p vs things) ≡ length vs
length_things p [] things = refl
length_things p (v ∷ vs) [] = ap suc (length_things p vs [])
length_things p (v ∷ vs) (thing ∷ things) = ap suc (length_things p vs things)

length_part : (shared : List ℕ) (wanted : Bool) (at : ℕ) (things : List (Option Thing)) → length (part_of shared wanted at things) ≡ length things
length_part shared wanted at [] = refl
length_part shared wanted at (thing ∷ things) = ap suc (length_part shared wanted (suc at) things)

part_there : (shared : List ℕ) (at x : ℕ) (things : List (Option Thing)) (o : Option Thing) → slice_get things x ≡ Some o → is_among shared (at + x) ≡ false → thing_in (part_of shared false at things) x ≡ o
part_there shared at x [] o e h = absurd (let bad : None ≡ Some o = e in cc)
part_there shared at zero (thing ∷ things) o e h =
    let here : at + 0 ≡ at = omega arith in
    let one : Some thing ≡ Some o = e in
    let same : thing ≡ o = cc in
    ap (λ b. if_is false b thing) (ap (is_among shared) (sym here) ∙ h) ∙ same
part_there shared at (suc x) (thing ∷ things) o e h =
    let next : at + suc x ≡ suc at + x = omega arith in
    part_there shared (suc at) x things o e (ap (is_among shared) (sym next) ∙ h)

formal_there : (p : Program) (vs more : List VarDef) (things : List Thing) (s : Store) (x : ℕ) (v : VarDef) → AreActualsFor p s vs things → slice_get vs x ≡ Some v → (thing : Thing) × (slice_get (first_things p (vs ++ more) things) x ≡ Some (Some (formal_thing p v.kind thing))) × IsActualFor p s v.kind thing
formal_there p [] more things s x v h e = absurd (let bad : None ≡ Some v = e in cc)
formal_there p (w ∷ vs) more [] s x v h e = absurd h
formal_there p (w ∷ vs) more (thing ∷ things) s zero v h e =
    let one : Some w ≡ Some v = e in
    let same : w ≡ v = cc in
    (thing, ap (λ (u : VarDef). Some (Some (formal_thing p u.kind thing))) same, subst (λ (u : VarDef). IsActualFor p s u.kind thing) same h.0)
formal_there p (w ∷ vs) more (thing ∷ things) s (suc x) v h e = formal_there p vs more things s x v h.1 e

-- ---- what formals hold and stand for

unshared : {A : Type 0} (b : Bool) (o : Option A) (a : A) → unless_shared b o ≡ Some a → (b ≡ false) × (o ≡ Some a)
unshared true o a e = absurd (let bad : None ≡ Some a = e in cc)
unshared false o a e = (refl, e)

found : {A B : Type 0} (f : A → Option B) (o : Option A) (b : B) → option_and_then f o ≡ Some b → (a : A) × (o ≡ Some a) × (f a ≡ Some b)
found f None b e = absurd (let bad : None ≡ Some b = e in cc)
found f (Some a) b e = (a, refl, e)

module _ (p : Program) (s : Store) where
  -- a VALUE formal holds a value of its type
  abbrev Holds : Thing → ℕ → Type 0
  Holds thing t = (v : Value) × (thing ≡ Is v) × HasType p s v t

  closed_value : (b : Bool) (t u : ℕ) (v : Value) → unless_open b t ≡ Some u → IsValueFor p b s v t → (b ≡ false) × HasType p s v u
  closed_value true t u v e h = absurd (let bad : None ≡ Some u = e in cc)
  closed_value false t u v e h = let one : t ≡ u = cc in (refl, subst (HasType p s v) one h)

  holds_value : (k : VarKind) (thing : Thing) (t : ℕ) → kind_of_formal p k ≡ Some t → IsActualFor p s k thing → Holds (formal_thing p k thing) t
  holds_value (kind.ByValue k) (Is v) t e h =
      let q = closed_value (is_open p k.0) k.0 t v e h in
      (v, ap (λ b. procedures.formal_by_value p b (Is v)) q.0, q.1)
  holds_value (kind.ByValue k) (At to) t e h = absurd h
  holds_value (kind.Variable k) thing t e h = absurd (let bad : None ≡ Some t = e in cc)
  holds_value (kind.ByVar k) thing t e h = absurd (let bad : None ≡ Some t = e in cc)
  holds_value (kind.ByReadonly k) thing t e h = absurd (let bad : None ≡ Some t = e in cc)
  holds_value (kind.Alias k) thing t e h = absurd (let bad : None ≡ Some t = e in cc)

  -- a name stands for a place
  abbrev Stands : Thing → Alias → Type 0
  Stands thing a = (to : Place) × (thing ≡ At to) × IsPlaceOf p a.known a.is_variable s to a.kind

  open_value : (b : Bool) (t : ℕ) (a : Alias) (v : Value) → if_open b t ≡ Some a → IsValueFor p b s v t → Stands (procedures.formal_by_value p b (Is v)) a
  open_value false t a v e h = absurd (let bad : None ≡ Some a = e in cc)
  open_value true t a (value.Pointer c) e h = let one : anywhere true t ≡ a = cc in (whole (Referent c), refl, subst (λ (x : Alias). IsPlaceOf p x.known x.is_variable s (whole (Referent c)) x.kind) one h)
  open_value true t a (value.Ordinal z) e h = absurd h
  open_value true t a value.Nil e h = absurd h
  open_value true t a (value.Text n) e h = absurd h
  open_value true t a value.MainThread e h = absurd h
  open_value true t a (value.Procedure q around) e h = absurd h
  open_value true t a (value.Members ms) e h = absurd h
  open_value true t a (value.Record vs) e h = absurd h
  open_value true t a (value.Array below vs) e h = absurd h

  stands_for : (k : VarKind) (thing : Thing) (a : Alias) → name_of_formal p k ≡ Some a → IsActualFor p s k thing → Stands (formal_thing p k thing) a
  stands_for (kind.ByValue k) (Is v) a e h = open_value (is_open p k.0) k.0 a v e h
  stands_for (kind.ByValue k) (At to) a e h = absurd h
  stands_for (kind.ByVar k) (At to) a e h = let one : anywhere true k.0 ≡ a = cc in (to, refl, subst (λ (x : Alias). IsPlaceOf p x.known x.is_variable s to x.kind) one h)
  stands_for (kind.ByVar k) (Is v) a e h = absurd h
  stands_for (kind.ByReadonly k) (At to) a e h = let one : anywhere false k.0 ≡ a = cc in (to, refl, subst (λ (x : Alias). IsPlaceOf p x.known x.is_variable s to x.kind) one h)
  stands_for (kind.ByReadonly k) (Is v) a e h = absurd h
  stands_for (kind.Variable k) thing a e h = absurd (let bad : None ≡ Some a = e in cc)
  stands_for (kind.Alias k) thing a e h = absurd (let bad : None ≡ Some a = e in cc)

-- ---- the start

module _ (p : Program) (n : ℕ) (q : ProcDef) (around : Option ℕ) (actuals : List Thing) (s : Store) where
  abbrev begun : Memory
  begun = (start_of p n q around actuals s).memory

  begun_later : IsLater s begun.store
  begun_later = record { cells = λ c cell is. record { now = cell; there = is; becomes = becomes_itself cell } }

  begun_typed : IsTyped p None s → IsTyped p None begun.store
  begun_typed typed = record {
    cells = λ c k v holder is new. content_stays p s begun.store (later_keeps p s begun.store begun_later) v k (node_of p k) (typed.cells c k v holder is new);
    made = typed.made;
    texts = typed.texts;
    globals = variables_stay p s begun.store (later_keeps p s begun.store begun_later) s.globals p.globals typed.globals;
  }

  begun_room : length begun.own ≡ length (variables_of q)
  begun_room = length_part (shared_by p n) false 0 (first_things p (variables_of q) actuals) ∙ length_things p (variables_of q) actuals

  -- a formal that isn't shared
  formal_in : (x : ℕ) (v : VarDef) → AreActualsFor p s q.formals.now actuals → slice_get q.formals.now x ≡ Some v → is_among (shared_by p n) x ≡ false → (thing : Thing) × (thing_in begun.own x ≡ Some (formal_thing p v.kind thing)) × IsActualFor p s v.kind thing
  formal_in x v fit e alone =
      let f = formal_there p q.formals.now q.locals.now actuals s x v fit e in
      let same : 0 + x ≡ x = omega arith in
      (f.0, part_there (shared_by p n) 0 x (first_things p (variables_of q) actuals) (Some (formal_thing p v.kind f.0)) f.1 (ap (is_among (shared_by p n)) same ∙ alone), f.2)

  begun_good : IsTyped p None s → AreActualsFor p s q.formals.now actuals → IsGood p (scope_at_start p n q) begun
  begun_good typed fit = record {
    fair = record {
      store = begun_typed typed;
      room = let same : length begun.own ≡ length (variables_of q) = begun_room in omega arith;
      variables = λ x t is.
          let alone = unshared (is_among (shared_by p n) x) (option_and_then (λ (v : VarDef). kind_of_formal p v.kind) (slice_get q.formals.now x)) t is in
          let v = found (λ (v : VarDef). kind_of_formal p v.kind) (slice_get q.formals.now x) t alone.1 in
          let f = formal_in x v.0 fit v.1 alone.0 in
          let h = holds_value p s v.0.kind f.0 t v.2 f.2 in
          record { value = h.0; is = f.1 ∙ ap Some h.1; typed = type_stays p s begun.store begun_later h.0 t h.2 };
    };
    names = λ x a is.
        let alone = unshared (is_among (shared_by p n) x) (option_and_then (λ (v : VarDef). name_of_formal p v.kind) (slice_get q.formals.now x)) a is in
        let v = found (λ (v : VarDef). name_of_formal p v.kind) (slice_get q.formals.now x) a alone.1 in
        let f = formal_in x v.0 fit v.1 alone.0 in
        let h = stands_for p s v.0.kind f.0 a v.2 f.2 in
        record { place = h.0; is = f.1 ∙ ap Some h.1; leads = place_stays p a.known a.is_variable s begun.store h.0 a.kind begun_later h.2 };
  }

pub procedures_are_sound : ProceduresAreSound
procedures_are_sound p n q around actuals s answers first body typed fit all =
    let here : Here = here_in p s n q in
    let at_start : Around = record { scope = range_with_len 0 (length q.formals.now); held = [] } in
    let now : Now = record { memory = begun p n q around actuals s; answers = answers } in
    let course : (later : Now) → ends p here q later.memory later.answers ≡ statements p here q.body.now at_start later (ways_out p q) = λ later. ap (λ b. (globals_made p b here >> statements p here q.body.now) at_start later (ways_out p q)) first in
    subst (IsDefined p) (sym (course now))
    (bodies_are_sound p here (scope_at_start p n q) q at_start now body (begun_good p n q around actuals s typed fit)
    (λ before after told action standing t is leads. all before after told action standing t is (course (record now { answers = before }) ∙ leads)))
