-- Places that can be read from now on, and those that can be written.
use Rattle.std.proofs.Common.{◌≡◌, ◌≤◌, ◌+◌, ◌-◌, ℕ, zero, suc, ◌<◌, ◌⊎◌, inl, inr, ⊎_elim, Bool, true, false, List, [], ◌∷◌, ◌++◌, length, take, drop, Option, Some, None, refl, sym, ap, ◌∙◌, subst, arith}
use Rattle.std.specs.Prelude.{slice_get, slice_set}
use Rattle.std.specs.Option.{option_and_then}
use Rattle.std.proofs.lemmas.List.{length-set}
use Rattle.m3_core.specs.declared.program.VarDef.{VarDef}
use Rattle.m3_types.specs.declared.nodes.Field.{Field}
use Rattle.m3_types.specs.declared.nodes.TypeNode.{TypeNode}
use Rattle.m3_types.specs.declared.nodes.TypeNode.TheVariants as node
use Rattle.m3_values.specs.Values as value
use Rattle.m3_values.specs.Values.{Value, Values, items, row_of}
use Rattle.m3_values.specs.Arrays.{shape}
use Rattle.m3_values.specs.Programs.{Program}
use Rattle.m3_values.specs.Types.{node_of, element, object_fields}
use Rattle.m3_values.specs.Places as place
use Rattle.m3_values.specs.Places.{Place, Thing, Is, At, whole, selected, value_in}
use Rattle.m3_values.specs.Store as store
use Rattle.m3_values.specs.Store.{Variables, Store, Memory, thing_in, with_thing, with_globals, with_store, value_of, read, write}
use Rattle.m3_source_meaning.specs.Meanings.{given}
use Rattle.m3_source_meaning.specs.Assignment.{type_of_variable}
use Rattle.m3_source_typing.specs.ValueTypes.{OfRecords, OfArrays, class_of, record_fields, HasFixedSizes, HasType}
use Rattle.m3_source_typing.specs.Stores.{IsLater, IsContentOf, AreVariables}
use Rattle.m3_source_typing.specs.Sound.{Owned, Knows, Scope, IsFair, Becomes, IsPlaceOf, IsGood, Gives, IsReadable}
use Rattle.m3_source_typing.specs.Expressions.{Given, PlaceOf, ValueOf, Nothing}
use Rattle.m3_source_typing.proofs.Staying.{place_stays, now_itself, becomes_itself, type_stays, Keeps, later_keeps, type_kept, fields_kept}
use Rattle.m3_source_typing.proofs.Combining.{given_sound}
use Rattle.m3_source_typing.proofs.Heads.{first_of, rest_of}
use Rattle.m3_source_typing.proofs.Parts.{read_further, write_further, item_set, record_of, array_of, field_there, element_there, record_with, array_with, same_shape, fixed_shape}
use Rattle.std.specs.Prelude.{if◌then◌else◌, nat_le}
use Rattle.std.proofs.lemmas.Bool.{eq-eqb}
use Rattle.std.proofs.lemmas.Bool.Decides.{nat_tests}
use Rattle.std.proofs.lemmas.List.{length-append, length-drop, length-take-le}
use Rattle.m3_values.specs.Types.{type_sizes, is_same}
use Rattle.m3_source_typing.specs.ValueTypes.{is_count, has_sizes, AreElements}
use Rattle.m3_source_typing.proofs.Operands.{both_true}
use Rattle.m3_source_typing.proofs.Parts.{items_of, part_elements, replaced_elements, size_counts, sizes_below}
use Rattle.m3_source_typing.proofs.Sameness.{flipped, share_elements}

-- a variable that is set, and each other one
set_thing : (vs : Variables) (x : ℕ) (thing : Thing) (y : ℕ) (old : Thing) → thing_in vs y ≡ Some old → ((x ≡ y) × (thing_in (with_thing x thing vs) y ≡ Some thing)) ⊎ (thing_in (with_thing x thing vs) y ≡ Some old)
set_thing [] x thing y old h = inr h
set_thing (v ∷ vs) zero thing zero old h = inl (refl, refl)
set_thing (v ∷ vs) zero thing (suc y) old h = inr h
set_thing (v ∷ vs) (suc x) thing zero old h = inr h
set_thing (v ∷ vs) (suc x) thing (suc y) old h = ⊎_elim (λ q. inl (ap suc q.0, q.1)) (λ q. inr q) (set_thing vs x thing y old h)

-- a variable that wasn't made
pub new_thing : (vs : Variables) (x : ℕ) (thing : Thing) → x < length vs → thing_in (with_thing x thing vs) x ≡ Some thing
new_thing [] x thing less = absurd (omega arith)
new_thing (v ∷ vs) zero thing less = refl
new_thing (v ∷ vs) (suc x) thing less = new_thing vs x thing (omega arith)

pub other_thing : (vs : Variables) (x : ℕ) (thing : Thing) (y : ℕ) (old : Thing) → thing_in vs y ≡ Some old → (x ≡ y → ⊥) → thing_in (with_thing x thing vs) y ≡ Some old
other_thing vs x thing y old h n = ⊎_elim (λ q. absurd (n q.0)) (λ q. q) (set_thing vs x thing y old h)

module _ (p : Program) where
  pub variables_stay : (s t : Store) → Keeps p s t → (vs : List Value) (xs : List VarDef) → AreVariables p s vs xs → AreVariables p t vs xs
  variables_stay s t l [] [] h = tt
  variables_stay s t l [] (x ∷ xs) h = h
  variables_stay s t l (v ∷ vs) [] h = h
  variables_stay s t l (v ∷ vs) (x ∷ xs) h = (type_kept p s t l v (type_of_variable x.kind) h.0, variables_stay s t l vs xs h.1)

  variable_set : (s : Store) (vs : List Value) (xs : List VarDef) (n : ℕ) (x : VarDef) (v : Value) → AreVariables p s vs xs → slice_get xs n ≡ Some x → HasType p s v (type_of_variable x.kind) → AreVariables p s (slice_set vs n v) xs
  variable_set s [] [] n x v h e g = h
  variable_set s [] (y ∷ xs) n x v h e g = h
  variable_set s (u ∷ vs) [] n x v h e g = absurd h
  variable_set s (u ∷ vs) (y ∷ xs) zero x v h e g = let q : Some y ≡ Some x = e in let same : x ≡ y = cc in (subst (λ (z : VarDef). HasType p s v (type_of_variable z.kind)) same g, h.1)
  variable_set s (u ∷ vs) (y ∷ xs) (suc n) x v h e g = (h.0, variable_set s vs xs n x v h.1 e g)

  variable_there : (s : Store) (vs : List Value) (xs : List VarDef) (n : ℕ) (x : VarDef) → AreVariables p s vs xs → slice_get xs n ≡ Some x → (v : Value) × (slice_get vs n ≡ Some v) × HasType p s v (type_of_variable x.kind)
  variable_there s [] [] n x h e = absurd (let bad : None ≡ Some x = e in cc)
  variable_there s [] (y ∷ xs) n x h e = absurd h
  variable_there s (v ∷ vs) [] n x h e = absurd h
  variable_there s (v ∷ vs) (y ∷ xs) zero x h e = let q : Some y ≡ Some x = e in let same : y ≡ x = cc in (v, refl, subst (λ (z : VarDef). HasType p s v (type_of_variable z.kind)) same h.0)
  variable_there s (v ∷ vs) (y ∷ xs) (suc n) x h e = variable_there s vs xs n x h.1 e

  pub content_stays : (s t : Store) → Keeps p s t → (v : Value) (kind : ℕ) (o : Option TypeNode) → IsContentOf p s v kind o → IsContentOf p t v kind o
  content_stays s t l v kind (Some (node.RefTo brand target)) h = type_kept p s t l v target.0 h
  content_stays s t l v kind (Some (node.OpenArray element)) h = type_kept p s t l v kind h
  content_stays s t l (value.Record vs) kind _ h = fields_kept p s t l vs (object_fields p kind) h
  content_stays s t l _ kind _ h = absurd h

pub knows_itself : (own : Owned) → Knows own own
knows_itself own = record { count = omega arith; kinds = λ x t is. is }

pub knows_then : (known own more : Owned) → Knows known own → Knows own more → Knows known more
knows_then known own more h g =
    let one : known.count ≤ own.count = h.count in
    let two : own.count ≤ more.count = g.count in
    record { count = omega arith; kinds = λ x t is. g.kinds x t (h.kinds x t is) }

module _ (p : Program) where
  pub less_fair : (known own : Owned) (m : Memory) → Knows known own → IsFair p own m → IsFair p known m
  less_fair known own m k fair =
      let one : known.count ≤ own.count = k.count in
      let room : own.count ≤ length m.own = fair.room in
      record { store = fair.store; room = omega arith; variables = λ x t is. fair.variables x t (k.kinds x t is) }

  pub becomes_so : (known : Owned) (m : Memory) (o q : Option Memory) → o ≡ q → Becomes p known m q → Becomes p known m o
  becomes_so known m o q e b = record { after = b.after; is = e ∙ b.is; later = b.later; fair = b.fair; names = b.names }

  -- a place is one where more variables are known
  abbrev pub place_known : (known own : Owned) (b : Bool) (s : Store) (to : Place) (t : ℕ) → Knows known own → IsPlaceOf p known b s to t → IsPlaceOf p own b s to t
  place_known known own b s to t k h = record {
    sizes = h.sizes;
    reads = λ m l fair. h.reads m l (less_fair known own m k fair);
    writes = λ is m l fair v g e.
        let n = h.writes is m l (less_fair known own m k fair) v g e in
        record { after = n.after; is = n.is; later = n.later; fair = λ more j. n.fair more (knows_then known own more k j); names = n.names };
  }

  -- what is written keeps memory well typed
  pub good_after : (own : Scope) (known : Owned) (m : Memory) (o : Option Memory) → Knows known own.holds → IsGood p own m → (b : Becomes p known m o) → IsGood p own b.after
  good_after own known m o k good b = record {
    fair = b.fair own.holds k good.fair;
    names = λ x a is.
        let n = good.names x a is in
        record { place = n.place; is = b.names x n.place n.is; leads = place_stays p a.known a.is_variable m.store b.after.store n.place a.kind b.later n.leads };
  }

  abbrev pub IsGiven : Owned → Given → Store → Thing → Type 0
  IsGiven own (PlaceOf b t) s (At to) = IsPlaceOf p own b s to t
  IsGiven own (PlaceOf b t) s (Is v) = ⊥
  IsGiven own (ValueOf t) s (Is v) = HasType p s v t
  IsGiven own (ValueOf t) s (At to) = ⊥
  IsGiven own Nothing s (Is v) = Unit {0}
  IsGiven own Nothing s (At to) = ⊥

  pub given_stays : (own : Owned) (g : Given) (s u : Store) (thing : Thing) → IsLater s u → IsGiven own g s thing → IsGiven own g u thing
  given_stays own (PlaceOf b t) s u (At to) l h = place_stays p own b s u to t l h
  given_stays own (PlaceOf b t) s u (Is v) l h = h
  given_stays own (ValueOf t) s u (Is v) l h = type_stays p s u l v t h
  given_stays own (ValueOf t) s u (At to) l h = h
  given_stays own Nothing s u (Is v) l h = h
  given_stays own Nothing s u (At to) l h = h

  pub readable : (own : Scope) (g : Given) (s : Store) (thing : Thing) → IsGiven own.holds g s thing → IsReadable p own s thing
  readable own (PlaceOf b t) s (At to) h = record { reads = λ m l good. let r = h.reads m l good.fair in (r.0, r.1) }
  readable own (PlaceOf b t) s (Is v) h = absurd h
  readable own (ValueOf t) s (Is v) h = record { reads = λ m l good. (v, refl) }
  readable own (ValueOf t) s (At to) h = absurd h
  readable own Nothing s (Is v) h = record { reads = λ m l good. (v, refl) }
  readable own Nothing s (At to) h = absurd h

  pub thing_given : (own : Scope) (g : Given) (s : Store) (thing : Thing) → IsGiven own.holds g s thing → Gives p own s (IsGiven own.holds g) (given thing)
  thing_given own g s thing h = given_sound p own s (IsGiven own.holds g) thing (λ u l. given_stays own.holds g s u thing l h)

module _ (p : Program) (known : Owned) where
  -- ---- variables of modules

  abbrev with_global : Memory → ℕ → Value → Memory
  with_global m n v = record m { store = record m.store { globals = slice_set m.store.globals n v } }

  global_later : (m : Memory) (n : ℕ) (v : Value) → IsLater m.store (with_global m n v).store
  global_later m n v = record { cells = λ c cell is. record { now = cell; there = is; becomes = becomes_itself cell } }

  global_good : (m : Memory) (n : ℕ) (x : VarDef) (v : Value) → slice_get p.globals n ≡ Some x → HasType p m.store v (type_of_variable x.kind) → (own : Owned) → IsFair p own m → IsFair p own (with_global m n v)
  global_good m n x v e h own good =
      let l : IsLater m.store (with_global m n v).store = global_later m n v in
      record {
        store = record {
          cells = λ c kind w holder is new. content_stays p m.store (with_global m n v).store (later_keeps p m.store (with_global m n v).store l) w kind (node_of p kind) (good.store.cells c kind w holder is new);
          made = good.store.made;
          texts = good.store.texts;
          globals = variable_set p (with_global m n v).store m.store.globals p.globals n x v (variables_stay p m.store (with_global m n v).store (later_keeps p m.store (with_global m n v).store l) m.store.globals p.globals good.store.globals) e (type_stays p m.store (with_global m n v).store l v (type_of_variable x.kind) h);
        };
        room = good.room;
        variables = λ y t is. let w = good.variables y t is in record { value = w.value; is = w.is; typed = type_stays p m.store (with_global m n v).store l w.value t w.typed };
      }

  write_global : (m : Memory) (n : ℕ) (v old : Value) → slice_get m.store.globals n ≡ Some old → write (whole (place.Global n)) v m ≡ Some (with_global m n v)
  write_global m n v old e =
      ap (option_and_then (λ w. store.holding (place.Global n) v m)) e
      ∙ ap (λ o. with_store m (with_globals m.store o)) (item_set m.store.globals n v old e)

  pub global_place : (s : Store) (n : ℕ) (x : VarDef) → slice_get p.globals n ≡ Some x → HasFixedSizes p (type_of_variable x.kind) → IsPlaceOf p known true s (whole (place.Global n)) (type_of_variable x.kind)
  global_place s n x e f = record {
    sizes = f.sizes;
    reads = λ m l good.
        let v = variable_there p m.store m.store.globals p.globals n x good.store.globals e in
        (v.0, ap (option_and_then (value_in [])) v.1, v.2, fixed_shape p m.store v.0 (type_of_variable x.kind) v.2 f);
    writes = λ is m l good v h g.
        let old = variable_there p m.store m.store.globals p.globals n x good.store.globals e in
        record { after = with_global m n v; is = write_global m n v old.0 old.1; later = global_later m n v; fair = λ own k. global_good m n x v e h own; names = λ y q r. r };
  }

  -- ---- own variables

  abbrev pub with_own : Memory → ℕ → Value → Memory
  with_own m x v = record m { own = with_thing x (Is v) m.own }

  same_type : (own : Owned) (x y t u : ℕ) → x ≡ y → own.kind x ≡ Some t → own.kind y ≡ Some u → t ≡ u
  same_type own x y t u e f g = let q : Some t ≡ Some u = sym f ∙ ap own.kind e ∙ g in cc

  own_good : (m : Memory) (x t : ℕ) (v : Value) → HasType p m.store v t → (own : Owned) → own.kind x ≡ Some t → IsFair p own m → IsFair p own (with_own m x v)
  own_good m x t v h own e good = record {
    store = good.store;
    room = subst (λ n. own.count ≤ n) (sym (length-set m.own x (Some (Is v)))) good.room;
    variables = λ y u is.
        let w = good.variables y u is in
        ⊎_elim
        (λ q. record { value = v; is = q.1; typed = subst (HasType p m.store v) (same_type own x y t u q.0 e is) h })
        (λ q. record { value = w.value; is = q; typed = w.typed })
        (set_thing m.own x (Is v) y (Is w.value) w.is);
  }

  names_stay : (m : Memory) (x : ℕ) (v old : Value) → thing_in m.own x ≡ Some (Is old) → (y : ℕ) (to : Place) → thing_in m.own y ≡ Some (At to) → thing_in (with_own m x v).own y ≡ Some (At to)
  names_stay m x v old e y to is = other_thing m.own x (Is v) y (At to) is (λ q. let bad : Some (Is old) ≡ Some (At to) = sym e ∙ ap (thing_in m.own) q ∙ is in absurd cc)

  write_own : (m : Memory) (x : ℕ) (v old : Value) → thing_in m.own x ≡ Some (Is old) → write (whole (place.Own x)) v m ≡ Some (with_own m x v)
  write_own m x v old e = ap (λ o. option_and_then (λ w. store.holding (place.Own x) v m) (option_and_then value_of o)) e

  pub own_place : (s : Store) (x t : ℕ) → known.kind x ≡ Some t → HasFixedSizes p t → IsPlaceOf p known true s (whole (place.Own x)) t
  own_place s x t e f = record {
    sizes = f.sizes;
    reads = λ m l good.
        let v = good.variables x t e in
        (v.value, ap (λ o. option_and_then (value_in []) (option_and_then value_of o)) v.is, v.typed, fixed_shape p m.store v.value t v.typed f);
    writes = λ is m l good v h g.
        let w = good.variables x t e in
        record { after = with_own m x v; is = write_own m x v w.value w.is; later = now_itself m.store; fair = λ own k. own_good m x t v h own (k.kinds x t e); names = names_stay m x v w.value w.is };
  }

  -- ---- other places

  pub fresh_place : (s : Store) (v : Value) (t : ℕ) → HasType p s v t → IsPlaceOf p known false s (whole (place.Fresh v)) t
  fresh_place s v t h = record {
    sizes = shape v;
    reads = λ m l good. (v, refl, type_stays p s m.store l v t h, refl);
    writes = λ is m l good w g e. absurd (let bad : false ≡ true = is in cc);
  }

  pub field_place : (b : Bool) (s : Store) (to : Place) (t n : ℕ) (f : Field) → class_of p t ≡ OfRecords → slice_get (record_fields (node_of p t)) n ≡ Some f → HasFixedSizes p f.kind.0 → IsPlaceOf p known b s to t → IsPlaceOf p known b s (place.further to (place.Field n)) f.kind.0
  field_place b s to t n f c e fixed h = record {
    sizes = fixed.sizes;
    reads = λ m l good.
        let v = h.reads m l good in
        let r = record_of p m.store v.0 t c v.2 in
        let w = field_there p m.store r.0 (record_fields (node_of p t)) n f r.2 e in
        (w.0, read_further m to (place.Field n) ∙ ap (option_and_then (selected (place.Field n))) (v.1 ∙ ap Some r.1) ∙ w.1, w.2, fixed_shape p m.store w.0 f.kind.0 w.2 fixed);
    writes = λ is m l good new g k.
        let v = h.reads m l good in
        let r = record_of p m.store v.0 t c v.2 in
        let w = field_there p m.store r.0 (record_fields (node_of p t)) n f r.2 e in
        let changed : Value = value.Record (row_of (slice_set (items r.0) n new)) in
        becomes_so p known m (write (place.further to (place.Field n)) new m) (write to changed m)
        (write_further m to (place.Field n) (value.Record r.0) w.0 new changed (v.1 ∙ ap Some r.1) w.1 (ap (λ o. place.as_record o) (item_set (items r.0) n new w.0 w.1)))
        (h.writes is m l good changed (record_with p m.store r.0 t n f new c r.2 e g) (sym (ap shape r.1) ∙ v.3));
  }

  pub element_place : (b : Bool) (s : Store) (to : Place) (t e i : ℕ) → class_of p t ≡ OfArrays → element p t ≡ Some e → (h : IsPlaceOf p known b s to t) → i < first_of h.sizes → IsPlaceOf p known b s (place.further to (place.Element i)) e
  element_place b s to t e i c is h less = record {
    sizes = rest_of h.sizes;
    reads = λ m l good.
        let v = h.reads m l good in
        let a = array_of p m.store v.0 t c v.2 in
        let shaped : shape (value.Array a.below a.elements) ≡ h.sizes = sym (ap shape a.is) ∙ v.3 in
        let long : i < length (items a.elements) = subst (λ ns. i < first_of ns) (sym shaped) less in
        let w = element_there p m.store a.elements a.below (element p t) e i a.typed is long in
        (w.0, read_further m to (place.Element i) ∙ ap (option_and_then (selected (place.Element i))) (v.1 ∙ ap Some a.is) ∙ w.1, w.2, w.3 ∙ ap rest_of shaped);
    writes = λ may m l good new g k.
        let v = h.reads m l good in
        let a = array_of p m.store v.0 t c v.2 in
        let shaped : shape (value.Array a.below a.elements) ≡ h.sizes = sym (ap shape a.is) ∙ v.3 in
        let long : i < length (items a.elements) = subst (λ ns. i < first_of ns) (sym shaped) less in
        let w = element_there p m.store a.elements a.below (element p t) e i a.typed is long in
        let changed : Value = value.Array a.below (row_of (slice_set (items a.elements) i new)) in
        becomes_so p known m (write (place.further to (place.Element i)) new m) (write to changed m)
        (write_further m to (place.Element i) (value.Array a.below a.elements) w.0 new changed (v.1 ∙ ap Some a.is) w.1 (ap (λ o. place.as_array a.below o) (item_set (items a.elements) i new w.0 w.1)))
        (h.writes may m l good changed (array_with p m.store a.elements a.below t e i new (subst (λ x. HasType p m.store x t) a.is v.2) is g (k ∙ sym (ap rest_of shaped))) (same_shape p a.elements a.below i new ∙ shaped));
  }

  -- ---- elements from one on

  at_most_is : (m n : ℕ) → m ≤ n → nat_le m n ≡ true
  at_most_is m n h = grind (arith, nat_tests)

  part_is : (start n : ℕ) (below : List ℕ) (vs : Values) → start + n ≤ length (items vs) → selected (place.Part start n) (value.Array below vs) ≡ Some (value.Array below (row_of (take n (drop start (items vs)))))
  part_is start n below vs le = ap (λ b. if b then Some (value.Array below (row_of (take n (drop start (items vs))))) else None) (at_most_is (start + n) (length (items vs)) le)

  part_length : (start n : ℕ) (vs : List Value) → start + n ≤ length vs → length (take n (drop start vs)) ≡ n
  part_length start n vs le =
      let rest : length (drop start vs) ≡ length vs - start = length-drop start vs in
      length-take-le n (drop start vs) (omega arith)

  whole_length : (start : ℕ) (us vs : List Value) → start + length us ≤ length vs → length (take start vs ++ us ++ drop (start + length us) vs) ≡ length vs
  whole_length start us vs le =
      let first : length (take start vs) ≡ start = length-take-le start vs (omega arith) in
      let last : length (drop (start + length us) vs) ≡ length vs - (start + length us) = length-drop (start + length us) vs in
      let all : length ((take start vs ++ us) ++ drop (start + length us) vs) ≡ length (take start vs ++ us) + length (drop (start + length us) vs) = length-append (take start vs ++ us) (drop (start + length us) vs) in
      let front : length (take start vs ++ us) ≡ length (take start vs) + length us = length-append (take start vs) us in
      omega arith

  part_set : (start n : ℕ) (below inner : List ℕ) (us vs : Values) → start + n ≤ length (items vs) → length (items us) ≡ n → place.with_selected (place.Part start n) (value.Array inner us) (value.Array below vs) ≡ Some (value.Array below (row_of (take start (items vs) ++ items us ++ drop (start + length (items us)) (items vs))))
  part_set start n below inner us vs le e =
      let enough : start + length (items us) ≤ length (items vs) = omega arith in
      ap (λ b. if b then place.as_array below (place.with_items start (items us) (items vs)) else None) (eq-eqb n (length (items us)) (sym e))
      ∙ ap (λ b. place.as_array below (if b then Some (take start (items vs) ++ items us ++ drop (start + length (items us)) (items vs)) else None)) (at_most_is (start + length (items us)) (length (items vs)) enough)

  pub part_place : (b : Bool) (s : Store) (to : Place) (t k e f start n : ℕ) (o : Option ℕ) (rest : List (Option ℕ)) → class_of p t ≡ OfArrays → element p t ≡ Some e → type_sizes p t ≡ o ∷ rest → class_of p k ≡ OfArrays → element p k ≡ Some f → type_sizes p k ≡ None ∷ rest → is_same p e f ≡ true →
      (h : IsPlaceOf p known b s to t) → start + n ≤ first_of h.sizes → IsPlaceOf p known b s (place.further to (place.Part start n)) k
  part_place b s to t open_kind e f start n o rest c is sizes d are opened same h le = record {
    sizes = n ∷ rest_of h.sizes;
    reads = λ m l good.
        let v = h.reads m l good in
        let a = array_of p m.store v.0 t c v.2 in
        let shaped : shape (value.Array a.below a.elements) ≡ h.sizes = sym (ap shape a.is) ∙ v.3 in
        let enough : start + n ≤ length (items a.elements) = subst (λ ns. start + n ≤ first_of ns) (sym shaped) le in
        let part : Value = value.Array a.below (row_of (take n (drop start (items a.elements)))) in
        let long : length (items (row_of (take n (drop start (items a.elements))))) ≡ n = ap length (items_of (take n (drop start (items a.elements)))) ∙ part_length start n (items a.elements) enough in (
          part,
          read_further m to (place.Part start n) ∙ ap (option_and_then (selected (place.Part start n))) (v.1 ∙ ap Some a.is) ∙ part_is start n a.below a.elements enough,
          (
            d,
            subst (AreElements p m.store (row_of (take n (drop start (items a.elements)))) a.below) (sym are) (share_elements p m.store (row_of (take n (drop start (items a.elements)))) a.below (Some e) (Some f) same (subst (AreElements p m.store (row_of (take n (drop start (items a.elements)))) a.below) is (part_elements p m.store start n a.elements a.below (element p t) a.typed))),
            subst (λ ns. has_sizes ns (shape part) ≡ true) (sym opened) (part_sizes m a.below a.elements long (subst (λ ns. has_sizes ns (shape (value.Array a.below a.elements)) ≡ true) sizes a.sizes) enough),
          ),
          ap (λ m. m ∷ a.below) long ∙ ap (λ ns. n ∷ ns) (ap rest_of shaped),
        );
    writes = λ may m l good new g k.
        let v = h.reads m l good in
        let a = array_of p m.store v.0 t c v.2 in
        let w = array_of p m.store new open_kind d g in
        let shaped : shape (value.Array a.below a.elements) ≡ h.sizes = sym (ap shape a.is) ∙ v.3 in
        let enough : start + n ≤ length (items a.elements) = subst (λ ns. start + n ≤ first_of ns) (sym shaped) le in
        let given : shape (value.Array w.below w.elements) ≡ n ∷ rest_of h.sizes = sym (ap shape w.is) ∙ k in
        let long : length (items w.elements) ≡ n = ap first_of given in
        let inner : w.below ≡ a.below = ap rest_of given ∙ sym (ap rest_of shaped) in
        let row : List Value = take start (items a.elements) ++ items w.elements ++ drop (start + length (items w.elements)) (items a.elements) in
        let changed : Value = value.Array a.below (row_of row) in
        let fits : start + length (items w.elements) ≤ length (items a.elements) = omega arith in
        let kept : shape changed ≡ shape (value.Array a.below a.elements) = ap (λ m. m ∷ a.below) (ap length (items_of row) ∙ whole_length start (items w.elements) (items a.elements) fits) in
        becomes_so p known m (write (place.further to (place.Part start n)) new m) (write to changed m)
        (write_further m to (place.Part start n) (value.Array a.below a.elements) (value.Array a.below (row_of (take n (drop start (items a.elements))))) new changed (v.1 ∙ ap Some a.is) (part_is start n a.below a.elements enough) (ap (λ x. place.with_selected (place.Part start n) x (value.Array a.below a.elements)) w.is ∙ part_set start n a.below w.below w.elements a.elements enough long))
        (h.writes may m l good changed (
          c,
          replaced_elements p m.store start w.elements a.elements a.below (element p t)
              (subst (AreElements p m.store w.elements a.below) (sym is) (share_elements p m.store w.elements a.below (Some f) (Some e) (flipped p e f same) (subst (λ ns. AreElements p m.store w.elements ns (Some f)) inner (subst (AreElements p m.store w.elements w.below) are w.typed)))) a.typed,
          subst (λ ns. has_sizes (type_sizes p t) ns ≡ true) (sym kept) a.sizes,
        )
        (kept ∙ shaped));
  }
    where
      part_sizes : (m : Memory) (below : List ℕ) (vs : Values) → length (items (row_of (take n (drop start (items vs))))) ≡ n → has_sizes (o ∷ rest) (shape (value.Array below vs)) ≡ true → start + n ≤ length (items vs) → has_sizes (None ∷ rest) (shape (value.Array below (row_of (take n (drop start (items vs)))))) ≡ true
      part_sizes m below vs long h enough =
          let size : is_count (length (items vs)) ≡ true = size_counts p (o ∷ rest) (length (items vs)) below h in
          subst (λ x. has_sizes (None ∷ rest) (x ∷ below) ≡ true) (sym long) (both_true (is_count n) (has_sizes rest below) (grind (arith, nat_tests)) (sizes_below p o rest (length (items vs)) below h))
