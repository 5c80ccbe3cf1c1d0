-- NEW is defined, and gives a reference to a cell that holds its defaults.
use Rattle.std.proofs.Common.{◌≡◌, ◌⊎◌, inl, inr, ⊎_elim, ℕ, zero, suc, true, false, List, [], ◌∷◌, Option, Some, None, refl, sym, ap, ◌∙◌, subst, arith}
use Rattle.std.specs.Prelude.{slice_get, slice_set}
use Rattle.std.specs.Option.{option_map}
use Rattle.m3_runs.specs.Languages as asked
use Rattle.m3_runs.specs.Languages.{Answer, Makes}
use Rattle.m3_values.specs.Values as value
use Rattle.m3_values.specs.Values.{Value}
use Rattle.m3_values.specs.Programs.{Program}
use Rattle.m3_values.specs.Types.{node_of, kind_of, unveiled}
use Rattle.m3_values.specs.Places as place
use Rattle.m3_values.specs.Places.{Thing, Is, At}
use Rattle.m3_values.specs.Store as store
use Rattle.m3_values.specs.Store.{Cell, Variables, Store, Memory, cell_at, with_cell, with_content_in, with_store, cell_has_type, is_made_type}
use Rattle.m3_source_meaning.specs.Meanings.{Told, Around, Now, Exits, Evaluates, Acts, standing, there, changing, given, ◌>>=◌, ◌>>◌}
use Rattle.m3_source_meaning.specs.Operators as operators
use Rattle.m3_source_meaning.specs.Constructors as constructors
use Rattle.m3_source_meaning.specs.Constructors.{first_content}
use Rattle.m3_source_typing.specs.ValueTypes.{OfReferences, class_of, HasType}
use Rattle.m3_source_typing.specs.Stores.{IsLater, IsTyped, IsContentOf, IsNoText}
use Rattle.m3_source_typing.specs.Points as points
use Rattle.m3_source_typing.specs.Points.{Fits, AnswerFits, IsMade}
use Rattle.m3_source_typing.specs.Sound.{Scope, IsDefined, AllFit, IsSound, IsGood, AreSound, Gives}
use Rattle.m3_source_typing.specs.Expressions.{HasFirstContent}
use Rattle.m3_source_typing.proofs.Staying.{Keeps, and_later, place_stays, type_stays}
use Rattle.m3_source_typing.proofs.Combining.{same_sound}
use Rattle.m3_source_typing.proofs.Operating.{Typed}
use Rattle.m3_source_typing.proofs.Places.{content_stays, variables_stay}
use Rattle.m3_source_typing.proofs.Referents.{kind_or, is_made, content_or, set_or}
use Rattle.std.proofs.Common.{◌++◌, map}
use Rattle.m3_values.specs.Places.{Place}
use Rattle.m3_values.specs.Store.{has_type, write}
use Rattle.m3_source_meaning.specs.Meanings.{acting, holding_all, writing}
use Rattle.m3_source_meaning.specs.Phrases.{Valued}
use Rattle.m3_source_typing.specs.ValueTypes.{HasFixedSizes}
use Rattle.m3_source_typing.specs.Sound.{Becomes, IsPlaceOf, IsOfType}
use Rattle.m3_source_typing.specs.Expressions as typed
use Rattle.m3_source_typing.specs.Expressions.{IsFieldOf}
use Rattle.m3_source_typing.proofs.Staying.{now_itself, reference_stays}
use Rattle.m3_source_typing.proofs.Combining.{later_exits, given_sound, bind_sound, holding_all_sound}
use Rattle.m3_source_typing.proofs.Operating.{typed_given}
use Rattle.m3_source_typing.proofs.Parts.{fixed_shape}
use Rattle.m3_source_typing.proofs.Places.{knows_itself, good_after, field_place}
use Rattle.m3_source_typing.proofs.Referents.{referent_place, object_place}
use Rattle.m3_source_typing.proofs.Serving.{AreOf}

-- what is set, or what was there elsewhere
was_elsewhere : {A : Type 0} (xs : List A) (n : ℕ) (x : A) (m : ℕ) (now : A) → slice_get (slice_set xs n x) m ≡ Some now → ((n ≡ m) × (x ≡ now)) ⊎ ((n ≡ m → ⊥) × (slice_get xs m ≡ Some now))
was_elsewhere [] n x m now h = absurd (let bad : None ≡ Some now = h in cc)
was_elsewhere (y ∷ xs) zero x zero now h = let one : Some x ≡ Some now = h in inl (refl, cc)
was_elsewhere (y ∷ xs) zero x (suc m) now h = inr ((λ e. omega arith), h)
was_elsewhere (y ∷ xs) (suc n) x zero now h = inr ((λ e. omega arith), h)
was_elsewhere (y ∷ xs) (suc n) x (suc m) now h = ⊎_elim (λ q. inl (ap suc q.0, q.1)) (λ q. inr ((λ e. let same : n ≡ m = omega arith in q.0 same), q.1)) (was_elsewhere xs n x m now h)

set_there : {A : Type 0} (xs : List A) (n : ℕ) (x old : A) → slice_get xs n ≡ Some old → slice_get (slice_set xs n x) n ≡ Some x
set_there [] n x old e = absurd (let bad : None ≡ Some old = e in cc)
set_there (y ∷ xs) zero x old e = refl
set_there (y ∷ xs) (suc n) x old e = set_there xs n x old e

module _ (p : Program) where
  -- the cell as it was told of, and as it is filled
  abbrev filled : Store → ℕ → ℕ → Value → ℕ → Store
  filled t c k v holder = with_cell c (store.Made k v holder) t

  filled_keeps : (t : Store) (c k : ℕ) (v : Value) (holder : ℕ) → cell_at t c ≡ Some (store.Made k value.Nil holder) → Keeps p t (filled t c k v holder)
  filled_keeps t c k v holder e = record {
    cells = λ d cell is. ⊎_elim
        (λ q. (store.Made k v holder, q.1, λ n. same d cell is q.0 n))
        (λ q. (cell, q, λ n. refl))
        (set_or t.cells c (store.Made k v holder) d cell is);
  }
    where
      same : (d : ℕ) (cell : Cell) → cell_at t d ≡ Some cell → c ≡ d → (n : ℕ) → cell_has_type p n cell ≡ cell_has_type p n (store.Made k v holder)
      same d cell is q n = let one : Some (store.Made k value.Nil holder) ≡ Some cell = sym e ∙ ap (cell_at t) q ∙ is in let cells : store.Made k value.Nil holder ≡ cell = cc in sym (ap (cell_has_type p n) cells)

  -- the store before has all its cells still, since this one wasn't among them
  filled_later : (s t : Store) (c k : ℕ) (v : Value) (holder : ℕ) → IsLater s t → cell_at s c ≡ None → IsLater s (filled t c k v holder)
  filled_later s t c k v holder l fresh = record {
    cells = λ d cell is.
        let still = l.cells d cell is in
        ⊎_elim
        (λ q. let bad : None ≡ Some cell = sym fresh ∙ ap (cell_at s) q.0 ∙ is in absurd cc)
        (λ q. record { now = still.now; there = q; becomes = still.becomes })
        (set_or t.cells c (store.Made k v holder) d still.now still.there);
  }

  filled_typed : (t : Store) (c k : ℕ) (v : Value) (holder : ℕ) → cell_at t c ≡ Some (store.Made k value.Nil holder) → IsTyped p (Some c) t → ((u : Store) → IsContentOf p u v k (node_of p k)) → IsTyped p None (filled t c k v holder)
  filled_typed t c k v holder e typed content =
      let after = filled t c k v holder in
      let keeps = filled_keeps t c k v holder e in
      record {
        cells = λ d kind w h is new. ⊎_elim
            (λ q.
            let same : k ≡ kind = ap (kind_or k) q.1 in
            let what : v ≡ w = ap (content_or v) q.1 in
            subst (λ x. IsContentOf p after w x (node_of p x)) same (subst (λ x. IsContentOf p after x k (node_of p k)) what (content after)))
            (λ q. content_stays p t after keeps w kind (node_of p kind) (typed.cells d kind w h q.1 (λ f. let one : c ≡ d = cc in q.0 one)))
            (was_elsewhere t.cells c (store.Made k v holder) d (store.Made kind w h) is);
        made = λ d kind w h is. ⊎_elim
            (λ q. subst (IsNoText p) (ap (kind_or k) q.1) (typed.made c k value.Nil holder e))
            (λ q. typed.made d kind w h q.1)
            (was_elsewhere t.cells c (store.Made k v holder) d (store.Made kind w h) is);
        texts = λ d bytes is. ⊎_elim
            (λ q. absurd (let bad : true ≡ false = ap is_made q.1 in cc))
            (λ q. typed.texts d bytes q.1)
            (was_elsewhere t.cells c (store.Made k v holder) d (store.Bytes bytes) is);
        globals = variables_stay p t after keeps t.globals p.globals typed.globals;
      }

module _ (p : Program) (own : Scope) where
  filled_good : (m : Memory) (t : Store) (c k : ℕ) (v : Value) (holder : ℕ) → IsGood p own m → IsLater m.store t → cell_at m.store c ≡ None → cell_at t c ≡ Some (store.Made k value.Nil holder) → IsTyped p (Some c) t → ((u : Store) → IsContentOf p u v k (node_of p k)) → IsGood p own (record m { store = filled p t c k v holder })
  filled_good m t c k v holder good l fresh e typed content =
      let after = filled p t c k v holder in
      let later = filled_later p m.store t c k v holder l fresh in
      record {
        fair = record {
          store = filled_typed p t c k v holder e typed content;
          room = good.fair.room;
          variables = λ x u is. let w = good.fair.variables x u is in record { value = w.value; is = w.is; typed = type_stays p m.store after later w.value u w.typed };
        };
        names = λ x a is. let n = good.names x a is in record { place = n.place; is = n.is; leads = place_stays p a.known a.is_variable m.store after n.place a.kind later n.leads };
      }

  -- a new cell of a type without open dimensions
  abbrev asks : ℕ → asked.New Thing
  asks made = asked.Cell (kind_of p made) []

  abbrev content_for : ℕ → Value
  content_for made = first_content p (node_of p (unveiled p made)) (unveiled p made) []

  abbrev IsOfKind : ℕ → ℕ → Type 0
  IsOfKind made kind = is_made_type p (kind_of p made) (unveiled p kind) (node_of p (unveiled p kind)) ≡ true

  abbrev behind : Evaluates Value → Around → Exits Value → Exits (Unit {0})
  behind next around exits = record { gives = λ u later. next around later exits; raised = exits.raised; exit = exits.exit; return = exits.return }

  abbrev changed_to : Option Memory → Acts
  changed_to o = there o >>= (λ memory around later exits. exits.gives tt (record later { memory = memory }))

  -- the cell gets its content
  filled_end : (t : Store) (c k : ℕ) (holder : ℕ) → cell_at t c ≡ Some (store.Made k value.Nil holder) → (v : Value) (next : Evaluates Value) (around : Around) (variables : Variables) (answers : List Told) (exits : Exits Value) →
      (changing (store.holding (place.Referent c) v) >> next) around (record { memory = record { own = variables; store = t }; answers = answers }) exits
      ≡ next around (record { memory = record { own = variables; store = filled p t c k v holder }; answers = answers }) exits
  filled_end t c k holder is v next around variables answers exits =
      ap (λ (o : Option Memory). changed_to o around (record { memory = record { own = variables; store = t }; answers = answers }) (behind next around exits))
      (ap (λ (o : Option Cell). with_store (record { own = variables; store = t }) (with_content_in t c v o)) is)

  -- ---- bindings

  are_later : (s k : Store) → IsLater s k → (vs : List Value) (us : List ℕ) → AreOf p s vs us → AreOf p k vs us
  are_later s k l [] [] h = tt
  are_later s k l [] (u ∷ us) h = h
  are_later s k l (v ∷ vs) [] h = h
  are_later s k l (v ∷ vs) (u ∷ us) h = (type_stays p s k l v u h.0, are_later s k l vs us h.1)

  change_gives : (s : Store) (change : Memory → Option Memory) → ((m : Memory) → IsLater s m.store → IsGood p own m → Becomes p own.holds m (change m)) → Gives p own s (λ t u. Unit {0}) (changing change)
  change_gives s change h = record {
    ends = λ around now exits l good b.
        let n = h now.memory l good in
        same_sound p own (λ later. changing change around later exits) (λ later. exits.gives tt (record later { memory = n.after })) now
        (λ answers. ap (λ o. changed_to o around (record now { answers = answers }) exits) n.is)
        (b.gives tt (record now { memory = n.after }) (and_later s now.memory.store n.after.store l n.later) (good_after p own own.holds now.memory (change now.memory) (knows_itself own.holds) good n) tt);
  }

  one_stored : (s : Store) (to : Place) (t : ℕ) (v : Value) → IsPlaceOf p own.holds true s to t → HasFixedSizes p t → HasType p s v t → Gives p own s (λ u x. Unit {0}) (writing to v)
  one_stored s to t v h fixed q = change_gives s (write to v) (λ m l good.
      let r = h.reads m l good.fair in
      let w = type_stays p s m.store l v t q in
      h.writes refl m l good.fair v w (fixed_shape p m.store v t w fixed ∙ sym (fixed_shape p m.store r.0 t r.2 fixed) ∙ r.3))

  fixed_field : (t n u : ℕ) → IsFieldOf p t n u → HasFixedSizes p u
  fixed_field t n u (typed.of_objects have fixed) = fixed
  fixed_field t n u (typed.of_record r f e objects c there same fixed) = fixed

  field_of_cell : (t n u : ℕ) → IsFieldOf p t n u → (s : Store) (c : ℕ) → has_type p s t (value.Pointer c) ≡ Some true → IsPlaceOf p own.holds true s (place.further (place.whole (place.Referent c)) (place.Field n)) u
  field_of_cell t n u (typed.of_objects have fixed) s c h = object_place p own.holds s c t n u have fixed h
  field_of_cell t n u (typed.of_record r f e objects class at_place same fixed) s c h =
      subst (IsPlaceOf p own.holds true s (place.further (place.whole (place.Referent c)) (place.Field n))) same
      (field_place p own.holds true s (place.whole (place.Referent c)) r n f class at_place (subst (HasFixedSizes p) (sym same) fixed) (referent_place p own.holds objects s c t r e h))

  -- well typed bindings
  pub data TypedBindings (t : ℕ) : List Valued → List ℕ → Type 0 where
    none : TypedBindings t [] []
    more : (b : Valued) (bs : List Valued) (u : ℕ) (us : List ℕ) → IsFieldOf p t (constructors.cell_field p b.owner b.field) u → IsOfType p own b.value u → TypedBindings t bs us → TypedBindings t (b ∷ bs) (u ∷ us)

  stored_sound : (t c : ℕ) (bs : List Valued) (us : List ℕ) (vs : List Value) → TypedBindings t bs us → (s : Store) → has_type p s t (value.Pointer c) ≡ Some true → AreOf p s vs us → Gives p own s (λ u x. Unit {0}) (constructors.stored p c bs vs)
  stored_sound t c _ _ vs none s h all = given_sound p own s _ tt (λ u l. tt)
  stored_sound t c _ _ [] (more b bs u us is value rest) s h all = given_sound p own s _ tt (λ u l. tt)
  stored_sound t c _ _ (v ∷ vs) (more b bs u us is value rest) s h all =
      bind_sound p own s (λ k x. Unit {0}) _ _ _ (one_stored s (place.further (place.whole (place.Referent c)) (place.Field (constructors.cell_field p b.owner b.field))) u v (field_of_cell t (constructors.cell_field p b.owner b.field) u is s c h) (fixed_field t (constructors.cell_field p b.owner b.field) u is) all.0)
      (λ x k l q. stored_sound t c bs us vs rest k (reference_stays p s k l c t h) (are_later s k l vs us all.1))

  -- the answer is a new cell
  pub record IsNewCell (made : ℕ) (m : Memory) (t : Store) (a : Answer Thing) : Type 0 where
    pub c : ℕ
    pub answer : a ≡ asked.Gives (Some (Is (value.Pointer c)))
    pub holder : ℕ
    pub is : cell_at t c ≡ Some (store.Made (kind_of p made) value.Nil holder)

  made_cell : (made : ℕ) (o : Option Cell) → IsMade (asks made) o → (holder : ℕ) × (o ≡ Some (store.Made (kind_of p made) value.Nil holder))
  made_cell made (Some (store.Made k v holder)) h = (holder, ap (λ x. Some (store.Made x v holder)) h.0 ∙ ap (λ x. Some (store.Made (kind_of p made) x holder)) h.1)
  made_cell made None h = absurd h
  made_cell made (Some (store.Bytes bytes)) h = absurd h
  made_cell made (Some (store.Forked number result is_joined)) h = absurd h

  answer_is : (made : ℕ) (m : Memory) (t : Store) (a : Answer Thing) → AnswerFits p t (Makes (asks made)) a → IsNewCell made m t a
  answer_is made m t (asked.Gives (Some (Is (value.Pointer c)))) fits = let h = made_cell made (cell_at t c) fits in record { c = c; answer = refl; holder = h.0; is = h.1 }
  answer_is made m t (asked.Gives None) fits = absurd fits
  answer_is made m t (asked.Gives (Some (At place))) fits = absurd fits
  answer_is made m t (asked.Gives (Some (Is value.Nil))) fits = absurd fits
  answer_is made m t (asked.Gives (Some (Is (value.Ordinal z)))) fits = absurd fits
  answer_is made m t (asked.Gives (Some (Is (value.Text n)))) fits = absurd fits
  answer_is made m t (asked.Gives (Some (Is value.MainThread))) fits = absurd fits
  answer_is made m t (asked.Gives (Some (Is (value.Procedure q x)))) fits = absurd fits
  answer_is made m t (asked.Gives (Some (Is (value.Members ms)))) fits = absurd fits
  answer_is made m t (asked.Gives (Some (Is (value.Record vs)))) fits = absurd fits
  answer_is made m t (asked.Gives (Some (Is (value.Array below vs)))) fits = absurd fits
  answer_is made m t (asked.Raises e n y) fits = absurd fits
  answer_is made m t (asked.Fails kind) fits = absurd fits

  -- what NEW does with an answer
  abbrev told_of : ℕ → List Valued → List Value → Answer Thing → Evaluates Value
  told_of made bs vs a = operators.made a >>= constructors.furnished p (unveiled p made) [] bs vs

  abbrev storing : ℕ → List Valued → List Value → Evaluates Value
  storing c bs vs = constructors.stored p c bs vs >> given (value.Pointer c)

  storing_sound : (kind c : ℕ) (bs : List Valued) (us : List ℕ) (vs : List Value) → TypedBindings kind bs us → (s : Store) → HasType p s (value.Pointer c) kind → AreOf p s vs us → Gives p own s (Typed p kind) (storing c bs vs)
  storing_sound kind c bs us vs typed s h all =
      bind_sound p own s (λ u x. Unit {0}) (Typed p kind) _ _ (stored_sound kind c bs us vs typed s h.1 all) (λ x u l q. typed_given p own u kind (value.Pointer c) (type_stays p s u l (value.Pointer c) kind h))

  reference_typed : (made kind : ℕ) (t : Store) (c : ℕ) (holder : ℕ) → class_of p kind ≡ OfReferences → IsOfKind made kind → cell_at t c ≡ Some (store.Made (kind_of p made) value.Nil holder) → HasType p (filled p t c (kind_of p made) (content_for made) holder) (value.Pointer c) kind
  reference_typed made kind t c holder class is e =
      (class, ap (option_map (cell_has_type p (unveiled p kind))) (set_there t.cells c (store.Made (kind_of p made) (content_for made) holder) (store.Made (kind_of p made) value.Nil holder) e) ∙ ap Some is)

  told_sound : (made kind : ℕ) (bs : List Valued) (us : List ℕ) (vs : List Value) → TypedBindings kind bs us → class_of p kind ≡ OfReferences → IsOfKind made kind → HasFirstContent p made → (s : Store) (around : Around) (m : Memory) (told : Told) (answers : List Told) (exits : Exits Value) → IsLater s m.store → IsGood p own m → AreOf p m.store vs us → Fits p m.store (Makes (asks made)) told → AreSound p own s (Typed p kind) exits →
      IsSound p (λ later. told_of made bs vs told.answer around later exits) (record { memory = record m { store = told.store }; answers = answers })
  told_sound made kind bs us vs bound class is content s around m told answers exits l good all fits b =
      let new = answer_is made m told.store told.answer fits.answer in
      let fresh : cell_at m.store new.c ≡ None = fits.fresh new.c (ap (points.new_cell (Makes (asks made))) new.answer) in
      let typed : IsTyped p (Some new.c) told.store = subst (λ a. IsTyped p (points.new_cell (Makes (asks made)) a) told.store) new.answer fits.typed in
      let after : Memory = record m { store = filled p told.store new.c (kind_of p made) (content_for made) new.holder } in
      let later : IsLater m.store after.store = filled_later p m.store told.store new.c (kind_of p made) (content_for made) new.holder fits.later fresh in
      same_sound p own (λ now. told_of made bs vs told.answer around now exits) (λ now. storing new.c bs vs around (record now { memory = after }) exits) (record { memory = record m { store = told.store }; answers = answers })
      (λ more. ap (λ a. told_of made bs vs a around (record { memory = record m { store = told.store }; answers = more }) exits) new.answer
      ∙ filled_end told.store new.c (kind_of p made) new.holder new.is (content_for made) (storing new.c bs vs) around m.own more exits)
      ((storing_sound kind new.c bs us vs bound after.store (reference_typed made kind told.store new.c new.holder class is new.is) (are_later m.store after.store later vs us all)).ends around (record { memory = after; answers = answers }) exits
      (now_itself after.store)
      (filled_good m told.store new.c (kind_of p made) (content_for made) new.holder good fits.later fresh new.is typed content)
      (later_exits p own s after.store (Typed p kind) exits (and_later s m.store after.store l later) b))

  -- the point, and what is done with the answer
  abbrev asking : ℕ → List Valued → List Value → Evaluates Value
  asking made bs vs = holding_all (map Is vs) (acting (Makes (asks made))) >>= told_of made bs vs

  new_at : (made kind : ℕ) (bs : List Valued) (us : List ℕ) (vs : List Value) → TypedBindings kind bs us → class_of p kind ≡ OfReferences → IsOfKind made kind → HasFirstContent p made → (s : Store) (around : Around) (m : Memory) (answers : List Told) (exits : Exits Value) → IsLater s m.store → IsGood p own m → AreOf p m.store vs us → AreSound p own s (Typed p kind) exits →
      AllFit p (λ later. asking made bs vs around later exits) (record { memory = m; answers = answers }) → IsDefined p (asking made bs vs around (record { memory = m; answers = answers }) exits)
  new_at made kind bs us vs bound class is content s around m [] exits l good all b fit = good.fair.store
  new_at made kind bs us vs bound class is content s around m (told ∷ answers) exits l good all b fit =
      let now : Now = record { memory = m; answers = told ∷ answers } in
      let one : Fits p m.store (Makes (asks made)) told = fit [] answers told (Makes (asks made)) (standing (record around { held = map Is vs ++ around.held }) now) m.store refl refl in
      told_sound made kind bs us vs bound class is content s around m told answers exits l good all one b
      (λ before after more next st t is leads. fit (told ∷ before) after more next st t (ap (λ xs. told ∷ xs) is) leads)

  asking_sound : (made kind : ℕ) (bs : List Valued) (us : List ℕ) (vs : List Value) → TypedBindings kind bs us → class_of p kind ≡ OfReferences → IsOfKind made kind → HasFirstContent p made → (s : Store) → AreOf p s vs us → Gives p own s (Typed p kind) (asking made bs vs)
  asking_sound made kind bs us vs bound class is content s all = record { ends = λ around now exits l good b. new_at made kind bs us vs bound class is content s around now.memory now.answers exits l good (are_later s now.memory.store l vs us all) b }

  -- the values of bindings
  and_more : (s : Store) (vs : List Value) (ts : List ℕ) (v : Value) (u : ℕ) → AreOf p s vs ts → HasType p s v u → AreOf p s (vs ++ v ∷ []) (ts ++ u ∷ [])
  and_more s [] [] v u h g = (g, tt)
  and_more s [] (t ∷ ts) v u h g = absurd h
  and_more s (w ∷ vs) [] v u h g = absurd h
  and_more s (w ∷ vs) (t ∷ ts) v u h g = (h.0, and_more s vs ts v u h.1 g)

  in_turn : (ts : List ℕ) (u : ℕ) (us : List ℕ) → (ts ++ u ∷ []) ++ us ≡ ts ++ (u ∷ us)
  in_turn [] u us = refl
  in_turn (t ∷ ts) u us = ap (λ xs. t ∷ xs) (in_turn ts u us)

  at_end : (ts : List ℕ) → ts ≡ ts ++ []
  at_end [] = refl
  at_end (t ∷ ts) = ap (λ xs. t ∷ xs) (at_end ts)

  each_bound : (kind : ℕ) (bs : List Valued) (us : List ℕ) → TypedBindings kind bs us → (before : List Value) (ts : List ℕ) (s : Store) → AreOf p s before ts → Gives p own s (λ k vs. AreOf p k vs (ts ++ us)) (constructors.each_binding p before bs)
  each_bound kind _ _ none before ts s h = given_sound p own s _ before (λ k l. subst (AreOf p k before) (at_end ts) (are_later s k l before ts h))
  each_bound kind _ _ (more b bs u us is value rest) before ts s h =
      bind_sound p own s (Typed p u) _ _ _ (holding_all_sound p own s (Typed p u) (map Is before) b.value.value (value.value s))
      (λ v k l q. subst (λ xs. Gives p own k (λ n vs. AreOf p n vs xs) (constructors.each_binding p (before ++ v ∷ []) bs)) (in_turn ts u us)
      (each_bound kind bs us rest (before ++ v ∷ []) (ts ++ u ∷ []) k (and_more k before ts v u (are_later s k l before ts h) q)))

  pub new_sound : (made kind : ℕ) (bs : List Valued) (us : List ℕ) → TypedBindings kind bs us → class_of p kind ≡ OfReferences → IsOfKind made kind → HasFirstContent p made → (s : Store) → Gives p own s (Typed p kind) (constructors.new_cell p made [] bs)
  new_sound made kind bs us bound class is content s =
      bind_sound p own s (λ k vs. AreOf p k vs us) (Typed p kind) (constructors.each_binding p [] bs) (asking made bs) (each_bound kind bs us bound [] [] s tt)
      (λ vs u l q. asking_sound made kind bs us vs bound class is content u q)
