-- The steps of chains, and chains.
use Rattle.std.proofs.Common.{◌≡◌, ⊎_elim, ◌≤◌, ◌+◌, ℕ, zero, suc, pos, ◌+ℤ◌, ◌<◌, Bool, true, false, List, [], ◌∷◌, length, Option, Some, None, refl, sym, ap, ◌∙◌, subst, arith}
use Rattle.std.specs.Prelude.{◌-ℤ◌, nat_le, slice_get}
use Rattle.std.specs.Option.{option_map, option_map_or, option_and_then}
use Rattle.std.proofs.lemmas.Bool.Decides.{nat_tests}
use Rattle.m3_base.specs.declared.outcomes.FaultKind.TheVariants as fault_kind
use Rattle.m3_base.specs.declared.places.Pos.{Pos}
use Rattle.m3_types.specs.declared.nodes.Field.{Field}
use Rattle.m3_values.specs.Values as value
use Rattle.m3_values.specs.Values.{Value}
use Rattle.m3_values.specs.Integers.{count_of}
use Rattle.m3_values.specs.Arrays.{shape, count}
use Rattle.m3_values.specs.Programs.{Program}
use Rattle.m3_values.specs.Types.{node_of, element, first_index, target_in, object_field}
use Rattle.m3_values.specs.Places as place
use Rattle.m3_values.specs.Places.{Place, Thing, Is, At, whole}
use Rattle.m3_values.specs.Store.{Store, thing_in, read, value_now}
use Rattle.m3_source_meaning.specs.Meanings.{Evaluates, given, ◌>>=◌}
use Rattle.m3_source_meaning.specs.Phrases.{Here, Expression, Chained, Based, Before, Stepped}
use Rattle.m3_source_meaning.specs.Designators as designators
use Rattle.m3_source_meaning.specs.Expressions.{as_value, of_chain}
use Rattle.m3_source_typing.specs.ValueTypes.{OfReferences, OfRecords, OfArrays, class_of, record_fields, HasFixedSizes, HasType}
use Rattle.m3_source_typing.specs.Sound.{Knows, Alias, Scope, IsPlaceOf, Gives, IsReadable, IsOfType}
use Rattle.m3_source_typing.specs.Operators as rule
use Rattle.m3_source_typing.specs.Expressions.{Given, PlaceOf, ValueOf, ParentsAreObjects, HaveField}
use Rattle.m3_source_typing.proofs.Staying.{place_stays, and_later}
use Rattle.m3_source_typing.proofs.Cells.{references}
use Rattle.m3_source_typing.proofs.Combining.{given_sound, bind_sound, holding_sound, fault_sound, unless_sound, seeing_sound}
use Rattle.m3_source_typing.proofs.Operands.{number_of}
use Rattle.m3_source_typing.proofs.Operating.{Typed, typed_given}
use Rattle.m3_source_typing.proofs.Heads.{first_of}
use Rattle.m3_source_typing.proofs.Parts.{array_of}
use Rattle.m3_source_typing.proofs.Places.{IsGiven, given_stays, place_known, readable, thing_given, own_place, fresh_place, field_place, element_place}
use Rattle.m3_source_typing.proofs.Referents.{referent_place, object_place, ref_class, ref_no_text, ref_no_thread}
use Rattle.std.specs.Prelude.{neg_ℤ, not}
use Rattle.m3_core.specs.declared.exprs.ArrayLimit.{ArrayLimit}
use Rattle.m3_core.specs.declared.exprs.ArrayLimit.TheVariants as limit
use Rattle.m3_values.specs.Values.{items}
use Rattle.m3_values.specs.Types.{Bounds, bounds, index_in, type_sizes, is_same}
use Rattle.m3_source_meaning.specs.Meanings.{holding, valued}
use Rattle.m3_source_meaning.specs.Operators as operators
use Rattle.m3_source_typing.specs.ValueTypes.{IsNumberOf, is_count}
use Rattle.m3_source_typing.specs.Expressions as typed
use Rattle.m3_source_typing.specs.Expressions.{counts, last_indices, HasLimit}
use Rattle.m3_source_typing.proofs.Operands.{numbers_is, within_two}
use Rattle.m3_source_typing.proofs.Parts.{size_counts}
use Rattle.m3_source_typing.proofs.Places.{part_place}

module _ (p : Program) (own : Scope) where
  module _ (here : Here) where
    own_name_sound : (x t : ℕ) → own.holds.kind x ≡ Some t → HasFixedSizes p t → (s : Store) → Gives p own s (IsGiven p own.holds (PlaceOf true t)) (designators.own_name p here x)
    own_name_sound x t is fixed s = seeing_sound p own s (IsGiven p own.holds (PlaceOf true t)) (λ m. option_map (designators.stands_for (place.Own x)) (thing_in m.own x))
        (λ m l good. let v = good.fair.variables x t is in (At (whole (place.Own x)), ap (option_map (designators.stands_for (place.Own x))) v.is, own_place p own.holds m.store x t is fixed))

    -- the place of an own variable
    pub own_sound : (level x t : ℕ) → designators.is_own p here level x ≡ true → own.holds.kind x ≡ Some t → HasFixedSizes p t → (s : Store) → Gives p own s (IsGiven p own.holds (PlaceOf true t)) (designators.named p here level x)
    own_sound level x t mine is fixed s = subst (λ b. Gives p own s (IsGiven p own.holds (PlaceOf true t)) (designators.named_by p here b level x)) (sym mine) (own_name_sound x t is fixed s)

    -- the place that a name stands for
    pub name_sound : (level x : ℕ) (a : Alias) → designators.is_own p here level x ≡ true → own.names x ≡ Some a → Knows a.known own.holds → (s : Store) → Gives p own s (IsGiven p own.holds (PlaceOf a.is_variable a.kind)) (designators.alias p here level x)
    name_sound level x a mine is knows s =
        subst (λ b. Gives p own s (IsGiven p own.holds (PlaceOf a.is_variable a.kind)) (designators.alias_by p here b level x)) (sym mine)
        (seeing_sound p own s (IsGiven p own.holds (PlaceOf a.is_variable a.kind)) (λ m. option_and_then designators.place_in (thing_in m.own x))
        (λ m l good. let n = good.names x a is in (At n.place, ap (option_and_then designators.place_in) n.is, place_known p a.known own.holds a.is_variable m.store n.place a.kind knows n.leads)))

    pub read_sound : (b : Bool) (t : ℕ) (s : Store) (thing : Thing) → IsGiven p own.holds (PlaceOf b t) s thing → Gives p own s (IsGiven p own.holds (ValueOf t)) (designators.read_step p here thing)
    read_sound b t s (Is v) h = absurd h
    read_sound b t s (At to) h =
        bind_sound p own s (Typed p t) (IsGiven p own.holds (ValueOf t)) _ _
        (seeing_sound p own s (Typed p t) (λ m. value_now m (At to)) (λ m l good. let r = h.reads m l good.fair in (r.0, r.1, r.2)))
        (λ v u l q. thing_given p own (ValueOf t) u (Is v) q)

    pub keep_sound : (t : ℕ) (s : Store) (thing : Thing) → IsGiven p own.holds (ValueOf t) s thing → Gives p own s (IsGiven p own.holds (PlaceOf false t)) (designators.keep_step p here thing)
    keep_sound t s (Is v) h = thing_given p own (PlaceOf false t) s (At (whole (place.Fresh v))) (fresh_place p own.holds s v t h)
    keep_sound t s (At to) h = absurd h

    pub field_sound : (n : ℕ) (b : Bool) (t : ℕ) (f : Field) → class_of p t ≡ OfRecords → slice_get (record_fields (node_of p t)) n ≡ Some f → HasFixedSizes p f.kind.0 → (s : Store) (thing : Thing) → IsGiven p own.holds (PlaceOf b t) s thing → Gives p own s (IsGiven p own.holds (PlaceOf b f.kind.0)) (designators.field_step p here n thing)
    field_sound n b t f c e fixed s (At to) h = thing_given p own (PlaceOf b f.kind.0) s (At (place.further to (place.Field n))) (field_place p own.holds b s to t n f c e fixed h)
    field_sound n b t f c e fixed s (Is v) h = absurd h

    -- ---- references

    pub by_value_sound : (t : ℕ) (g : Given) (go : Value → Evaluates Thing) → ((v : Value) (s : Store) → HasType p s v t → Gives p own s (IsGiven p own.holds g) (go v)) → (s : Store) (thing : Thing) → IsGiven p own.holds (ValueOf t) s thing → Gives p own s (IsGiven p own.holds g) (designators.by_value p here go thing)
    by_value_sound t g go h s (Is v) q = h v s q
    by_value_sound t g go h s (At to) q = absurd q

    pub dereference_sound : (at : Pos) (t k : ℕ) → target_in (node_of p t) ≡ Some k → ParentsAreObjects p → (s : Store) (thing : Thing) → IsGiven p own.holds (ValueOf t) s thing → Gives p own s (IsGiven p own.holds (PlaceOf true k)) (designators.by_value p here (designators.dereferenced p here at) thing)
    dereference_sound at t k e objects s thing q = by_value_sound t (PlaceOf true k) (designators.dereferenced p here at) go s thing q
      where
        go : (v : Value) (s : Store) → HasType p s v t → Gives p own s (IsGiven p own.holds (PlaceOf true k)) (designators.dereferenced p here at v)
        go v s h = ⊎_elim
            (λ (is : v ≡ value.Nil). subst (λ x. Gives p own s (IsGiven p own.holds (PlaceOf true k)) (designators.dereferenced p here at x)) (sym is) (fault_sound p own s _ fault_kind.Nil at))
            (λ r. subst (λ x. Gives p own s (IsGiven p own.holds (PlaceOf true k)) (designators.dereferenced p here at x)) (sym r.1) (thing_given p own (PlaceOf true k) s (At (whole (place.Referent r.0))) (referent_place p own.holds objects s r.0 t k e r.2)))
            (references p s v t (ref_class p t k e) (ref_no_text p t k e) (ref_no_thread p t k e) h)

    pub object_field_sound : (at : Pos) (owner n t k : ℕ) → class_of p t ≡ OfReferences → HaveField p t (object_field p owner n) k → HasFixedSizes p k → (s : Store) (thing : Thing) → IsGiven p own.holds (ValueOf t) s thing → Gives p own s (IsGiven p own.holds (PlaceOf true k)) (designators.by_value p here (designators.object_field_of p here at owner n) thing)
    object_field_sound at owner n t k c have fixed s thing q = by_value_sound t (PlaceOf true k) (designators.object_field_of p here at owner n) go s thing q
      where
        go : (v : Value) (s : Store) → HasType p s v t → Gives p own s (IsGiven p own.holds (PlaceOf true k)) (designators.object_field_of p here at owner n v)
        go v s h = ⊎_elim
            (λ (is : v ≡ value.Nil). subst (λ x. Gives p own s (IsGiven p own.holds (PlaceOf true k)) (designators.object_field_of p here at owner n x)) (sym is) (fault_sound p own s _ fault_kind.Nil at))
            (λ r. subst (λ x. Gives p own s (IsGiven p own.holds (PlaceOf true k)) (designators.object_field_of p here at owner n x)) (sym r.1) (thing_given p own (PlaceOf true k) s (At (place.further (whole (place.Referent r.0)) (place.Field (object_field p owner n)))) (object_place p own.holds s r.0 t (object_field p owner n) k have fixed r.2)))
            (references p s v t c have.no_text have.no_thread h)

    -- ---- elements

    below_size : (size i : ℕ) → nat_le size i ≡ false → i < size
    below_size size i h = grind (arith, nat_tests)

    there_sound : (at : Pos) (to : Place) (b : Bool) (size : ℕ) (i : Option ℕ) (t e : ℕ) → class_of p t ≡ OfArrays → element p t ≡ Some e → (s : Store) (h : IsPlaceOf p own.holds b s to t) → size ≡ first_of h.sizes → Gives p own s (IsGiven p own.holds (PlaceOf b e)) (designators.element_there p here at to size i)
    there_sound at to b size None t e c is s h same = fault_sound p own s _ fault_kind.Index at
    there_sound at to b size (Some i) t e c is s h same =
        bind_sound p own s (λ u w. nat_le size i ≡ false) (IsGiven p own.holds (PlaceOf b e)) _ _ (unless_sound p own s fault_kind.Index at (nat_le size i))
        (λ w u l q. thing_given p own (PlaceOf b e) u (At (place.further to (place.Element i))) (element_place p own.holds b u to t e i c is (place_stays p own.holds b s u to t l h) (subst (λ n. i < n) same (below_size size i q))))

    abbrev ArrayFor : ℕ → List ℕ → Store → Value → Type 0
    ArrayFor t sizes s v = HasType p s v t × (shape v ≡ sizes)

    pub element_sound : (index : Expression) (b : Bool) (t e i : ℕ) → class_of p t ≡ OfArrays → element p t ≡ Some e → IsOfType p own index i → rule.is_ordinal p i ≡ true → (kind : Option ℕ) (s : Store) (thing : Thing) → IsGiven p own.holds (PlaceOf b t) s thing → Gives p own s (IsGiven p own.holds (PlaceOf b e)) (designators.element_step p here index kind thing)
    element_sound index b t e i c is typed numbers kind s (Is v) h = absurd h
    element_sound index b t e i c is typed numbers kind s (At to) h =
        bind_sound p own s (Typed p i) (IsGiven p own.holds (PlaceOf b e)) _ _ (holding_sound p own s (Typed p i) (At to) index.value (typed.value s))
        (λ n u l q. let z = number_of p u n i numbers q in
        bind_sound p own u (ArrayFor t h.sizes) (IsGiven p own.holds (PlaceOf b e)) _ _ (seeing_sound p own u (ArrayFor t h.sizes) (λ m. read m to) (λ m k good. let r = h.reads m (and_later s u m.store l k) good.fair in (r.0, r.1, (r.2, r.3))))
        (λ array w k f. let a = array_of p w array t c f.0 in
        subst (λ x. Gives p own w (IsGiven p own.holds (PlaceOf b e)) (designators.element_at p here index.pos kind to array x)) (sym z.1)
        (subst (λ x. Gives p own w (IsGiven p own.holds (PlaceOf b e)) (designators.element_at p here index.pos kind to x (value.Ordinal z.0))) (sym a.is)
        (there_sound index.pos to b (count (value.Array a.below a.elements)) (count_of (z.0 -ℤ option_map_or (first_index p) kind (pos 0))) t e c is w (place_stays p own.holds b s w to t (and_later s u w l k) h) (ap first_of (sym (ap shape a.is) ∙ f.1))))))

    -- ---- SUBARRAY

    -- the array types of a SUBARRAY and of what it is taken from
    pub record ArePartly (t k : ℕ) : Type 0 where
      pub array : class_of p t ≡ OfArrays
      pub e : ℕ
      pub element_is : element p t ≡ Some e
      pub first : Option ℕ
      pub rest : List (Option ℕ)
      pub sizes : type_sizes p t ≡ first ∷ rest
      pub open_array : class_of p k ≡ OfArrays
      pub f : ℕ
      pub open_element : element p k ≡ Some f
      pub open_sizes : type_sizes p k ≡ None ∷ rest
      pub same : is_same p e f ≡ true

    is_within : (m n : ℕ) → not (nat_le m n) ≡ false → m ≤ n
    is_within m n h = grind (arith, nat_tests)

    part_there_sound : (at : Pos) (to : Place) (b : Bool) (size : ℕ) (start n : Option ℕ) (t k : ℕ) → ArePartly t k → (s : Store) (h : IsPlaceOf p own.holds b s to t) → size ≡ first_of h.sizes → Gives p own s (IsGiven p own.holds (PlaceOf b k)) (designators.part_there p here at to size start n)
    part_there_sound at to b size None n t k a s h same = fault_sound p own s _ fault_kind.Subarray at
    part_there_sound at to b size (Some start) None t k a s h same = fault_sound p own s _ fault_kind.Subarray at
    part_there_sound at to b size (Some start) (Some n) t k a s h same =
        bind_sound p own s (λ u w. not (nat_le (start + n) size) ≡ false) (IsGiven p own.holds (PlaceOf b k)) _ _ (unless_sound p own s fault_kind.Subarray at (not (nat_le (start + n) size)))
        (λ w u l q. thing_given p own (PlaceOf b k) u (At (place.further to (place.Part start n)))
        (part_place p own.holds b u to t k a.e a.f start n a.first a.rest a.array a.element_is a.sizes a.open_array a.open_element a.open_sizes a.same (place_stays p own.holds b s u to t l h) (subst (λ m. start + n ≤ m) same (is_within (start + n) size q))))

    subarray_of_sound : (at : Pos) (first count_ : Expression) (b : Bool) (t k i j : ℕ) → ArePartly t k → IsOfType p own first i → rule.is_ordinal p i ≡ true → IsOfType p own count_ j → rule.is_ordinal p j ≡ true → (s : Store) (thing : Thing) → IsGiven p own.holds (PlaceOf b t) s thing → Gives p own s (IsGiven p own.holds (PlaceOf b k)) (designators.subarray_of p here at first count_ thing)
    subarray_of_sound at first count_ b t k i j a one numbers two others s (Is v) h = absurd h
    subarray_of_sound at first count_ b t k i j a one numbers two others s (At to) h =
        bind_sound p own s (Typed p i) _ _ _ (holding_sound p own s (Typed p i) (At to) first.value (one.value s))
        (λ x u l q. bind_sound p own u (Typed p j) _ _ _ (holding_sound p own u (Typed p j) (At to) (holding (Is x) count_.value) (holding_sound p own u (Typed p j) (Is x) count_.value (two.value u)))
        (λ y w m f. bind_sound p own w (ArrayFor t h.sizes) _ _ _ (seeing_sound p own w (ArrayFor t h.sizes) (λ mem. read mem to) (λ mem d good. let r = h.reads mem (and_later s w mem.store (and_later s u w l m) d) good.fair in (r.0, r.1, (r.2, r.3))))
        (λ array d e g.
        let z = number_of p u x i numbers q in
        let c = number_of p w y j others f in
        let v = array_of p d array t a.array g.0 in
        subst (λ n. Gives p own d (IsGiven p own.holds (PlaceOf b k)) (designators.part_at p here at to array n y)) (sym z.1)
        (subst (λ n. Gives p own d (IsGiven p own.holds (PlaceOf b k)) (designators.part_at p here at to array (value.Ordinal z.0) n)) (sym c.1)
        (part_there_sound at to b (count array) (count_of z.0) (count_of c.0) t k a d (place_stays p own.holds b s d to t (and_later s u d l (and_later u w d m e)) h) (ap count v.is ∙ ap first_of (sym (ap shape v.is) ∙ g.1)))))))

    pub subarray_sound : (at : Pos) (array : Chained) (first count_ : Expression) (b : Bool) (t k i j : ℕ) → ArePartly t k → ((s : Store) → Gives p own s (IsGiven p own.holds (PlaceOf b t)) array.thing) → IsOfType p own first i → rule.is_ordinal p i ≡ true → IsOfType p own count_ j → rule.is_ordinal p j ≡ true → (s : Store) → Gives p own s (IsGiven p own.holds (PlaceOf b k)) (designators.subarray p here at array first count_)
    subarray_sound at array first count_ b t k i j a from one numbers two others s =
        bind_sound p own s (IsGiven p own.holds (PlaceOf b t)) _ _ _ (from s) (λ thing u l q. subarray_of_sound at first count_ b t k i j a one numbers two others u thing q)

    -- ---- chains

    pub record TypedStep (g : Given) (x : Stepped) (h : Given) : Type 0 where
      pub goes : (before : Before) (s : Store) (thing : Thing) → IsGiven p own.holds g s thing → Gives p own s (IsGiven p own.holds h) (x.goes before thing)

    pub data TypedSteps : Given → List Stepped → Given → Type 0 where
      none : (g : Given) → TypedSteps g [] g
      next : (g h k : Given) (x : Stepped) (xs : List Stepped) → TypedStep g x h → TypedSteps h xs k → TypedSteps g (x ∷ xs) k

    pub record TypedBase (b : Based) (g : Given) : Type 0 where
      pub thing : (at : Pos) (s : Store) → Gives p own s (IsGiven p own.holds g) (b.thing at)
      pub unread : (at : Pos) (s : Store) → Gives p own s (IsReadable p own) (b.unread at)

    pub record TypedChain (c : Chained) (g : Given) : Type 0 where
      pub thing : (s : Store) → Gives p own s (IsGiven p own.holds g) c.thing
      pub unread : (s : Store) → Gives p own s (IsReadable p own) c.unread

    to_read : (g : Given) (s : Store) (e : Evaluates Thing) → Gives p own s (IsGiven p own.holds g) e → Gives p own s (IsReadable p own) (e >>= given)
    to_read g s e h = bind_sound p own s (IsGiven p own.holds g) (IsReadable p own) e given h (λ t u l q. given_sound p own u (IsReadable p own) t (λ w k. readable p own g w t (given_stays p own.holds g u w t k q)))

    steps_sound : (g h : Given) (xs : List Stepped) → TypedSteps g xs h → (before : Before) (s : Store) (thing : Thing) → IsGiven p own.holds g s thing → Gives p own s (IsGiven p own.holds h) (designators.stepping p here before xs thing)
    steps_sound _ _ _ (none g) before s thing f = thing_given p own g s thing f
    steps_sound _ _ _ (next g h k x xs step more) before s thing f =
        bind_sound p own s (IsGiven p own.holds h) (IsGiven p own.holds k) _ _ (step.goes before s thing f) (λ t u l q. steps_sound h k xs more (record before { kind = x.kind }) u t q)

    last_unread : (g h : Given) (x : Stepped) (b : Bool) → TypedStep g x h → (before : Before) (s : Store) (thing : Thing) → IsGiven p own.holds g s thing → Gives p own s (IsReadable p own) (elim b as (λ y. Evaluates Thing) [ true ↦ given thing | false ↦ x.goes before thing ])
    last_unread g h x true step before s thing f = to_read g s (given thing) (thing_given p own g s thing f)
    last_unread g h x false step before s thing f = to_read h s (x.goes before thing) (step.goes before s thing f)

    unread_sound : (g h : Given) (xs : List Stepped) → TypedSteps g xs h → (before : Before) (s : Store) (thing : Thing) → IsGiven p own.holds g s thing → Gives p own s (IsReadable p own) (designators.stepping_unread p here before xs thing)
    unread_sound _ _ _ (none g) before s thing f = to_read g s (given thing) (thing_given p own g s thing f)
    unread_sound _ _ _ (next g h k x [] step more) before s thing f = last_unread g h x x.is_read step before s thing f
    unread_sound _ _ _ (next g h k x (y ∷ xs) step more) before s thing f =
        bind_sound p own s (IsGiven p own.holds h) (IsReadable p own) _ _ (step.goes before s thing f) (λ t u l q. unread_sound h k (y ∷ xs) more (record before { kind = x.kind }) u t q)

    chain_unread_sound : (at : Pos) (b : Based) (g h : Given) (xs : List Stepped) → TypedBase b g → TypedSteps g xs h → (s : Store) → Gives p own s (IsReadable p own) (designators.chain_unread p here at b xs)
    chain_unread_sound at b g h [] base steps s = base.unread at s
    chain_unread_sound at b g h (x ∷ xs) base steps s =
        bind_sound p own s (IsGiven p own.holds g) (IsReadable p own) _ _ (base.thing at s) (λ t u l q. unread_sound g h (x ∷ xs) steps (record { pos = at; kind = b.kind }) u t q)

    pub chain_sound : (at : Pos) (b : Based) (g h : Given) (xs : List Stepped) (kind : Option ℕ) → TypedBase b g → TypedSteps g xs h → TypedChain (designators.chained p here at b xs kind) h
    chain_sound at b g h xs kind base steps = record {
      thing = λ s. bind_sound p own s (IsGiven p own.holds g) (IsGiven p own.holds h) _ _ (base.thing at s) (λ t u l q. steps_sound g h xs steps (record { pos = at; kind = b.kind }) u t q);
      unread = chain_unread_sound at b g h xs base steps;
    }

    value_sound : (t : ℕ) (s : Store) (thing : Thing) → IsGiven p own.holds (ValueOf t) s thing → Gives p own s (Typed p t) (as_value thing)
    value_sound t s (Is v) h = typed_given p own s t v h
    value_sound t s (At to) h = absurd h

    pub of_chain_sound : (c : Chained) (t : ℕ) → TypedChain c (ValueOf t) → IsOfType p own (of_chain c) t
    of_chain_sound c t h = record {
      value = λ s. bind_sound p own s (IsGiven p own.holds (ValueOf t)) (Typed p t) _ _ (h.thing s) (λ thing u l q. value_sound t u thing q);
      unread = h.unread;
    }

    -- ---- FIRST, LAST and NUMBER

    in_counts : (n : ℕ) → is_count n ≡ true → IsNumberOf (pos n) (Some counts)
    in_counts n h = grind (arith, nat_tests)

    in_last : (n : ℕ) → is_count n ≡ true → IsNumberOf (pos n +ℤ neg_ℤ (pos 1)) (Some last_indices)
    in_last zero h = refl
    in_last (suc n) h = grind (arith, nat_tests)

    no_index : (noted : ℕ) → index_in (node_of p noted) ≡ None → option_and_then (λ t. option_and_then (bounds p) (index_in (node_of p t))) (Some noted) ≡ None
    no_index noted e = ap (option_and_then (bounds p)) e

    its_index : (noted i : ℕ) (b : Bounds) → index_in (node_of p noted) ≡ Some i → bounds p i ≡ Some b → option_and_then (λ t. option_and_then (bounds p) (index_in (node_of p t))) (Some noted) ≡ Some b
    its_index noted i b e f = ap (option_and_then (bounds p)) e ∙ f

    abbrev index_bounds : ℕ → Option Bounds
    index_bounds noted = option_and_then (λ t. option_and_then (bounds p) (index_in (node_of p t))) (Some noted)

    abbrev limit_number : ArrayLimit → Option Bounds → ℕ → Value
    limit_number l index n = operators.limit_of_index p l (option_map_or (λ b. b) index (operators.open_bounds p n)) n

    limit_typed : (l : ArrayLimit) (noted kind n : ℕ) → HasLimit p noted kind l → rule.is_ordinal p kind ≡ true → is_count n ≡ true → (s : Store) → HasType p s (limit_number l (index_bounds noted) n) kind
    limit_typed _ noted kind n (typed.first_of i b e f within) numbers h s = subst (λ o. HasType p s (limit_number limit.First o n) kind) (sym (its_index noted i b e f)) (numbers_is (class_of p kind) numbers, within)
    limit_typed _ noted kind n (typed.last_of i b e f within) numbers h s = subst (λ o. HasType p s (limit_number limit.Last o n) kind) (sym (its_index noted i b e f)) (numbers_is (class_of p kind) numbers, within)
    limit_typed _ noted kind n (typed.first_of_open e within) numbers h s = subst (λ o. HasType p s (limit_number limit.First o n) kind) (sym (no_index noted e)) (numbers_is (class_of p kind) numbers, within)
    limit_typed _ noted kind n (typed.last_of_open e within) numbers h s = subst (λ o. HasType p s (limit_number limit.Last o n) kind) (sym (no_index noted e)) (numbers_is (class_of p kind) numbers, within_two p (pos n +ℤ neg_ℤ (pos 1)) (Some last_indices) (bounds p kind) within (in_last n h))
    limit_typed _ noted kind n (typed.number_of within) numbers h s = (numbers_is (class_of p kind) numbers, within_two p (pos n) (Some counts) (bounds p kind) within (in_counts n h))

    array_now : (b : Bool) (t : ℕ) (s : Store) (thing : Thing) → IsGiven p own.holds (PlaceOf b t) s thing → Gives p own s (Typed p t) (valued thing)
    array_now b t s (Is v) h = absurd h
    array_now b t s (At to) h = seeing_sound p own s (Typed p t) (λ m. value_now m (At to)) (λ m l good. let r = h.reads m l good.fair in (r.0, r.1, r.2))

    pub limit_sound : (l : ArrayLimit) (noted kind : ℕ) (c : Chained) (b : Bool) (t : ℕ) → c.kind ≡ Some noted → ((s : Store) → Gives p own s (IsGiven p own.holds (PlaceOf b t)) c.thing) → class_of p t ≡ OfArrays → HasLimit p noted kind l → rule.is_ordinal p kind ≡ true → (s : Store) →
        Gives p own s (Typed p kind) (operators.array_limit p l (option_and_then (λ t. option_and_then (bounds p) (index_in (node_of p t))) c.kind) c)
    limit_sound l noted kind c b t named from arrays has numbers s =
        bind_sound p own s (IsGiven p own.holds (PlaceOf b t)) _ _ _ (from s)
        (λ thing u k q. bind_sound p own u (Typed p t) _ _ _ (array_now b t u thing q)
        (λ v w m f.
        let a = array_of p w v t arrays f in
        let n : ℕ = length (items a.elements) in
        subst (λ o. Gives p own w (Typed p kind) (given (operators.limit_of_index p l (option_map_or (λ b. b) (option_and_then (λ t. option_and_then (bounds p) (index_in (node_of p t))) o) (operators.open_bounds p (count v))) (count v)))) (sym named)
        (subst (λ x. Gives p own w (Typed p kind) (given (limit_number l (index_bounds noted) (count x)))) (sym a.is)
        (typed_given p own w kind (limit_number l (index_bounds noted) n) (limit_typed l noted kind n has numbers (size_counts p (type_sizes p t) n a.below a.sizes) w)))))
