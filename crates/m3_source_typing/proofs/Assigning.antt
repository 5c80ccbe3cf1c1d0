-- Assignments, INC and DEC are defined.
use Rattle.std.proofs.Common.{◌≡◌, ℕ, ℤ, pos, Bool, true, false, Option, Some, None, refl, sym, ap, ◌∙◌, subst}
use Rattle.std.specs.Prelude.{not}
use Rattle.std.specs.Borrow.{Bor}
use Rattle.std.specs.Option.{option_map}
use Rattle.m3_base.specs.declared.outcomes.FaultKind.TheVariants as fault_kind
use Rattle.m3_base.specs.declared.places.Pos.{Pos}
use Rattle.m3_core.specs.declared.exprs.CoreExpr.{CoreExpr}
use Rattle.m3_values.specs.Values as value
use Rattle.m3_values.specs.Values.{Value}
use Rattle.m3_values.specs.Integers.{within_integer}
use Rattle.m3_values.specs.Arrays.{shape, same_shape}
use Rattle.m3_values.specs.Programs.{Program}
use Rattle.m3_values.specs.Types.{bounds}
use Rattle.m3_values.specs.Places.{Place, Thing, Is, At}
use Rattle.m3_values.specs.Store.{Store, read, write}
use Rattle.m3_source_meaning.specs.Meanings.{given, computed, reading, holding, writing}
use Rattle.m3_source_meaning.specs.Phrases.{Here, Expression, Chained}
use Rattle.m3_source_meaning.specs.Operators.{within}
use Rattle.m3_source_meaning.specs.Assignment.{shape_check, assigned, assignment, amount_of, changed_by, changed, change_at, change}
use Rattle.m3_source_meaning.specs.Expressions.{expression}
use Rattle.m3_source_typing.specs.ValueTypes.{class_of, IsNumberOf, HasType}
use Rattle.m3_source_typing.specs.Sound.{IsPlaceOf, Scope, Leaving, Gives, IsOfType, Does}
use Rattle.m3_source_typing.specs.Operators as rule
use Rattle.m3_source_typing.specs.Expressions.{PlaceOf}
use Rattle.m3_source_typing.specs.Statements.{IsAmount, IsChecked}
use Rattle.m3_source_typing.proofs.Staying.{place_stays, and_later, type_stays}
use Rattle.m3_source_typing.proofs.Combining.{given_sound, bind_sound, holding_sound, unless_sound, computed_sound, seeing_sound}
use Rattle.m3_source_typing.proofs.Operands.{number_of}
use Rattle.m3_source_typing.proofs.Operating.{Typed}
use Rattle.m3_source_typing.proofs.Rows.{ordinal_bounds, number_class, in_bounds}
use Rattle.m3_source_typing.proofs.Depths.{same_numbers}
use Rattle.m3_source_typing.proofs.Parts.{fixed_shape}
use Rattle.m3_source_typing.proofs.Places.{IsGiven, knows_itself}
use Rattle.m3_source_typing.proofs.Chains.{TypedChain}
use Rattle.m3_source_typing.proofs.Expressions.{expression_sound}
use Rattle.m3_source_typing.proofs.Leaving.{Nothing, DoesAll, gives_does, does_bind, does_change}
use Rattle.m3_values.specs.Types.{node_of}

module _ (p : Program) (own : Scope) (here : Here) (a : Leaving) where
  -- what is written to a place that is a variable
  written : (s : Store) (to : Place) (t : ℕ) (v : Value) (h : IsPlaceOf p own.holds true s to t) → HasType p s v t → shape v ≡ h.sizes → Does p own a s (Nothing p own a) (writing to v)
  written s to t v h q e = does_change p own a s own.holds (write to v) (knows_itself own.holds) (λ m l good. h.writes refl m l good.fair v (type_stays p s m.store l v t q) e)

  same_sizes : (b c : Value) → not (same_shape (shape b) (shape c)) ≡ false → shape b ≡ shape c
  same_sizes b c e = same_numbers (shape b) (shape c) (not_not (same_shape (shape b) (shape c)) e)
    where
      not_not : (x : Bool) → not x ≡ false → x ≡ true
      not_not true h = refl
      not_not false h = absurd (let bad : true ≡ false = h in cc)

  -- the value has the shape of the place
  checked : (at : Pos) (s : Store) (to : Place) (t : ℕ) (v : Value) (h : IsPlaceOf p own.holds true s to t) → HasType p s v t → (checks : Bool) → IsChecked p checks t → Gives p own s (λ u x. shape v ≡ h.sizes) (shape_check checks at to v)
  checked at s to t v h q true is =
      bind_sound p own s (λ u b. shape b ≡ h.sizes) _ _ _ (seeing_sound p own s (λ u b. shape b ≡ h.sizes) (λ m. read m to) (λ m l good. let r = h.reads m l good.fair in (r.0, r.1, r.3)))
      (λ b u l e. bind_sound p own u (λ w x. not (same_shape (shape b) (shape v)) ≡ false) _ _ given (unless_sound p own u fault_kind.Shape at (not (same_shape (shape b) (shape v))))
      (λ x w k f. given_sound p own w _ x (λ y d. sym (same_sizes b v f) ∙ e)))
  checked at s to t v h q false fixed = record {
    ends = λ around now exits l good b.
        let r = h.reads now.memory l good.fair in
        b.gives tt now l good (fixed_shape p s v t q fixed ∙ sym (fixed_shape p now.memory.store r.0 t r.2 fixed) ∙ r.3);
  }

  pub assigned_sound : (e : Expression) (t : ℕ) (checks : Bool) → IsOfType p own e t → IsChecked p checks t → (s : Store) (thing : Thing) → IsGiven p own.holds (PlaceOf true t) s thing → Does p own a s (Nothing p own a) (assigned checks e thing)
  assigned_sound e t checks is fits s (Is v) h = absurd h
  assigned_sound e t checks is fits s (At to) h =
      does_bind p own a s (Typed p t) (Nothing p own a) (holding (At to) e.value) _ (gives_does p own a s (Typed p t) _ (holding_sound p own s (Typed p t) (At to) e.value (is.value s)))
      (λ v u l q. does_bind p own a u (λ w x. shape v ≡ h.sizes) (Nothing p own a) (shape_check checks e.pos to v) (λ x. writing to v)
      (gives_does p own a u _ _ (checked e.pos u to t v (place_stays p own.holds true s u to t l h) q checks fits))
      (λ x w k f. written w to t v (place_stays p own.holds true s w to t (and_later s u w l k) h) (type_stays p u w k v t q) f))

  pub assignment_sound : (target : Chained) (e : Expression) (t : ℕ) (checks : Bool) → TypedChain p own here target (PlaceOf true t) → IsOfType p own e t → IsChecked p checks t → DoesAll p own a (assignment target e checks)
  assignment_sound target e t checks to is fits s =
      does_bind p own a s (IsGiven p own.holds (PlaceOf true t)) (Nothing p own a) target.thing _ (gives_does p own a s _ _ (to.thing s))
      (λ thing u l q. assigned_sound e t checks is fits u thing q)

  -- ---- INC and DEC

  no_shape : (s : Store) (v w : Value) (t : ℕ) → rule.is_ordinal p t ≡ true → HasType p s v t → HasType p s w t → shape v ≡ shape w
  no_shape s v w t numbers h g =
      let x = number_of p s v t numbers h in
      let y = number_of p s w t numbers g in
      ap shape x.1 ∙ sym (ap shape y.1)

  stored : (s : Store) (to : Place) (t : ℕ) (v : Value) → IsPlaceOf p own.holds true s to t → rule.is_ordinal p t ≡ true → HasType p s v t → Does p own a s (Nothing p own a) (writing to v)
  stored s to t v h numbers q = does_change p own a s own.holds (write to v) (knows_itself own.holds) (λ m l good.
      let r = h.reads m l good.fair in
      let w = type_stays p s m.store l v t q in
      h.writes refl m l good.fair v w (no_shape m.store v r.0 t numbers w r.2 ∙ r.3))

  changed_sound : (is_decrement : Bool) (at : Pos) (t : ℕ) (to : Place) (x n : ℤ) (s : Store) → IsPlaceOf p own.holds true s to t → rule.is_ordinal p t ≡ true → Does p own a s (Nothing p own a) (changed p here is_decrement at t to (value.Ordinal x) (value.Ordinal n))
  changed_sound is_decrement at t to x n s h numbers =
      let limits = ordinal_bounds p own (node_of p t) numbers in
      does_bind p own a s (λ u z. Unit {0}) (Nothing p own a) (computed at (within_integer (changed_by is_decrement x n))) _
      (gives_does p own a s _ _ (computed_sound p own s (λ u z. Unit {0}) at (within_integer (changed_by is_decrement x n)) (λ z e u l. tt)))
      (λ z u l q. does_bind p own a u (λ w y. IsNumberOf z (bounds p t)) (Nothing p own a) (within at (bounds p t) z) _
      (gives_does p own a u _ _ (in_bounds p own at (bounds p t) limits.0 z u limits.1))
      (λ y w k f. stored w to t (value.Ordinal z) (place_stays p own.holds true s w to t (and_later s u w l k) h) numbers (number_class p own (class_of p t) numbers, f)))

  abbrev pub IsAnyNumber : Store → Value → Type 0
  IsAnyNumber s v = (n : ℤ) × (v ≡ value.Ordinal n)

  pub amount_sound : (e : Option (Bor CoreExpr)) → IsAmount p here own e → (s : Store) → Gives p own s IsAnyNumber (amount_of (option_map (λ (e : Bor CoreExpr). expression p here e.now) e))
  amount_sound None h s = given_sound p own s IsAnyNumber (value.Ordinal (pos 1)) (λ u l. (pos 1, refl))
  amount_sound (Some e) h s =
      bind_sound p own s (Typed p h.0) IsAnyNumber _ given ((expression_sound p own here e.now h.0 h.1).value s)
      (λ v u l q. given_sound p own u IsAnyNumber v (λ w k. let z = number_of p w v h.0 h.2 (type_stays p u w k v h.0 q) in (z.0, z.1)))

  change_there : (is_decrement : Bool) (at : Pos) (t : ℕ) (e : Option (Bor CoreExpr)) → IsAmount p here own e → rule.is_ordinal p t ≡ true → (s : Store) (thing : Thing) → IsGiven p own.holds (PlaceOf true t) s thing →
      Does p own a s (Nothing p own a) (change_at p here is_decrement at (Some t) (option_map (λ (e : Bor CoreExpr). expression p here e.now) e) thing)
  change_there is_decrement at t e is numbers s (Is v) h = absurd h
  change_there is_decrement at t e is numbers s (At to) h =
      does_bind p own a s IsAnyNumber (Nothing p own a) (holding (At to) (amount_of (option_map (λ (e : Bor CoreExpr). expression p here e.now) e))) _ (gives_does p own a s _ _ (holding_sound p own s IsAnyNumber (At to) (amount_of (option_map (λ (e : Bor CoreExpr). expression p here e.now) e)) (amount_sound e is s)))
      (λ n u l q. does_bind p own a u (Typed p t) (Nothing p own a) (reading to) _
      (gives_does p own a u _ _ (seeing_sound p own u (Typed p t) (λ m. read m to) (λ m k good. let r = h.reads m (and_later s u m.store l k) good.fair in (r.0, r.1, r.2))))
      (λ before w k f.
      let x = number_of p w before t numbers f in
      subst (λ v. Does p own a w (Nothing p own a) (changed p here is_decrement at t to v n)) (sym x.1)
      (subst (λ v. Does p own a w (Nothing p own a) (changed p here is_decrement at t to (value.Ordinal x.0) v)) (sym q.1)
      (changed_sound is_decrement at t to x.0 q.0 w (place_stays p own.holds true s w to t (and_later s u w l k) h) numbers))))

  pub change_sound : (is_decrement : Bool) (at : Pos) (target : Chained) (t : ℕ) (e : Option (Bor CoreExpr)) → TypedChain p own here target (PlaceOf true t) → target.kind ≡ Some t → rule.is_ordinal p t ≡ true → IsAmount p here own e → DoesAll p own a (change p here is_decrement at target (option_map (λ (e : Bor CoreExpr). expression p here e.now) e))
  change_sound is_decrement at target t e to kind numbers is s =
      does_bind p own a s (IsGiven p own.holds (PlaceOf true t)) (Nothing p own a) target.thing _ (gives_does p own a s _ _ (to.thing s))
      (λ thing u l q. subst (λ k. Does p own a u (Nothing p own a) (change_at p here is_decrement at k (option_map (λ (e : Bor CoreExpr). expression p here e.now) e) thing)) (sym kind) (change_there is_decrement at t e is numbers u thing q))
