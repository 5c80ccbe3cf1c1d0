-- IF, CASE and TYPECASE are defined.
use Rattle.std.proofs.Common.{◌≡◌, ℕ, ℤ, zero, suc, pos, negsuc, Bool, true, false, List, [], ◌∷◌, Some, refl, sym, subst}
use Rattle.m3_base.specs.declared.outcomes.FaultKind.TheVariants as fault_kind
use Rattle.m3_base.specs.declared.places.Pos.{Pos}
use Rattle.m3_types.specs.declared.nodes.TypeId.{TypeId}
use Rattle.m3_values.specs.Values as value
use Rattle.m3_values.specs.Values.{Value}
use Rattle.m3_values.specs.Programs.{Program}
use Rattle.m3_values.specs.Store.{Store, has_type}
use Rattle.m3_source_meaning.specs.Meanings.{Evaluates, Acts, given, fault, ◌>>=◌}
use Rattle.m3_source_meaning.specs.Phrases.{Here, Expression}
use Rattle.m3_source_meaning.specs.Branches.{Otherwise, Labelled, Typed as TypeBranchOf, if_true, otherwise_or, is_labelled, chosen, case_of, case_value, is_of_any, with_variable, type_case}
use Rattle.m3_source_typing.specs.ValueTypes.{class_of, HasType}
use Rattle.m3_source_typing.specs.Sound.{Scope, Leaving, Gives, IsOfType, Does}
use Rattle.m3_source_typing.specs.Operators as rule
use Rattle.m3_source_typing.specs.Operators.{is_references}
use Rattle.m3_source_typing.specs.Statements.{branch_type, AreReferences}
use Rattle.m3_source_typing.proofs.Staying.{type_stays}
use Rattle.m3_source_typing.proofs.Combining.{given_sound, bind_sound, fault_sound}
use Rattle.m3_source_typing.proofs.Operands.{left_true, number_of}
use Rattle.m3_source_typing.proofs.Rows.{narrowed, tested}
use Rattle.m3_source_typing.proofs.Leaving.{Nothing, DoesAll, with_value, gives_does, does_bind}
use Rattle.m3_base.specs.declared.outcomes.FaultKind.{FaultKind}

module _ (p : Program) (own : Scope) (here : Here) where
  pub choice : (a : Leaving) (b : Bool) (missing body : Acts) → DoesAll p own a missing → DoesAll p own a body → DoesAll p own a (otherwise_or missing b body)
  choice a true missing body h g = g
  choice a false missing body h g = h

  if_sound : (a : Leaving) (z : ℤ) (e f : Acts) → DoesAll p own a e → DoesAll p own a f → DoesAll p own a (if_true (value.Ordinal z) e f)
  if_sound a (pos zero) e f h g = g
  if_sound a (pos (suc n)) e f h g = h
  if_sound a (negsuc n) e f h g = h

  pub on_truth : (a : Leaving) (e : Expression) (t : ℕ) (f g : Acts) → IsOfType p own e t → rule.is_truth p t ≡ true → DoesAll p own a f → DoesAll p own a g → DoesAll p own a (e.value >>= (λ v. if_true v f g))
  on_truth a e t f g is truth h k =
      with_value p own a e t (λ v. if_true v f g) is
      (λ v s q. let z = number_of p s v t (left_true _ _ truth) q in subst (λ w. Does p own a s (Nothing p own a) (if_true w f g)) (sym z.1) (if_sound a z.0 f g h k s))

  -- ---- CASE

  -- branches of which each is sound
  pub data AreLabelled (a : Leaving) : List Labelled → Type 0 where
    no_labels : AreLabelled a []
    labels : (b : Labelled) (bs : List Labelled) → DoesAll p own a b.body → AreLabelled a bs → AreLabelled a (b ∷ bs)

  one_of : (a : Leaving) (b : Bool) (branch others : Acts) → DoesAll p own a branch → DoesAll p own a others → DoesAll p own a (chosen b branch others)
  one_of a true branch others h g = h
  one_of a false branch others h g = g

  -- what comes where no branch is chosen: ELSE, or a fault
  missing : (a : Leaving) (kind : FaultKind) (at : Pos) (e : Otherwise) → DoesAll p own a e.body → DoesAll p own a (otherwise_or (fault kind at) e.is_written e.body)
  missing a kind at e h = choice a e.is_written (fault kind at) e.body (λ s. gives_does p own a s (Nothing p own a) (fault kind at) (fault_sound p own s _ kind at)) h

  case_sound : (a : Leaving) (at : Pos) (bs : List Labelled) (e : Otherwise) (z : ℤ) → AreLabelled a bs → DoesAll p own a e.body → DoesAll p own a (case_of at bs e z)
  case_sound a at _ e z no_labels h = missing a fault_kind.NoCase at e h
  case_sound a at _ e z (labels b bs is more) h = one_of a (is_labelled b.ranges z) b.body (case_of at bs e z) is (case_sound a at bs e z more h)

  pub on_number : (a : Leaving) (at : Pos) (e : Expression) (t : ℕ) (bs : List Labelled) (otherwise : Otherwise) → IsOfType p own e t → rule.is_ordinal p t ≡ true → AreLabelled a bs → DoesAll p own a otherwise.body → DoesAll p own a (e.value >>= case_value at bs otherwise)
  on_number a at e t bs otherwise is numbers all h =
      with_value p own a e t (case_value at bs otherwise) is
      (λ v s q. let z = number_of p s v t numbers q in subst (λ w. Does p own a s (Nothing p own a) (case_value at bs otherwise w)) (sym z.1) (case_sound a at bs otherwise z.0 all h s))

  -- ---- TYPECASE

  -- what a value is known to be that is found to be of one of some types
  abbrev IsOfOne : ℕ → List TypeId → Store → Value → Bool → Type 0
  IsOfOne t ts s v true = HasType p s v (branch_type t ts)
  IsOfOne t ts s v false = HasType p s v t

  -- whether it is of one of several types
  of_several : (t : ℕ) (ts : List TypeId) (v : Value) → is_references (class_of p t) ≡ true → (s : Store) → HasType p s v t → Gives p own s (λ u b. HasType p u v t) (is_of_any p here ts v)
  of_several t [] v from s h = given_sound p own s _ false (λ u l. type_stays p s u l v t h)
  of_several t (k ∷ ts) v from s h =
      bind_sound p own s (λ u b. (has_type p u k.0 v ≡ Some b) × HasType p u v t) _ _ _ (tested p own s v t k.0 from h)
      (λ b u l q. next b u q.1 (λ w g. of_several t ts v from w g))
    where
      next : (b : Bool) (u : Store) → HasType p u v t → ((w : Store) → HasType p w v t → Gives p own w (λ x b. HasType p x v t) (is_of_any p here ts v)) → Gives p own u (λ x b. HasType p x v t) (elim b as (λ c. Evaluates Bool) [ true ↦ given true | false ↦ is_of_any p here ts v ])
      next true u g more = given_sound p own u _ true (λ w l. type_stays p u w l v t g)
      next false u g more = more u g

  one_type : (t : ℕ) (k : TypeId) (v : Value) → is_references (class_of p t) ≡ true → is_references (class_of p k.0) ≡ true → (s : Store) → HasType p s v t → Gives p own s (λ u b. IsOfOne t (k ∷ []) u v b) (is_of_any p here (k ∷ []) v)
  one_type t k v from to s h =
      bind_sound p own s (λ u b. (has_type p u k.0 v ≡ Some b) × HasType p u v t) _ _ _ (tested p own s v t k.0 from h)
      (λ b u l q. next b u q)
    where
      next : (b : Bool) (u : Store) → (has_type p u k.0 v ≡ Some b) × HasType p u v t → Gives p own u (λ x b. IsOfOne t (k ∷ []) x v b) (elim b as (λ c. Evaluates Bool) [ true ↦ given true | false ↦ given false ])
      next true u q = given_sound p own u _ true (λ w l. type_stays p u w l v k.0 (narrowed p own u v t k.0 from to q.1 q.0))
      next false u q = given_sound p own u _ false (λ w l. type_stays p u w l v t q.1)

  either_way : (t : ℕ) (ts : List TypeId) (v : Value) → branch_type t ts ≡ t → (s : Store) → Gives p own s (λ u b. HasType p u v t) (is_of_any p here ts v) → Gives p own s (λ u b. IsOfOne t ts u v b) (is_of_any p here ts v)
  either_way t ts v same s h = record {
    ends = λ around now exits l good b. h.ends around now exits l good (record {
      gives = λ x later k fine q. b.gives x later k fine (known x later.memory.store q);
      raised = b.raised;
    });
  }
    where
      known : (b : Bool) (u : Store) → HasType p u v t → IsOfOne t ts u v b
      known true u q = subst (HasType p u v) (sym same) q
      known false u q = q

  of_any : (t : ℕ) (ts : List TypeId) (v : Value) → is_references (class_of p t) ≡ true → AreReferences p ts → (s : Store) → HasType p s v t → Gives p own s (λ u b. IsOfOne t ts u v b) (is_of_any p here ts v)
  of_any t [] v from all s h = either_way t [] v refl s (of_several t [] v from s h)
  of_any t (k ∷ []) v from all s h = one_type t k v from all.0 s h
  of_any t (k ∷ m ∷ ts) v from all s h = either_way t (k ∷ m ∷ ts) v refl s (of_several t (k ∷ m ∷ ts) v from s h)

  pub data AreTypes (a : Leaving) (t : ℕ) : List TypeBranchOf → Type 0 where
    no_types : AreTypes a t []
    types : (b : TypeBranchOf) (bs : List TypeBranchOf) → AreReferences p b.types → ((v : Value) (s : Store) → HasType p s v (branch_type t b.types) → Does p own a s (Nothing p own a) (with_variable p here b.variable v b.body)) → AreTypes a t bs → AreTypes a t (b ∷ bs)

  type_case_sound : (a : Leaving) (at : Pos) (t : ℕ) (bs : List TypeBranchOf) (e : Otherwise) (v : Value) → is_references (class_of p t) ≡ true → AreTypes a t bs → DoesAll p own a e.body → (s : Store) → HasType p s v t → Does p own a s (Nothing p own a) (type_case p here at bs e v)
  type_case_sound a at t _ e v from no_types h s q = missing a fault_kind.NoTypecase at e h s
  type_case_sound a at t _ e v from (types b bs all is more) h s q =
      does_bind p own a s (λ u x. IsOfOne t b.types u v x) (Nothing p own a) (is_of_any p here b.types v) _ (gives_does p own a s _ _ (of_any t b.types v from all s q))
      (λ x u l f. next x u f (λ w g. type_case_sound a at t bs e v from more h w g))
    where
      next : (x : Bool) (u : Store) → IsOfOne t b.types u v x → ((w : Store) → HasType p w v t → Does p own a w (Nothing p own a) (type_case p here at bs e v)) → Does p own a u (Nothing p own a) (chosen x (with_variable p here b.variable v b.body) (type_case p here at bs e v))
      next true u f others = is v u f
      next false u f others = others u f

  pub on_type : (a : Leaving) (at : Pos) (e : Expression) (t : ℕ) (bs : List TypeBranchOf) (otherwise : Otherwise) → IsOfType p own e t → is_references (class_of p t) ≡ true → AreTypes a t bs → DoesAll p own a otherwise.body → DoesAll p own a (e.value >>= type_case p here at bs otherwise)
  on_type a at e t bs otherwise is from all h = with_value p own a e t (type_case p here at bs otherwise) is (λ v s q. type_case_sound a at t bs otherwise v from all h s q)
