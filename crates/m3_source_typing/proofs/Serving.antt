-- Routines and predeclared functions are defined.
use Rattle.std.proofs.Common.{◌≡◌, ◌⊎◌, inl, inr, ⊎_elim, ◌+◌, ◌<◌, ℕ, ℤ, zero, suc, pos, negsuc, Bool, true, false, List, [], ◌∷◌, ◌++◌, length, map, Option, Some, None, refl, sym, ap, ◌∙◌, subst, arith}
use Rattle.std.specs.Prelude.{◌==◌, ◌||◌, ◌&&◌, not, slice_get, int_le, if◌then◌else◌}
use Rattle.std.specs.Option.{option_map, option_to_list}
use Rattle.std.specs.List.{list_any}
use Rattle.std.proofs.lemmas.Bool.{eqb-true}
use Rattle.m3_base.specs.declared.outcomes.FaultKind.TheVariants as fault_kind
use Rattle.m3_base.specs.declared.places.Pos.{Pos}
use Rattle.m3_base.specs.Integers.{is_integer}
use Rattle.m3_core.specs.declared.calls.Routine.{Routine}
use Rattle.m3_core.specs.declared.calls.Routine.TheVariants as routine
use Rattle.m3_types.specs.declared.nodes.Secret.TheVariants as secret
use Rattle.m3_types.specs.declared.nodes.TypeId.{TypeId}
use Rattle.m3_types.specs.declared.nodes.TypeNode.{TypeNode}
use Rattle.m3_types.specs.declared.nodes.TypeNode.TheVariants as node
use Rattle.m3_runs.specs.Languages as asked
use Rattle.m3_runs.specs.Languages.{Answer, Makes, Forks, Serves, Passes, Concatenated, Subtext, ByteText}
use Rattle.m3_values.specs.Values as value
use Rattle.m3_values.specs.Values.{Value, truth, number, same_list}
use Rattle.m3_values.specs.Integers as integers
use Rattle.m3_values.specs.Integers.{lesser, greater, is_between, count_of}
use Rattle.m3_values.specs.Programs.{Program}
use Rattle.m3_values.specs.Types.{bounds, bounds_in, node_of, unveiled, unveiled_in}
use Rattle.m3_values.specs.Places.{Thing, Is, At}
use Rattle.m3_values.specs.Store as store
use Rattle.m3_values.specs.Store.{Cell, Store, cell_at, cell_has_type, is_text_type, is_thread_type, is_made_type, bytes_of, kind_of_object}
use Rattle.m3_values.specs.Methods.{procedure_of}
use Rattle.m3_source_meaning.specs.Meanings.{Evaluates, given, there, holding_all, ◌>>=◌}
use Rattle.m3_source_meaning.specs.Phrases.{Expression}
use Rattle.m3_source_meaning.specs.Operators.{not_nil}
use Rattle.m3_source_meaning.specs.Constructors.{numbered, in_order_from, in_order}
use Rattle.m3_source_meaning.specs.Routines as meaning
use Rattle.m3_source_meaning.specs.Travelling.{argument_type, raised_by}
use Rattle.m3_source_typing.specs.ValueTypes.{Class, OfNumbers, OfReferences, OfProcedures, OfSets, OfRecords, OfArrays, NoType, class_in, class_of, IsNumberOf, IsOfNil, HasType, is_count}
use Rattle.m3_source_typing.specs.Stores.{IsLater, are_bytes, is_byte}
use Rattle.m3_source_typing.specs.Points.{IsTruth, IsThread, IsThreadCell, IsAnyReference, ServiceGives, IsMade, IsArgument, AnswerFits, new_cell}
use Rattle.m3_source_typing.specs.Sound.{Scope, Gives, IsOfType}
use Rattle.m3_source_typing.specs.Operators as rule
use Rattle.m3_source_typing.specs.Operators.{is_references}
use Rattle.m3_source_typing.specs.Routines as rules
use Rattle.m3_source_typing.specs.Routines.{routine_fits, is_any_in, is_thread_in}
use Rattle.m3_source_typing.specs.Expressions.{given_by, HasEachNumber}
use Rattle.m3_source_typing.proofs.Staying.{and_later, type_stays, reference_stays}
use Rattle.m3_source_typing.proofs.Cells.{references, kind_there}
use Rattle.m3_source_typing.proofs.Combining.{given_sound, bind_sound, holding_all_sound, fault_sound, acting_sound, raising_sound, seeing_sound}
use Rattle.m3_source_typing.proofs.Operands.{left_true, right_true, both_true, integer_node, integer_typed, number_of, numbers_is, part_typed, within_two, boolean_node}
use Rattle.m3_source_typing.proofs.Operating.{Typed, typed_given, truth_given, text_node}
use Rattle.m3_source_typing.proofs.Rows.{range_sound}
use Rattle.m3_source_typing.proofs.Texts.{text_there, byte_there}
use Rattle.m3_source_typing.proofs.Words.{count_within, byte_within, GivesIntegers, integer_within, sum_is, difference_is, product_is, quotient_is, rest_is, and_is, or_is, xor_is, not_is, shift_is, rotation_is}
use Rattle.m3_source_typing.proofs.Places.{IsGiven, given_stays}

-- ---- values by their numbers

abbrev pub place_of : ℕ × Value → ℕ
place_of x = x.0

-- a value of the type at a place, where there is one
abbrev IsOf : Program → Store → Value → Option ℕ → Type 0
IsOf p s v None = ⊥
IsOf p s v (Some t) = HasType p s v t

-- an actual that may not be NIL isn't
abbrev NoNil : Routine → ℕ → Value → Type 0
NoNil r n v = meaning.wants_cell r n ≡ true → v ≡ value.Nil → ⊥

abbrev IsFor : Program → Store → Routine → List ℕ → ℕ × Value → Type 0
IsFor p s r ts x = IsOf p s x.1 (slice_get ts x.0) × NoNil r x.0 x.1

abbrev EachFor : Program → Store → Routine → List ℕ → List (ℕ × Value) → Type 0
EachFor p s r ts [] = Unit {0}
EachFor p s r ts (x ∷ xs) = IsFor p s r ts x × EachFor p s r ts xs

-- the actuals from a number on
abbrev AreFor : Program → Store → Routine → (from : ℕ) → List Value → List ℕ → Type 0
AreFor p s r n [] [] = Unit {0}
AreFor p s r n (v ∷ vs) (t ∷ ts) = (HasType p s v t × NoNil r n v) × AreFor p s r (suc n) vs ts
AreFor p s r n _ _ = ⊥

abbrev pub AreOf : Program → Store → List Value → List ℕ → Type 0
AreOf p s [] [] = Unit {0}
AreOf p s (v ∷ vs) (t ∷ ts) = HasType p s v t × AreOf p s vs ts
AreOf p s _ _ = ⊥

module _ (p : Program) where
  of_stays : (s u : Store) → IsLater s u → (v : Value) (o : Option ℕ) → IsOf p s v o → IsOf p u v o
  of_stays s u l v None h = h
  of_stays s u l v (Some t) h = type_stays p s u l v t h

  each_stay : (s u : Store) → IsLater s u → (r : Routine) (ts : List ℕ) (xs : List (ℕ × Value)) → EachFor p s r ts xs → EachFor p u r ts xs
  each_stay s u l r ts [] h = tt
  each_stay s u l r ts (x ∷ xs) h = ((of_stays s u l x.1 (slice_get ts x.0) h.0.0, h.0.1), each_stay s u l r ts xs h.1)

  each_and : (s : Store) (r : Routine) (ts : List ℕ) (xs : List (ℕ × Value)) (x : ℕ × Value) → EachFor p s r ts xs → IsFor p s r ts x → EachFor p s r ts (xs ++ x ∷ [])
  each_and s r ts [] x h g = (g, tt)
  each_and s r ts (y ∷ xs) x h g = (h.0, each_and s r ts xs x h.1 g)

  -- the value with a number
  record There (s : Store) (r : Routine) (n : ℕ) (xs : List (ℕ × Value)) (o : Option ℕ) : Type 0 where
    pub value : Value
    pub is : numbered n xs ≡ Some value
    pub typed : IsOf p s value o
    pub some : NoNil r n value

  there_or : (s : Store) (r : Routine) (ts : List ℕ) (n : ℕ) (x : ℕ × Value) (xs : List (ℕ × Value)) (b : Bool) → (x.0 == n) ≡ b → IsFor p s r ts x → (b ≡ false → There s r n xs (slice_get ts n)) → There s r n (x ∷ xs) (slice_get ts n)
  there_or s r ts n x xs true e h more = record {
    value = x.1;
    is = ap (λ b. elim b as (λ c. Option Value) [ true ↦ Some x.1 | false ↦ numbered n xs ]) e;
    typed = subst (λ m. IsOf p s x.1 (slice_get ts m)) (eqb-true x.0 n e) h.0;
    some = subst (λ m. NoNil r m x.1) (eqb-true x.0 n e) h.1;
  }
  there_or s r ts n x xs false e h more =
      let m = more refl in
      record { value = m.value; is = ap (λ b. elim b as (λ c. Option Value) [ true ↦ Some x.1 | false ↦ numbered n xs ]) e ∙ m.is; typed = m.typed; some = m.some }

  second_of : (a b : Bool) → (a || b) ≡ true → a ≡ false → b ≡ true
  second_of true b h e = absurd (let bad : true ≡ false = e in cc)
  second_of false b h e = h

  found : (s : Store) (r : Routine) (ts : List ℕ) (n : ℕ) (xs : List (ℕ × Value)) → EachFor p s r ts xs → list_any (λ m. m == n) (map place_of xs) ≡ true → There s r n xs (slice_get ts n)
  found s r ts n [] h e = absurd (let bad : false ≡ true = e in cc)
  found s r ts n (x ∷ xs) h e = there_or s r ts n x xs (x.0 == n) refl h.0 (λ no. found s r ts n xs h.1 (second_of (x.0 == n) _ e no))

  ordered_from : (s : Store) (r : Routine) (at : ℕ) (ts : List ℕ) (xs : List (ℕ × Value)) → ((i t : ℕ) → slice_get ts i ≡ Some t → There s r (at + i) xs (Some t)) → AreFor p s r at (in_order_from (length ts) at xs) ts
  ordered_from s r at [] xs h = tt
  ordered_from s r at (t ∷ ts) xs h =
      let same : at + 0 ≡ at = omega arith in
      let one : There s r at xs (Some t) = subst (λ n. There s r n xs (Some t)) same (h 0 t refl) in
      subst (λ o. AreFor p s r at (option_to_list o ++ in_order_from (length ts) (suc at) xs) (t ∷ ts)) (sym one.is)
      ((one.typed, one.some), ordered_from s r (suc at) ts xs (λ i u e. let next : at + suc i ≡ suc at + i = omega arith in subst (λ n. There s r n xs (Some u)) next (h (suc i) u e)))

  within : (ts : List ℕ) (i t : ℕ) → slice_get ts i ≡ Some t → i < length ts
  within [] i t e = absurd (let bad : None ≡ Some t = e in cc)
  within (u ∷ ts) zero t e = omega arith
  within (u ∷ ts) (suc i) t e = let less : i < length ts = within ts i t e in omega arith

  length_map : (xs : List (ℕ × Value)) → length (map place_of xs) ≡ length xs
  length_map [] = refl
  length_map (x ∷ xs) = ap suc (length_map xs)

  ordered : (s : Store) (r : Routine) (ts order : List ℕ) (xs : List (ℕ × Value)) → HasEachNumber (length ts) order → map place_of xs ≡ order → EachFor p s r ts xs → AreFor p s r 0 (in_order xs) ts
  ordered s r ts order xs each e h =
      let size : length ts ≡ length xs = sym each.long ∙ sym (ap length e) ∙ length_map xs in
      subst (λ n. AreFor p s r 0 (in_order_from n 0 xs) ts) size (ordered_from s r 0 ts xs (λ i t is.
      let named : list_any (λ m. m == i) (map place_of xs) ≡ true = ap (λ ns. list_any (λ m. m == i) ns) e ∙ each.each i (within ts i t is) in
      let same : 0 + i ≡ i = omega arith in
      subst (λ n. There s r n xs (Some t)) (sym same) (subst (There s r i xs) is (found s r ts i xs h named))))

-- well typed actuals
pub data TypedOperands (p : Program) (own : Scope) : List Expression → List ℕ → Type 0 where
  no_operands : TypedOperands p own [] []
  one_operand : (e : Expression) (es : List Expression) (t : ℕ) (ts : List ℕ) → IsOfType p own e t → TypedOperands p own es ts → TypedOperands p own (e ∷ es) (t ∷ ts)

module _ (p : Program) (own : Scope) where
  -- ---- actuals

  operand_at : (es : List Expression) (ts : List ℕ) (n : ℕ) → TypedOperands p own es ts → n < length ts → (e : Expression) × (t : ℕ) × (slice_get es n ≡ Some e) × (slice_get ts n ≡ Some t) × IsOfType p own e t
  operand_at _ _ n no_operands less = absurd (omega arith)
  operand_at _ _ zero (one_operand e es t ts is more) less = (e, t, refl, refl, is)
  operand_at _ _ (suc n) (one_operand e es t ts is more) less = operand_at es ts n more (omega arith)

  nil_checked : (b : Bool) (at : Pos) (v : Value) (s : Store) → Gives p own s (λ u x. b ≡ true → v ≡ value.Nil → ⊥) (not_nil at v)
  nil_checked b at value.Nil s = fault_sound p own s _ fault_kind.Nil at
  nil_checked b at (value.Ordinal z) s = given_sound p own s _ tt (λ u l t e. let bad : value.Ordinal z ≡ value.Nil = e in absurd cc)
  nil_checked b at (value.Pointer c) s = given_sound p own s _ tt (λ u l t e. let bad : value.Pointer c ≡ value.Nil = e in absurd cc)
  nil_checked b at (value.Text n) s = given_sound p own s _ tt (λ u l t e. let bad : value.Text n ≡ value.Nil = e in absurd cc)
  nil_checked b at value.MainThread s = given_sound p own s _ tt (λ u l t e. let bad : value.MainThread ≡ value.Nil = e in absurd cc)
  nil_checked b at (value.Procedure q around) s = given_sound p own s _ tt (λ u l t e. let bad : value.Procedure q around ≡ value.Nil = e in absurd cc)
  nil_checked b at (value.Members ms) s = given_sound p own s _ tt (λ u l t e. let bad : value.Members ms ≡ value.Nil = e in absurd cc)
  nil_checked b at (value.Record vs) s = given_sound p own s _ tt (λ u l t e. let bad : value.Record vs ≡ value.Nil = e in absurd cc)
  nil_checked b at (value.Array below vs) s = given_sound p own s _ tt (λ u l t e. let bad : value.Array below vs ≡ value.Nil = e in absurd cc)

  cell_checked : (b : Bool) (at : Pos) (v : Value) (s : Store) → Gives p own s (λ u x. b ≡ true → v ≡ value.Nil → ⊥) (meaning.cell_check b at v)
  cell_checked true at v s = nil_checked true at v s
  cell_checked false at v s = given_sound p own s _ tt (λ u l t. absurd (let bad : false ≡ true = t in cc))

  -- what is known goes on to be
  zero_checked : (known : Type 0) → known → (at : Pos) (v : Value) (s : Store) → Gives p own s (λ u x. known) (meaning.not_zero at v)
  zero_checked known q at (value.Ordinal (pos zero)) s = fault_sound p own s _ fault_kind.DivZero at
  zero_checked known q at (value.Ordinal (pos (suc n))) s = given_sound p own s _ tt (λ u l. q)
  zero_checked known q at (value.Ordinal (negsuc n)) s = given_sound p own s _ tt (λ u l. q)
  zero_checked known q at _ s = given_sound p own s _ tt (λ u l. q)

  divisor_checked : (known : Type 0) → known → (at : Pos) (r : Routine) (n : ℕ) (v : Value) (s : Store) → Gives p own s (λ u x. known) (meaning.divisor_check at r n v)
  divisor_checked known q at routine.WordDivide (suc n) v s = zero_checked known q at v s
  divisor_checked known q at routine.WordMod (suc n) v s = zero_checked known q at v s
  divisor_checked known q at _ n v s = given_sound p own s _ tt (λ u l. q)

  -- what is known of the closure of Fork
  abbrev forks : Routine → Bool
  forks routine.Fork = true
  forks _ = false

  pub record IsClosureType (t : ℕ) : Type 0 where
    pub kind : class_of p t ≡ OfReferences
    pub no_text : is_text_type p (node_of p (unveiled p t)) ≡ false
    pub no_thread : is_thread_type p (node_of p (unveiled p t)) ≡ false

  -- each actual of Fork is a closure
  abbrev AreClosures : Routine → List ℕ → Type 0
  AreClosures r ts = (n t : ℕ) → forks r ≡ true → slice_get ts n ≡ Some t → (n ≡ 0) × IsClosureType t

  apply_sound : (known : Type 0) → known → (at : Pos) (o : Option ℕ) (s : Store) → Gives p own s (λ u x. known) (meaning.bound_method p at o)
  apply_sound known q at None s = fault_sound p own s _ fault_kind.Nil at
  apply_sound known q at (Some n) s = given_sound p own s _ tt (λ u l. q)

  object_checked : (known : Type 0) → known → (at : Pos) (v : Value) (t : ℕ) (s : Store) → IsClosureType t → HasType p s v t → (v ≡ value.Nil → ⊥) → Gives p own s (λ u x. known) (meaning.apply_check p routine.Fork at v)
  object_checked known q at v t s is h some = ⊎_elim
      (λ (e : v ≡ value.Nil). absurd (some e))
      (λ w. subst (λ x. Gives p own s (λ u y. known) (meaning.apply_check p routine.Fork at x)) (sym w.1)
      (bind_sound p own s (λ u kind. Unit {0}) _ _ _ (seeing_sound p own s (λ u kind. Unit {0}) (λ m. kind_of_object p m.store (value.Pointer w.0))
      (λ m l good. let k = kind_there p t m.store is.no_text is.no_thread (cell_at m.store w.0) (reference_stays p s m.store l w.0 t w.2) in (k.0, k.1, tt)))
      (λ kind u l f. apply_sound known q at (procedure_of p kind 0) u)))
      (references p s v t is.kind is.no_text is.no_thread h)

  closure_checked : (known : Type 0) → known → (r : Routine) (at : Pos) (v : Value) (s : Store) → (forks r ≡ true → (t : ℕ) × IsClosureType t × HasType p s v t × (v ≡ value.Nil → ⊥)) → Gives p own s (λ u x. known) (meaning.apply_check p r at v)
  closure_checked known q routine.Fork at v s h = let f = h refl in object_checked known q at v f.0 s f.1 f.2 f.3
  closure_checked known q _ at v s h = given_sound p own s _ tt (λ u l. q)

  fork_wants : (r : Routine) (n : ℕ) → forks r ≡ true → n ≡ 0 → meaning.wants_cell r n ≡ true
  fork_wants routine.Fork n h e = ap (λ m. m == 0) e
  fork_wants _ n h e = absurd (let bad : false ≡ true = h in cc)

  one_sound : (call : Pos) (r : Routine) (n : ℕ) (e : Expression) (t : ℕ) (ts : List ℕ) → AreClosures r ts → slice_get ts n ≡ Some t → IsOfType p own e t → (s : Store) → Gives p own s (λ u x. (x.0 ≡ n) × IsFor p u r ts x) (meaning.one_actual p call r n e)
  one_sound call r n e t ts closures at_place is s =
      bind_sound p own s (Typed p t) _ _ _ (is.value s)
      (λ v u l q. bind_sound p own u (λ w x. NoNil r n v) _ _ _ (checked e.pos v u q)
      (λ x w k f. given_sound p own w _ (n, v) (λ y m. (refl, (subst (IsOf p y v) (sym at_place) (type_stays p u y (and_later u w y k m) v t q), f)))))
    where
      closure : (v : Value) (s : Store) → HasType p s v t → NoNil r n v → forks r ≡ true → (t : ℕ) × IsClosureType t × HasType p s v t × (v ≡ value.Nil → ⊥)
      closure v s q f h = let c = closures n t h at_place in (t, c.1, q, f (fork_wants r n h c.0))

      checked : (at : Pos) (v : Value) (s : Store) → HasType p s v t → Gives p own s (λ u x. NoNil r n v) (meaning.checked_actual p call r n at v)
      checked at v s q =
          bind_sound p own s (λ u x. NoNil r n v) _ _ _ (bind_sound p own s (λ u x. NoNil r n v) (λ u x. NoNil r n v) _ _ (cell_checked (meaning.wants_cell r n) at v s) (λ x u l f. divisor_checked (NoNil r n v) f call r n v u))
          (λ x u l f. closure_checked (NoNil r n v) f r at v u (closure v u (type_stays p s u l v t q) f))

  behind : (xs : List (ℕ × Value)) (x : ℕ × Value) (n : ℕ) (ns : List ℕ) → x.0 ≡ n → map place_of (xs ++ x ∷ []) ++ ns ≡ map place_of xs ++ n ∷ ns
  behind [] x n ns e = ap (λ m. m ∷ ns) e
  behind (y ∷ xs) x n ns e = ap (λ ms. y.0 ∷ ms) (behind xs x n ns e)

  none_behind : (xs : List (ℕ × Value)) → map place_of xs ≡ map place_of xs ++ []
  none_behind [] = refl
  none_behind (x ∷ xs) = ap (λ ms. x.0 ∷ ms) (none_behind xs)

  abbrev Evaluated : Routine → List ℕ → List ℕ → Store → List (ℕ × Value) → Type 0
  Evaluated r ts ns s xs = EachFor p s r ts xs × (map place_of xs ≡ ns)

  each_sound : (call : Pos) (r : Routine) (es : List Expression) (ts : List ℕ) → AreClosures r ts → TypedOperands p own es ts → (ns : List ℕ) → ((n i : ℕ) → slice_get ns i ≡ Some n → n < length ts) → (before : List (ℕ × Value)) (s : Store) → EachFor p s r ts before → Gives p own s (Evaluated r ts (map place_of before ++ ns)) (meaning.each_operand p call r es before ns)
  each_sound call r es ts closures typed [] below before s h = given_sound p own s _ before (λ u l. (each_stay p s u l r ts before h, none_behind before))
  each_sound call r es ts closures typed (n ∷ ns) below before s h =
      let o = operand_at es ts n typed (below n 0 refl) in
      subst (λ q. Gives p own s (Evaluated r ts (map place_of before ++ n ∷ ns)) (there q >>= (λ e. holding_all (map (λ b. Is b.1) before) (meaning.one_actual p call r n e) >>= (λ v. meaning.each_operand p call r es (before ++ v ∷ []) ns)))) (sym o.2)
      (bind_sound p own s (λ u x. (x.0 ≡ n) × IsFor p u r ts x) (Evaluated r ts (map place_of before ++ n ∷ ns)) _ _
      (holding_all_sound p own s _ (map (λ b. Is b.1) before) (meaning.one_actual p call r n o.0) (one_sound call r n o.0 o.1 ts closures o.3 o.4 s))
      (λ x u l q. subst (λ ms. Gives p own u (Evaluated r ts ms) (meaning.each_operand p call r es (before ++ x ∷ []) ns)) (behind before x n ns q.0)
      (each_sound call r es ts closures typed ns (λ m i e. below m (suc i) e) (before ++ x ∷ []) u (each_and p u r ts before x (each_stay p s u l r ts before h) q.1))))

  -- ---- answers

  -- what a routine gives, by the type of its value where it has one
  abbrev pub IsServed : Option ℕ → Store → Value → Type 0
  IsServed k s v = IsGiven p own.holds (given_by k) s (Is v)

  served_given : (k : Option ℕ) (s : Store) (v : Value) → IsServed k s v → Gives p own s (IsServed k) (given v)
  served_given k s v h = given_sound p own s (IsServed k) v (λ u l. given_stays p own.holds (given_by k) s u (Is v) l h)

  abbrev ServedFor : Option ℕ → Store → Option Thing → Type 0
  ServedFor k s None = IsServed k s value.Nil
  ServedFor k s (Some (Is v)) = IsServed k s v
  ServedFor k s (Some (At to)) = ⊥

  nothing_raised : (e : ℕ) (s : Store) (n t : Thing) → argument_type p e ≡ None → IsArgument p s (raised_by p e n t).argument (argument_type p e)
  nothing_raised e s n t is = subst (IsArgument p s (raised_by p e n t).argument) (sym is) tt

  answered_sound : (at : Pos) (x : asked.Service Thing) (k : Option ℕ) → ((s : Store) (o : Option Thing) → ServiceGives p s x o → ServedFor k s o) → (a : Answer Thing) (s : Store) → AnswerFits p s (Serves x) a → Gives p own s (IsServed k) (meaning.answer_of p at a)
  answered_sound at x k h (asked.Gives None) s fits = served_given k s value.Nil (h s None fits)
  answered_sound at x k h (asked.Gives (Some (Is v))) s fits = served_given k s v (h s (Some (Is v)) fits)
  answered_sound at x k h (asked.Gives (Some (At to))) s fits = absurd (h s (Some (At to)) fits)
  answered_sound at x k h (asked.Raises e n t) s fits = raising_sound p own s _ (raised_by p e n t) (λ u l. nothing_raised e u n t fits.2)
  answered_sound at x k h (asked.Fails kind) s fits = fault_sound p own s _ kind at

  serving_sound : (at : Pos) (x : asked.Service Thing) (k : Option ℕ) → ((s : Store) (o : Option Thing) → ServiceGives p s x o → ServedFor k s o) → (s : Store) → Gives p own s (IsServed k) (meaning.serving p at x)
  serving_sound at x k h s = bind_sound p own s (λ u a. AnswerFits p u (Serves x) a) (IsServed k) _ _ (acting_sound p own s (Serves x) (λ a. refl)) (λ a u l fits. answered_sound at x k h a u fits)

  -- what is computed behind a point
  passed_from : (at : Pos) (next : Evaluates Value) (k : ℕ) (s : Store) → ((u : Store) → IsLater s u → Gives p own u (Typed p k) next) → Gives p own s (Typed p k) (meaning.behind_point p at next)
  passed_from at next k s h =
      bind_sound p own s (λ u x. Unit {0}) (Typed p k) _ _
      (bind_sound p own s (λ u a. AnswerFits p u Passes a) (λ u x. Unit {0}) _ _ (acting_sound p own s Passes (λ a. refl)) (λ a u l fits. pass a u fits))
      (λ x u l q. h u l)
    where
      pass : (a : Answer Thing) (s : Store) → AnswerFits p s Passes a → Gives p own s (λ u x. Unit {0}) (meaning.answer_of p at a)
      pass (asked.Gives None) s fits = given_sound p own s _ value.Nil (λ u l. tt)
      pass (asked.Gives (Some x)) s fits = absurd fits
      pass (asked.Raises e n t) s fits = absurd fits
      pass (asked.Fails kind) s fits = absurd fits

  passed_sound : (at : Pos) (next : Evaluates Value) (k : ℕ) → ((s : Store) → Gives p own s (Typed p k) next) → (s : Store) → Gives p own s (Typed p k) (meaning.behind_point p at next)
  passed_sound at next k h s = passed_from at next k s (λ u l. h u)

  -- a text that is made
  text_cell : (s : Store) (c k : ℕ) (bytes : List ℕ) → rules.is_text p k ≡ true → cell_at s c ≡ Some (store.Bytes bytes) → HasType p s (value.Pointer c) k
  text_cell s c k bytes h e =
      let is = text_node p own (node_of p k) h in
      let bare : unveiled p k ≡ k = ap (unveiled_in p k) is in
      (ap class_in is, ap (λ o. option_map (cell_has_type p (unveiled p k)) o) e ∙ ap (λ x. Some (is_text_type p (node_of p x))) bare ∙ ap (λ o. Some (is_text_type p o)) is)

  -- the texts that can be asked for
  pub data IsTextual : asked.New Thing → Type 0 where
    joined : (t u : Thing) → IsTextual (Concatenated t u)
    of_byte : (v : Thing) → IsTextual (ByteText v)
    part : (t start n : Thing) → IsTextual (Subtext t start n)

  made_text : (x : asked.New Thing) → IsTextual x → (o : Option Cell) → IsMade x o → (bytes : List ℕ) × (o ≡ Some (store.Bytes bytes))
  made_text _ (joined t u) (Some (store.Bytes bytes)) h = (bytes, refl)
  made_text _ (of_byte v) (Some (store.Bytes bytes)) h = (bytes, refl)
  made_text _ (part t start n) (Some (store.Bytes bytes)) h = (bytes, refl)
  made_text _ (joined t u) None h = absurd h
  made_text _ (of_byte v) None h = absurd h
  made_text _ (part t start n) None h = absurd h
  made_text _ (joined t u) (Some (store.Made k v holder)) h = absurd h
  made_text _ (of_byte v) (Some (store.Made k w holder)) h = absurd h
  made_text _ (part t start n) (Some (store.Made k v holder)) h = absurd h
  made_text _ (joined t u) (Some (store.Forked number result is_joined)) h = absurd h
  made_text _ (of_byte v) (Some (store.Forked number result is_joined)) h = absurd h
  made_text _ (part t start n) (Some (store.Forked number result is_joined)) h = absurd h

  text_answer : (at : Pos) (x : asked.New Thing) (k : ℕ) → IsTextual x → rules.is_text p k ≡ true → (a : Answer Thing) (s : Store) → AnswerFits p s (Makes x) a → Gives p own s (Typed p k) (meaning.answer_of p at a)
  text_answer at x k textual text (asked.Gives (Some (Is (value.Pointer c)))) s fits = let b = made_text x textual (cell_at s c) fits in typed_given p own s k (value.Pointer c) (text_cell s c k b.0 text b.1)
  text_answer at x k textual text (asked.Gives None) s fits = absurd fits
  text_answer at x k textual text (asked.Gives (Some (At place))) s fits = absurd fits
  text_answer at x k textual text (asked.Gives (Some (Is value.Nil))) s fits = absurd fits
  text_answer at x k textual text (asked.Gives (Some (Is (value.Ordinal z)))) s fits = absurd fits
  text_answer at x k textual text (asked.Gives (Some (Is (value.Text n)))) s fits = absurd fits
  text_answer at x k textual text (asked.Gives (Some (Is value.MainThread))) s fits = absurd fits
  text_answer at x k textual text (asked.Gives (Some (Is (value.Procedure q around)))) s fits = absurd fits
  text_answer at x k textual text (asked.Gives (Some (Is (value.Members ms)))) s fits = absurd fits
  text_answer at x k textual text (asked.Gives (Some (Is (value.Record vs)))) s fits = absurd fits
  text_answer at x k textual text (asked.Gives (Some (Is (value.Array below vs)))) s fits = absurd fits
  text_answer at x k textual text (asked.Raises e n y) s fits = absurd fits
  text_answer at x k textual text (asked.Fails kind) s fits = absurd fits

  is_old : (x : asked.New Thing) → IsTextual x → (a : Answer Thing) → new_cell (Makes x) a ≡ None
  is_old _ (joined t u) a = refl
  is_old _ (of_byte v) a = refl
  is_old _ (part t start n) a = refl

  text_sound : (at : Pos) (x : asked.New Thing) (k : ℕ) → IsTextual x → rules.is_text p k ≡ true → (s : Store) → Gives p own s (Typed p k) (meaning.asking p at (Makes x))
  text_sound at x k textual text s = bind_sound p own s (λ u a. AnswerFits p u (Makes x) a) (Typed p k) _ _ (acting_sound p own s (Makes x) (is_old x textual)) (λ a u l fits. text_answer at x k textual text a u fits)

  -- ---- what services give

  byte_served : (k : ℕ) → rules.takes_byte p k ≡ true → (s : Store) (o : Option Thing) → ServiceGives p s asked.GetByte o → ServedFor (Some k) s o
  byte_served k h s None g = absurd g
  byte_served k h s (Some (At to)) g = absurd g
  byte_served k h s (Some (Is (value.Ordinal z))) g = (numbers_is (class_of p k) (left_true (rule.is_ordinal p k) _ h), within_two p z (Some rules.bytes) (bounds p k) (right_true (rule.is_ordinal p k) _ h) g)
  byte_served k h s (Some (Is value.Nil)) g = absurd g
  byte_served k h s (Some (Is (value.Pointer c))) g = absurd g
  byte_served k h s (Some (Is (value.Text n))) g = absurd g
  byte_served k h s (Some (Is value.MainThread)) g = absurd g
  byte_served k h s (Some (Is (value.Procedure q around))) g = absurd g
  byte_served k h s (Some (Is (value.Members ms))) g = absurd g
  byte_served k h s (Some (Is (value.Record vs))) g = absurd g
  byte_served k h s (Some (Is (value.Array below vs))) g = absurd g

  truth_value : (k : ℕ) → rule.is_boolean p k ≡ true → (s : Store) (v : Value) → IsTruth v → HasType p s v k
  truth_value k h s (value.Ordinal z) g = let is = boolean_node (node_of p k) h in (ap class_in is, subst (IsNumberOf z) (sym (ap bounds_in is)) g)
  truth_value k h s value.Nil g = absurd g
  truth_value k h s (value.Pointer c) g = absurd g
  truth_value k h s (value.Text n) g = absurd g
  truth_value k h s value.MainThread g = absurd g
  truth_value k h s (value.Procedure q around) g = absurd g
  truth_value k h s (value.Members ms) g = absurd g
  truth_value k h s (value.Record vs) g = absurd g
  truth_value k h s (value.Array below vs) g = absurd g

  end_served : (k : ℕ) → rule.is_boolean p k ≡ true → (s : Store) (o : Option Thing) → ServiceGives p s asked.EndOfInput o → ServedFor (Some k) s o
  end_served k h s None g = absurd g
  end_served k h s (Some (At to)) g = absurd g
  end_served k h s (Some (Is v)) g = truth_value k h s v g

  alert_served : (k : ℕ) → rule.is_boolean p k ≡ true → (s : Store) (o : Option Thing) → ServiceGives p s asked.TestAlert o → ServedFor (Some k) s o
  alert_served k h s None g = absurd g
  alert_served k h s (Some (At to)) g = absurd g
  alert_served k h s (Some (Is v)) g = truth_value k h s v g

  any_node : (o : Option TypeNode) → is_any_in o ≡ true → o ≡ Some node.RefAny
  any_node (Some node.RefAny) h = refl
  any_node None h = absurd (let bad : false ≡ true = h in cc)
  any_node (Some n) h = absurd (let bad : false ≡ true = h in cc)

  any_cell : (k : ℕ) → node_of p k ≡ Some node.RefAny → (cell : Cell) → cell_has_type p k cell ≡ true
  any_cell k e (store.Made kind v holder) = ap (is_made_type p kind k) e
  any_cell k e (store.Bytes bytes) = ap (is_text_type p) e
  any_cell k e (store.Forked number result is_joined) = ap (is_thread_type p) e

  pub any_typed : (k : ℕ) → is_any_in (node_of p k) ≡ true → (s : Store) (v : Value) → IsAnyReference p s v → HasType p s v k
  any_typed k h s v g = any_value k (any_node (node_of p k) h) (ap (unveiled_in p k) (any_node (node_of p k) h)) s v g
    where
      any_value : (k : ℕ) → node_of p k ≡ Some node.RefAny → unveiled p k ≡ k → (s : Store) (v : Value) → IsAnyReference p s v → HasType p s v k
      any_value k is bare s value.Nil g = subst IsOfNil (sym (ap class_in is)) tt
      any_value k is bare s (value.Pointer c) g = (ap class_in is, ap (λ o. option_map (cell_has_type p (unveiled p k)) o) g.1 ∙ ap (λ x. Some (cell_has_type p x g.0)) bare ∙ ap Some (any_cell k is g.0))
      any_value k is bare s (value.Text n) g = (ap class_in is, ap (λ x. Some (is_text_type p (node_of p x))) bare ∙ ap (λ o. Some (is_text_type p o)) is, g)
      any_value k is bare s value.MainThread g = (ap class_in is, ap (λ x. Some (is_thread_type p (node_of p x))) bare ∙ ap (λ o. Some (is_thread_type p o)) is)
      any_value k is bare s (value.Ordinal z) g = absurd g
      any_value k is bare s (value.Procedure q around) g = absurd g
      any_value k is bare s (value.Members ms) g = absurd g
      any_value k is bare s (value.Record vs) g = absurd g
      any_value k is bare s (value.Array below vs) g = absurd g

  join_served : (k : ℕ) → is_any_in (node_of p k) ≡ true → (t : Thing) (alertable : Bool) (s : Store) (o : Option Thing) → ServiceGives p s (asked.Join t alertable) o → ServedFor (Some k) s o
  join_served k h t alertable s None g = absurd g
  join_served k h t alertable s (Some (At to)) g = absurd g
  join_served k h t alertable s (Some (Is v)) g = any_typed k h s v g

  -- the type of threads
  thread_node : (o : Option TypeNode) → is_thread_in o ≡ true → (bound : TypeId) × (o ≡ Some (node.Opaque bound secret.Thread))
  thread_node (Some (node.Opaque bound secret.Thread)) h = (bound, refl)
  thread_node None h = absurd (let bad : false ≡ true = h in cc)
  thread_node (Some n) h = absurd (let bad : false ≡ true = h in cc)

  thread_typed : (k : ℕ) → is_thread_in (node_of p k) ≡ true → (s : Store) (v : Value) → IsThread s v → HasType p s v k
  thread_typed k h s v g = let n = thread_node (node_of p k) h in thread_value k n.0 n.1 (ap (unveiled_in p k) n.1) s v g
    where
      forked : (k : ℕ) → is_thread_type p (node_of p k) ≡ true → unveiled p k ≡ k → (o : Option Cell) → IsThreadCell o → option_map (cell_has_type p (unveiled p k)) o ≡ Some true
      forked k is bare (Some (store.Forked number result is_joined)) g = ap (λ x. Some (is_thread_type p (node_of p x))) bare ∙ ap Some is
      forked k is bare None g = absurd g
      forked k is bare (Some (store.Made kind v holder)) g = absurd g
      forked k is bare (Some (store.Bytes bytes)) g = absurd g

      thread_value : (k : ℕ) (bound : TypeId) → node_of p k ≡ Some (node.Opaque bound secret.Thread) → unveiled p k ≡ k → (s : Store) (v : Value) → IsThread s v → HasType p s v k
      thread_value k bound is bare s value.MainThread g = (ap class_in is, ap (λ x. Some (is_thread_type p (node_of p x))) bare ∙ ap (λ o. Some (is_thread_type p o)) is)
      thread_value k bound is bare s (value.Pointer c) g = (ap class_in is, forked k (ap (is_thread_type p) is) bare (cell_at s c) g)
      thread_value k bound is bare s value.Nil g = absurd g
      thread_value k bound is bare s (value.Text n) g = absurd g
      thread_value k bound is bare s (value.Ordinal z) g = absurd g
      thread_value k bound is bare s (value.Procedure q around) g = absurd g
      thread_value k bound is bare s (value.Members ms) g = absurd g
      thread_value k bound is bare s (value.Record vs) g = absurd g
      thread_value k bound is bare s (value.Array below vs) g = absurd g

  fork_answer : (at : Pos) (closure : Thing) (k : ℕ) → is_thread_in (node_of p k) ≡ true → (a : Answer Thing) (s : Store) → AnswerFits p s (Forks closure) a → Gives p own s (Typed p k) (meaning.answer_of p at a)
  fork_answer at closure k h (asked.Gives (Some (Is v))) s fits = typed_given p own s k v (thread_typed k h s v fits)
  fork_answer at closure k h (asked.Gives None) s fits = absurd fits
  fork_answer at closure k h (asked.Gives (Some (At place))) s fits = absurd fits
  fork_answer at closure k h (asked.Raises e n t) s fits = absurd fits
  fork_answer at closure k h (asked.Fails kind) s fits = absurd fits

  forks_sound : (at : Pos) (closure : Thing) (k : ℕ) → is_thread_in (node_of p k) ≡ true → (s : Store) → Gives p own s (Typed p k) (meaning.asking p at (Forks closure))
  forks_sound at closure k h s = bind_sound p own s (λ u a. AnswerFits p u (Forks closure) a) (Typed p k) _ _ (acting_sound p own s (Forks closure) (λ a. refl)) (λ a u l fits. fork_answer at closure k h a u fits)

  self_served : (k : ℕ) → is_thread_in (node_of p k) ≡ true → (s : Store) (o : Option Thing) → ServiceGives p s asked.MySelf o → ServedFor (Some k) s o
  self_served k h s None g = absurd g
  self_served k h s (Some (At to)) g = absurd g
  self_served k h s (Some (Is v)) g = thread_typed k h s v g

  -- services that give nothing
  pub data IsSilent : asked.Service Thing → Type 0 where
    puts : (form : asked.Form) (v : Thing) → IsSilent (asked.Put form v)
    acquires : (m : Thing) → IsSilent (asked.Acquire m)
    releases : (m : Thing) → IsSilent (asked.Release m)
    waits : (m c : Thing) (alertable : Bool) → IsSilent (asked.Wait m c alertable)
    signals : (c : Thing) → IsSilent (asked.Signal c)
    broadcasts : (c : Thing) → IsSilent (asked.Broadcast c)
    alerts : (t : Thing) → IsSilent (asked.Alert t)

  silent_served : (x : asked.Service Thing) → IsSilent x → (s : Store) (o : Option Thing) → ServiceGives p s x o → ServedFor None s o
  silent_served _ silent s None g = tt
  silent_served _ (puts form v) s (Some x) g = absurd g
  silent_served _ (acquires m) s (Some x) g = absurd g
  silent_served _ (releases m) s (Some x) g = absurd g
  silent_served _ (waits m c alertable) s (Some x) g = absurd g
  silent_served _ (signals c) s (Some x) g = absurd g
  silent_served _ (broadcasts c) s (Some x) g = absurd g
  silent_served _ (alerts t) s (Some x) g = absurd g

  silent_sound : (at : Pos) (x : asked.Service Thing) → IsSilent x → (s : Store) → Gives p own s (IsServed None) (meaning.serving p at x)
  silent_sound at x silent s = serving_sound at x None (λ u o g. silent_served x silent u o g) s

  -- ---- functions of numbers

  both_numbers : (choose : ℤ → ℤ → ℤ) → ((x y : ℤ) → (choose x y ≡ x) ⊎ (choose x y ≡ y)) → (t u k : ℕ) (s : Store) (v w : Value) → rules.both_parts p t u k ≡ true → HasType p s v t → HasType p s w u → Gives p own s (Typed p k) (meaning.chosen p choose v w)
  both_numbers choose picks t u k s v w fits h g =
      let ordinals = left_true (rule.is_ordinal p t && rule.is_ordinal p u) _ fits in
      let rest = right_true (rule.is_ordinal p t && rule.is_ordinal p u) _ fits in
      let kind = left_true (rule.is_ordinal p k) _ rest in
      let parts = right_true (rule.is_ordinal p k) (rule.is_part p t k && rule.is_part p u k) rest in
      let x = number_of p s v t (left_true (rule.is_ordinal p t) (rule.is_ordinal p u) ordinals) h in
      let y = number_of p s w u (right_true (rule.is_ordinal p t) (rule.is_ordinal p u) ordinals) g in
      let one = part_typed p s x.0 t k kind (left_true (rule.is_part p t k) (rule.is_part p u k) parts) x.2 in
      let other = part_typed p s y.0 u k kind (right_true (rule.is_part p t k) (rule.is_part p u k) parts) y.2 in
      subst (λ a. Gives p own s (Typed p k) (meaning.chosen p choose a w)) (sym x.1)
      (subst (λ b. Gives p own s (Typed p k) (meaning.chosen p choose (value.Ordinal x.0) b)) (sym y.1)
      (typed_given p own s k (value.Ordinal (choose x.0 y.0)) (⊎_elim
      (λ e. subst (λ z. HasType p s (value.Ordinal z) k) (sym e) one)
      (λ e. subst (λ z. HasType p s (value.Ordinal z) k) (sym e) other)
      (picks x.0 y.0))))

  either_number : (b : Bool) (x y : ℤ) → ((if b then x else y) ≡ x) ⊎ ((if b then x else y) ≡ y)
  either_number true x y = inl refl
  either_number false x y = inr refl

  turned : (t u k : ℕ) → ((rule.is_number p t && rule.is_number p u) && rule.is_boolean p k) ≡ true → ((rule.is_number p u && rule.is_number p t) && rule.is_boolean p k) ≡ true
  turned t u k fits =
      let numbers = left_true (rule.is_number p t && rule.is_number p u) (rule.is_boolean p k) fits in
      both_true (rule.is_number p u && rule.is_number p t) (rule.is_boolean p k)
      (both_true (rule.is_number p u) (rule.is_number p t) (right_true (rule.is_number p t) (rule.is_number p u) numbers) (left_true (rule.is_number p t) (rule.is_number p u) numbers))
      (right_true (rule.is_number p t && rule.is_number p u) (rule.is_boolean p k) fits)

  word_tested : (test : ℤ → ℤ → Bool) (at : Pos) (t u k : ℕ) (s : Store) (v w : Value) → ((rule.is_number p t && rule.is_number p u) && rule.is_boolean p k) ≡ true → HasType p s v t → HasType p s w u → Gives p own s (Typed p k) (meaning.word_test p test at v w)
  word_tested test at t u k s v w fits h g =
      let numbers = left_true (rule.is_number p t && rule.is_number p u) (rule.is_boolean p k) fits in
      let x = number_of p s v t (left_true (rule.is_ordinal p t) _ (left_true (rule.is_number p t) (rule.is_number p u) numbers)) h in
      let y = number_of p s w u (left_true (rule.is_ordinal p u) _ (right_true (rule.is_number p t) (rule.is_number p u) numbers)) g in
      subst (λ a. Gives p own s (Typed p k) (meaning.word_test p test at a w)) (sym x.1)
      (subst (λ b. Gives p own s (Typed p k) (meaning.word_test p test at (value.Ordinal x.0) b)) (sym y.1)
      (passed_sound at (given (truth (test x.0 y.0))) k (λ later. truth_given p own later (test x.0 y.0) k (right_true (rule.is_number p t && rule.is_number p u) (rule.is_boolean p k) fits)) s))

  -- the number of an operand is an integer
  integer_operand : (s : Store) (v : Value) (t k : ℕ) → rule.is_number p t ≡ true → rule.is_integer p k ≡ true → rule.is_part p t k ≡ true → HasType p s v t → (z : ℤ) × (v ≡ value.Ordinal z) × (is_integer z ≡ true)
  integer_operand s v t k n i within h =
      let z = number_of p s v t (left_true (rule.is_ordinal p t) _ n) h in
      (z.0, z.1, integer_within z.0 (subst (IsNumberOf z.0) (ap bounds_in (integer_node (node_of p k) i)) (within_two p z.0 (bounds p t) (bounds p k) within z.2)))

  word_computed : (compute : ℤ → ℤ → ℤ) → GivesIntegers compute → (at : Pos) (t u k : ℕ) (s : Store) (v w : Value) → rules.words_fit p t u k ≡ true → HasType p s v t → HasType p s w u → Gives p own s (Typed p k) (meaning.word p compute at v w)
  word_computed compute is at t u k s v w fits h g =
      let numbers = left_true (rule.is_number p t && rule.is_number p u) _ fits in
      let rest = right_true (rule.is_number p t && rule.is_number p u) _ fits in
      let kind = left_true (rule.is_integer p k) _ rest in
      let parts = right_true (rule.is_integer p k) (rule.is_part p t k && rule.is_part p u k) rest in
      let x = integer_operand s v t k (left_true (rule.is_number p t) (rule.is_number p u) numbers) kind (left_true (rule.is_part p t k) (rule.is_part p u k) parts) h in
      let y = integer_operand s w u k (right_true (rule.is_number p t) (rule.is_number p u) numbers) kind (right_true (rule.is_part p t k) (rule.is_part p u k) parts) g in
      subst (λ a. Gives p own s (Typed p k) (meaning.word p compute at a w)) (sym x.1)
      (subst (λ b. Gives p own s (Typed p k) (meaning.word p compute at (value.Ordinal x.0) b)) (sym y.1)
      (passed_sound at (given (value.Ordinal (compute x.0 y.0))) k (λ later. typed_given p own later k (value.Ordinal (compute x.0 y.0)) (integer_typed p later (compute x.0 y.0) k kind (is x.0 y.0 x.2 y.2))) s))

  word_complemented : (at : Pos) (t k : ℕ) (s : Store) (v : Value) → rules.words_fit p t t k ≡ true → HasType p s v t → Gives p own s (Typed p k) (meaning.word_complement p at v)
  word_complemented at t k s v fits h =
      let numbers = left_true (rule.is_number p t && rule.is_number p t) _ fits in
      let rest = right_true (rule.is_number p t && rule.is_number p t) _ fits in
      let kind = left_true (rule.is_integer p k) _ rest in
      let parts = right_true (rule.is_integer p k) (rule.is_part p t k && rule.is_part p t k) rest in
      let x = integer_operand s v t k (left_true (rule.is_number p t) (rule.is_number p t) numbers) kind (left_true (rule.is_part p t k) (rule.is_part p t k) parts) h in
      subst (λ a. Gives p own s (Typed p k) (meaning.word_complement p at a)) (sym x.1)
      (passed_sound at (given (value.Ordinal (integers.word_not x.0))) k (λ later. typed_given p own later k (value.Ordinal (integers.word_not x.0)) (integer_typed p later (integers.word_not x.0) k kind (not_is x.0 x.2))) s)

  -- ---- texts that are read

  text_read : (s : Store) (v : Value) (t : ℕ) → rules.reads_text p t ≡ true → HasType p s v t → (v ≡ value.Nil → ⊥) → Gives p own s (λ u bytes. are_bytes bytes ≡ true) (meaning.text p v)
  text_read s v t fits h some = seeing_sound p own s _ (λ m. bytes_of p m.store v) (λ m l good.
      let b = text_there p m.store v t (left_true (rules.are_texts p) (rules.is_text p t) fits) good.fair.store (text_node p own (node_of p t) (right_true (rules.are_texts p) (rules.is_text p t) fits)) (type_stays p s m.store l v t h) some in
      (b.bytes, b.is, b.good))

  equality_sound : (s : Store) (v w : Value) (t u k : ℕ) → ((rules.reads_text p t && rules.reads_text p u) && rule.is_boolean p k) ≡ true → HasType p s v t → (v ≡ value.Nil → ⊥) → HasType p s w u → (w ≡ value.Nil → ⊥) → Gives p own s (Typed p k) (meaning.equal_texts p v w)
  equality_sound s v w t u k fits h some g other =
      let both = left_true (rules.reads_text p t && rules.reads_text p u) (rule.is_boolean p k) fits in
      let truth_is = right_true (rules.reads_text p t && rules.reads_text p u) (rule.is_boolean p k) fits in
      bind_sound p own s (λ x bytes. are_bytes bytes ≡ true) (Typed p k) _ _ (text_read s v t (left_true (rules.reads_text p t) (rules.reads_text p u) both) h some)
      (λ bytes x l q. bind_sound p own x (λ y others. are_bytes others ≡ true) (Typed p k) _ _ (text_read x w u (right_true (rules.reads_text p t) (rules.reads_text p u) both) (type_stays p s x l w u g) other)
      (λ others y m f. truth_given p own y (same_list ◌==◌ bytes others) k truth_is))

  length_sound : (s : Store) (v : Value) (t k : ℕ) → (rules.reads_text p t && rules.takes_length p k) ≡ true → HasType p s v t → (v ≡ value.Nil → ⊥) → Gives p own s (Typed p k) (meaning.length_of p v)
  length_sound s v t k fits h some =
      let takes = right_true (rules.reads_text p t) (rules.takes_length p k) fits in
      bind_sound p own s (λ x bytes. are_bytes bytes ≡ true) (Typed p k) _ _ (text_read s v t (left_true (rules.reads_text p t) (rules.takes_length p k) fits) h some)
      (λ bytes u l q. typed_given p own u k (number (length bytes)) (
        numbers_is (class_of p k) (left_true (rule.is_ordinal p k) _ takes),
        within_two p (pos (length bytes)) (Some rules.lengths) (bounds p k) (right_true (rule.is_ordinal p k) _ takes) (count_within (length bytes) (left_true (is_count (length bytes)) _ q)),
      ))

  empty_sound : (s : Store) (v : Value) (t k : ℕ) → (rules.reads_text p t && rule.is_boolean p k) ≡ true → HasType p s v t → (v ≡ value.Nil → ⊥) → Gives p own s (Typed p k) (meaning.is_empty p v)
  empty_sound s v t k fits h some =
      bind_sound p own s (λ x bytes. are_bytes bytes ≡ true) (Typed p k) _ _ (text_read s v t (left_true (rules.reads_text p t) (rule.is_boolean p k) fits) h some)
      (λ bytes u l q. truth_given p own u (length bytes == 0) k (right_true (rules.reads_text p t) (rule.is_boolean p k) fits))

  byte_typed : (s : Store) (b k : ℕ) → rules.takes_byte p k ≡ true → is_byte b ≡ true → HasType p s (number b) k
  byte_typed s b k h is = (numbers_is (class_of p k) (left_true (rule.is_ordinal p k) _ h), within_two p (pos b) (Some rules.bytes) (bounds p k) (right_true (rule.is_ordinal p k) _ h) (byte_within b is))

  given_byte : (s : Store) (at : Pos) (bytes : List ℕ) (i k : ℕ) (o : Option ℕ) → rules.takes_byte p k ≡ true → are_bytes bytes ≡ true → slice_get bytes i ≡ o → Gives p own s (Typed p k) (meaning.or_fault p at (option_map number o))
  given_byte s at bytes i k None h q e = fault_sound p own s _ fault_kind.Index at
  given_byte s at bytes i k (Some b) h q e = typed_given p own s k (number b) (byte_typed s b k h (byte_there bytes i b (right_true (is_count (length bytes)) _ q) e))

  byte_taken : (s : Store) (at : Pos) (bytes : List ℕ) (k : ℕ) (o : Option ℕ) → rules.takes_byte p k ≡ true → are_bytes bytes ≡ true → Gives p own s (Typed p k) (meaning.or_fault p at (meaning.byte_at p bytes o))
  byte_taken s at bytes k None h q = fault_sound p own s _ fault_kind.Index at
  byte_taken s at bytes k (Some i) h q = given_byte s at bytes i k (slice_get bytes i) h q refl

  byte_sound : (call index : Pos) (s : Store) (v w : Value) (t n k : ℕ) → ((rules.reads_text p t && rule.is_ordinal p n) && rules.takes_byte p k) ≡ true → HasType p s v t → (v ≡ value.Nil → ⊥) → HasType p s w n → Gives p own s (Typed p k) (meaning.byte_in p call index v w)
  byte_sound call index s v w t n k fits h some g =
      let both = left_true (rules.reads_text p t && rule.is_ordinal p n) (rules.takes_byte p k) fits in
      let takes = right_true (rules.reads_text p t && rule.is_ordinal p n) (rules.takes_byte p k) fits in
      let z = number_of p s w n (right_true (rules.reads_text p t) (rule.is_ordinal p n) both) g in
      subst (λ x. Gives p own s (Typed p k) (meaning.byte_in p call index v x)) (sym z.1)
      (bind_sound p own s (λ x bytes. are_bytes bytes ≡ true) (Typed p k) _ _ (text_read s v t (left_true (rules.reads_text p t) (rule.is_ordinal p n) both) h some)
      (λ bytes u l q. bind_sound p own u (Typed p k) (Typed p k) _ _ (byte_taken u index bytes k (count_of z.0) takes q)
      (λ b x m f. passed_from call (given b) k x (λ y d. typed_given p own y k b (type_stays p x y d b k f)))))

  -- ---- THE TABLE

  abbrev Routed : Routine → Pos → Pos → Option ℕ → Store → List Value → Type 0
  Routed r at i k s vs = Gives p own s (IsServed k) (meaning.routine_of p r at i k vs)

  on_none : (r : Routine) (at i : Pos) (k : Option ℕ) (s : Store) (vs : List Value) → AreFor p s r 0 vs [] → Routed r at i k s [] → Routed r at i k s vs
  on_none r at i k s [] h g = g
  on_none r at i k s (v ∷ vs) h g = absurd h

  on_cell : (r : Routine) (at i : Pos) (k : Option ℕ) (s : Store) (vs : List Value) (t : ℕ) → AreFor p s r 0 vs (t ∷ []) → ((v : Value) → HasType p s v t → NoNil r 0 v → Routed r at i k s (v ∷ [])) → Routed r at i k s vs
  on_cell r at i k s [] t h g = absurd h
  on_cell r at i k s (v ∷ []) t h g = g v h.0.0 h.0.1
  on_cell r at i k s (v ∷ w ∷ vs) t h g = absurd h.1

  on_one : (r : Routine) (at i : Pos) (k : Option ℕ) (s : Store) (vs : List Value) (t : ℕ) → AreFor p s r 0 vs (t ∷ []) → ((v : Value) → HasType p s v t → Routed r at i k s (v ∷ [])) → Routed r at i k s vs
  on_one r at i k s vs t h g = on_cell r at i k s vs t h (λ v f some. g v f)

  on_cells : (r : Routine) (at i : Pos) (k : Option ℕ) (s : Store) (vs : List Value) (t u : ℕ) → AreFor p s r 0 vs (t ∷ u ∷ []) → ((v w : Value) → HasType p s v t → NoNil r 0 v → HasType p s w u → NoNil r 1 w → Routed r at i k s (v ∷ w ∷ [])) → Routed r at i k s vs
  on_cells r at i k s [] t u h g = absurd h
  on_cells r at i k s (v ∷ []) t u h g = absurd h.1
  on_cells r at i k s (v ∷ w ∷ []) t u h g = g v w h.0.0 h.0.1 h.1.0.0 h.1.0.1
  on_cells r at i k s (v ∷ w ∷ x ∷ vs) t u h g = absurd h.1.1

  on_two : (r : Routine) (at i : Pos) (k : Option ℕ) (s : Store) (vs : List Value) (t u : ℕ) → AreFor p s r 0 vs (t ∷ u ∷ []) → ((v w : Value) → HasType p s v t → HasType p s w u → Routed r at i k s (v ∷ w ∷ [])) → Routed r at i k s vs
  on_two r at i k s vs t u h g = on_cells r at i k s vs t u h (λ v w f some e other. g v w f e)

  on_three : (r : Routine) (at i : Pos) (k : Option ℕ) (s : Store) (vs : List Value) (t u m : ℕ) → AreFor p s r 0 vs (t ∷ u ∷ m ∷ []) → ((v w x : Value) → Routed r at i k s (v ∷ w ∷ x ∷ [])) → Routed r at i k s vs
  on_three r at i k s [] t u m h g = absurd h
  on_three r at i k s (v ∷ []) t u m h g = absurd h.1
  on_three r at i k s (v ∷ w ∷ []) t u m h g = absurd h.1.1
  on_three r at i k s (v ∷ w ∷ x ∷ []) t u m h g = g v w x
  on_three r at i k s (v ∷ w ∷ x ∷ y ∷ vs) t u m h g = absurd h.1.1.1

  table_sound : (r : Routine) (at i : Pos) (ts : List ℕ) (k : Option ℕ) (vs : List Value) (s : Store) → routine_fits p r ts k ≡ true → AreFor p s r 0 vs ts → Routed r at i k s vs
  table_sound routine.Put at i (t ∷ []) None vs s fits h = on_one routine.Put at i None s vs t h (λ v g. silent_sound at (asked.Put asked.Text (Is v)) (puts asked.Text (Is v)) s)
  table_sound routine.PutInt at i (t ∷ []) None vs s fits h = on_one routine.PutInt at i None s vs t h (λ v g. silent_sound at (asked.Put asked.Decimal (Is v)) (puts asked.Decimal (Is v)) s)
  table_sound routine.PutChar at i (t ∷ []) None vs s fits h = on_one routine.PutChar at i None s vs t h (λ v g. silent_sound at (asked.Put asked.Byte (Is v)) (puts asked.Byte (Is v)) s)
  table_sound routine.GetChar at i [] (Some k) vs s fits h = on_none routine.GetChar at i (Some k) s vs h (serving_sound at asked.GetByte (Some k) (byte_served k fits) s)
  table_sound routine.EndOfInput at i [] (Some k) vs s fits h = on_none routine.EndOfInput at i (Some k) s vs h (serving_sound at asked.EndOfInput (Some k) (end_served k fits) s)
  table_sound routine.TextCat at i (t ∷ u ∷ []) (Some k) vs s fits h = on_two routine.TextCat at i (Some k) s vs t u h (λ v w a b. text_sound at (Concatenated (Is v) (Is w)) k (joined (Is v) (Is w)) (right_true (rules.is_text p t && rules.is_text p u) (rules.is_text p k) fits) s)
  table_sound routine.TextEqual at i (t ∷ u ∷ []) (Some k) vs s fits h = on_cells routine.TextEqual at i (Some k) s vs t u h (λ v w a some b other. passed_from at (meaning.equal_texts p v w) k s (λ x l. equality_sound x v w t u k fits (type_stays p s x l v t a) (some refl) (type_stays p s x l w u b) (other refl)))
  table_sound routine.TextGetChar at i (t ∷ n ∷ []) (Some k) vs s fits h = on_cells routine.TextGetChar at i (Some k) s vs t n h (λ v w a some b other. byte_sound at i s v w t n k fits a (some refl) b)
  table_sound routine.TextLength at i (t ∷ []) (Some k) vs s fits h = on_cell routine.TextLength at i (Some k) s vs t h (λ v a some. passed_from at (meaning.length_of p v) k s (λ x l. length_sound x v t k fits (type_stays p s x l v t a) (some refl)))
  table_sound routine.TextEmpty at i (t ∷ []) (Some k) vs s fits h = on_cell routine.TextEmpty at i (Some k) s vs t h (λ v a some. passed_from at (meaning.is_empty p v) k s (λ x l. empty_sound x v t k fits (type_stays p s x l v t a) (some refl)))
  table_sound routine.TextSub at i (t ∷ n ∷ m ∷ []) (Some k) vs s fits h = on_three routine.TextSub at i (Some k) s vs t n m h (λ v w x. text_sound at (Subtext (Is v) (Is w) (Is x)) k (part (Is v) (Is w) (Is x)) (right_true (rules.is_text p t && (rule.is_ordinal p n && rule.is_ordinal p m)) (rules.is_text p k) fits) s)
  table_sound routine.TextFromChar at i (t ∷ []) (Some k) vs s fits h = on_one routine.TextFromChar at i (Some k) s vs t h (λ v g. text_sound at (ByteText (Is v)) k (of_byte (Is v)) (right_true (rule.is_ordinal p t) (rules.is_text p k) fits) s)
  table_sound routine.WordLess at i (t ∷ u ∷ []) (Some k) vs s fits h = on_two routine.WordLess at i (Some k) s vs t u h (λ v w a b. word_tested integers.word_less at t u k s v w fits a b)
  table_sound routine.WordLessEqual at i (t ∷ u ∷ []) (Some k) vs s fits h = on_two routine.WordLessEqual at i (Some k) s vs t u h (λ v w a b. word_tested integers.word_at_most at t u k s v w fits a b)
  table_sound routine.WordGreater at i (t ∷ u ∷ []) (Some k) vs s fits h = on_two routine.WordGreater at i (Some k) s vs t u h (λ v w a b. word_tested integers.word_less at u t k s w v (turned t u k fits) b a)
  table_sound routine.WordGreaterEqual at i (t ∷ u ∷ []) (Some k) vs s fits h = on_two routine.WordGreaterEqual at i (Some k) s vs t u h (λ v w a b. word_tested integers.word_at_most at u t k s w v (turned t u k fits) b a)
  table_sound routine.WordPlus at i (t ∷ u ∷ []) (Some k) vs s fits h = on_two routine.WordPlus at i (Some k) s vs t u h (λ v w a b. word_computed integers.word_sum sum_is at t u k s v w fits a b)
  table_sound routine.WordTimes at i (t ∷ u ∷ []) (Some k) vs s fits h = on_two routine.WordTimes at i (Some k) s vs t u h (λ v w a b. word_computed integers.word_product product_is at t u k s v w fits a b)
  table_sound routine.WordMinus at i (t ∷ u ∷ []) (Some k) vs s fits h = on_two routine.WordMinus at i (Some k) s vs t u h (λ v w a b. word_computed integers.word_difference difference_is at t u k s v w fits a b)
  table_sound routine.WordDivide at i (t ∷ u ∷ []) (Some k) vs s fits h = on_two routine.WordDivide at i (Some k) s vs t u h (λ v w a b. word_computed integers.word_quotient quotient_is at t u k s v w fits a b)
  table_sound routine.WordMod at i (t ∷ u ∷ []) (Some k) vs s fits h = on_two routine.WordMod at i (Some k) s vs t u h (λ v w a b. word_computed integers.word_rest rest_is at t u k s v w fits a b)
  table_sound routine.WordAnd at i (t ∷ u ∷ []) (Some k) vs s fits h = on_two routine.WordAnd at i (Some k) s vs t u h (λ v w a b. word_computed integers.word_and and_is at t u k s v w fits a b)
  table_sound routine.WordOr at i (t ∷ u ∷ []) (Some k) vs s fits h = on_two routine.WordOr at i (Some k) s vs t u h (λ v w a b. word_computed integers.word_or or_is at t u k s v w fits a b)
  table_sound routine.WordXor at i (t ∷ u ∷ []) (Some k) vs s fits h = on_two routine.WordXor at i (Some k) s vs t u h (λ v w a b. word_computed integers.word_xor xor_is at t u k s v w fits a b)
  table_sound routine.WordShift at i (t ∷ u ∷ []) (Some k) vs s fits h = on_two routine.WordShift at i (Some k) s vs t u h (λ v w a b. word_computed integers.word_shift shift_is at t u k s v w fits a b)
  table_sound routine.WordRotate at i (t ∷ u ∷ []) (Some k) vs s fits h = on_two routine.WordRotate at i (Some k) s vs t u h (λ v w a b. word_computed integers.word_rotate rotation_is at t u k s v w fits a b)
  table_sound routine.WordNot at i (t ∷ []) (Some k) vs s fits h = on_one routine.WordNot at i (Some k) s vs t h (λ v g. word_complemented at t k s v fits g)
  table_sound routine.Fork at i (t ∷ []) (Some k) vs s fits h = on_one routine.Fork at i (Some k) s vs t h (λ v g. forks_sound at (Is v) k (right_true (rules.is_object p t) (is_thread_in (node_of p k)) fits) s)
  table_sound routine.Join at i (t ∷ []) (Some k) vs s fits h = on_one routine.Join at i (Some k) s vs t h (λ v g. serving_sound at (asked.Join (Is v) false) (Some k) (join_served k (right_true (rules.is_cell p t) (is_any_in (node_of p k)) fits) (Is v) false) s)
  table_sound routine.AlertJoin at i (t ∷ []) (Some k) vs s fits h = on_one routine.AlertJoin at i (Some k) s vs t h (λ v g. serving_sound at (asked.Join (Is v) true) (Some k) (join_served k (right_true (rules.is_cell p t) (is_any_in (node_of p k)) fits) (Is v) true) s)
  table_sound routine.Wait at i (m ∷ c ∷ []) None vs s fits h = on_two routine.Wait at i None s vs m c h (λ v w a b. silent_sound at (asked.Wait (Is v) (Is w) false) (waits (Is v) (Is w) false) s)
  table_sound routine.AlertWait at i (m ∷ c ∷ []) None vs s fits h = on_two routine.AlertWait at i None s vs m c h (λ v w a b. silent_sound at (asked.Wait (Is v) (Is w) true) (waits (Is v) (Is w) true) s)
  table_sound routine.Acquire at i (m ∷ []) None vs s fits h = on_one routine.Acquire at i None s vs m h (λ v g. silent_sound at (asked.Acquire (Is v)) (acquires (Is v)) s)
  table_sound routine.Release at i (m ∷ []) None vs s fits h = on_one routine.Release at i None s vs m h (λ v g. silent_sound at (asked.Release (Is v)) (releases (Is v)) s)
  table_sound routine.Signal at i (c ∷ []) None vs s fits h = on_one routine.Signal at i None s vs c h (λ v g. silent_sound at (asked.Signal (Is v)) (signals (Is v)) s)
  table_sound routine.Broadcast at i (c ∷ []) None vs s fits h = on_one routine.Broadcast at i None s vs c h (λ v g. silent_sound at (asked.Broadcast (Is v)) (broadcasts (Is v)) s)
  table_sound routine.MySelf at i [] (Some k) vs s fits h = on_none routine.MySelf at i (Some k) s vs h (serving_sound at asked.MySelf (Some k) (self_served k fits) s)
  table_sound routine.Alert at i (t ∷ []) None vs s fits h = on_one routine.Alert at i None s vs t h (λ v g. silent_sound at (asked.Alert (Is v)) (alerts (Is v)) s)
  table_sound routine.TestAlert at i [] (Some k) vs s fits h = on_none routine.TestAlert at i (Some k) s vs h (serving_sound at asked.TestAlert (Some k) (alert_served k fits) s)
  table_sound routine.Min at i (t ∷ u ∷ []) (Some k) vs s fits h = on_two routine.Min at i (Some k) s vs t u h (λ v w a b. both_numbers lesser (λ x y. either_number (int_le x y) x y) t u k s v w fits a b)
  table_sound routine.Max at i (t ∷ u ∷ []) (Some k) vs s fits h = on_two routine.Max at i (Some k) s vs t u h (λ v w a b. both_numbers greater (λ x y. either_number (int_le y x) x y) t u k s v w fits a b)
  table_sound routine.Ord at i (t ∷ []) (Some k) vs s fits h = on_one routine.Ord at i (Some k) s vs t h (λ v g. let z = number_of p s v t (left_true (rule.is_ordinal p t) _ fits) g in
      subst (λ x. Routed routine.Ord at i (Some k) s (x ∷ [])) (sym z.1) (typed_given p own s k (value.Ordinal z.0) (part_typed p s z.0 t k (left_true (rule.is_ordinal p k) _ (right_true (rule.is_ordinal p t) _ fits)) (right_true (rule.is_ordinal p k) (rule.is_part p t k) (right_true (rule.is_ordinal p t) _ fits)) z.2)))
  table_sound routine.Val at i (t ∷ []) (Some k) vs s fits h = on_one routine.Val at i (Some k) s vs t h (λ v g. let z = number_of p s v t (left_true (rule.is_ordinal p t) (rule.is_ordinal p k) fits) g in
      subst (λ x. Routed routine.Val at i (Some k) s (x ∷ [])) (sym z.1) (range_sound p own at k z.0 s (right_true (rule.is_ordinal p t) (rule.is_ordinal p k) fits)))
  table_sound r at i ts k vs s fits h = absurd (let bad : false ≡ true = fits in cc)

  not_true : (b : Bool) → not b ≡ true → b ≡ false
  not_true false h = refl
  not_true true h = absurd (let bad : false ≡ true = h in cc)

  references_is : (c : Class) → is_references c ≡ true → c ≡ OfReferences
  references_is OfReferences h = refl
  references_is OfNumbers h = absurd (let bad : false ≡ true = h in cc)
  references_is OfProcedures h = absurd (let bad : false ≡ true = h in cc)
  references_is OfSets h = absurd (let bad : false ≡ true = h in cc)
  references_is OfRecords h = absurd (let bad : false ≡ true = h in cc)
  references_is OfArrays h = absurd (let bad : false ≡ true = h in cc)
  references_is NoType h = absurd (let bad : false ≡ true = h in cc)

  closure_type : (t : ℕ) → rules.is_object p t ≡ true → IsClosureType t
  closure_type t h =
      let rest = right_true (rules.is_cell p t) (not (is_text_type p (node_of p (unveiled p t))) && not (is_thread_type p (node_of p (unveiled p t)))) h in
      record {
        kind = references_is (class_of p t) (left_true (rules.is_cell p t) _ h);
        no_text = not_true (is_text_type p (node_of p (unveiled p t))) (left_true (not (is_text_type p (node_of p (unveiled p t)))) (not (is_thread_type p (node_of p (unveiled p t)))) rest);
        no_thread = not_true (is_thread_type p (node_of p (unveiled p t))) (right_true (not (is_text_type p (node_of p (unveiled p t)))) (not (is_thread_type p (node_of p (unveiled p t)))) rest);
      }

  first_alone : (t : ℕ) (ts : List ℕ) (n u : ℕ) → slice_get (t ∷ []) n ≡ Some u → (n ≡ 0) × (t ≡ u)
  first_alone t ts zero u e = (refl, cc)
  first_alone t ts (suc n) u e = absurd (let bad : None ≡ Some u = e in cc)

  are_closures : (r : Routine) (ts : List ℕ) (k : Option ℕ) → routine_fits p r ts k ≡ true → AreClosures r ts
  are_closures routine.Fork (t ∷ []) (Some k) fits n u h e =
      let one = first_alone t [] n u e in
      (one.0, subst IsClosureType one.1 (closure_type t (left_true (rules.is_object p t) _ fits)))
  are_closures routine.Fork [] k fits n u h e = absurd (let bad : false ≡ true = fits in cc)
  are_closures routine.Fork (t ∷ []) None fits n u h e = absurd (let bad : false ≡ true = fits in cc)
  are_closures routine.Fork (t ∷ v ∷ ts) k fits n u h e = absurd (let bad : false ≡ true = fits in cc)
  are_closures _ ts k fits n u h e = absurd (let bad : false ≡ true = h in cc)

  pub routine_sound : (r : Routine) (at : Pos) (es : List Expression) (order ts : List ℕ) (k : Option ℕ) → TypedOperands p own es ts → HasEachNumber (length ts) order → routine_fits p r ts k ≡ true → (s : Store) → Gives p own s (IsServed k) (meaning.routine_call p r at es order k)
  routine_sound r at es order ts k typed each fits s =
      bind_sound p own s (Evaluated r ts order) (IsServed k) _ _ (each_sound at r es ts (are_closures r ts k fits) typed order each.no_other [] s tt)
      (λ xs u l q. table_sound r at (meaning.second_place p es at) ts k (in_order xs) u fits (ordered p u r ts order xs each q.1 q.0))
