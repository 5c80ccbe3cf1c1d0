-- Arrays of elements that fit are defined.
use Rattle.std.proofs.Common.{◌≡◌, ◌+◌, ℕ, zero, suc, Bool, true, false, List, [], ◌∷◌, ◌++◌, length, map, take, replicate, Option, Some, None, refl, sym, ap, ◌∙◌, subst, arith}
use Rattle.std.specs.Prelude.{◌==◌, ◌&&◌, not, nat_lt}
use Rattle.std.proofs.lemmas.Bool.{eqb-true, eq-eqb}
use Rattle.std.proofs.lemmas.Bool.Decides.{nat_tests}
use Rattle.std.proofs.lemmas.List.{length-append, length-replicate, length-take-le}
use Rattle.m3_base.specs.declared.outcomes.FaultKind.TheVariants as fault_kind
use Rattle.m3_base.specs.declared.places.Pos.{Pos}
use Rattle.m3_values.specs.Values as value
use Rattle.m3_values.specs.Values.{Value, items, row_of}
use Rattle.m3_values.specs.Arrays.{shape, last_of, up_to, same_shape, array_of as array_of_values}
use Rattle.m3_values.specs.Programs.{Program}
use Rattle.m3_values.specs.Types.{element, elements, below_type, type_sizes}
use Rattle.m3_values.specs.Places.{Is}
use Rattle.m3_values.specs.Store.{Store}
use Rattle.m3_source_meaning.specs.Meanings.{given}
use Rattle.m3_source_meaning.specs.Phrases.{Expression}
use Rattle.m3_source_meaning.specs.Constructors as meaning
use Rattle.m3_source_typing.specs.ValueTypes.{OfArrays, class_of, is_count, has_sizes, HasType, AreElements}
use Rattle.m3_source_typing.specs.Stores.{IsLater}
use Rattle.m3_source_typing.specs.Sound.{Scope, Gives, IsOfType}
use Rattle.m3_source_typing.specs.Expressions.{count_fits}
use Rattle.m3_source_typing.proofs.Staying.{and_later, type_stays}
use Rattle.m3_source_typing.proofs.Combining.{given_sound, bind_sound, holding_all_sound, unless_sound}
use Rattle.m3_source_typing.proofs.Operands.{left_true, right_true, both_true}
use Rattle.m3_source_typing.proofs.Operating.{Typed, typed_given}
use Rattle.m3_source_typing.proofs.Depths.{same_numbers}
use Rattle.m3_source_typing.proofs.Parts.{items_of, shape_said}

-- well typed elements
pub data TypedRowOf (p : Program) (own : Scope) (e : ℕ) : List Expression → Type 0 where
  none : TypedRowOf p own e []
  more : (x : Expression) (xs : List Expression) → IsOfType p own x e → TypedRowOf p own e xs → TypedRowOf p own e (x ∷ xs)

module _ (p : Program) where
  -- values of a type and of one shape
  abbrev AllLike : Store → ℕ → List ℕ → List Value → Type 0
  AllLike s e sizes [] = Unit {0}
  AllLike s e sizes (v ∷ vs) = HasType p s v e × (shape v ≡ sizes) × AllLike s e sizes vs

  abbrev AreRow : Store → ℕ → List Value → Type 0
  AreRow s e [] = Unit {0}
  AreRow s e (v ∷ vs) = AllLike s e (shape v) (v ∷ vs)

  like_stay : (s u : Store) → IsLater s u → (e : ℕ) (sizes : List ℕ) (vs : List Value) → AllLike s e sizes vs → AllLike u e sizes vs
  like_stay s u l e sizes [] h = tt
  like_stay s u l e sizes (v ∷ vs) h = (type_stays p s u l v e h.0, h.1, like_stay s u l e sizes vs h.2)

  row_stays : (s u : Store) → IsLater s u → (e : ℕ) (vs : List Value) → AreRow s e vs → AreRow u e vs
  row_stays s u l e [] h = tt
  row_stays s u l e (v ∷ vs) h = like_stay s u l e (shape v) (v ∷ vs) h

  like_and : (s : Store) (e : ℕ) (sizes : List ℕ) (vs us : List Value) → AllLike s e sizes vs → AllLike s e sizes us → AllLike s e sizes (vs ++ us)
  like_and s e sizes [] us h g = g
  like_and s e sizes (v ∷ vs) us h g = (h.0, h.1, like_and s e sizes vs us h.2 g)

  like_taken : (s : Store) (e : ℕ) (sizes : List ℕ) (n : ℕ) (vs : List Value) → AllLike s e sizes vs → AllLike s e sizes (take n vs)
  like_taken s e sizes zero vs h = tt
  like_taken s e sizes (suc n) [] h = tt
  like_taken s e sizes (suc n) (v ∷ vs) h = (h.0, h.1, like_taken s e sizes n vs h.2)

  like_again : (s : Store) (e : ℕ) (sizes : List ℕ) (n : ℕ) (v : Value) → HasType p s v e → shape v ≡ sizes → AllLike s e sizes (replicate n v)
  like_again s e sizes zero v h g = tt
  like_again s e sizes (suc n) v h g = (h, g, like_again s e sizes n v h g)

  like_last : (s : Store) (e : ℕ) (sizes : List ℕ) (v : Value) (vs : List Value) → AllLike s e sizes (v ∷ vs) → HasType p s (last_of v vs) e × (shape (last_of v vs) ≡ sizes)
  like_last s e sizes v [] h = (h.0, h.1)
  like_last s e sizes v (u ∷ us) h = like_last s e sizes u us h.2

  like_filled : (s : Store) (e : ℕ) (sizes : List ℕ) (n : ℕ) (v : Value) (vs : List Value) → AllLike s e sizes (v ∷ vs) → AllLike s e sizes (up_to n (v ∷ vs))
  like_filled s e sizes n v vs h =
      let last = like_last s e sizes v vs h in
      like_taken s e sizes n (v ∷ vs ++ replicate n (last_of v vs)) (like_and s e sizes (v ∷ vs) (replicate n (last_of v vs)) h (like_again s e sizes n (last_of v vs) last.0 last.1))

  filled_length : (n : ℕ) (v : Value) (vs : List Value) → length (up_to n (v ∷ vs)) ≡ n
  filled_length n v vs =
      let all : length ((v ∷ vs) ++ replicate n (last_of v vs)) ≡ length (v ∷ vs) + length (replicate n (last_of v vs)) = length-append (v ∷ vs) (replicate n (last_of v vs)) in
      let more : length (replicate n (last_of v vs)) ≡ n = length-replicate n (last_of v vs) in
      length-take-le n ((v ∷ vs) ++ replicate n (last_of v vs)) (omega arith)

  row_elements : (s : Store) (e : ℕ) (sizes : List ℕ) (vs : List Value) (o : Option ℕ) → o ≡ Some e → AllLike s e sizes vs → AreElements p s (row_of vs) sizes o
  row_elements s e sizes vs None is h = absurd (let bad : None ≡ Some e = is in cc)
  row_elements s e sizes [] (Some k) is h = tt
  row_elements s e sizes (v ∷ vs) (Some k) is h = let same : e ≡ k = cc in (subst (HasType p s v) same h.0, h.1, row_elements s e sizes vs (Some k) is h.2)

  said_size : (size n : ℕ) (rest : List (Option ℕ)) (sizes : List ℕ) → has_sizes rest sizes ≡ true → is_count size ≡ true → size ≡ n → has_sizes (Some size ∷ rest) (n ∷ sizes) ≡ true
  said_size size n rest sizes h g e = subst (λ m. has_sizes (Some size ∷ rest) (m ∷ sizes) ≡ true) e (both_true (is_count size && (size == size)) (has_sizes rest sizes) (both_true (is_count size) (size == size) g (eq-eqb size size refl)) h)

  -- a row of values of one shape is an array of the type
  row_typed : (s : Store) (kind e n : ℕ) (o : Option ℕ) (below : List ℕ) (v : Value) (vs : List Value) → class_of p kind ≡ OfArrays → element p kind ≡ Some e → type_sizes p kind ≡ o ∷ type_sizes p e → has_sizes (o ∷ type_sizes p e) (length (v ∷ vs) ∷ shape v) ≡ true → AllLike s e (shape v) (v ∷ vs) → HasType p s (array_of_values below (v ∷ vs)) kind
  row_typed s kind e n o below v vs c is sizes fits h =
      let long : length (items (row_of (v ∷ vs))) ≡ length (v ∷ vs) = ap length (items_of (v ∷ vs)) in
      (c, row_elements s e (shape v) (v ∷ vs) (element p kind) is h, subst (λ xs. has_sizes xs (length (items (row_of (v ∷ vs))) ∷ shape v) ≡ true) (sym sizes) (subst (λ m. has_sizes (o ∷ type_sizes p e) (m ∷ shape v) ≡ true) (sym long) fits))

  size_fits : (o : Option ℕ) (to n : ℕ) (rest : List (Option ℕ)) (sizes : List ℕ) → has_sizes rest sizes ≡ true → count_fits false o to n ≡ true → has_sizes (o ∷ rest) (n ∷ sizes) ≡ true
  size_fits None to n rest sizes h fits = both_true (is_count n) (has_sizes rest sizes) fits h
  size_fits (Some size) to n rest sizes h fits = said_size size n rest sizes h (left_true (is_count size) (size == n) fits) (eqb-true size n (right_true (is_count size) (size == n) fits))

  filled_fits : (o : Option ℕ) (to n m : ℕ) (rest : List (Option ℕ)) (sizes : List ℕ) → has_sizes rest sizes ≡ true → count_fits true o to n ≡ true → m ≡ to → has_sizes (o ∷ rest) (m ∷ sizes) ≡ true
  filled_fits None to n m rest sizes h fits e = absurd (let bad : false ≡ true = fits in cc)
  filled_fits (Some size) to n m rest sizes h fits e = said_size size m rest sizes h (left_true (is_count size) (nat_lt 0 size) (left_true (is_count size && nat_lt 0 size) (size == to) fits)) (eqb-true size to (right_true (is_count size && nat_lt 0 size) (size == to) fits) ∙ sym e)

  not_empty : (o : Option ℕ) (to n : ℕ) → count_fits true o to n ≡ true → 0 ≡ to → ⊥
  not_empty None to n fits e = let bad : false ≡ true = fits in absurd cc
  not_empty (Some size) to n fits e =
      let same : size ≡ to = eqb-true size to (right_true (is_count size && nat_lt 0 size) (size == to) fits) in
      let more : nat_lt 0 size ≡ true = right_true (is_count size) (nat_lt 0 size) (left_true (is_count size && nat_lt 0 size) (size == to) fits) in
      grind (arith, nat_tests)

  -- what an array holds that is filled up to its size
  filled_typed : (s : Store) (kind e n : ℕ) (o : Option ℕ) (below sizes : List ℕ) (vs : List Value) → class_of p kind ≡ OfArrays → element p kind ≡ Some e → type_sizes p kind ≡ o ∷ type_sizes p e → count_fits true o (elements p kind) n ≡ true → length vs ≡ elements p kind → has_sizes (type_sizes p e) sizes ≡ true → AllLike s e sizes vs → HasType p s (array_of_values below vs) kind
  filled_typed s kind e n o below sizes [] c is said fits long has h = absurd (not_empty o (elements p kind) n fits long)
  filled_typed s kind e n o below sizes (v ∷ vs) c is said fits long has h =
      row_typed s kind e n o below v vs c is said (filled_fits o (elements p kind) n (length (v ∷ vs)) (type_sizes p e) (shape v) (subst (λ xs. has_sizes (type_sizes p e) xs ≡ true) (sym h.1) has) fits long)
      (subst (λ xs. AllLike s e xs (v ∷ vs)) (sym h.1) h)

module _ (p : Program) (own : Scope) where
  -- ---- elements

  checked : (at : Pos) (s : Store) (e : ℕ) (before : List Value) (v : Value) → AreRow p s e before → HasType p s v e → Gives p own s (λ u x. AreRow p u e (before ++ v ∷ [])) (meaning.has_first_shape at before v)
  checked at s e [] v h g = given_sound p own s _ tt (λ u l. (type_stays p s u l v e g, refl, tt))
  checked at s e (first ∷ vs) v h g =
      bind_sound p own s (λ u x. not (same_shape (shape first) (shape v)) ≡ false) _ _ given (unless_sound p own s fault_kind.Shape at (not (same_shape (shape first) (shape v))))
      (λ x u l q. given_sound p own u _ x (λ w k. like_and p w e (shape first) (first ∷ vs) (v ∷ [])
      (like_stay p s w (and_later s u w l k) e (shape first) (first ∷ vs) h)
      (type_stays p s w (and_later s u w l k) v e g, sym (same_numbers (shape first) (shape v) (not_not (same_shape (shape first) (shape v)) q)), tt)))
    where
      not_not : (b : Bool) → not b ≡ false → b ≡ true
      not_not true h = refl
      not_not false h = absurd (let bad : true ≡ false = h in cc)

  abbrev RowOf : ℕ → ℕ → Store → List Value → Type 0
  RowOf e n s vs = AreRow p s e vs × (length vs ≡ n)

  each_sound : (e : ℕ) (xs : List Expression) → TypedRowOf p own e xs → (before : List Value) (n : ℕ) (s : Store) → AreRow p s e before → length before + length xs ≡ n → Gives p own s (RowOf e n) (meaning.each_element before xs)
  each_sound e _ none before n s h long = given_sound p own s _ before (λ u l. let same : length before ≡ n = omega arith in (row_stays p s u l e before h, same))
  each_sound e _ (more x xs is rest) before n s h long =
      bind_sound p own s (Typed p e) _ _ _ (holding_all_sound p own s (Typed p e) (map Is before) x.value (is.value s))
      (λ v u l q. bind_sound p own u (λ w y. AreRow p w e (before ++ v ∷ [])) _ _ _ (checked x.pos u e before v (row_stays p s u l e before h) q)
      (λ y w k f.
      let one : length (before ++ v ∷ []) ≡ length before + 1 = length-append before (v ∷ []) in
      let next : length (before ++ v ∷ []) + length xs ≡ n = omega arith in
      each_sound e xs rest (before ++ v ∷ []) n w f next))

  finished : (s : Store) (kind e : ℕ) (o : Option ℕ) (is_filled : Bool) (n : ℕ) (vs : List Value) → class_of p kind ≡ OfArrays → element p kind ≡ Some e → type_sizes p kind ≡ o ∷ type_sizes p e → count_fits is_filled o (elements p kind) (suc n) ≡ true → length vs ≡ suc n → AreRow p s e vs → HasType p s (array_of_values (below_type p (element p kind)) (meaning.filled is_filled (elements p kind) vs)) kind
  finished s kind e o is_filled n [] c is sizes fits long h = absurd (let bad : 0 ≡ suc n = long in omega arith)
  finished s kind e o false n (v ∷ vs) c is sizes fits long h =
      row_typed p s kind e n o (below_type p (element p kind)) v vs c is sizes (size_fits p o (elements p kind) (length (v ∷ vs)) (type_sizes p e) (shape v) (shape_said p s v e h.0) (subst (λ m. count_fits false o (elements p kind) m ≡ true) (sym long) fits)) h
  finished s kind e o true n (v ∷ vs) c is sizes fits long h =
      filled_typed p s kind e (suc n) o (below_type p (element p kind)) (shape v) (up_to (elements p kind) (v ∷ vs)) c is sizes fits (filled_length p (elements p kind) v vs) (shape_said p s v e h.0) (like_filled p s e (shape v) (elements p kind) v vs h)

  pub array_form : (kind e : ℕ) (o : Option ℕ) (is_filled : Bool) (x : Expression) (xs : List Expression) → class_of p kind ≡ OfArrays → element p kind ≡ Some e → type_sizes p kind ≡ o ∷ type_sizes p e → TypedRowOf p own e (x ∷ xs) → count_fits is_filled o (elements p kind) (length (x ∷ xs)) ≡ true → (s : Store) → Gives p own s (Typed p kind) (meaning.array_value p kind (x ∷ xs) is_filled)
  array_form kind e o is_filled x xs c is sizes typed fits s =
      bind_sound p own s (RowOf e (length (x ∷ xs))) (Typed p kind) _ _ (each_sound e (x ∷ xs) typed [] (length (x ∷ xs)) s tt (omega arith))
      (λ vs u l q. typed_given p own u kind (array_of_values (below_type p (element p kind)) (meaning.filled is_filled (elements p kind) vs)) (finished u kind e o is_filled (length xs) vs c is sizes fits q.1 q.0))

  -- an array without elements
  pub empty_form : (kind e : ℕ) (o : Option ℕ) → class_of p kind ≡ OfArrays → element p kind ≡ Some e → type_sizes p kind ≡ o ∷ type_sizes p e → has_sizes (type_sizes p e) (below_type p (Some e)) ≡ true → count_fits false o (elements p kind) 0 ≡ true → (s : Store) → Gives p own s (Typed p kind) (meaning.array_value p kind [] false)
  empty_form kind e o c is sizes said fits s =
      bind_sound p own s (λ u vs. vs ≡ []) (Typed p kind) _ _ (given_sound p own s _ [] (λ u l. refl))
      (λ vs u l q. subst (λ xs. Gives p own u (Typed p kind) (given (array_of_values (below_type p (element p kind)) (meaning.filled false (elements p kind) xs)))) (sym q)
      (typed_given p own u kind (array_of_values (below_type p (element p kind)) []) (c, subst (AreElements p u value.End (below_type p (element p kind))) (sym is) tt, shaped)))
    where
      whole_shape : has_sizes (o ∷ type_sizes p e) (0 ∷ below_type p (Some e)) ≡ true
      whole_shape = size_fits p o (elements p kind) 0 (type_sizes p e) (below_type p (Some e)) said fits

      shaped : has_sizes (type_sizes p kind) (0 ∷ below_type p (element p kind)) ≡ true
      shaped = subst (λ b. has_sizes (type_sizes p kind) (0 ∷ below_type p b) ≡ true) (sym is) (subst (λ xs. has_sizes xs (0 ∷ below_type p (Some e)) ≡ true) (sym sizes) whole_shape)
