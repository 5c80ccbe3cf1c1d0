-- Sets and records of parts that fit are defined.
use Rattle.std.proofs.Common.{◌≡◌, ℕ, ℤ, suc, ◌+◌, Bool, true, false, List, [], ◌∷◌, ◌++◌, length, map, Option, Some, None, refl, sym, ap, ◌∙◌, subst, arith}
use Rattle.std.specs.Prelude.{◌==◌, ◌||◌, slice_get}
use Rattle.std.specs.List.{list_any}
use Rattle.std.specs.Option.{option_to_list, option_and_then}
use Rattle.std.proofs.lemmas.Bool.{eqb-true}
use Rattle.std.proofs.lemmas.Option.{slice_get_within}
use Rattle.m3_types.specs.declared.nodes.Field.{Field}
use Rattle.m3_values.specs.Values as value
use Rattle.m3_values.specs.Values.{Value, row_of}
use Rattle.m3_values.specs.Sets as sets
use Rattle.m3_values.specs.Programs.{Program}
use Rattle.m3_values.specs.Types.{bounds, node_of}
use Rattle.m3_values.specs.Places.{Is}
use Rattle.m3_values.specs.Store.{Store}
use Rattle.m3_source_meaning.specs.Meanings.{given}
use Rattle.m3_source_meaning.specs.Phrases.{Expression, Adding, Valued}
use Rattle.m3_source_meaning.specs.Constructors as meaning
use Rattle.m3_source_typing.specs.ValueTypes.{OfRecords, class_of, member_in, record_fields, AreMembersOf, HasType, AreFields}
use Rattle.m3_source_typing.specs.Stores.{IsLater}
use Rattle.m3_source_typing.specs.Sound.{Scope, Gives, IsOfType}
use Rattle.m3_source_typing.specs.Operators as rule
use Rattle.m3_source_typing.specs.Expressions.{HasEachField}
use Rattle.m3_source_typing.proofs.Staying.{type_stays}
use Rattle.m3_source_typing.proofs.Combining.{given_sound, bind_sound, holding_sound, holding_all_sound}
use Rattle.m3_source_typing.proofs.Operands as operand
use Rattle.m3_source_typing.proofs.Operands.{number_of}
use Rattle.m3_source_typing.proofs.Operating.{Typed, typed_given}

-- single elements of a set
pub data TypedElements (p : Program) (own : Scope) (member : ℕ) : List Adding → Type 0 where
  no_elements : TypedElements p own member []
  one_element : (e : Expression) (es : List Adding) → IsOfType p own e member → TypedElements p own member es → TypedElements p own member (meaning.with_one e ∷ es)
  range_element : (first last : Expression) (es : List Adding) → IsOfType p own first member → IsOfType p own last member → TypedElements p own member es → TypedElements p own member (meaning.with_all first last ∷ es)

-- an expression of a field's type, where there is such a field
abbrev pub IsForField : Program → Scope → Expression → Option Field → Type 0
IsForField p own e None = ⊥
IsForField p own e (Some f) = IsOfType p own e f.kind.0

pub data TypedFields (p : Program) (own : Scope) (fields : List Field) : List Valued → Type 0 where
  no_fields : TypedFields p own fields []
  one_field : (v : Valued) (vs : List Valued) → IsForField p own v.value (slice_get fields v.field) → TypedFields p own fields vs → TypedFields p own fields (v ∷ vs)

abbrev pub field_of : Valued → ℕ
field_of v = v.field

module _ (p : Program) (own : Scope) where
  -- ---- sets

  set_given : (s : Store) (kind member : ℕ) (ms : List ℤ) → member_in (node_of p kind) ≡ Some member → AreMembersOf ms (bounds p member) → Gives p own s (Typed p kind) (given (value.Members ms))
  set_given s kind member ms is h =
      typed_given p own s kind (value.Members ms)
      (operand.set_class (node_of p kind) member is, subst (AreMembersOf ms) (sym (ap (λ o. option_and_then (bounds p) o) is)) h)

  one_sound : (e : Expression) (member : ℕ) (s : Store) (ms : List ℤ) → IsOfType p own e member → rule.is_ordinal p member ≡ true → AreMembersOf ms (bounds p member) → Gives p own s (λ t ns. AreMembersOf ns (bounds p member)) (meaning.with_one e ms)
  one_sound e member s ms is numbers h =
      bind_sound p own s (Typed p member) _ _ _ (is.value s)
      (λ v t l q. let z = number_of p t v member numbers q in
      subst (λ w. Gives p own t (λ u ns. AreMembersOf ns (bounds p member)) (meaning.one_member ms w)) (sym z.1)
      (given_sound p own t _ (sets.with_member z.0 ms) (λ u m. operand.with_member_in (bounds p member) z.0 ms z.2 h)))

  all_sound : (first last : Expression) (member : ℕ) (s : Store) (ms : List ℤ) → IsOfType p own first member → IsOfType p own last member → rule.is_ordinal p member ≡ true → AreMembersOf ms (bounds p member) → Gives p own s (λ t ns. AreMembersOf ns (bounds p member)) (meaning.with_all first last ms)
  all_sound first last member s ms is also numbers h =
      bind_sound p own s (Typed p member) _ _ _ (is.value s)
      (λ v t l q. bind_sound p own t (Typed p member) _ _ _ (holding_sound p own t (Typed p member) (Is v) last.value (also.value t))
      (λ w u k f.
      let x = number_of p t v member numbers q in
      let y = number_of p u w member numbers f in
      subst (λ a. Gives p own u (λ d ns. AreMembersOf ns (bounds p member)) (meaning.range_of_members ms a w)) (sym x.1)
      (subst (λ a. Gives p own u (λ d ns. AreMembersOf ns (bounds p member)) (meaning.range_of_members ms (value.Ordinal x.0) a)) (sym y.1)
      (given_sound p own u _ (sets.with_range x.0 y.0 ms) (λ d m. operand.range_in (bounds p member) x.0 y.0 ms x.2 y.2 h)))))

  pub set_form : (kind member : ℕ) → member_in (node_of p kind) ≡ Some member → rule.is_ordinal p member ≡ true → (es : List Adding) → TypedElements p own member es → (s : Store) (ms : List ℤ) → AreMembersOf ms (bounds p member) → Gives p own s (Typed p kind) (meaning.set_of es ms)
  set_form kind member is numbers _ no_elements s ms h = set_given s kind member ms is h
  set_form kind member is numbers _ (one_element e es typed more) s ms h =
      bind_sound p own s (λ t ns. AreMembersOf ns (bounds p member)) (Typed p kind) _ _
      (holding_sound p own s _ (Is (value.Members ms)) (meaning.with_one e ms) (one_sound e member s ms typed numbers h))
      (λ ns t l q. set_form kind member is numbers es more t ns q)
  set_form kind member is numbers _ (range_element first last es typed also more) s ms h =
      bind_sound p own s (λ t ns. AreMembersOf ns (bounds p member)) (Typed p kind) _ _
      (holding_sound p own s _ (Is (value.Members ms)) (meaning.with_all first last ms) (all_sound first last member s ms typed also numbers h))
      (λ ns t l q. set_form kind member is numbers es more t ns q)

  -- ---- records

  -- a value for a field, where there is one
  abbrev IsOfField : Store → Value → Option Field → Type 0
  IsOfField s v None = ⊥
  IsOfField s v (Some f) = HasType p s v f.kind.0

  abbrev AreOfFields : Store → List Field → List (ℕ × Value) → Type 0
  AreOfFields s fs [] = Unit {0}
  AreOfFields s fs (x ∷ xs) = IsOfField s x.1 (slice_get fs x.0) × AreOfFields s fs xs

  field_stays : (s t : Store) → IsLater s t → (v : Value) (o : Option Field) → IsOfField s v o → IsOfField t v o
  field_stays s t l v None h = h
  field_stays s t l v (Some f) h = type_stays p s t l v f.kind.0 h

  all_stay : (s t : Store) → IsLater s t → (fs : List Field) (xs : List (ℕ × Value)) → AreOfFields s fs xs → AreOfFields t fs xs
  all_stay s t l fs [] h = tt
  all_stay s t l fs (x ∷ xs) h = (field_stays s t l x.1 (slice_get fs x.0) h.0, all_stay s t l fs xs h.1)

  and_one : (s : Store) (fs : List Field) (xs : List (ℕ × Value)) (x : ℕ × Value) → AreOfFields s fs xs → IsOfField s x.1 (slice_get fs x.0) → AreOfFields s fs (xs ++ x ∷ [])
  and_one s fs [] x h g = (g, tt)
  and_one s fs (y ∷ xs) x h g = (h.0, and_one s fs xs x h.1 g)

  abbrev place_of : ℕ × Value → ℕ
  place_of x = x.0

  places_and : (xs : List (ℕ × Value)) (x : ℕ × Value) (ns : List ℕ) → map place_of (xs ++ x ∷ []) ++ ns ≡ map place_of xs ++ x.0 ∷ ns
  places_and [] x ns = refl
  places_and (y ∷ xs) x ns = ap (λ ms. y.0 ∷ ms) (places_and xs x ns)

  none_behind : (xs : List (ℕ × Value)) → map place_of xs ++ [] ≡ map place_of xs
  none_behind [] = refl
  none_behind (x ∷ xs) = ap (λ ms. x.0 ∷ ms) (none_behind xs)

  -- what the fields before and these give
  abbrev Given : List Field → List ℕ → Store → List (ℕ × Value) → Type 0
  Given fs ns s xs = AreOfFields s fs xs × (map place_of xs ≡ ns)

  field_value : (s : Store) (e : Expression) (o : Option Field) → IsForField p own e o → Gives p own s (λ t v. IsOfField t v o) e.value
  field_value s e None h = absurd h
  field_value s e (Some f) h = h.value s

  each_sound : (fs : List Field) (vs : List Valued) → TypedFields p own fs vs → (s : Store) (before : List (ℕ × Value)) → AreOfFields s fs before → Gives p own s (Given fs (map place_of before ++ map field_of vs)) (meaning.each_field before vs)
  each_sound fs _ no_fields s before h = given_sound p own s _ before (λ t l. (all_stay s t l fs before h, sym (none_behind before)))
  each_sound fs _ (one_field v vs is more) s before h =
      bind_sound p own s (λ t w. IsOfField t w (slice_get fs v.field)) (Given fs (map place_of before ++ v.field ∷ map field_of vs)) _ _
      (holding_all_sound p own s _ _ v.value.value (field_value s v.value (slice_get fs v.field) is))
      (λ w t l q. subst (λ ns. Gives p own t (Given fs ns) (meaning.each_field (before ++ (v.field, w) ∷ []) vs)) (places_and before (v.field, w) (map field_of vs))
      (each_sound fs vs more t (before ++ (v.field, w) ∷ []) (and_one t fs before (v.field, w) (all_stay s t l fs before h) q)))

  -- the value with a number
  pub record There (s : Store) (n : ℕ) (xs : List (ℕ × Value)) (o : Option Field) : Type 0 where
    pub value : Value
    pub is : meaning.numbered n xs ≡ Some value
    pub typed : IsOfField s value o

  there_or : (s : Store) (fs : List Field) (n : ℕ) (x : ℕ × Value) (xs : List (ℕ × Value)) (b : Bool) → (x.0 == n) ≡ b → IsOfField s x.1 (slice_get fs x.0) → (b ≡ false → There s n xs (slice_get fs n)) → There s n (x ∷ xs) (slice_get fs n)
  there_or s fs n x xs true e h more = record {
    value = x.1;
    is = ap (λ b. elim b as (λ c. Option Value) [ true ↦ Some x.1 | false ↦ meaning.numbered n xs ]) e;
    typed = subst (λ m. IsOfField s x.1 (slice_get fs m)) (eqb-true x.0 n e) h;
  }
  there_or s fs n x xs false e h more =
      let m = more refl in
      record {
        value = m.value;
        is = ap (λ b. elim b as (λ c. Option Value) [ true ↦ Some x.1 | false ↦ meaning.numbered n xs ]) e ∙ m.is;
        typed = m.typed;
      }

  second_of : (a b : Bool) → (a || b) ≡ true → a ≡ false → b ≡ true
  second_of true b h e = absurd (let bad : true ≡ false = e in cc)
  second_of false b h e = h

  there : (s : Store) (fs : List Field) (n : ℕ) (xs : List (ℕ × Value)) → AreOfFields s fs xs → list_any (λ m. m == n) (map place_of xs) ≡ true → There s n xs (slice_get fs n)
  there s fs n [] h e = absurd (let bad : false ≡ true = e in cc)
  there s fs n (x ∷ xs) h e = there_or s fs n x xs (x.0 == n) refl h.0 (λ no. there s fs n xs h.1 (second_of (x.0 == n) _ e no))

  fields_from : (s : Store) (at : ℕ) (fs : List Field) (xs : List (ℕ × Value)) → ((i : ℕ) (f : Field) → slice_get fs i ≡ Some f → There s (at + i) xs (Some f)) → AreFields p s (row_of (meaning.in_order_from (length fs) at xs)) fs
  fields_from s at [] xs h = tt
  fields_from s at (f ∷ fs) xs h =
      let same : at + 0 ≡ at = omega arith in
      let one : There s at xs (Some f) = subst (λ n. There s n xs (Some f)) same (h 0 f refl) in
      subst (λ o. AreFields p s (row_of (option_to_list o ++ meaning.in_order_from (length fs) (suc at) xs)) (f ∷ fs)) (sym one.is)
      (one.typed, fields_from s (suc at) fs xs (λ i g e. let next : at + suc i ≡ suc at + i = omega arith in subst (λ n. There s n xs (Some g)) next (h (suc i) g e)))

  length_map : {A B : Type 0} (f : A → B) (xs : List A) → length (map f xs) ≡ length xs
  length_map f [] = refl
  length_map f (x ∷ xs) = ap suc (length_map f xs)

  length_places : (xs : List (ℕ × Value)) (vs : List Valued) → map place_of xs ≡ map field_of vs → length xs ≡ length vs
  length_places xs vs e = sym (length_map place_of xs) ∙ ap length e ∙ length_map field_of vs

  record_typed : (s : Store) (kind : ℕ) (vs : List Valued) → class_of p kind ≡ OfRecords → HasEachField (record_fields (node_of p kind)) (map field_of vs) → (xs : List (ℕ × Value)) → Given (record_fields (node_of p kind)) (map field_of vs) s xs → HasType p s (value.Record (row_of (meaning.in_order xs))) kind
  record_typed s kind vs is all xs h =
      let fs : List Field = record_fields (node_of p kind) in
      let size : length fs ≡ length xs = sym all.0 ∙ length_map field_of vs ∙ sym (length_places xs vs h.1) in (
        is,
        subst (λ n. AreFields p s (row_of (meaning.in_order_from n 0 xs)) fs) size
            (fields_from s 0 fs xs (λ i f e.
            let named : list_any (λ m. m == i) (map place_of xs) ≡ true = ap (λ ns. list_any (λ m. m == i) ns) h.1 ∙ all.1 i (slice_get_within fs i f e) in
            let same : 0 + i ≡ i = omega arith in
            subst (λ n. There s n xs (Some f)) (sym same) (subst (There s i xs) e (there s fs i xs h.0 named)))),
      )

  pub record_form : (kind : ℕ) (vs : List Valued) → class_of p kind ≡ OfRecords → TypedFields p own (record_fields (node_of p kind)) vs → HasEachField (record_fields (node_of p kind)) (map field_of vs) → (s : Store) → Gives p own s (Typed p kind) (meaning.record_of vs)
  record_form kind vs is typed all s =
      bind_sound p own s (Given (record_fields (node_of p kind)) (map field_of vs)) (Typed p kind) _ _
      (each_sound (record_fields (node_of p kind)) vs typed s [] tt)
      (λ xs t l q. typed_given p own t kind (value.Record (row_of (meaning.in_order xs))) (record_typed t kind vs is all xs q))
