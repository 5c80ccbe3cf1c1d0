-- A value of a text type that isn't NIL is a text.
use Rattle.std.proofs.Common.{◌≡◌, ◌<◌, ◌+◌, ℕ, zero, suc, Bool, true, false, List, [], ◌∷◌, ◌++◌, length, Option, Some, None, refl, sym, ap, ◌∙◌, subst, arith}
use Rattle.std.specs.Prelude.{slice_get, fold}
use Rattle.std.specs.Option.{option_map, option_and_then}
use Rattle.std.specs.List.{list_all}
use Rattle.m3_core.specs.declared.texts.Text.{Text as ProgramText}
use Rattle.m3_types.specs.declared.nodes.TypeNode.TheVariants as node
use Rattle.m3_values.specs.Values as value
use Rattle.m3_values.specs.Values.{Value}
use Rattle.m3_values.specs.Constants.{text_bytes, texts_of}
use Rattle.m3_values.specs.Programs.{Program}
use Rattle.m3_values.specs.Types.{node_of, unveiled, unveiled_in}
use Rattle.m3_values.specs.Store as store
use Rattle.m3_values.specs.Store.{Cell, Store, cell_at, cell_has_type, is_made_type, is_text_type, is_thread_type, bytes_in, bytes_of}
use Rattle.m3_source_typing.specs.ValueTypes.{Class, OfNumbers, OfReferences, OfProcedures, OfSets, OfRecords, OfArrays, class_in, class_of, HasType}
use Rattle.m3_source_typing.specs.Stores.{IsTyped, are_bytes, is_byte}
use Rattle.m3_source_typing.specs.Routines.{are_texts}
use Rattle.m3_source_typing.proofs.Operands.{left_true, right_true}

-- ---- the texts of a program

more_texts : (known : List (List ℕ)) (ts : List ProgramText) → length (fold (λ known t. known ++ text_bytes known t ∷ []) known ts) ≡ length known + length ts
more_texts known [] = omega arith
more_texts known (t ∷ ts) =
    let rest = more_texts (known ++ text_bytes known t ∷ []) ts in
    let one = one_more known (text_bytes known t) in
    omega arith
  where
    one_more : (known : List (List ℕ)) (bytes : List ℕ) → length (known ++ bytes ∷ []) ≡ suc (length known)
    one_more [] bytes = refl
    one_more (k ∷ known) bytes = ap suc (one_more known bytes)

-- an item of a list of which all pass a test
record HasItem {A : Type 0} (test : A → Bool) (xs : List A) (n : ℕ) : Type 0 where
  pub item : A
  pub is : slice_get xs n ≡ Some item
  pub passes : test item ≡ true

item_of : {A : Type 0} (test : A → Bool) (xs : List A) (n : ℕ) → list_all test xs ≡ true → n < length xs → HasItem test xs n
item_of test [] n h less = absurd (omega arith)
item_of test (x ∷ xs) zero h less = record { item = x; is = refl; passes = left_true (test x) _ h }
item_of test (x ∷ xs) (suc n) h less =
    let more = item_of test xs n (right_true (test x) _ h) (omega arith) in
    record { item = more.item; is = more.is; passes = more.passes }

pub byte_there : (bytes : List ℕ) (n b : ℕ) → list_all is_byte bytes ≡ true → slice_get bytes n ≡ Some b → is_byte b ≡ true
byte_there [] n b h e = absurd (let bad : None ≡ Some b = e in cc)
byte_there (x ∷ xs) zero b h e = let one : x ≡ b = cc in subst (λ y. is_byte y ≡ true) one (left_true (is_byte x) _ h)
byte_there (x ∷ xs) (suc n) b h e = byte_there xs n b (right_true (is_byte x) _ h) e

module _ (p : Program) where
  -- the bytes of a value now
  pub record HasBytes (s : Store) (v : Value) : Type 0 where
    pub bytes : List ℕ
    pub is : bytes_of p s v ≡ Some bytes
    pub good : are_bytes bytes ≡ true

  literal_bytes : (s : Store) (n : ℕ) → are_texts p ≡ true → n < length p.texts → HasBytes s (value.Text n)
  literal_bytes s n all less =
      let all_of = more_texts [] p.texts in
      let size : length (texts_of p.texts) ≡ length p.texts = omega arith in
      let one = item_of are_bytes (texts_of p.texts) n all (subst (λ m. n < m) (sym size) less) in
      record { bytes = one.item; is = one.is; good = one.passes }

  cell_bytes : (s : Store) (c t : ℕ) → IsTyped p None s → node_of p t ≡ Some node.Text → (o : Option Cell) → cell_at s c ≡ o → option_map (cell_has_type p t) o ≡ Some true → HasBytes s (value.Pointer c)
  cell_bytes s c t typed text (Some (store.Bytes bytes)) e h =
      record { bytes = bytes; is = ap (option_and_then (bytes_in p)) e; good = typed.texts c bytes e }
  cell_bytes s c t typed text None e h = absurd (let bad : None ≡ Some true = h in cc)
  cell_bytes s c t typed text (Some (store.Made kind v holder)) e h =
      let below : Some (is_made_type p kind t (Some node.Text)) ≡ Some true = ap (λ o. Some (is_made_type p kind t o)) (sym text) ∙ h in
      absurd (let bad : Some false ≡ Some true = ap Some (sym (typed.made c kind v holder e t text)) ∙ below in cc)
  cell_bytes s c t typed text (Some (store.Forked number result is_joined)) e h =
      absurd (let bad : Some false ≡ Some true = ap (λ o. Some (is_thread_type p o)) (sym text) ∙ h in cc)

  of_references : (t : ℕ) (c : Class) → node_of p t ≡ Some node.Text → class_of p t ≡ c → OfReferences ≡ c
  of_references t c text e = sym (ap class_in text) ∙ e

  -- a value of the type, which isn't NIL, has bytes
  pub text_there : (s : Store) (v : Value) (t : ℕ) → are_texts p ≡ true → IsTyped p None s → node_of p t ≡ Some node.Text → HasType p s v t → (v ≡ value.Nil → ⊥) → HasBytes s v
  text_there s value.Nil t all typed text h some = absurd (some refl)
  text_there s (value.Text n) t all typed text h some = literal_bytes s n all h.2
  text_there s (value.Pointer c) t all typed text h some =
      let bare : unveiled p t ≡ t = ap (unveiled_in p t) text in
      cell_bytes s c t typed text (cell_at s c) refl (ap (λ u. option_map (cell_has_type p u) (cell_at s c)) (sym bare) ∙ h.1)
  text_there s value.MainThread t all typed text h some =
      let bare : unveiled p t ≡ t = ap (unveiled_in p t) text in
      absurd (let bad : Some false ≡ Some true = ap (λ o. Some (is_thread_type p o)) (sym text) ∙ ap (λ u. Some (is_thread_type p (node_of p u))) (sym bare) ∙ h.1 in cc)
  text_there s (value.Ordinal z) t all typed text h some = absurd (let bad : OfReferences ≡ OfNumbers = of_references t OfNumbers text h.0 in cc)
  text_there s (value.Procedure q around) t all typed text h some = absurd (let bad : OfReferences ≡ OfProcedures = of_references t OfProcedures text h.0 in cc)
  text_there s (value.Members ms) t all typed text h some = absurd (let bad : OfReferences ≡ OfSets = of_references t OfSets text h.0 in cc)
  text_there s (value.Record vs) t all typed text h some = absurd (let bad : OfReferences ≡ OfRecords = of_references t OfRecords text h.0 in cc)
  text_there s (value.Array below vs) t all typed text h some = absurd (let bad : OfReferences ≡ OfArrays = of_references t OfArrays text h.0 in cc)
