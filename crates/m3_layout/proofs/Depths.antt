-- What is told of a type whose parts are nested less than so deep stays the same at greater depths.
use Rattle.std.proofs.Common.{◌≡◌, ℕ, zero, suc, ◌+◌, ◌*◌, ◌≤◌, List, [], ◌∷◌, ◌++◌, length, Option, Some, None, refl, sym, ◌∙◌, ap, subst, arith, add-zero, add-suc}
use Rattle.std.proofs.Math.Logic.{∥∥₁_elim}
use Rattle.std.proofs.Math.Nat.{ℕ_set}
use Rattle.std.specs.Option.{option_map_or}
use Rattle.std.specs.Borrow.{Bor}
use Rattle.m3_types.specs.declared.nodes.TypeId.{TypeId}
use Rattle.m3_types.specs.declared.nodes.Field.{Field}
use Rattle.m3_types.specs.declared.nodes.TypeNode.{TypeNode}
use Rattle.m3_types.specs.declared.nodes.TypeNode.TheVariants.{Reserved, FixedArray, OpenArray, Fields, RefTo, Object, Opaque, Null, RefAny, Text, Mutex, Root, Constant}
use Rattle.m3_types.specs.Definitions.{node_at, head_at}
use Rattle.m3_types.specs.Kinds.{size_of}
use Rattle.m3_types_sizes.specs.Sizes.{most_words, field_words, words_of_node, words_to_depth, EachField, EachPart, HasParts, IsSized, HasSize, AreWords}
use Rattle.m3_layout.specs.Pointers.{field_pointers, element_pointers, pointers_of_node, pointers_to_depth}
use Rattle.m3_layout.specs.Depths.{value_words}
use Rattle.m3_layout.specs.Walking.{effort_of_node, effort_to_depth}

pub each_field : (P Q : ℕ → Type 0) → ((j : ℕ) → P j → Q j) → (fs : List Field) → EachField P fs → EachField Q fs
each_field P Q h [] p = tt
each_field P Q h (f ∷ fs) p = (h f.kind.0 p.0, each_field P Q h fs p.1)

pub each_part : (P Q : ℕ → Type 0) → ((j : ℕ) → P j → Q j) → (n : TypeNode) → EachPart P n → EachPart Q n
each_part P Q h (Fields fields) p = each_field P Q h fields.now p
each_part P Q h (FixedArray index element) p = h element.0 p
each_part P Q h (OpenArray element) p = p
each_part P Q h Reserved p = p
each_part P Q h (Constant value) p = p
each_part P Q h _ p = tt

pub has_parts : (P Q : ℕ → Type 0) → ((j : ℕ) → P j → Q j) → (o : Option TypeNode) → HasParts P o → HasParts Q o
has_parts P Q h None p = p
has_parts P Q h (Some n) p = each_part P Q h n p

fields_equal : (v w : ℕ → ℕ) (fs : List Field) → EachField (λ j. v j ≡ w j) fs → field_words v fs ≡ field_words w fs
fields_equal v w [] p = refl
fields_equal v w (f ∷ fs) p = ap (λ n. n + field_words v fs) p.0 ∙ ap (λ n. w f.kind.0 + n) (fields_equal v w fs p.1)

-- w and p, the words and pointers of values, are v and q at a type
abbrev pub AreAlike : (ℕ → ℕ) → (ℕ → ℕ) → (ℕ → ℕ → List ℕ) → (ℕ → ℕ → List ℕ) → ℕ → Type 0
AreAlike w v p q j = (w j ≡ v j) × ((at : ℕ) → p at j ≡ q at j)

field_pointers_equal : (w v : ℕ → ℕ) (p q : ℕ → ℕ → List ℕ) (fs : List Field) → EachField (AreAlike w v p q) fs → (at : ℕ) → field_pointers w p at fs ≡ field_pointers v q at fs
field_pointers_equal w v p q [] h at = refl
field_pointers_equal w v p q (f ∷ fs) h at =
    ap (λ xs. xs ++ field_pointers w p (at + w f.kind.0) fs) (h.0.1 at)
    ∙ ap (λ n. q at f.kind.0 ++ field_pointers w p (at + n) fs) h.0.0
    ∙ ap (λ xs. q at f.kind.0 ++ xs) (field_pointers_equal w v p q fs h.1 (at + v f.kind.0))

pub element_pointers_equal : (words : ℕ) (p q : ℕ → List ℕ) → ((k : ℕ) → p k ≡ q k) → (count at : ℕ) → element_pointers words p at count ≡ element_pointers words q at count
element_pointers_equal words p q h zero at = refl
element_pointers_equal words p q h (suc count) at =
    ap (λ xs. xs ++ element_pointers words p (at + words) count) (h at) ∙ ap (λ xs. q at ++ xs) (element_pointers_equal words p q h count (at + words))

module _ (nodes : List TypeNode) where
  words_equal : (v w : ℕ → ℕ) (n : TypeNode) → EachPart (λ j. v j ≡ w j) n → words_of_node nodes v n ≡ words_of_node nodes w n
  words_equal v w (Fields fields) p = fields_equal v w fields.now p
  words_equal v w (FixedArray index element) p = ap (λ k. size_of (head_at nodes index.0) * k) p
  words_equal v w _ p = refl

  words_step : (v w : ℕ → ℕ) (o : Option TypeNode) → HasParts (λ j. v j ≡ w j) o → option_map_or (words_of_node nodes v) o 0 ≡ option_map_or (words_of_node nodes w) o 0
  words_step v w None p = refl
  words_step v w (Some n) p = words_equal v w n p

  pointers_equal : (w v : ℕ → ℕ) (p q : ℕ → ℕ → List ℕ) (n : TypeNode) → EachPart (AreAlike w v p q) n → (at : ℕ) → pointers_of_node nodes w p at n ≡ pointers_of_node nodes v q at n
  pointers_equal w v p q (Fields fields) h at = field_pointers_equal w v p q fields.now h at
  pointers_equal w v p q (FixedArray index element) h at =
      let count = size_of (head_at nodes index.0) in
      ap (λ n. element_pointers n (λ k. p k element.0) at count) h.0 ∙ element_pointers_equal (v element.0) (λ k. p k element.0) (λ k. q k element.0) h.1 count at
  pointers_equal w v p q (RefTo brand target) h at = refl
  pointers_equal w v p q (Object brand parent fields methods overrides) h at = refl
  pointers_equal w v p q (Opaque bound secret) h at = refl
  pointers_equal w v p q Null h at = refl
  pointers_equal w v p q RefAny h at = refl
  pointers_equal w v p q Text h at = refl
  pointers_equal w v p q Mutex h at = refl
  pointers_equal w v p q Root h at = refl
  pointers_equal w v p q _ h at = refl

  pointers_step : (w v : ℕ → ℕ) (p q : ℕ → ℕ → List ℕ) (o : Option TypeNode) → HasParts (AreAlike w v p q) o → (at : ℕ) → option_map_or (pointers_of_node nodes w p at) o [] ≡ option_map_or (pointers_of_node nodes v q at) o []
  pointers_step w v p q None h at = refl
  pointers_step w v p q (Some n) h at = pointers_equal w v p q n h at

  effort_equal : (v w : ℕ → ℕ) (n : TypeNode) → EachPart (λ j. v j ≡ w j) n → effort_of_node nodes v n ≡ effort_of_node nodes w n
  effort_equal v w (Fields fields) p = ap (λ k. 2 + k) (fields_equal (λ j. 1 + v j) (λ j. 1 + w j) fields.now (each_field (λ j. v j ≡ w j) (λ j. 1 + v j ≡ 1 + w j) (λ j e. ap (λ k. 1 + k) e) fields.now p))
  effort_equal v w (FixedArray index element) p = ap (λ k. 2 + size_of (head_at nodes index.0) * (1 + k)) p
  effort_equal v w _ p = refl

  effort_step : (v w : ℕ → ℕ) (o : Option TypeNode) → HasParts (λ j. v j ≡ w j) o → option_map_or (effort_of_node nodes v) o 1 ≡ option_map_or (effort_of_node nodes w) o 1
  effort_step v w None p = refl
  effort_step v w (Some n) p = effort_equal v w n p

  -- one level more makes no difference
  pub words_stay : (depth i : ℕ) → IsSized nodes depth i → words_to_depth nodes (suc depth) i ≡ words_to_depth nodes depth i
  words_stay zero i s = absurd s
  words_stay (suc depth) i s =
      words_step (words_to_depth nodes (suc depth)) (words_to_depth nodes depth) (node_at nodes i) (has_parts (IsSized nodes depth) (λ j. words_to_depth nodes (suc depth) j ≡ words_to_depth nodes depth j) (words_stay depth) (node_at nodes i) s.0)

  pointers_stay : (depth i : ℕ) → IsSized nodes depth i → (at : ℕ) → pointers_to_depth nodes (suc depth) at i ≡ pointers_to_depth nodes depth at i
  pointers_stay zero i s at = absurd s
  pointers_stay (suc depth) i s at =
      let w = words_to_depth nodes (suc depth) in
      let v = words_to_depth nodes depth in
      let p = pointers_to_depth nodes (suc depth) in
      let q = pointers_to_depth nodes depth in
      pointers_step w v p q (node_at nodes i) (has_parts (IsSized nodes depth) (AreAlike w v p q) (λ j t. (words_stay depth j t, pointers_stay depth j t)) (node_at nodes i) s.0) at

  pub effort_stay : (depth i : ℕ) → IsSized nodes depth i → effort_to_depth nodes (suc depth) i ≡ effort_to_depth nodes depth i
  effort_stay zero i s = absurd s
  effort_stay (suc depth) i s =
      effort_step (effort_to_depth nodes (suc depth)) (effort_to_depth nodes depth) (node_at nodes i) (has_parts (IsSized nodes depth) (λ j. effort_to_depth nodes (suc depth) j ≡ effort_to_depth nodes depth j) (effort_stay depth) (node_at nodes i) s.0)

  pub sized_deeper : (depth i : ℕ) → IsSized nodes depth i → IsSized nodes (suc depth) i
  sized_deeper zero i s = absurd s
  sized_deeper (suc depth) i s =
      (has_parts (IsSized nodes depth) (IsSized nodes (suc depth)) (sized_deeper depth) (node_at nodes i) s.0, subst (λ k. k ≤ most_words) (sym (words_stay (suc depth) i s)) s.1)

  more_words : (more depth i : ℕ) → IsSized nodes depth i → IsSized nodes (depth + more) i × (words_to_depth nodes (depth + more) i ≡ words_to_depth nodes depth i)
  more_words zero depth i s = subst (λ (d : ℕ). IsSized nodes d i × (words_to_depth nodes d i ≡ words_to_depth nodes depth i)) (sym (add-zero depth)) (s, refl)
  more_words (suc more) depth i s =
      let r = more_words more depth i s in
      subst (λ (d : ℕ). IsSized nodes d i × (words_to_depth nodes d i ≡ words_to_depth nodes depth i)) (sym (add-suc depth more)) (sized_deeper (depth + more) i r.0, words_stay (depth + more) i r.0 ∙ r.1)

  -- the words are the same at any two depths that suffice
  words_alike : (depth other i : ℕ) → IsSized nodes depth i → IsSized nodes other i → words_to_depth nodes depth i ≡ words_to_depth nodes other i
  words_alike depth other i s t =
      let e : other + depth ≡ depth + other = omega arith in
      sym (more_words other depth i s).1 ∙ sym (ap (λ (d : ℕ). words_to_depth nodes d i) e) ∙ (more_words depth other i t).1

  pub words_told : (i words : ℕ) → AreWords nodes i words → IsSized nodes (length nodes) i → words ≡ value_words nodes i
  words_told i words h s = ∥∥₁_elim h (ℕ_set words (value_words nodes i)) (λ d. d.1.1 ∙ words_alike d.0 (length nodes) i d.1.0 s)

  -- a record: its fields have sizes, and its words, pointers and effort are theirs
  pub record OfFields (depth i : ℕ) (fs : List Field) : Type 0 where
    pub sizes : EachField (HasSize nodes) fs
    pub words : words_to_depth nodes depth i ≡ field_words (words_to_depth nodes depth) fs
    pub pointers : (at : ℕ) → pointers_to_depth nodes depth at i ≡ field_pointers (words_to_depth nodes depth) (pointers_to_depth nodes depth) at fs
    pub effort : effort_to_depth nodes depth i ≡ 2 + field_words (λ j. 1 + effort_to_depth nodes depth j) fs

  pub of_fields : (depth i : ℕ) (fields : Bor (List Field)) → node_at nodes i ≡ Some (Fields fields) → IsSized nodes depth i → OfFields depth i fields.now
  of_fields zero i fields e s = absurd s
  of_fields (suc depth) i fields e s =
      let fs = fields.now in
      let v = words_to_depth nodes depth in
      let w = words_to_depth nodes (suc depth) in
      let q = pointers_to_depth nodes depth in
      let p = pointers_to_depth nodes (suc depth) in
      let t : EachField (IsSized nodes depth) fs = subst (HasParts (IsSized nodes depth)) e s.0 in
      record {
        sizes = each_field (IsSized nodes depth) (HasSize nodes) (λ j t. ∣ (depth, t) ∣₁) fs t;
        words = ap (λ (o : Option TypeNode). option_map_or (words_of_node nodes (words_to_depth nodes depth)) o 0) e ∙ fields_equal (words_to_depth nodes depth) (words_to_depth nodes (suc depth)) fs (each_field (IsSized nodes depth) (λ j. words_to_depth nodes depth j ≡ words_to_depth nodes (suc depth) j) (λ j t. sym (words_stay depth j t)) fs t);
        pointers = λ at. ap (λ (o : Option TypeNode). option_map_or (pointers_of_node nodes v q at) o []) e ∙ field_pointers_equal v w q p fs (each_field (IsSized nodes depth) (AreAlike v w q p) (λ j t. (sym (words_stay depth j t), λ at. sym (pointers_stay depth j t at))) fs t) at;
        effort = ap (λ (o : Option TypeNode). option_map_or (effort_of_node nodes (effort_to_depth nodes depth)) o 1) e ∙ ap (λ k. 2 + k) (fields_equal (λ j. 1 + effort_to_depth nodes depth j) (λ j. 1 + effort_to_depth nodes (suc depth) j) fs (each_field (IsSized nodes depth) (λ j. 1 + effort_to_depth nodes depth j ≡ 1 + effort_to_depth nodes (suc depth) j) (λ j t. ap (λ k. 1 + k) (sym (effort_stay depth j t))) fs t));
      }

  -- a fixed array: its element type has a size, and its words, pointers and effort are those of its elements
  pub record OfElements (depth i index element : ℕ) : Type 0 where
    pub size : HasSize nodes element
    pub deep : IsSized nodes depth element
    pub words : words_to_depth nodes depth i ≡ size_of (head_at nodes index) * words_to_depth nodes depth element
    pub pointers : (at : ℕ) → pointers_to_depth nodes depth at i ≡ element_pointers (words_to_depth nodes depth element) (λ k. pointers_to_depth nodes depth k element) at (size_of (head_at nodes index))
    pub effort : effort_to_depth nodes depth i ≡ 2 + size_of (head_at nodes index) * (1 + effort_to_depth nodes depth element)

  pub of_elements : (depth i : ℕ) (index element : TypeId) → node_at nodes i ≡ Some (FixedArray index element) → IsSized nodes depth i → OfElements depth i index.0 element.0
  of_elements zero i index element e s = absurd s
  of_elements (suc depth) i index element e s =
      let t : IsSized nodes depth element.0 = subst (HasParts (IsSized nodes depth)) e s.0 in
      let count = size_of (head_at nodes index.0) in
      let v = words_to_depth nodes depth in
      let w = words_to_depth nodes (suc depth) in
      let q = pointers_to_depth nodes depth in
      let p = pointers_to_depth nodes (suc depth) in
      record {
        size = ∣ (depth, t) ∣₁;
        deep = sized_deeper depth element.0 t;
        words = ap (λ (o : Option TypeNode). option_map_or (words_of_node nodes (words_to_depth nodes depth)) o 0) e ∙ ap (λ k. count * k) (sym (words_stay depth element.0 t));
        pointers = λ at. ap (λ (o : Option TypeNode). option_map_or (pointers_of_node nodes v q at) o []) e ∙ ap (λ n. element_pointers n (λ k. q k element.0) at count) (sym (words_stay depth element.0 t)) ∙ element_pointers_equal (w element.0) (λ k. q k element.0) (λ k. p k element.0) (λ k. sym (pointers_stay depth element.0 t k)) count at;
        effort = ap (λ (o : Option TypeNode). option_map_or (effort_of_node nodes (effort_to_depth nodes depth)) o 1) e ∙ ap (λ k. 2 + count * (1 + k)) (sym (effort_stay depth element.0 t));
      }
