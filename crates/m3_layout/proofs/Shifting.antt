-- The pointers of a value that begins at another word.
use Rattle.std.proofs.Common.{◌≡◌, ℕ, zero, suc, ◌+◌, ◌-◌, List, [], ◌∷◌, ◌++◌, map, length, Option, Some, None, refl, sym, ◌∙◌, ap, arith, add_assoc}
use Rattle.std.specs.Option.{option_map_or}
use Rattle.std.proofs.lemmas.List.{map-append}
use Rattle.m3_types.specs.declared.nodes.Field.{Field}
use Rattle.m3_types.specs.declared.nodes.TypeNode.{TypeNode}
use Rattle.m3_types.specs.declared.nodes.TypeNode.TheVariants.{FixedArray, Fields, RefTo, Object, Opaque, Null, RefAny, Text, Mutex, Root}
use Rattle.m3_types.specs.Definitions.{node_at, head_at}
use Rattle.m3_types.specs.Kinds.{size_of}
use Rattle.m3_types_sizes.specs.Sizes.{words_to_depth}
use Rattle.m3_layout.specs.Pointers.{field_pointers, element_pointers, pointers_of_node, pointers_to_depth}
use Rattle.m3_layout.specs.Depths.{value_pointers}

-- from a word on to another
abbrev pub moved : ℕ → ℕ → ℕ → ℕ
moved a b p = p - a + b

one_moved : (a b k : ℕ) → map (moved a b) ((a + k) ∷ []) ≡ (b + k) ∷ []
one_moved a b k = let e : a + k - a + b ≡ b + k = omega arith in ap (λ n. n ∷ []) e

fields_moved : (w : ℕ → ℕ) (p : ℕ → ℕ → List ℕ) (a b : ℕ) → ((j k : ℕ) → map (moved a b) (p (a + k) j) ≡ p (b + k) j) → (fs : List Field) (k : ℕ) → map (moved a b) (field_pointers w p (a + k) fs) ≡ field_pointers w p (b + k) fs
fields_moved w p a b h [] k = refl
fields_moved w p a b h (f ∷ fs) k =
    map-append (moved a b) (p (a + k) f.kind.0) (field_pointers w p (a + k + w f.kind.0) fs)
    ∙ ap (λ xs. xs ++ map (moved a b) (field_pointers w p (a + k + w f.kind.0) fs)) (h f.kind.0 k)
    ∙ ap (λ n. p (b + k) f.kind.0 ++ map (moved a b) (field_pointers w p n fs)) (add_assoc a k (w f.kind.0))
    ∙ ap (λ xs. p (b + k) f.kind.0 ++ xs) (fields_moved w p a b h fs (k + w f.kind.0))
    ∙ ap (λ n. p (b + k) f.kind.0 ++ field_pointers w p n fs) (sym (add_assoc b k (w f.kind.0)))

elements_moved : (words : ℕ) (p : ℕ → List ℕ) (a b : ℕ) → ((k : ℕ) → map (moved a b) (p (a + k)) ≡ p (b + k)) → (count k : ℕ) → map (moved a b) (element_pointers words p (a + k) count) ≡ element_pointers words p (b + k) count
elements_moved words p a b h zero k = refl
elements_moved words p a b h (suc count) k =
    map-append (moved a b) (p (a + k)) (element_pointers words p (a + k + words) count)
    ∙ ap (λ xs. xs ++ map (moved a b) (element_pointers words p (a + k + words) count)) (h k)
    ∙ ap (λ n. p (b + k) ++ map (moved a b) (element_pointers words p n count)) (add_assoc a k words)
    ∙ ap (λ xs. p (b + k) ++ xs) (elements_moved words p a b h count (k + words))
    ∙ ap (λ n. p (b + k) ++ element_pointers words p n count) (sym (add_assoc b k words))

module _ (nodes : List TypeNode) where
  node_moved : (w : ℕ → ℕ) (p : ℕ → ℕ → List ℕ) (a b : ℕ) → ((j k : ℕ) → map (moved a b) (p (a + k) j) ≡ p (b + k) j) → (n : TypeNode) (k : ℕ) → map (moved a b) (pointers_of_node nodes w p (a + k) n) ≡ pointers_of_node nodes w p (b + k) n
  node_moved w p a b h (Fields fields) k = fields_moved w p a b h fields.now k
  node_moved w p a b h (FixedArray index element) k = elements_moved (w element.0) (λ m. p m element.0) a b (h element.0) (size_of (head_at nodes index.0)) k
  node_moved w p a b h (RefTo brand target) k = one_moved a b k
  node_moved w p a b h (Object brand parent fields methods overrides) k = one_moved a b k
  node_moved w p a b h (Opaque bound secret) k = one_moved a b k
  node_moved w p a b h Null k = one_moved a b k
  node_moved w p a b h RefAny k = one_moved a b k
  node_moved w p a b h Text k = one_moved a b k
  node_moved w p a b h Mutex k = one_moved a b k
  node_moved w p a b h Root k = one_moved a b k
  node_moved w p a b h _ k = refl

  option_moved : (w : ℕ → ℕ) (p : ℕ → ℕ → List ℕ) (a b : ℕ) → ((j k : ℕ) → map (moved a b) (p (a + k) j) ≡ p (b + k) j) → (o : Option TypeNode) (k : ℕ) → map (moved a b) (option_map_or (pointers_of_node nodes w p (a + k)) o []) ≡ option_map_or (pointers_of_node nodes w p (b + k)) o []
  option_moved w p a b h None k = refl
  option_moved w p a b h (Some n) k = node_moved w p a b h n k

  depth_moved : (a b depth i k : ℕ) → map (moved a b) (pointers_to_depth nodes depth (a + k) i) ≡ pointers_to_depth nodes depth (b + k) i
  depth_moved a b zero i k = refl
  depth_moved a b (suc depth) i k = option_moved (words_to_depth nodes depth) (pointers_to_depth nodes depth) a b (λ j k. depth_moved a b depth j k) (node_at nodes i) k

  pub value_moved : (a b i : ℕ) → map (moved a b) (value_pointers nodes a i) ≡ value_pointers nodes b i
  value_moved a b i =
      let x : a + 0 ≡ a = omega arith in
      let y : b + 0 ≡ b = omega arith in
      ap (λ n. map (moved a b) (value_pointers nodes n i)) (sym x) ∙ depth_moved a b (length nodes) i 0 ∙ ap (λ n. value_pointers nodes n i) y
