-- The pointers of a value rise strictly and lie in it.
use Rattle.std.proofs.Common.{◌≡◌, ℕ, zero, suc, ◌+◌, ◌*◌, ◌-◌, ◌<◌, ◌≤◌, List, [], ◌∷◌, ◌++◌, length, Option, Some, None, subst, arith, All}
use Rattle.std.specs.Option.{option_map_or}
use Rattle.std.specs.List.{AllByRecursion}
use Rattle.std.proofs.lemmas.List.Elements.{All-from_recursion}
use Rattle.m3_types.specs.declared.nodes.Field.{Field}
use Rattle.m3_types.specs.declared.nodes.TypeNode.{TypeNode}
use Rattle.m3_types.specs.declared.nodes.TypeNode.TheVariants.{Reserved, Integer, Boolean, Character, Enumeration, Subrange, FixedArray, OpenArray, Fields, SetOf, RefTo, Object, Procedure, Opaque, Null, RefAny, Text, Mutex, Root, Constant}
use Rattle.m3_types.specs.Definitions.{node_at, head_at}
use Rattle.m3_types.specs.Kinds.{size_of}
use Rattle.m3_types_sizes.specs.Sizes.{field_words, set_words, words_of_node, words_to_depth, EachField, EachPart, HasParts, IsSized}
use Rattle.m3_layout.specs.Pointers.{field_pointers, element_pointers, pointers_of_node, pointers_to_depth, RisesWithin}
use Rattle.m3_layout.specs.Depths.{value_words, value_pointers}
use Rattle.m3_layout.proofs.Depths.{has_parts}

pub rises_lower : (low low' high : ℕ) (xs : List ℕ) → low' ≤ low → RisesWithin low high xs → RisesWithin low' high xs
rises_lower low low' high [] l r = omega arith
rises_lower low low' high (x ∷ xs) l r = ((omega (arith, r.0)), r.1)

rises_bound : (low high : ℕ) (xs : List ℕ) → RisesWithin low high xs → low ≤ high
rises_bound low high [] r = r
rises_bound low high (x ∷ xs) r = let b : suc x ≤ high = rises_bound (suc x) high xs r.1 in omega (arith, r.0)

pub rises_append : (low mid high : ℕ) (xs ys : List ℕ) → RisesWithin low mid xs → RisesWithin mid high ys → RisesWithin low high (xs ++ ys)
rises_append low mid high [] ys r s = rises_lower mid low high ys r s
rises_append low mid high (x ∷ xs) ys r s = (r.0, rises_append (suc x) mid high xs ys r.1 s)

-- each is in the range
each_in : (a low high : ℕ) (xs : List ℕ) → a ≤ low → RisesWithin low (a + high) xs → AllByRecursion (λ p. (a ≤ p) × (p - a < high)) xs
each_in a low high [] l r = tt
each_in a low high (x ∷ xs) l r =
    let b : suc x ≤ a + high = rises_bound (suc x) (a + high) xs r.1 in
    ((omega (arith, r.0), omega (arith, r.0)), each_in a (suc x) high xs (omega (arith, r.0)) r.1)

pub rises_all : (a low high : ℕ) (xs : List ℕ) → a ≤ low → RisesWithin low (a + high) xs → All (λ p. (a ≤ p) × (p - a < high)) xs
rises_all a low high xs l r = All-from_recursion (λ p. (a ≤ p) × (p - a < high)) xs (each_in a low high xs l r)

one_rises : (at : ℕ) → RisesWithin at (at + 1) (at ∷ [])
one_rises at = (omega arith, omega arith)

abbrev Rises : (ℕ → ℕ) → (ℕ → ℕ → List ℕ) → ℕ → Type 0
Rises w p j = (at : ℕ) → RisesWithin at (at + w j) (p at j)

pub fields_rise : (w : ℕ → ℕ) (p : ℕ → ℕ → List ℕ) (fs : List Field) → EachField (Rises w p) fs → (at : ℕ) → RisesWithin at (at + field_words w fs) (field_pointers w p at fs)
fields_rise w p [] h at = omega arith
fields_rise w p (f ∷ fs) h at =
    let e : at + w f.kind.0 + field_words w fs ≡ at + (w f.kind.0 + field_words w fs) = omega arith in
    rises_append at (at + w f.kind.0) (at + (w f.kind.0 + field_words w fs)) (p at f.kind.0) (field_pointers w p (at + w f.kind.0) fs) (h.0 at) (subst (λ n. RisesWithin (at + w f.kind.0) n (field_pointers w p (at + w f.kind.0) fs)) e (fields_rise w p fs h.1 (at + w f.kind.0)))

elements_rise : (words : ℕ) (p : ℕ → List ℕ) → ((at : ℕ) → RisesWithin at (at + words) (p at)) → (count at : ℕ) → RisesWithin at (at + count * words) (element_pointers words p at count)
elements_rise words p h zero at = omega arith
elements_rise words p h (suc count) at =
    let e : at + words + count * words ≡ at + suc count * words = omega arith in
    rises_append at (at + words) (at + suc count * words) (p at) (element_pointers words p (at + words) count) (h at) (subst (λ n. RisesWithin (at + words) n (element_pointers words p (at + words) count)) e (elements_rise words p h count (at + words)))

module _ (nodes : List TypeNode) where
  node_rises : (w : ℕ → ℕ) (p : ℕ → ℕ → List ℕ) (n : TypeNode) → EachPart (Rises w p) n → (at : ℕ) → RisesWithin at (at + words_of_node nodes w n) (pointers_of_node nodes w p at n)
  node_rises w p (Fields fields) h at = fields_rise w p fields.now h at
  node_rises w p (FixedArray index element) h at = elements_rise (w element.0) (λ k. p k element.0) h (size_of (head_at nodes index.0)) at
  node_rises w p (OpenArray element) h at = absurd h
  node_rises w p Reserved h at = absurd h
  node_rises w p (Constant value) h at = absurd h
  node_rises w p (RefTo brand target) h at = one_rises at
  node_rises w p (Object brand parent fields methods overrides) h at = one_rises at
  node_rises w p (Opaque bound secret) h at = one_rises at
  node_rises w p Null h at = one_rises at
  node_rises w p RefAny h at = one_rises at
  node_rises w p Text h at = one_rises at
  node_rises w p Mutex h at = one_rises at
  node_rises w p Root h at = one_rises at
  node_rises w p Integer h at = omega arith
  node_rises w p Boolean h at = omega arith
  node_rises w p Character h at = omega arith
  node_rises w p (Enumeration names) h at = omega arith
  node_rises w p (Subrange base first last) h at = omega arith
  node_rises w p (SetOf base) h at = let m = set_words (size_of (head_at nodes base.0)) in le_more at m
    where
      le_more : (a m : ℕ) → a ≤ a + m
      le_more a m = omega arith
  node_rises w p (Procedure formals result raises) h at = omega arith

  option_rises : (w : ℕ → ℕ) (p : ℕ → ℕ → List ℕ) (o : Option TypeNode) → HasParts (Rises w p) o → (at : ℕ) → RisesWithin at (at + option_map_or (words_of_node nodes w) o 0) (option_map_or (pointers_of_node nodes w p at) o [])
  option_rises w p None h at = absurd h
  option_rises w p (Some n) h at = node_rises w p n h at

  depth_rises : (depth i : ℕ) → IsSized nodes depth i → (at : ℕ) → RisesWithin at (at + words_to_depth nodes depth i) (pointers_to_depth nodes depth at i)
  depth_rises zero i s at = absurd s
  depth_rises (suc depth) i s at =
      let w = words_to_depth nodes depth in
      let p = pointers_to_depth nodes depth in
      option_rises w p (node_at nodes i) (has_parts (IsSized nodes depth) (Rises w p) (depth_rises depth) (node_at nodes i) s.0) at

  pub value_rises : (i : ℕ) → IsSized nodes (length nodes) i → (at : ℕ) → RisesWithin at (at + value_words nodes i) (value_pointers nodes at i)
  value_rises i s at = depth_rises (length nodes) i s at
