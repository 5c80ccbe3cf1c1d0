-- Values behind a header, and the elements of open arrays, lie as Cells says.
use Rattle.std.proofs.Common.{◌≡◌, ℕ, zero, suc, ◌+◌, ◌<◌, ◌≤◌, ◌^◌, List, [], ◌∷◌, length, Option, Some, None, refl, sym, ◌∙◌, ap, subst, arith}
use Rattle.std.proofs.Math.Logic.{∥∥₁_elim, ∥∥₁_prop}
use Rattle.std.proofs.Math.Nat.{ℕ_set}
use Rattle.std.specs.Coded.{le_prop}
use Rattle.std.specs.List.{AllByRecursion}
use Rattle.std.specs.Option.{option_map_or}
use Rattle.std.proofs.lemmas.Option.{slice_get_within}
use Rattle.m3_types.specs.declared.nodes.TypeNode.{TypeNode}
use Rattle.m3_types.specs.declared.nodes.TypeNode.TheVariants.{OpenArray}
use Rattle.m3_types.specs.Definitions.{node_at}
use Rattle.m3_types_sizes.specs.Sizes.{most_words, HasParts, IsSized, HasSize, IsShallow, AreWords}
use Rattle.m3_layout.specs.Cells.{Layout, first_word, IsValue, array_element, IsBelow, IsTarget}
use Rattle.m3_layout.specs.Depths.{value_words, value_pointers, most_dims, element_below, dims_below, open_element, open_dims, value_cell, target_cell}
use Rattle.m3_layout.proofs.Depths.{words_told}
use Rattle.m3_layout.proofs.InOrder.{sized_low}
use Rattle.m3_layout.proofs.Opening.{none_below, target_plain, target_open}
use Rattle.m3_layout.proofs.Chains.{IsChain, chain_short}

pub absurd_prop : (x y : ⊥) → x ≡ y
absurd_prop x y = absurd x

-- What a layout says of a cell holds of one that is told, and what has such a layout can be told.
pub record Fits (P : Type 0) (IsLaid : Layout → Type 0) (cell : Layout) : Type 0 where
  pub to : (layout : Layout) → IsLaid layout → layout.dims < 2 ^ 32 → layout.words < 2 ^ 64 → P
  pub is : P → IsLaid cell
  pub unique : (x y : P) → x ≡ y
  pub dims : P → cell.dims < 2 ^ 32
  pub words : P → cell.words < 2 ^ 64

-- ---- a type that has a size

no_array : (P : ℕ → Type 0) (o : Option TypeNode) → HasParts P o → array_element o ≡ None
no_array P None h = absurd h
no_array P (Some (OpenArray element)) h = absurd h
no_array P (Some _) h = refl

is_none : (o : Option ℕ) → ((j : ℕ) → o ≡ Some j → ⊥) → o ≡ None
is_none None h = refl
is_none (Some j) h = absurd (h j refl)

module _ (nodes : List TypeNode) where
  sized_plain : (depth i : ℕ) → IsSized nodes depth i → array_element (node_at nodes i) ≡ None
  sized_plain zero i s = absurd s
  sized_plain (suc depth) i s = no_array (IsSized nodes depth) (node_at nodes i) s.0

  no_element : (i : ℕ) → HasSize nodes i → array_element (node_at nodes i) ≡ None
  no_element i h = is_none (array_element (node_at nodes i)) (λ j e. ∥∥₁_elim h absurd_prop (λ d. (let f : None ≡ Some j = sym (sized_plain d.0 i d.1) ∙ e in let z : ⊥ = cc in z)))

  parts_there : (P : ℕ → Type 0) (i : ℕ) (o : Option TypeNode) → node_at nodes i ≡ o → HasParts P o → i < length nodes
  parts_there P i None e h = absurd h
  parts_there P i (Some n) e h = slice_get_within nodes i n e

  sized_there : (depth i : ℕ) → IsSized nodes depth i → i < length nodes
  sized_there zero i s = absurd s
  sized_there (suc depth) i s = parts_there (IsSized nodes depth) i (node_at nodes i) refl s.0

  size_there : (i : ℕ) → HasSize nodes i → i < length nodes
  size_there i h = ∥∥₁_elim h le_prop (λ d. sized_there d.0 i d.1)

  pub words_size : (i w : ℕ) → AreWords nodes i w → HasSize nodes i
  words_size i w h = ∥∥₁_elim h ∥∥₁_prop (λ d. ∣ (d.0, d.1.0) ∣₁)

  -- ---- the dimensions of an open array

  array_there : (i j : ℕ) (o : Option TypeNode) → node_at nodes i ≡ o → array_element o ≡ Some j → i < length nodes
  array_there i j None e h = let z : ⊥ = cc in absurd z
  array_there i j (Some n) e h = slice_get_within nodes i n e

  below_step : (limit i : ℕ) (o : Option ℕ) → array_element (node_at nodes i) ≡ o → ((j : ℕ) → HasSize nodes (element_below nodes limit j) → IsBelow nodes (dims_below nodes limit j) j (element_below nodes limit j)) → HasSize nodes (option_map_or (element_below nodes limit) o i) → IsBelow nodes (option_map_or (λ j. suc (dims_below nodes limit j)) o 0) i (option_map_or (element_below nodes limit) o i)
  below_step limit i None e r h = (refl, e)
  below_step limit i (Some j) e r h = (j, e, r j h)

  element_is : (limit i : ℕ) → HasSize nodes (element_below nodes limit i) → IsBelow nodes (dims_below nodes limit i) i (element_below nodes limit i)
  element_is zero i h = (refl, no_element i h)
  element_is (suc limit) i h = below_step limit i (array_element (node_at nodes i)) refl (element_is limit) h

  low_step : (limit : ℕ) (o : Option ℕ) → ((j : ℕ) → dims_below nodes limit j ≤ limit) → option_map_or (λ j. suc (dims_below nodes limit j)) o 0 ≤ suc limit
  low_step limit None r = omega arith
  low_step limit (Some j) r = let l = r j in omega (arith, l)

  dims_low : (limit i : ℕ) → dims_below nodes limit i ≤ limit
  dims_low zero i = omega arith
  dims_low (suc limit) i = low_step limit (array_element (node_at nodes i)) (dims_low limit)

  -- the arrays that lie below one another, and what lies below them all
  record Nest (dims i : ℕ) : Type 0 where
    js : List ℕ
    chain : IsChain (λ k. array_element (node_at nodes k)) i js
    many : length js ≡ dims
    there : AllByRecursion (λ k. k < length nodes) (i ∷ js)

  nest : (dims i e : ℕ) → HasSize nodes e → IsBelow nodes dims i e → Nest dims i
  nest zero i e h b = record { js = []; chain = b.1; many = refl; there = (subst (λ (k : ℕ). k < length nodes) (sym b.0) (size_there e h), tt) }
  nest (suc dims) i e h b =
      let n = nest dims b.0 e h b.2 in
      record { js = b.0 ∷ n.js; chain = (b.1, n.chain); many = omega (arith, n.many); there = (array_there i b.0 (node_at nodes i) refl b.1, n.there) }

  few_dims : (dims i e : ℕ) → HasSize nodes e → IsBelow nodes dims i e → dims < length nodes
  few_dims dims i e h b =
      let n = nest dims i e h b in
      let l = chain_short (λ (k : ℕ). array_element (node_at nodes k)) (length nodes) i n.js n.chain n.there in
      omega (arith, l, n.many)

  element_told : (limit dims i e : ℕ) → dims ≤ limit → IsBelow nodes dims i e → element_below nodes limit i ≡ e
  element_told limit zero i e l b = (none_below nodes limit i (sym b.1)).0 ∙ b.0
  element_told zero (suc dims) i e l b = absurd (omega arith)
  element_told (suc limit) (suc dims) i e l b =
      ap (λ (o : Option ℕ). option_map_or (element_below nodes limit) o i) b.1 ∙ element_told limit dims b.0 e (omega arith) b.2

  target_same : (i d : ℕ) → open_dims nodes i ≡ d → target_cell nodes i (node_at nodes i) ≡ value_cell nodes (first_word d) d (open_element nodes i)
  target_same i zero e = target_plain nodes i e
  target_same i (suc d) e =
      target_open nodes i (λ z. (let y : suc d ≡ 0 = sym e ∙ z in omega (arith, y))) ∙ ap (λ (k : ℕ). value_cell nodes 0 k (open_element nodes i)) e

header_low : (d : ℕ) → first_word d ≤ 1
header_low zero = omega arith
header_low (suc d) = omega arith

-- ---- what is told is what Cells says

module _ (nodes : List TypeNode) (shallow : IsShallow nodes) where
  pub value_is : (i at : ℕ) → HasSize nodes i → IsValue nodes at i (value_words nodes i) (value_pointers nodes at i)
  value_is i at h = (∥∥₁_elim (shallow i h) ∥∥₁_prop (λ s. ∣ (length nodes, (s, refl)) ∣₁), ∥∥₁_elim (shallow i h) ∥∥₁_prop (λ s. ∣ (length nodes, (s, refl)) ∣₁))

  pub one_words : (i w : ℕ) → AreWords nodes i w → w ≡ value_words nodes i
  one_words i w h = ∥∥₁_elim (shallow i (words_size nodes i w h)) (ℕ_set w (value_words nodes i)) (λ s. words_told nodes i w h s)

  value_low : (i : ℕ) → HasSize nodes i → value_words nodes i ≤ most_words
  value_low i h = ∥∥₁_elim (shallow i h) le_prop (λ s. sized_low nodes (length nodes) i s)

  pub value_outside : (i dims : ℕ) (layout : Layout) → layout ≡ value_cell nodes 0 dims i → HasSize nodes i → IsValue nodes 0 i layout.words layout.pointers × (layout.dims ≡ dims)
  value_outside i dims layout e h =
      let words : 0 + value_words nodes i ≡ value_words nodes i = omega arith in
      let told : IsValue nodes 0 i (0 + value_words nodes i) (value_pointers nodes 0 i) = subst (λ (n : ℕ). IsValue nodes 0 i n (value_pointers nodes 0 i)) (sym words) (value_is i 0 h) in
      subst (λ (l : Layout). IsValue nodes 0 i l.words l.pointers × (l.dims ≡ dims)) (sym e) (told, refl)

  pub target_fits : (i : ℕ) → Fits (HasSize nodes (open_element nodes i)) (IsTarget nodes i) (target_cell nodes i (node_at nodes i))
  target_fits i =
      let d = open_dims nodes i in
      let e = open_element nodes i in
      let P : Layout → Type 0 = λ (cell : Layout). Fits (HasSize nodes e) (IsTarget nodes i) cell in
      let many = dims_low nodes (most_dims nodes) i in
      let here : P (value_cell nodes (first_word d) d e) = record {
        to = λ layout t few fits. (
            let size = words_size nodes t.0 t.2.0 t.2.2.0 in
            let l = few_dims nodes layout.dims i t.0 size t.1 in
            let within : layout.dims ≤ most_dims nodes = omega (arith, l, few) in
            subst (HasSize nodes) (sym (element_told nodes (most_dims nodes) layout.dims i t.0 within t.1)) size);
        is = λ h. (e, element_is nodes (most_dims nodes) i h, (value_words nodes e, refl, value_is e (first_word d) h));
        unique = ∥∥₁_prop;
        dims = λ h. omega (arith, many);
        words = λ h. (let l = value_low e h in let m = header_low d in omega (arith, l, m));
      } in
      subst P (sym (target_same nodes i d refl)) here
