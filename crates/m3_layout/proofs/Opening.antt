-- The dimensions and the element type of an open array.
use Rattle.std.proofs.Common.{◌≡◌, ℕ, zero, suc, ◌-◌, List, [], ◌∷◌, Option, Some, None, refl, sym, ◌∙◌, ap, arith}
use Rattle.std.specs.Option.{option_map_or}
use Rattle.m3_types.specs.declared.nodes.TypeNode.{TypeNode}
use Rattle.m3_types.specs.declared.nodes.TypeNode.TheVariants.{OpenArray}
use Rattle.m3_types.specs.Definitions.{node_at}
use Rattle.m3_layout.specs.Cells.{array_element, first_word}
use Rattle.m3_layout.specs.Depths.{most_dims, element_below, dims_below, open_element, open_dims, plain_cell, open_cell, target_cell}

module _ (nodes : List TypeNode) where
  -- one dimension further
  pub one_below : (limit limit' i below : ℕ) → limit ≡ suc limit' → Some below ≡ array_element (node_at nodes i) → (element_below nodes limit i ≡ element_below nodes limit' below) × (dims_below nodes limit i ≡ suc (dims_below nodes limit' below))
  one_below limit limit' i below el e = (
    ap (λ (k : ℕ). element_below nodes k i) el ∙ sym (ap (λ (o : Option ℕ). option_map_or (element_below nodes limit') o i) e),
    ap (λ (k : ℕ). dims_below nodes k i) el ∙ sym (ap (λ (o : Option ℕ). option_map_or (λ j. suc (dims_below nodes limit' j)) o 0) e),
  )

  -- no dimension further
  pub none_below : (limit i : ℕ) → None ≡ array_element (node_at nodes i) → (element_below nodes limit i ≡ i) × (dims_below nodes limit i ≡ 0)
  none_below zero i e = (refl, refl)
  none_below (suc limit) i e =
      (sym (ap (λ (o : Option ℕ). option_map_or (element_below nodes limit) o i) e), sym (ap (λ (o : Option ℕ). option_map_or (λ j. suc (dims_below nodes limit j)) o 0) e))

  plain_at : (limit i : ℕ) (o : Option TypeNode) → option_map_or (λ j. suc (dims_below nodes limit j)) (array_element o) 0 ≡ 0 → target_cell nodes i o ≡ plain_cell nodes (option_map_or (element_below nodes limit) (array_element o) i)
  plain_at limit i None h = refl
  plain_at limit i (Some (OpenArray element)) h = absurd (omega arith)
  plain_at limit i (Some _) h = refl

  open_at : (limit i : ℕ) (o : Option TypeNode) → (option_map_or (λ j. suc (dims_below nodes limit j)) (array_element o) 0 ≡ 0 → ⊥) → target_cell nodes i o ≡ open_cell nodes i
  open_at limit i None h = absurd (h refl)
  open_at limit i (Some (OpenArray element)) h = refl
  open_at limit i (Some _) h = absurd (h refl)

some_dims : (x : TypeNode) (xs : List TypeNode) → most_dims (x ∷ xs) ≡ suc (most_dims (x ∷ xs) - 1)
some_dims x xs = omega arith

pub target_plain : (nodes : List TypeNode) (i : ℕ) → open_dims nodes i ≡ 0 → target_cell nodes i (node_at nodes i) ≡ plain_cell nodes (open_element nodes i)
target_plain [] i h = refl
target_plain (x ∷ xs) i h =
    let nodes : List TypeNode = x ∷ xs in
    let limit = most_dims nodes - 1 in
    let d : dims_below nodes (suc limit) i ≡ 0 = ap (λ (k : ℕ). dims_below nodes k i) (sym (some_dims x xs)) ∙ h in
    plain_at nodes limit i (node_at nodes i) d ∙ ap (λ (k : ℕ). plain_cell nodes (element_below nodes k i)) (sym (some_dims x xs))

pub target_open : (nodes : List TypeNode) (i : ℕ) → (open_dims nodes i ≡ 0 → ⊥) → target_cell nodes i (node_at nodes i) ≡ open_cell nodes i
target_open [] i h = absurd (h refl)
target_open (x ∷ xs) i h =
    let nodes : List TypeNode = x ∷ xs in
    let limit = most_dims nodes - 1 in
    open_at nodes limit i (node_at nodes i) (λ d. h (ap (λ (k : ℕ). dims_below nodes k i) (some_dims x xs) ∙ d))

pub no_header : (dims : ℕ) → (dims ≡ 0 → ⊥) → first_word dims ≡ 0
no_header zero h = absurd (h refl)
no_header (suc dims) h = refl
