-- Which of the ways of laying out the cells of a type is taken.
use Rattle.std.proofs.Common.{◌≡◌, ℕ, ◌+◌, ◌<◌, ◌^◌, List, length, Option, Some, None, sym, subst}
use Rattle.std.specs.Prelude.{Bool, IsTrue, IfSome, IfNone, is_some}
use Rattle.std.proofs.Math.Logic.{∥∥₁_elim}
use Rattle.m3_types.specs.declared.nodes.TypeNode.{TypeNode}
use Rattle.m3_types.specs.declared.nodes.TypeNode.TheVariants.{OpenArray, RefTo}
use Rattle.m3_types.specs.declared.nodes.Reveal.{Reveal}
use Rattle.m3_types.specs.Definitions.{node_at}
use Rattle.m3_types_sizes.specs.Sizes.{HasSize, IsShallow}
use Rattle.m3_layout.specs.Cells.{Layout, array_element, IsTarget, ref_target, unveiled, IsCellIn, IsCell, HasCell}
use Rattle.m3_layout.specs.Depths.{open_element, line_of, line_words, object_cell, target_cell, EndsWithin}
use Rattle.m3_layout.proofs.Chains.{some_is}
use Rattle.m3_layout.proofs.Targets.{Fits, target_fits}
use Rattle.m3_layout.proofs.Objects.{object_fits}

module _ (nodes : List TypeNode) (reveals : List Reveal) (shallow : IsShallow nodes) where
  -- the type has cells exactly where P holds, and this is then their layout
  pub record Chosen (i : ℕ) (P : Type 0) (cell : Layout) : Type 0 where
    pub to : HasCell nodes reveals i → P
    pub from : P → HasCell nodes reveals i
    pub laid : (layout : Layout) → layout ≡ cell → HasCell nodes reveals i → IsCell nodes reveals i layout

  abbrev ChosenIn : ℕ → Option TypeNode → Type 0 → Layout → Type 0
  ChosenIn i o P cell = Fits P (IsCellIn nodes reveals i o) cell

  shown_is : (i shown : ℕ) (P : Type 0) (cell : Layout) → shown ≡ unveiled nodes reveals i → ChosenIn shown (node_at nodes shown) P cell → Chosen i P cell
  shown_is i shown P cell e c =
      let d : ChosenIn (unveiled nodes reveals i) (node_at nodes (unveiled nodes reveals i)) P cell = subst (λ (k : ℕ). ChosenIn k (node_at nodes k) P cell) e c in
      let to : HasCell nodes reveals i → P = λ h. ∥∥₁_elim h d.unique (λ l. d.to l.0 l.1 l.2 l.3) in
      record {
        to = to;
        from = λ p. ∣ (cell, d.is p, d.dims p, d.words p) ∣₁;
        laid = λ layout e h. subst (λ (l : Layout). IsCell nodes reveals i l) (sym e) (d.is (to h));
      }

  target_in : (i target : ℕ) (o : Option TypeNode) → Some target ≡ ref_target o → ChosenIn i o (HasSize nodes (open_element nodes target)) (target_cell nodes target (node_at nodes target))
  target_in i target None h = let z : ⊥ = cc in absurd z
  target_in i target (Some (RefTo brand t)) h =
      subst (λ (k : ℕ). Fits (HasSize nodes (open_element nodes target)) (IsTarget nodes k) (target_cell nodes target (node_at nodes target))) (some_is h) (target_fits nodes shallow target)
  target_in i target (Some _) h = let z : ⊥ = cc in absurd z

  open_in : (i element : ℕ) (o : Option TypeNode) → Some element ≡ array_element o → ChosenIn i o (HasSize nodes (open_element nodes i)) (target_cell nodes i (node_at nodes i))
  open_in i element None h = let z : ⊥ = cc in absurd z
  open_in i element (Some (OpenArray e)) h = target_fits nodes shallow i
  open_in i element (Some _) h = let z : ⊥ = cc in absurd z

  object_in : (i : ℕ) (o : Option TypeNode) → None ≡ ref_target o → None ≡ array_element o → ChosenIn i o (EndsWithin nodes reveals (length nodes) i × (1 + line_words nodes (line_of nodes reveals i) < 2 ^ 64)) (object_cell nodes reveals i)
  object_in i None r a = object_fits nodes reveals shallow i
  object_in i (Some (RefTo brand t)) r a = let z : ⊥ = cc in absurd z
  object_in i (Some (OpenArray e)) r a = let z : ⊥ = cc in absurd z
  object_in i (Some _) r a = object_fits nodes reveals shallow i

  pub target_chosen : (i shown target : ℕ) → shown ≡ unveiled nodes reveals i → Some target ≡ ref_target (node_at nodes shown) → Chosen i (HasSize nodes (open_element nodes target)) (target_cell nodes target (node_at nodes target))
  target_chosen i shown target e h = shown_is i shown _ _ e (target_in shown target (node_at nodes shown) h)

  pub open_chosen : (i shown element : ℕ) → shown ≡ unveiled nodes reveals i → Some element ≡ array_element (node_at nodes shown) → Chosen i (HasSize nodes (open_element nodes shown)) (target_cell nodes shown (node_at nodes shown))
  open_chosen i shown element e h = shown_is i shown _ _ e (open_in shown element (node_at nodes shown) h)

  pub object_chosen : (i shown : ℕ) → shown ≡ unveiled nodes reveals i → None ≡ ref_target (node_at nodes shown) → None ≡ array_element (node_at nodes shown) → Chosen i (EndsWithin nodes reveals (length nodes) shown × (1 + line_words nodes (line_of nodes reveals shown) < 2 ^ 64)) (object_cell nodes reveals shown)
  object_chosen i shown e r a = shown_is i shown _ _ e (object_in shown (node_at nodes shown) r a)

pub told : (r : Option ℕ) (b : Bool) (A : Type 0) (x : ℕ) → b ≡ is_some r → IfSome r (λ w. A × (w ≡ x) × (w < 2 ^ 64)) → IfNone r (A → x < 2 ^ 64 → ⊥) → (IsTrue b → A × (x < 2 ^ 64)) × (A × (x < 2 ^ 64) → IsTrue b)
told None b A x e s n = (λ t. (let z : ⊥ = cc in absurd z), λ p. absurd (n p.0 p.1))
told (Some w) b A x e s n = (λ t. (s.0, subst (λ (k : ℕ). k < 2 ^ 64) s.1 s.2), λ p. e)
