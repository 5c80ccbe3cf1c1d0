-- The pointers of an object's cell rise strictly and lie behind its header.
use Rattle.std.proofs.Common.{◌≡◌, ℕ, zero, suc, ◌+◌, ◌≤◌, List, [], ◌∷◌, map, Option, Some, None, subst, arith, All}
use Rattle.std.proofs.Math.Logic.{∥∥₁_elim}
use Rattle.std.specs.Coded.{×_prop, le_prop}
use Rattle.std.proofs.lemmas.List.Elements.{All-head, All-tail}
use Rattle.m3_types.specs.declared.nodes.TypeId.{TypeId}
use Rattle.m3_types.specs.declared.nodes.TypeNode.{TypeNode}
use Rattle.m3_types.specs.declared.nodes.TypeNode.TheVariants.{Object, Opaque, Mutex, Root}
use Rattle.m3_types.specs.declared.nodes.Reveal.{Reveal}
use Rattle.m3_types.specs.declared.nodes.Secret.TheVariants.{Revealed, Thread, Condition}
use Rattle.m3_types.specs.Definitions.{node_at}
use Rattle.m3_types_sizes.specs.Sizes.{most_words, words_to_depth, IsSized, HasSize, IsShallow}
use Rattle.m3_layout.specs.Pointers.{RisesWithin}
use Rattle.m3_layout.specs.Depths.{value_words, value_pointers, CanStand, own_words, own_pointers, line_words, line_pointers}
use Rattle.m3_layout.proofs.Depths.{each_field}
use Rattle.m3_layout.proofs.Rising.{value_rises, fields_rise, rises_append}

rises_prop : (low high : ℕ) (xs : List ℕ) → IsProp (RisesWithin low high xs)
rises_prop low high [] = le_prop
rises_prop low high (x ∷ xs) = ×_prop le_prop (rises_prop (suc x) high xs)

module _ (nodes : List TypeNode) (reveals : List Reveal) (shallow : IsShallow nodes) where
  pub size_rises : (j : ℕ) → HasSize nodes j → (at : ℕ) → RisesWithin at (at + value_words nodes j) (value_pointers nodes at j)
  size_rises j h at = ∥∥₁_elim (shallow j h) (rises_prop at (at + value_words nodes j) (value_pointers nodes at j)) (λ s. value_rises nodes j s at)

  own_rises : (i : ℕ) (o : Option TypeNode) → CanStand nodes reveals i o → (at : ℕ) → RisesWithin at (at + own_words nodes o) (own_pointers nodes at o)
  own_rises i None s at = absurd s
  own_rises i (Some (Object brand parent fields methods overrides)) s at =
      fields_rise (value_words nodes) (value_pointers nodes) fields.now (each_field (HasSize nodes) (λ j. (at : ℕ) → RisesWithin at (at + value_words nodes j) (value_pointers nodes at j)) size_rises fields.now s) at
  own_rises i (Some (Opaque bound Thread)) s at = (omega arith, omega arith)
  own_rises i (Some (Opaque bound Revealed)) s at = omega arith
  own_rises i (Some (Opaque bound Condition)) s at = omega arith
  own_rises i (Some Mutex) s at = omega arith
  own_rises i (Some Root) s at = omega arith
  own_rises i (Some _) s at = absurd s

  pub line_rises : (us : List TypeId) → All (λ (u : TypeId). CanStand nodes reveals u.0 (node_at nodes u.0)) us → (at : ℕ) → RisesWithin at (at + line_words nodes (map (λ (u : TypeId). u.0) us)) (line_pointers nodes at (map (λ (u : TypeId). u.0) us))
  line_rises [] s at = omega arith
  line_rises (u ∷ us) s at =
      let P = λ (u : TypeId). CanStand nodes reveals u.0 (node_at nodes u.0) in
      let own = own_words nodes (node_at nodes u.0) in
      let rest = line_words nodes (map (λ (u : TypeId). u.0) us) in
      let e : at + own + rest ≡ at + (own + rest) = omega arith in
      let tail = line_pointers nodes (at + own) (map (λ (u : TypeId). u.0) us) in
      rises_append at (at + own) (at + (own + rest)) (own_pointers nodes at (node_at nodes u.0)) tail (own_rises u.0 (node_at nodes u.0) (All-head P u us s) at) (subst (λ (n : ℕ). RisesWithin (at + own) n tail) e (line_rises us (All-tail P u us s) (at + own)))

pub sized_low : (nodes : List TypeNode) (depth i : ℕ) → IsSized nodes depth i → words_to_depth nodes depth i ≤ most_words
sized_low nodes zero i s = absurd s
sized_low nodes (suc depth) i s = s.1
