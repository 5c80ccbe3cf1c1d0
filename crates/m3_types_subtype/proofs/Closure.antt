-- The subtype relation is what going upwards from the first type reaches.
use Rattle.std.proofs.Common.{◌≡◌, ℕ, List, Some, true, false, refl, sym, ◌∙◌, ap, subst, ⊎_elim}
use Rattle.m3_types.specs.declared.nodes.TypeNode.{TypeNode}
use Rattle.m3_types.specs.declared.nodes.Reveal.{Reveal}
use Rattle.m3_types.specs.Definitions.{node_at, types_at, Head, head_at, ASubrange, AFixedArray, AnOpenArray, AProcedure, AnOpaque, ANull, ARefAny, ARoot}
use Rattle.m3_types_subtype.specs.Sameness.{Matched, Same}
use Rattle.m3_types.specs.Kinds.{named_above}
use Rattle.m3_types_subtype.specs.Subtypes.{Directly, same, null, refany, root, subrange, array, procedure, Subtype, directly, transitive, above, revealed, hidden, Step, up, reveal, hide, nil, Steps, start, further}
use Rattle.m3_types_subtype.proofs.Agreement.{same_itself}
use Rattle.m3_types_subtype.proofs.Shapes.{same_head, same_above, same_opaque, is_upward, up_shape, shape_up, one_part}
use Rattle.m3_types_subtype.proofs.Transitivity.{directly_chained, array_right}

module _ (nodes : List TypeNode) (reveals : List Reveal) (view : ℕ) where
  -- from the first type upwards, and from there the second directly
  abbrev pub Reaches : ℕ → ℕ → Type 0
  Reaches a b = (z : ℕ) × (Steps nodes reveals view a z × Directly nodes z b)

  -- a type that is directly below another reaches what a step from the other reaches
  abbrev Follows : ℕ → ℕ → Type 0
  Follows z y = (w : ℕ) × (Steps nodes reveals view z w × Directly nodes w y)

  one_step : (z w y : ℕ) → Step nodes reveals view z w → Directly nodes w y → Follows z y
  one_step z w y s d = (w, (further start s, d))

  -- no type stands above one with this head by its own definition
  stays : (y p : ℕ) (h : Head) → head_at nodes y ≡ h → is_upward h ≡ false → ((j : ℕ) → h ≡ AnOpaque j → ⊥) → named_above (node_at nodes y) ≡ Some p → ⊥
  stays y p h e f n u =
      ⊎_elim (λ o. n y (sym e ∙ o)) (λ o. let t : is_upward h ≡ true = ap is_upward (sym e) ∙ o.0 in let z : ⊥ = cc in z) (up_shape y p (node_at nodes y) u)

  up_follows : (z y p : ℕ) → Directly nodes z y → named_above (node_at nodes y) ≡ Some p → Follows z p
  up_follows z y p (same d) u = let q = same_above nodes z y p d u in one_step z q.0 p (up q.1) (same q.2)
  up_follows z y p (null d) u = (p, (further (further start (nil d)) (up u), same (same_itself nodes p)))
  up_follows z y p (refany d) u = absurd (stays y p ARefAny d.1 refl (λ j h. cc) u)
  up_follows z y p (root d) u = absurd (stays y p ARoot d.1 refl (λ j h. cc) u)
  up_follows z y p (subrange d) u =
      ⊎_elim
      (λ o. absurd (let e : ASubrange d.2 d.3 ≡ AnOpaque y = sym d.5 ∙ o in let w : ⊥ = cc in w))
      (λ o.
      let q = one_part nodes p o.1.0 (types_at nodes z) (subst (Matched (Same nodes) (types_at nodes z)) o.1.1 d.6) in
      one_step z q.0 p (up (shape_up z q.0 q.1.0 (node_at nodes z) (ap is_upward d.4) q.1.1)) (same q.1.2))
      (up_shape y p (node_at nodes y) u)
  up_follows z y p (array d) u =
      absurd (⊎_elim (λ o. stays y p AnOpenArray o refl (λ j h. cc) u) (λ o. stays y p AFixedArray o refl (λ j h. cc) u) (array_right nodes d.2.0 z y d.2.2))
  up_follows z y p (procedure d) u = absurd (stays y p (AProcedure d.0.3 d.0.4 d.0.5) d.0.7 refl (λ j h. cc) u)

  -- what is directly below an opaque type is NULL or that type
  opaque_follows : (z y p : ℕ) → head_at nodes y ≡ AnOpaque y → Directly nodes z y → Step nodes reveals view y p → Follows z p
  opaque_follows z y p o (same d) s = let e : z ≡ y = same_opaque nodes z y d o in one_step z p p (subst (λ k. Step nodes reveals view k p) (sym e) s) (same (same_itself nodes p))
  opaque_follows z y p o (null d) s = (p, (further (further start (nil d)) s, same (same_itself nodes p)))
  opaque_follows z y p o (refany d) s = absurd (let e : AnOpaque y ≡ ARefAny = sym o ∙ d.1 in let w : ⊥ = cc in w)
  opaque_follows z y p o (root d) s = absurd (let e : AnOpaque y ≡ ARoot = sym o ∙ d.1 in let w : ⊥ = cc in w)
  opaque_follows z y p o (subrange d) s = absurd (let e : AnOpaque y ≡ ASubrange d.2 d.3 = sym o ∙ d.5 in let w : ⊥ = cc in w)
  opaque_follows z y p o (array d) s =
      absurd (⊎_elim (λ q. let e : AnOpaque y ≡ AnOpenArray = sym o ∙ q in let w : ⊥ = cc in w) (λ q. let e : AnOpaque y ≡ AFixedArray = sym o ∙ q in let w : ⊥ = cc in w) (array_right nodes d.2.0 z y d.2.2))
  opaque_follows z y p o (procedure d) s = absurd (let e : AnOpaque y ≡ AProcedure d.0.3 d.0.4 d.0.5 = sym o ∙ d.0.7 in let w : ⊥ = cc in w)

  -- what is directly below NULL is NULL
  null_follows : (z y : ℕ) → head_at nodes y ≡ ANull → Directly nodes z y → head_at nodes z ≡ ANull
  null_follows z y o (same d) = same_head nodes z y d ∙ o
  null_follows z y o (null d) = d.0
  null_follows z y o (refany d) = absurd (let e : ANull ≡ ARefAny = sym o ∙ d.1 in let w : ⊥ = cc in w)
  null_follows z y o (root d) = absurd (let e : ANull ≡ ARoot = sym o ∙ d.1 in let w : ⊥ = cc in w)
  null_follows z y o (subrange d) = absurd (let e : ANull ≡ ASubrange d.2 d.3 = sym o ∙ d.5 in let w : ⊥ = cc in w)
  null_follows z y o (array d) =
      absurd (⊎_elim (λ q. let e : ANull ≡ AnOpenArray = sym o ∙ q in let w : ⊥ = cc in w) (λ q. let e : ANull ≡ AFixedArray = sym o ∙ q in let w : ⊥ = cc in w) (array_right nodes d.2.0 z y d.2.2))
  null_follows z y o (procedure d) = absurd (let e : ANull ≡ AProcedure d.0.3 d.0.4 d.0.5 = sym o ∙ d.0.7 in let w : ⊥ = cc in w)

  step_follows : (z y p : ℕ) → Directly nodes z y → Step nodes reveals view y p → Follows z p
  step_follows z y p d (up u) = up_follows z y p d u
  step_follows z y p d (reveal r) = opaque_follows z y p r.5 d (reveal r)
  step_follows z y p d (hide {z = m} r q) = one_step z p p (hide r (directly_chained nodes z y m d q)) (same (same_itself nodes p))
  step_follows z y p d (nil n) = one_step z p p (nil (null_follows z y n.0 d, n.1)) (same (same_itself nodes p))

  steps_chained : (a x y : ℕ) → Steps nodes reveals view a x → Steps nodes reveals view x y → Steps nodes reveals view a y
  steps_chained a x y p start = p
  steps_chained a x y p (further {x = m} q s) = further (steps_chained a x m p q) s

  reaches_steps : (a b y : ℕ) → Reaches a b → Steps nodes reveals view b y → Reaches a y
  reaches_steps a b y r start = r
  reaches_steps a b y r (further {x = m} q s) =
      let before = reaches_steps a b m r q in
      let f = step_follows before.0 m y before.1.1 s in
      (f.0, (steps_chained a before.0 f.0 before.1.0 f.1.0, f.1.1))

  pub reaches_chained : (a b c : ℕ) → Reaches a b → Reaches b c → Reaches a c
  reaches_chained a b c p q =
      let r = reaches_steps a b q.0 p q.1.0 in
      (r.0, (r.1.0, directly_chained nodes r.0 q.0 c r.1.1 q.1.1))

  -- each subtype is reached
  pub subtype_reaches : (a b : ℕ) → Subtype nodes reveals view a b → Reaches a b
  subtype_reaches a b (directly d) = (a, (start, d))
  subtype_reaches a c (transitive {b = b} p q) = reaches_chained a b c (subtype_reaches a b p) (subtype_reaches b c q)
  subtype_reaches a b (above u) = (b, (further start (up u), same (same_itself nodes b)))
  subtype_reaches a b (revealed r) = (b, (further start (reveal r), same (same_itself nodes b)))
  subtype_reaches a b (hidden r) = (b, (further start (hide r (same (same_itself nodes a))), same (same_itself nodes b)))

  step_subtype : (x y : ℕ) → Step nodes reveals view x y → Subtype nodes reveals view x y
  step_subtype x y (up u) = above u
  step_subtype x y (reveal r) = revealed r
  step_subtype x y (hide r d) = transitive (directly d) (hidden r)
  step_subtype x y (nil n) = directly (null n)

  steps_subtype : (a x : ℕ) → Steps nodes reveals view a x → Subtype nodes reveals view a x
  steps_subtype a x start = directly (same (same_itself nodes a))
  steps_subtype a x (further {x = m} p s) = transitive (steps_subtype a m p) (step_subtype m x s)

  -- and what is reached is a subtype
  pub reaches_subtype : (a b : ℕ) → Reaches a b → Subtype nodes reveals view a b
  reaches_subtype a b r = transitive (steps_subtype a r.0 r.1.0) (directly r.1.1)
