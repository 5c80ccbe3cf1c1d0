-- The rules on two types alone are closed under sameness and transitivity.
use Rattle.std.proofs.Common.{◌≡◌, ℕ, ℤ, zero, suc, ◌⊎◌, inl, inr, List, length, Option, Some, None, Bool, true, false, refl, sym, ◌∙◌, ap, subst, ⊎_elim, arith}
use Rattle.std.specs.Prelude.{IsTrue}
use Rattle.std.proofs.lemmas.Int.{ints}
use Rattle.m3_types.specs.declared.nodes.TypeNode.{TypeNode}
use Rattle.m3_types.specs.Definitions.{node_at, types_at, FormalHead, RaisesHead, AnyException, Exceptions, Head, head_at, ASubrange, AFixedArray, AnOpenArray, AnObject, AProcedure, ANull, ARefAny, AMutex, ARoot}
use Rattle.m3_types_subtype.specs.Sameness.{Matched, Same}
use Rattle.m3_types.specs.Kinds.{has_nil, is_below_refany, is_below_root}
use Rattle.m3_types_subtype.specs.Subtypes.{IsWithin, SubrangeBelow, FitsDimension, DimensionsFit, OpenFirst, ArrayBelow, RaisesWithin, ProcedureBelow, modes_of, Directly, same, null, refany, root, subrange, array, procedure}
use Rattle.m3_types_subtype.proofs.Agreement.{pairwise_chained, same_chained, same_turned}
use Rattle.m3_types_subtype.proofs.Shapes.{same_head, same_named, same_dimension, dimension_shape, size_is, element_is}

-- ---- small relations

root_below_refany : (h : Head) → IsTrue (is_below_root h) → IsTrue (is_below_refany h)
root_below_refany (AnObject a b c d) t = refl
root_below_refany AMutex t = refl
root_below_refany h t = absurd (let z : ⊥ = cc in z)

within_chained : (f l g m p q : ℤ) → IsWithin f l g m → IsWithin g m p q → IsWithin f l p q
within_chained f l g m p q (inl a) b = inl a
within_chained f l g m p q (inr a) (inl b) = inl (omega (arith, ints))
within_chained f l g m p q (inr a) (inr b) = inr (omega (arith, ints), omega (arith, ints))

fits_chained : (s t u : Option ℕ) → FitsDimension s t → FitsDimension t u → FitsDimension s u
fits_chained s t None a b = tt
fits_chained None None (Some n) a b = b
fits_chained None (Some m) (Some n) a b = a
fits_chained (Some k) (Some m) (Some n) a b = a ∙ b
fits_chained (Some k) None (Some n) a b = absurd b

raises_chained : (x y z : RaisesHead) → RaisesWithin x y → RaisesWithin y z → RaisesWithin x z
raises_chained x y AnyException a b = tt
raises_chained AnyException AnyException (Exceptions zs) a b = b
raises_chained AnyException (Exceptions ys) (Exceptions zs) a b = a
raises_chained (Exceptions xs) (Exceptions ys) (Exceptions zs) a b = λ e c. b e (a e c)
raises_chained (Exceptions xs) AnyException (Exceptions zs) a b = absurd b

formals_is : {fs gs : List FormalHead} {r s : Bool} {x y : RaisesHead} → AProcedure fs r x ≡ AProcedure gs s y → fs ≡ gs
formals_is h = cc

result_is : {fs gs : List FormalHead} {r s : Bool} {x y : RaisesHead} → AProcedure fs r x ≡ AProcedure gs s y → r ≡ s
result_is h = cc

raises_is : {fs gs : List FormalHead} {r s : Bool} {x y : RaisesHead} → AProcedure fs r x ≡ AProcedure gs s y → x ≡ y
raises_is h = cc

first_of_range : {f l g m : ℤ} → ASubrange f l ≡ ASubrange g m → f ≡ g
first_of_range h = cc

last_of_range : {f l g m : ℤ} → ASubrange f l ≡ ASubrange g m → l ≡ m
last_of_range h = cc

module _ (nodes : List TypeNode) where
  chain : (xs ys zs : List ℕ) → Matched (Same nodes) xs ys → Matched (Same nodes) ys zs → Matched (Same nodes) xs zs
  chain xs ys zs p q = pairwise_chained (Same nodes) (same_chained nodes) xs ys zs p q

  -- ---- arrays

  dimensions_same_left : (n x y z : ℕ) → Same nodes x y → DimensionsFit nodes n y z → DimensionsFit nodes n x z
  dimensions_same_left zero x y z p d = same_chained nodes x y z p d
  dimensions_same_left (suc n) x y z p d =
      let q = same_dimension nodes x y d.0 d.1 p d.4 in
      (d.0, q.0, d.2, d.3, q.1, d.5, d.6, dimensions_same_left n q.0 d.1 d.3 q.2 d.7)

  dimensions_same_right : (n x y z : ℕ) → DimensionsFit nodes n x y → Same nodes y z → DimensionsFit nodes n x z
  dimensions_same_right zero x y z d p = same_chained nodes x y z d p
  dimensions_same_right (suc n) x y z d p =
      let q = same_dimension nodes z y d.2 d.3 (same_turned nodes y z p) d.5 in
      (d.0, d.1, d.2, q.0, d.4, q.1, d.6, dimensions_same_right n d.1 d.3 q.0 d.7 (same_turned nodes q.0 d.3 q.2))

  dimensions_chained : (n m x y z : ℕ) → DimensionsFit nodes n x y → DimensionsFit nodes m y z → (k : ℕ) × (((k ≡ n) ⊎ (k ≡ m)) × DimensionsFit nodes k x z)
  dimensions_chained zero m x y z a b = (m, (inr refl, dimensions_same_left m x y z a b))
  dimensions_chained (suc n) zero x y z a b = (suc n, (inl refl, dimensions_same_right (suc n) x y z a b))
  dimensions_chained (suc n) (suc m) x y z a b =
      let size : a.2 ≡ b.0 = size_is a.2 b.0 a.3 b.1 (sym a.5 ∙ b.4) in
      let element : a.3 ≡ b.1 = element_is a.2 b.0 a.3 b.1 (sym a.5 ∙ b.4) in
      let q = dimensions_chained n m a.1 b.1 b.3 (subst (λ e. DimensionsFit nodes n a.1 e) element a.7) b.7 in
      let fit : FitsDimension a.0 b.2 = fits_chained a.0 b.0 b.2 (subst (FitsDimension a.0) size a.6) b.6 in
      (suc q.0, (⊎_elim (λ e. inl (ap suc e)) (λ e. inr (ap suc e)) q.1.0, (a.0, a.1, b.2, b.3, a.4, b.5, fit, q.1.1)))

  open_first_same : (n x y : ℕ) → Same nodes x y → OpenFirst nodes n y → OpenFirst nodes n x
  open_first_same zero x y p h = tt
  open_first_same (suc n) x y p h = λ s e d.
      let q = same_dimension nodes y x s e (same_turned nodes x y p) d in
      let r = h s q.0 q.1 in
      (λ f some o. let t = same_dimension nodes q.0 e None f q.2 o in r.0 t.0 some t.1, open_first_same n e q.0 (same_turned nodes q.0 e q.2) r.1)

  array_left : (n x y : ℕ) → DimensionsFit nodes (suc n) x y → (head_at nodes x ≡ AnOpenArray) ⊎ (head_at nodes x ≡ AFixedArray)
  array_left n x y d = ⊎_elim (λ o. inl o.0) (λ o. inr o.0) (dimension_shape nodes x d.0 d.1 (node_at nodes x) d.4)

  pub array_right : (n x y : ℕ) → DimensionsFit nodes (suc n) x y → (head_at nodes y ≡ AnOpenArray) ⊎ (head_at nodes y ≡ AFixedArray)
  array_right n x y d = ⊎_elim (λ o. inl o.0) (λ o. inr o.0) (dimension_shape nodes y d.2 d.3 (node_at nodes y) d.5)

  array_chained : (x y z : ℕ) → ArrayBelow nodes x y → ArrayBelow nodes y z → ArrayBelow nodes x z
  array_chained x y z a b =
      let q = dimensions_chained (suc a.2.0) (suc b.2.0) x y z a.2.2 b.2.2 in
      (a.0, b.1, ⊎_elim (λ e. (a.2.0, a.2.1, subst (λ k. DimensionsFit nodes k x z) e q.1.1)) (λ e. (b.2.0, b.2.1, subst (λ k. DimensionsFit nodes k x z) e q.1.1)) q.1.0)

  -- ---- sameness

  pub directly_from_same : (x y z : ℕ) → Same nodes x y → Directly nodes y z → Directly nodes x z
  directly_from_same x y z p (same q) = same (same_chained nodes x y z p q)
  directly_from_same x y z p (null q) = null (same_head nodes x y p ∙ q.0, q.1)
  directly_from_same x y z p (refany q) = refany (subst (λ h. IsTrue (is_below_refany h)) (sym (same_head nodes x y p)) q.0, q.1)
  directly_from_same x y z p (root q) = root (subst (λ h. IsTrue (is_below_root h)) (sym (same_head nodes x y p)) q.0, q.1)
  directly_from_same x y z p (subrange q) = subrange (q.0, q.1, q.2, q.3, same_head nodes x y p ∙ q.4, q.5, chain (types_at nodes x) (types_at nodes y) (types_at nodes z) (same_named nodes x y p) q.6, q.7)
  directly_from_same x y z p (array q) = array (open_first_same (length nodes) x y p q.0, q.1, (q.2.0, q.2.1, dimensions_same_left (suc q.2.0) x y z p q.2.2))
  directly_from_same x y z p (procedure q) = procedure ((q.0.0, q.0.1, q.0.2, q.0.3, q.0.4, q.0.5, same_head nodes x y p ∙ q.0.6, q.0.7, q.0.8, q.0.9, q.0.10), chain (types_at nodes x) (types_at nodes y) (types_at nodes z) (same_named nodes x y p) q.1)

  pub directly_to_same : (x y z : ℕ) → Directly nodes x y → Same nodes y z → Directly nodes x z
  directly_to_same x y z (same q) p = same (same_chained nodes x y z q p)
  directly_to_same x y z (null q) p = null (q.0, subst (λ h. IsTrue (has_nil h)) (same_head nodes y z p) q.1)
  directly_to_same x y z (refany q) p = refany (q.0, sym (same_head nodes y z p) ∙ q.1)
  directly_to_same x y z (root q) p = root (q.0, sym (same_head nodes y z p) ∙ q.1)
  directly_to_same x y z (subrange q) p = subrange (q.0, q.1, q.2, q.3, q.4, sym (same_head nodes y z p) ∙ q.5, chain (types_at nodes x) (types_at nodes y) (types_at nodes z) q.6 (same_named nodes y z p), q.7)
  directly_to_same x y z (array q) p = array (q.0, open_first_same (length nodes) z y (same_turned nodes y z p) q.1, (q.2.0, q.2.1, dimensions_same_right (suc q.2.0) x y z q.2.2 p))
  directly_to_same x y z (procedure q) p = procedure ((q.0.0, q.0.1, q.0.2, q.0.3, q.0.4, q.0.5, q.0.6, sym (same_head nodes y z p) ∙ q.0.7, q.0.8, q.0.9, q.0.10), chain (types_at nodes x) (types_at nodes y) (types_at nodes z) q.1 (same_named nodes y z p))

  -- ---- heads that differ

  never_root : (y : ℕ) (h : Head) → head_at nodes y ≡ h → is_below_root h ≡ false → IsTrue (is_below_root (head_at nodes y)) → ⊥
  never_root y h e f t = let u : is_below_root h ≡ true = ap is_below_root (sym e) ∙ t in cc

  never_refany : (y : ℕ) (h : Head) → head_at nodes y ≡ h → is_below_refany h ≡ false → IsTrue (is_below_refany (head_at nodes y)) → ⊥
  never_refany y h e f t = let u : is_below_refany h ≡ true = ap is_below_refany (sym e) ∙ t in cc

  never_nil : (y : ℕ) (h : Head) → head_at nodes y ≡ h → has_nil h ≡ false → IsTrue (has_nil (head_at nodes y)) → ⊥
  never_nil y h e f t = let u : has_nil h ≡ true = ap has_nil (sym e) ∙ t in cc

  apart : (y : ℕ) (h k : Head) → head_at nodes y ≡ h → head_at nodes y ≡ k → (h ≡ k → ⊥) → ⊥
  apart y h k p q n = n (sym p ∙ q)

  -- ---- transitivity

  after_null : (x y z : ℕ) → head_at nodes x ≡ ANull → IsTrue (has_nil (head_at nodes y)) → Directly nodes y z → Directly nodes x z
  after_null x y z n h (same q) = directly_to_same x y z (null (n, h)) q
  after_null x y z n h (null q) = null (n, q.1)
  after_null x y z n h (refany q) = null (n, ap has_nil q.1)
  after_null x y z n h (root q) = null (n, ap has_nil q.1)
  after_null x y z n h (subrange q) = absurd (never_nil y (ASubrange q.0 q.1) q.4 refl h)
  after_null x y z n h (array q) = absurd (⊎_elim (λ e. never_nil y AnOpenArray e refl h) (λ e. never_nil y AFixedArray e refl h) (array_left q.2.0 y z q.2.2))
  after_null x y z n h (procedure q) = null (n, ap has_nil q.0.7)

  after_refany : (x y z : ℕ) → IsTrue (is_below_refany (head_at nodes x)) → head_at nodes y ≡ ARefAny → Directly nodes y z → Directly nodes x z
  after_refany x y z b e (same q) = directly_to_same x y z (refany (b, e)) q
  after_refany x y z b e (null q) = absurd (apart y ARefAny ANull e q.0 (λ h. cc))
  after_refany x y z b e (refany q) = refany (b, q.1)
  after_refany x y z b e (root q) = absurd (never_root y ARefAny e refl q.0)
  after_refany x y z b e (subrange q) = absurd (apart y ARefAny (ASubrange q.0 q.1) e q.4 (λ h. cc))
  after_refany x y z b e (array q) = absurd (⊎_elim (λ o. apart y ARefAny AnOpenArray e o (λ h. cc)) (λ o. apart y ARefAny AFixedArray e o (λ h. cc)) (array_left q.2.0 y z q.2.2))
  after_refany x y z b e (procedure q) = absurd (apart y ARefAny (AProcedure q.0.0 q.0.1 q.0.2) e q.0.6 (λ h. cc))

  after_root : (x y z : ℕ) → IsTrue (is_below_root (head_at nodes x)) → head_at nodes y ≡ ARoot → Directly nodes y z → Directly nodes x z
  after_root x y z b e (same q) = directly_to_same x y z (root (b, e)) q
  after_root x y z b e (null q) = absurd (apart y ARoot ANull e q.0 (λ h. cc))
  after_root x y z b e (refany q) = refany (root_below_refany (head_at nodes x) b, q.1)
  after_root x y z b e (root q) = absurd (never_root y ARoot e refl q.0)
  after_root x y z b e (subrange q) = absurd (apart y ARoot (ASubrange q.0 q.1) e q.4 (λ h. cc))
  after_root x y z b e (array q) = absurd (⊎_elim (λ o. apart y ARoot AnOpenArray e o (λ h. cc)) (λ o. apart y ARoot AFixedArray e o (λ h. cc)) (array_left q.2.0 y z q.2.2))
  after_root x y z b e (procedure q) = absurd (apart y ARoot (AProcedure q.0.0 q.0.1 q.0.2) e q.0.6 (λ h. cc))

  after_subrange : (x y z : ℕ) → SubrangeBelow nodes x y → Directly nodes y z → Directly nodes x z
  after_subrange x y z p (same q) = directly_to_same x y z (subrange p) q
  after_subrange x y z p (null q) = absurd (apart y (ASubrange p.2 p.3) ANull p.5 q.0 (λ h. cc))
  after_subrange x y z p (refany q) = absurd (never_refany y (ASubrange p.2 p.3) p.5 refl q.0)
  after_subrange x y z p (root q) = absurd (never_root y (ASubrange p.2 p.3) p.5 refl q.0)
  after_subrange x y z p (subrange q) =
      let e : ASubrange p.2 p.3 ≡ ASubrange q.0 q.1 = sym p.5 ∙ q.4 in
      let w : IsWithin p.0 p.1 q.0 q.1 = subst (λ a. IsWithin p.0 p.1 a q.1) (first_of_range e) (subst (λ a. IsWithin p.0 p.1 p.2 a) (last_of_range e) p.7) in
      subrange (p.0, p.1, q.2, q.3, p.4, q.5, chain (types_at nodes x) (types_at nodes y) (types_at nodes z) p.6 q.6, within_chained p.0 p.1 q.0 q.1 q.2 q.3 w q.7)
  after_subrange x y z p (array q) = absurd (⊎_elim (λ o. apart y (ASubrange p.2 p.3) AnOpenArray p.5 o (λ h. cc)) (λ o. apart y (ASubrange p.2 p.3) AFixedArray p.5 o (λ h. cc)) (array_left q.2.0 y z q.2.2))
  after_subrange x y z p (procedure q) = absurd (apart y (ASubrange p.2 p.3) (AProcedure q.0.0 q.0.1 q.0.2) p.5 q.0.6 (λ h. cc))

  after_array : (x y z : ℕ) → ArrayBelow nodes x y → Directly nodes y z → Directly nodes x z
  after_array x y z p (same q) = directly_to_same x y z (array p) q
  after_array x y z p (null q) = absurd (⊎_elim (λ o. apart y AnOpenArray ANull o q.0 (λ h. cc)) (λ o. apart y AFixedArray ANull o q.0 (λ h. cc)) (array_right p.2.0 x y p.2.2))
  after_array x y z p (refany q) = absurd (⊎_elim (λ o. never_refany y AnOpenArray o refl q.0) (λ o. never_refany y AFixedArray o refl q.0) (array_right p.2.0 x y p.2.2))
  after_array x y z p (root q) = absurd (⊎_elim (λ o. never_root y AnOpenArray o refl q.0) (λ o. never_root y AFixedArray o refl q.0) (array_right p.2.0 x y p.2.2))
  after_array x y z p (subrange q) = absurd (⊎_elim (λ o. apart y AnOpenArray (ASubrange q.0 q.1) o q.4 (λ h. cc)) (λ o. apart y AFixedArray (ASubrange q.0 q.1) o q.4 (λ h. cc)) (array_right p.2.0 x y p.2.2))
  after_array x y z p (array q) = array (array_chained x y z p q)
  after_array x y z p (procedure q) = absurd (⊎_elim (λ o. apart y AnOpenArray (AProcedure q.0.0 q.0.1 q.0.2) o q.0.6 (λ h. cc)) (λ o. apart y AFixedArray (AProcedure q.0.0 q.0.1 q.0.2) o q.0.6 (λ h. cc)) (array_right p.2.0 x y p.2.2))

  after_procedure : (x y z : ℕ) → ProcedureBelow nodes x y → Directly nodes y z → Directly nodes x z
  after_procedure x y z p (same q) = directly_to_same x y z (procedure p) q
  after_procedure x y z p (null q) = absurd (apart y (AProcedure p.0.3 p.0.4 p.0.5) ANull p.0.7 q.0 (λ h. cc))
  after_procedure x y z p (refany q) = absurd (never_refany y (AProcedure p.0.3 p.0.4 p.0.5) p.0.7 refl q.0)
  after_procedure x y z p (root q) = absurd (never_root y (AProcedure p.0.3 p.0.4 p.0.5) p.0.7 refl q.0)
  after_procedure x y z p (subrange q) = absurd (apart y (AProcedure p.0.3 p.0.4 p.0.5) (ASubrange q.0 q.1) p.0.7 q.4 (λ h. cc))
  after_procedure x y z p (array q) = absurd (⊎_elim (λ o. apart y (AProcedure p.0.3 p.0.4 p.0.5) AnOpenArray p.0.7 o (λ h. cc)) (λ o. apart y (AProcedure p.0.3 p.0.4 p.0.5) AFixedArray p.0.7 o (λ h. cc)) (array_left q.2.0 y z q.2.2))
  after_procedure x y z p (procedure q) =
      let a = p.0 in
      let b = q.0 in
      let e : AProcedure a.3 a.4 a.5 ≡ AProcedure b.0 b.1 b.2 = sym a.7 ∙ b.6 in
      procedure ((a.0, a.1, a.2, b.3, b.4, b.5, a.6, b.7, a.8 ∙ ap modes_of (formals_is e) ∙ b.8, a.9 ∙ result_is e ∙ b.9, raises_chained a.2 b.2 b.5 (subst (RaisesWithin a.2) (raises_is e) a.10) b.10), chain (types_at nodes x) (types_at nodes y) (types_at nodes z) p.1 q.1)

  pub directly_chained : (x y z : ℕ) → Directly nodes x y → Directly nodes y z → Directly nodes x z
  directly_chained x y z (same p) q = directly_from_same x y z p q
  directly_chained x y z (null p) q = after_null x y z p.0 p.1 q
  directly_chained x y z (refany p) q = after_refany x y z p.0 p.1 q
  directly_chained x y z (root p) q = after_root x y z p.0 p.1 q
  directly_chained x y z (subrange p) q = after_subrange x y z p q
  directly_chained x y z (array p) q = after_array x y z p q
  directly_chained x y z (procedure p) q = after_procedure x y z p q
