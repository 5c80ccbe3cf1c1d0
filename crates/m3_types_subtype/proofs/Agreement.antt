-- Sameness is an equivalence, and the parts of two same types are the same. Classes whose members agree
-- with one another at their top hold same types alone.
use Rattle.std.proofs.Common.{◌≡◌, ℕ, zero, suc, ◌<◌, List, [], ◌∷◌, length, get_or, All, Contains, refl, sym, ◌∙◌, ap, arith}
use Rattle.std.proofs.lemmas.List.Elements.{All-contains}
use Rattle.m3_types.specs.declared.nodes.TypeNode.{TypeNode}
use Rattle.m3_types.specs.Definitions.{parts_at}
use Rattle.m3_types_subtype.specs.Sameness.{Matched, EqualToDepth, Same}
use Rattle.m3_types_subtype.specs.Classes.{SameClass}
use Rattle.m3_types_subtype.specs.Assumptions.{Linked, given, itself, turned, chained, Agrees}

pub pairwise_weaker : (R S : ℕ → ℕ → Type 0) → ((i j : ℕ) → R i j → S i j) → (xs ys : List ℕ) → Matched R xs ys → Matched S xs ys
pairwise_weaker R S h [] [] p = tt
pairwise_weaker R S h (x ∷ xs) (y ∷ ys) p = (h x y p.0, pairwise_weaker R S h xs ys p.1)
pairwise_weaker R S h [] (y ∷ ys) p = p
pairwise_weaker R S h (x ∷ xs) [] p = p

pub pairwise_itself : (R : ℕ → ℕ → Type 0) → ((i : ℕ) → R i i) → (xs : List ℕ) → Matched R xs xs
pairwise_itself R h [] = tt
pairwise_itself R h (x ∷ xs) = (h x, pairwise_itself R h xs)

pub pairwise_turned : (R : ℕ → ℕ → Type 0) → ((i j : ℕ) → R i j → R j i) → (xs ys : List ℕ) → Matched R xs ys → Matched R ys xs
pairwise_turned R h [] [] p = tt
pairwise_turned R h (x ∷ xs) (y ∷ ys) p = (h x y p.0, pairwise_turned R h xs ys p.1)
pairwise_turned R h [] (y ∷ ys) p = p
pairwise_turned R h (x ∷ xs) [] p = p

pub pairwise_chained : (R : ℕ → ℕ → Type 0) → ((i j k : ℕ) → R i j → R j k → R i k) → (xs ys zs : List ℕ) → Matched R xs ys → Matched R ys zs → Matched R xs zs
pairwise_chained R h [] [] zs p q = q
pairwise_chained R h (x ∷ xs) (y ∷ ys) (z ∷ zs) p q = (h x y z p.0 q.0, pairwise_chained R h xs ys zs p.1 q.1)
pairwise_chained R h (x ∷ xs) (y ∷ ys) [] p q = q
pairwise_chained R h [] (y ∷ ys) zs p q = absurd p
pairwise_chained R h (x ∷ xs) [] zs p q = absurd p

pub pairwise_at : (R : ℕ → ℕ → Type 0) (xs ys : List ℕ) (k : ℕ) → Matched R xs ys → k < length xs → R (get_or xs k 0) (get_or ys k 0)
pairwise_at R [] ys k p l = absurd (omega arith)
pairwise_at R (x ∷ xs) (y ∷ ys) zero p l = p.0
pairwise_at R (x ∷ xs) (y ∷ ys) (suc k) p l = pairwise_at R xs ys k p.1 (omega arith)
pairwise_at R (x ∷ xs) [] k p l = absurd p

pub pairwise_from_places : (R : ℕ → ℕ → Type 0) (xs ys : List ℕ) → length xs ≡ length ys → ((k : ℕ) → k < length xs → R (get_or xs k 0) (get_or ys k 0)) → Matched R xs ys
pairwise_from_places R [] [] e h = tt
pairwise_from_places R (x ∷ xs) (y ∷ ys) e h = (h zero (omega arith), pairwise_from_places R xs ys (omega arith) (λ k l. h (suc k) (omega arith)))
pairwise_from_places R [] (y ∷ ys) e h = let l : 0 ≡ suc (length ys) = e in omega arith
pairwise_from_places R (x ∷ xs) [] e h = let l : suc (length xs) ≡ 0 = e in omega arith

pub pairwise_length : (R : ℕ → ℕ → Type 0) (xs ys : List ℕ) → Matched R xs ys → length xs ≡ length ys
pairwise_length R [] [] p = refl
pairwise_length R (x ∷ xs) (y ∷ ys) p = ap suc (pairwise_length R xs ys p.1)
pairwise_length R [] (y ∷ ys) p = absurd p
pairwise_length R (x ∷ xs) [] p = absurd p

pairwise_at_each_depth : (R : ℕ → ℕ → ℕ → Type 0) (xs ys : List ℕ) → ((n : ℕ) → Matched (R n) xs ys) → Matched (λ i j. (n : ℕ) → R n i j) xs ys
pairwise_at_each_depth R [] [] h = tt
pairwise_at_each_depth R (x ∷ xs) (y ∷ ys) h = (λ n. (h n).0, pairwise_at_each_depth R xs ys (λ n. (h n).1))
pairwise_at_each_depth R [] (y ∷ ys) h = h 0
pairwise_at_each_depth R (x ∷ xs) [] h = h 0

module _ (nodes : List TypeNode) where
  pub equal_itself : (n i : ℕ) → EqualToDepth nodes n i i
  equal_itself zero i = tt
  equal_itself (suc n) i = (refl, pairwise_itself (EqualToDepth nodes n) (equal_itself n) (parts_at nodes i))

  equal_turned : (n i j : ℕ) → EqualToDepth nodes n i j → EqualToDepth nodes n j i
  equal_turned zero i j p = tt
  equal_turned (suc n) i j p = (sym p.0, pairwise_turned (EqualToDepth nodes n) (equal_turned n) (parts_at nodes i) (parts_at nodes j) p.1)

  equal_chained : (n i j k : ℕ) → EqualToDepth nodes n i j → EqualToDepth nodes n j k → EqualToDepth nodes n i k
  equal_chained zero i j k p q = tt
  equal_chained (suc n) i j k p q = (p.0 ∙ q.0, pairwise_chained (EqualToDepth nodes n) (equal_chained n) (parts_at nodes i) (parts_at nodes j) (parts_at nodes k) p.1 q.1)

  pub same_itself : (i : ℕ) → Same nodes i i
  same_itself i n = equal_itself n i

  pub same_turned : (i j : ℕ) → Same nodes i j → Same nodes j i
  same_turned i j p n = equal_turned n i j (p n)

  pub same_chained : (i j k : ℕ) → Same nodes i j → Same nodes j k → Same nodes i k
  same_chained i j k p q n = equal_chained n i j k (p n) (q n)

  -- two same types agree at their top, and their parts are the same
  pub same_agrees : (i j : ℕ) → Same nodes i j → Agrees nodes (Same nodes) i j
  same_agrees i j p = ((p 1).0, pairwise_at_each_depth (EqualToDepth nodes) (parts_at nodes i) (parts_at nodes j) (λ n. (p (suc n)).1))

  pub agrees_same : (i j : ℕ) → Agrees nodes (Same nodes) i j → Same nodes i j
  agrees_same i j p zero = tt
  agrees_same i j p (suc n) = (p.0, pairwise_weaker (Same nodes) (EqualToDepth nodes n) (λ x y q. q n) (parts_at nodes i) (parts_at nodes j) p.1)

  pub agrees_weaker : (R S : ℕ → ℕ → Type 0) → ((i j : ℕ) → R i j → S i j) → (i j : ℕ) → Agrees nodes R i j → Agrees nodes S i j
  agrees_weaker R S h i j p = (p.0, pairwise_weaker R S h (parts_at nodes i) (parts_at nodes j) p.1)

  -- what the pairs make equal agrees if the two of each pair do
  linked_agree : (parent : ℕ → ℕ) (pairs : List (ℕ × ℕ)) (i j : ℕ) → All (λ p. Agrees nodes (SameClass parent) p.0 p.1) pairs → Linked pairs i j → Agrees nodes (SameClass parent) i j
  linked_agree parent pairs i j all (given c) = All-contains (λ p. Agrees nodes (SameClass parent) p.0 p.1) pairs (i, j) all c
  linked_agree parent pairs i j all itself = (refl, pairwise_itself (SameClass parent) (λ x. refl) (parts_at nodes i))
  linked_agree parent pairs i j all (turned p) =
      let q = linked_agree parent pairs j i all p in
      (sym q.0, pairwise_turned (SameClass parent) (λ x y e. sym e) (parts_at nodes j) (parts_at nodes i) q.1)
  linked_agree parent pairs i k all (chained {j = j} p q) =
      let a = linked_agree parent pairs i j all p in
      let b = linked_agree parent pairs j k all q in
      (a.0 ∙ b.0, pairwise_chained (SameClass parent) (λ x y z e f. e ∙ f) (parts_at nodes i) (parts_at nodes j) (parts_at nodes k) a.1 b.1)

  classes_equal : (parent : ℕ → ℕ) → ((i j : ℕ) → SameClass parent i j → Agrees nodes (SameClass parent) i j) → (n i j : ℕ) → SameClass parent i j → EqualToDepth nodes n i j
  classes_equal parent h zero i j p = tt
  classes_equal parent h (suc n) i j p =
      let q = h i j p in
      (q.0, pairwise_weaker (SameClass parent) (EqualToDepth nodes n) (classes_equal parent h n) (parts_at nodes i) (parts_at nodes j) q.1)

  -- classes that the pairs make, where the two of each pair agree, hold same types
  pub classes_same : (parent : ℕ → ℕ) (pairs : List (ℕ × ℕ)) → ((i j : ℕ) → SameClass parent i j → Linked pairs i j) → All (λ p. Agrees nodes (SameClass parent) p.0 p.1) pairs → (i j : ℕ) → SameClass parent i j → Same nodes i j
  classes_same parent pairs sound all i j p n = classes_equal parent (λ x y q. linked_agree parent pairs x y all (sound x y q)) n i j p

pub linked_more : (old new : List (ℕ × ℕ)) → ((p : ℕ × ℕ) → Contains old p → Contains new p) → (i j : ℕ) → Linked old i j → Linked new i j
linked_more old new h i j (given c) = given (h (i, j) c)
linked_more old new h i j itself = itself
linked_more old new h i j (turned p) = turned (linked_more old new h j i p)
linked_more old new h i k (chained {j = j} p q) = chained (linked_more old new h i j p) (linked_more old new h j k q)
