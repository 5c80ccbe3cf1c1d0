-- What following parents gives, and what a change of one parent does to the roots.
use Rattle.std.proofs.Common.{◌≡◌, ◌≢◌, ℕ, zero, suc, ◌+◌, ◌<◌, ◌≤◌, ◌⊎◌, inl, inr, refl, sym, ◌∙◌, ap, arith, ⊎_elim}
use Rattle.std.specs.Prelude.{◌==◌, if◌then◌else◌}
use Rattle.std.proofs.lemmas.Bool.{cases_eq}
use Rattle.std.proofs.lemmas.Bool.Decides.{nat_tests}
use Rattle.m3_types_subtype.specs.Classes.{ancestor, root_of, root_count}

-- a forest: no parent is above its child
abbrev pub Descends : (ℕ → ℕ) → Type 0
Descends f = (i : ℕ) → f i ≤ i

pub ancestor_of_root : (f : ℕ → ℕ) (k i : ℕ) → f i ≡ i → ancestor f k i ≡ i
unfolding ancestor
ancestor_of_root f zero i h = refl
ancestor_of_root f (suc k) i h = ap (ancestor f k) h ∙ ancestor_of_root f k i h

-- the last step may be taken first
ancestor_of_parent : (f : ℕ → ℕ) (k i : ℕ) → ancestor f k (f i) ≡ f (ancestor f k i)
unfolding ancestor
ancestor_of_parent f zero i = refl
ancestor_of_parent f (suc k) i = ancestor_of_parent f k (f i)

-- with enough steps a root is reached
ancestor_is_root : (f : ℕ → ℕ) → Descends f → (k i : ℕ) → i ≤ k → f (ancestor f k i) ≡ ancestor f k i
unfolding ancestor
ancestor_is_root f d zero i h = let e : i ≡ 0 = omega arith in let fits : f i ≤ i = d i in omega arith
ancestor_is_root f d (suc k) i h =
    let fits : f i ≤ i = d i in
    ⊎_elim (λ e. let at : ancestor f k (f i) ≡ i = ap (ancestor f k) e ∙ ancestor_of_root f k i e in ap f at ∙ e ∙ sym at) (λ ne. ancestor_is_root f d k (f i) (omega arith)) (cases_eq (f i) i)

-- and more steps change nothing
ancestor_more : (f : ℕ → ℕ) → Descends f → (k i : ℕ) → i ≤ k → ancestor f (suc k) i ≡ ancestor f k i
unfolding ancestor
ancestor_more f d k i h = ancestor_of_parent f k i ∙ ancestor_is_root f d k i h

ancestor_enough : (f : ℕ → ℕ) → Descends f → (k i : ℕ) → i ≤ k → ancestor f k i ≡ root_of f i
ancestor_enough f d zero i h = let e : i ≡ 0 = omega arith in ap (λ n. ancestor f n i) (sym e)
ancestor_enough f d (suc k) i h =
    ⊎_elim (λ e. ap (λ n. ancestor f n i) (sym e)) (λ ne. let fits : i ≤ k = omega arith in ancestor_more f d k i fits ∙ ancestor_enough f d k i fits) (cases_eq i (suc k))

pub root_is_root : (f : ℕ → ℕ) → Descends f → (i : ℕ) → f (root_of f i) ≡ root_of f i
root_is_root f d i = ancestor_is_root f d i i (omega arith)

-- a number and its parent have one root
pub root_of_parent : (f : ℕ → ℕ) → Descends f → (i : ℕ) → root_of f i ≡ root_of f (f i)
unfolding ancestor
root_of_parent f d i = sym (ancestor_more f d i i (omega arith)) ∙ ancestor_enough f d i (f i) (d i)

pub root_of_root : (f : ℕ → ℕ) (i : ℕ) → f i ≡ i → root_of f i ≡ i
root_of_root f i h = ancestor_of_root f i i h

pub root_below : (f : ℕ → ℕ) → Descends f → (k i : ℕ) → ancestor f k i ≤ i
unfolding ancestor
root_below f d zero i = omega arith
root_below f d (suc k) i = let one : f i ≤ i = d i in let more : ancestor f k (f i) ≤ f i = root_below f d k (f i) in omega arith

lt_tests : (a b i : ℕ) → a < i → b < i → (a == i) ≡ (b == i)
lt_tests a b i h k = grind (arith, nat_tests)

-- Where each parent becomes itself or the parent's parent, the roots stay.
module _ (f g : ℕ → ℕ) (df : Descends f) (dg : Descends g) (h : (j : ℕ) → (g j ≡ f j) ⊎ (g j ≡ f (f j))) where
  shorter_below : (n j : ℕ) → j < n → root_of g j ≡ root_of f j
  shorter_below zero j l = absurd (omega arith)
  shorter_below (suc n) j l =
      ⊎_elim
      (λ e.
      let stays : g j ≡ j = ⊎_elim (λ p. p ∙ e) (λ p. p ∙ ap f e ∙ e) (h j) in
      root_of_root g j stays ∙ sym (root_of_root f j e))
      (λ ne.
      let low : f j ≤ j = df j in
      let lower : f (f j) ≤ f j = df (f j) in
      let falls : g j < n = ⊎_elim (λ p. omega arith) (λ p. omega arith) (h j) in
      root_of_parent g dg j ∙ shorter_below n (g j) falls ∙ ⊎_elim (λ p. ap (root_of f) p ∙ sym (root_of_parent f df j)) (λ p. ap (root_of f) p ∙ sym (root_of_parent f df (f j)) ∙ sym (root_of_parent f df j)) (h j))
      (cases_eq (f j) j)

  pub root_of_shorter : (j : ℕ) → root_of g j ≡ root_of f j
  root_of_shorter j = shorter_below (suc j) j (omega arith)

both : (a b x y : ℕ) → a ≡ b → x ≡ y → a + x ≡ b + y
both a b x y p q = omega arith

shifted : (a b x y : ℕ) → a + 1 ≡ b → x ≡ y → a + x + 1 ≡ b + y
shifted a b x y p q = omega arith

-- Where one root gets another, lower root as its parent, its class joins the other's.
module _ (f g : ℕ → ℕ) (df : Descends f) (dg : Descends g) (low high : ℕ) (is_low : f low ≡ low) (is_high : f high ≡ high) (apart : low < high) (there : g high ≡ low) (others : (j : ℕ) → j ≢ high → g j ≡ f j) where
  joined_root : root_of g low ≡ low
  joined_root = let ne : low ≢ high = omega arith in root_of_root g low (others low ne ∙ is_low)

  joined_below : (n j : ℕ) → j < n → ((root_of f j ≡ high) × (root_of g j ≡ low)) ⊎ ((root_of f j ≢ high) × (root_of g j ≡ root_of f j))
  joined_below zero j l = absurd (omega arith)
  joined_below (suc n) j l =
      ⊎_elim
      (λ e. inl (ap (root_of f) e ∙ root_of_root f high is_high, root_of_parent g dg j ∙ ap (root_of g) (ap g e ∙ there) ∙ joined_root))
      (λ ne.
      let same : g j ≡ f j = others j ne in
      ⊎_elim
      (λ e.
      let mine : root_of f j ≡ j = root_of_root f j e in
      inr (λ q. ne (sym mine ∙ q), root_of_root g j (same ∙ e) ∙ sym mine))
      (λ falls.
      let fits : f j ≤ j = df j in
      let up : root_of f j ≡ root_of f (f j) = root_of_parent f df j in
      let over : root_of g j ≡ root_of g (f j) = root_of_parent g dg j ∙ ap (root_of g) same in
      ⊎_elim (λ p. inl (up ∙ p.0, over ∙ p.1)) (λ p. inr (λ q. p.0 (sym up ∙ q), over ∙ p.1 ∙ sym up)) (joined_below n (f j) (omega arith)))
      (cases_eq (f j) j))
      (cases_eq j high)

  pub root_of_joined : (j : ℕ) → ((root_of f j ≡ high) × (root_of g j ≡ low)) ⊎ ((root_of f j ≢ high) × (root_of g j ≡ root_of f j))
  root_of_joined j = joined_below (suc j) j (omega arith)

  count_below : (n : ℕ) → n ≤ high → root_count g n ≡ root_count f n
  unfolding root_count
  count_below zero l = refl
  count_below (suc n) l =
      let ne : n ≢ high = omega arith in
      let same : g n ≡ f n = others n ne in
      let rest : root_count g n ≡ root_count f n = count_below n (omega arith) in
      cc

  pub root_count_joined : (n : ℕ) → high < n → root_count g n + 1 ≡ root_count f n
  unfolding root_count
  root_count_joined zero l = absurd (omega arith)
  root_count_joined (suc n) l =
      ⊎_elim
      (λ e.
      let rest : root_count g n ≡ root_count f n = count_below n (omega arith) in
      let ours : g n ≡ low = ap g e ∙ there in
      let theirs : f n ≡ n = ap f e ∙ is_high ∙ sym e in
      grind (arith, nat_tests))
      (λ ne.
      let same : g n ≡ f n = others n ne in
      let rest : root_count g n + 1 ≡ root_count f n = root_count_joined n (omega arith) in
      shifted _ _ _ _ rest (ap (λ x. if x == n then 1 else 0) same))
      (cases_eq n high)

pub root_count_same : (f g : ℕ → ℕ) → ((i : ℕ) → (g i == i) ≡ (f i == i)) → (n : ℕ) → root_count g n ≡ root_count f n
unfolding root_count
root_count_same f g h zero = refl
root_count_same f g h (suc n) =
    let rest : root_count g n ≡ root_count f n = root_count_same f g h n in
    both _ _ _ _ rest (ap (λ b. if b then 1 else 0) (h n))

-- where each number is a root, all are counted
pub root_count_all : (f : ℕ → ℕ) → ((i : ℕ) → f i ≡ i) → (n : ℕ) → root_count f n ≡ n
unfolding root_count
root_count_all f h zero = refl
root_count_all f h (suc n) =
    let rest : root_count f n ≡ n = root_count_all f h n in
    let mine : f n ≡ n = h n in
    grind (arith, nat_tests)

-- shortening ways makes and unmakes no root
pub root_count_shorter : (f g : ℕ → ℕ) → Descends f → Descends g → ((j : ℕ) → (g j ≡ f j) ⊎ (g j ≡ f (f j))) → (n : ℕ) → root_count g n ≡ root_count f n
root_count_shorter f g df dg h = root_count_same f g (λ i.
    ⊎_elim (λ p. ap (λ x. x == i) p)
    (λ p.
    let one : f i ≤ i = df i in
    let two : f (f i) ≤ f i = df (f i) in
    ⊎_elim (λ e. ap (λ x. x == i) (p ∙ ap f e)) (λ ne. let low : g i < i = omega arith in let lower : f i < i = omega arith in lt_tests (g i) (f i) i low lower) (cases_eq (f i) i))
    (h i))
