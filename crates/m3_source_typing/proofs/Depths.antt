-- Definitions that differ at all differ at a depth that is no greater than the number of types: so
-- types that are the same have parts that are.
use Rattle.std.proofs.Common.{◌≡◌, ℕ, zero, suc, ◌+◌, ◌-◌, ◌≤◌, ◌<◌, ◌⊎◌, inl, inr, ⊎_elim, Bool, true, false, List, [], ◌∷◌, length, refl, sym, ap, ◌∙◌, subst, arith}
use Rattle.std.specs.Prelude.{◌==◌, not, nat_lt}
use Rattle.std.specs.Option.{option_map_or}
use Rattle.std.proofs.lemmas.Bool.{eqb-true, eq-eqb}
use Rattle.std.proofs.lemmas.Bool.Decides.{nat_tests}
use Rattle.std.proofs.lemmas.Option.{slice_get_past}
use Rattle.m3_types.specs.declared.nodes.TypeNode.{TypeNode}
use Rattle.m3_types.specs.Definitions as types
use Rattle.m3_types.specs.Definitions.{head_of, head_at, node_at, parts_of, parts_at}
use Rattle.m3_values.specs.Values.{same_list}
use Rattle.m3_values.specs.Sameness.{head_code, or_else, and_then, same_head, same_to}
use Rattle.m3_source_typing.proofs.Operands.{left_true, right_true, both_true}
use Rattle.m3_source_typing.proofs.Counting.{any_below, count_below, true_or_false, found_below, is_below, count_at_most, count_at_least, count_more, count_same}

-- ---- lists

pub same_numbers : (xs ys : List ℕ) → same_list ◌==◌ xs ys ≡ true → xs ≡ ys
same_numbers [] [] h = refl
same_numbers [] (y ∷ ys) h = absurd (let bad : false ≡ true = h in cc)
same_numbers (x ∷ xs) [] h = absurd (let bad : false ≡ true = h in cc)
same_numbers (x ∷ xs) (y ∷ ys) h =
    let one : x ≡ y = eqb-true x y (left_true (x == y) (same_list ◌==◌ xs ys) h) in
    let rest : xs ≡ ys = same_numbers xs ys (right_true (x == y) (same_list ◌==◌ xs ys) h) in
    ap (λ z. z ∷ xs) one ∙ ap (λ zs. y ∷ zs) rest

itself : (x : ℕ) → (x == x) ≡ true
itself x = eq-eqb x x refl

pub numbers_same : (xs ys : List ℕ) → xs ≡ ys → same_list ◌==◌ xs ys ≡ true
numbers_same xs ys e = subst (λ zs. same_list ◌==◌ xs zs ≡ true) e (alone xs)
  where
    alone : (xs : List ℕ) → same_list ◌==◌ xs xs ≡ true
    alone [] = refl
    alone (x ∷ xs) = both_true (x == x) (same_list ◌==◌ xs xs) (itself x) (alone xs)

pub list_more : {A : Type 0} (f g : A → A → Bool) → ((x y : A) → f x y ≡ true → g x y ≡ true) → (xs ys : List A) → same_list f xs ys ≡ true → same_list g xs ys ≡ true
list_more f g h [] [] e = refl
list_more f g h [] (y ∷ ys) e = e
list_more f g h (x ∷ xs) [] e = e
list_more f g h (x ∷ xs) (y ∷ ys) e = both_true (g x y) (same_list g xs ys) (h x y (left_true (f x y) (same_list f xs ys) e)) (list_more f g h xs ys (right_true (f x y) (same_list f xs ys) e))

pub list_flipped : {A : Type 0} (f : A → A → Bool) → ((x y : A) → f x y ≡ true → f y x ≡ true) → (xs ys : List A) → same_list f xs ys ≡ true → same_list f ys xs ≡ true
list_flipped f h [] [] e = refl
list_flipped f h [] (y ∷ ys) e = e
list_flipped f h (x ∷ xs) [] e = e
list_flipped f h (x ∷ xs) (y ∷ ys) e = both_true (f y x) (same_list f ys xs) (h x y (left_true (f x y) (same_list f xs ys) e)) (list_flipped f h xs ys (right_true (f x y) (same_list f xs ys) e))

pub list_then : {A : Type 0} (f : A → A → Bool) → ((x y z : A) → f x y ≡ true → f y z ≡ true → f x z ≡ true) → (xs ys zs : List A) → same_list f xs ys ≡ true → same_list f ys zs ≡ true → same_list f xs zs ≡ true
list_then f h [] [] zs e g = g
list_then f h [] (y ∷ ys) zs e g = absurd (let bad : false ≡ true = e in cc)
list_then f h (x ∷ xs) [] zs e g = absurd (let bad : false ≡ true = e in cc)
list_then f h (x ∷ xs) (y ∷ ys) [] e g = g
list_then f h (x ∷ xs) (y ∷ ys) (z ∷ zs) e g = both_true (f x z) (same_list f xs zs)
    (h x y z (left_true (f x y) (same_list f xs ys) e) (left_true (f y z) (same_list f ys zs) g))
    (list_then f h xs ys zs (right_true (f x y) (same_list f xs ys) e) (right_true (f y z) (same_list f ys zs) g))

-- ---- one depth more

if_more : (b : Bool) (f g : ℕ → Bool) → (f 0 ≡ true → g 0 ≡ true) → and_then b f ≡ true → and_then b g ≡ true
if_more true f g h e = h e
if_more false f g h e = e

unless_more : (b : Bool) (f g : ℕ → Bool) → (f 0 ≡ true → g 0 ≡ true) → or_else b f ≡ true → or_else b g ≡ true
unless_more true f g h e = refl
unless_more false f g h e = h e

if_both : (b : Bool) (f : ℕ → Bool) → and_then b f ≡ true → (b ≡ true) × (f 0 ≡ true)
if_both true f e = (refl, e)
if_both false f e = absurd (let bad : false ≡ true = e in cc)

if_is : (b : Bool) (f : ℕ → Bool) → b ≡ true → f 0 ≡ true → and_then b f ≡ true
if_is true f e h = h
if_is false f e h = e

unless_either : (b : Bool) (f : ℕ → Bool) → or_else b f ≡ true → (b ≡ true) ⊎ (f 0 ≡ true)
unless_either true f e = inl refl
unless_either false f e = inr e

unless_first : (b : Bool) (f : ℕ → Bool) → b ≡ true → or_else b f ≡ true
unless_first true f e = refl
unless_first false f e = absurd (let bad : false ≡ true = e in cc)

unless_second : (b : Bool) (f : ℕ → Bool) → f 0 ≡ true → or_else b f ≡ true
unless_second true f e = refl
unless_second false f e = e

module _ (nodes : List TypeNode) where
  -- the definitions have one head, and parts that are related
  abbrev finer : (ℕ → ℕ → Bool) → ℕ → ℕ → Bool
  finer f a b = or_else (a == b) (λ _. and_then (same_head nodes a b) (λ _. same_list f (parts_at nodes a) (parts_at nodes b)))

  abbrev pub Alike : (ℕ → ℕ → Bool) → ℕ → ℕ → Type 0
  Alike f a b = (head_code (head_at nodes a) ≡ head_code (head_at nodes b)) × (same_list f (parts_at nodes a) (parts_at nodes b) ≡ true)

  alike : (f : ℕ → ℕ → Bool) (a b : ℕ) → finer f a b ≡ true → (a ≡ b) ⊎ Alike f a b
  alike f a b h = ⊎_elim
      (λ e. inl (eqb-true a b e))
      (λ e. let two = if_both (same_head nodes a b) _ e in inr (same_numbers (head_code (head_at nodes a)) (head_code (head_at nodes b)) two.0, two.1))
      (unless_either (a == b) _ h)

  equal_finer : (f : ℕ → ℕ → Bool) (a b : ℕ) → a ≡ b → finer f a b ≡ true
  equal_finer f a b e = unless_first (a == b) _ (eq-eqb a b e)

  alike_finer : (f : ℕ → ℕ → Bool) (a b : ℕ) → Alike f a b → finer f a b ≡ true
  alike_finer f a b h = unless_second (a == b) _ (if_is (same_head nodes a b) _ (numbers_same (head_code (head_at nodes a)) (head_code (head_at nodes b)) h.0) h.1)

  finer_more : (f g : ℕ → ℕ → Bool) → ((x y : ℕ) → f x y ≡ true → g x y ≡ true) → (a b : ℕ) → finer f a b ≡ true → finer g a b ≡ true
  finer_more f g h a b e = unless_more (a == b) _ _ (λ e. if_more (same_head nodes a b) _ _ (λ e. list_more f g h (parts_at nodes a) (parts_at nodes b) e) e) e

  -- ---- an equivalence at each depth

  pub same_itself : (d a : ℕ) → same_to nodes d a a ≡ true
  same_itself zero a = refl
  same_itself (suc d) a = equal_finer (same_to nodes d) a a refl

  pub same_flipped : (d a b : ℕ) → same_to nodes d a b ≡ true → same_to nodes d b a ≡ true
  same_flipped zero a b h = refl
  same_flipped (suc d) a b h = ⊎_elim
      (λ e. equal_finer (same_to nodes d) b a (sym e))
      (λ e. alike_finer (same_to nodes d) b a (sym e.0, list_flipped (same_to nodes d) (same_flipped d) (parts_at nodes a) (parts_at nodes b) e.1))
      (alike (same_to nodes d) a b h)

  pub same_then : (d a b c : ℕ) → same_to nodes d a b ≡ true → same_to nodes d b c ≡ true → same_to nodes d a c ≡ true
  same_then zero a b c h g = refl
  same_then (suc d) a b c h g = ⊎_elim
      (λ (e : a ≡ b). subst (λ x. same_to nodes (suc d) x c ≡ true) (sym e) g)
      (λ e. ⊎_elim
      (λ (k : b ≡ c). subst (λ x. same_to nodes (suc d) a x ≡ true) k h)
      (λ k. alike_finer (same_to nodes d) a c (e.0 ∙ k.0, list_then (same_to nodes d) (same_then d) (parts_at nodes a) (parts_at nodes b) (parts_at nodes c) e.1 k.1))
      (alike (same_to nodes d) b c g))
      (alike (same_to nodes d) a b h)

  less_deep : (d a b : ℕ) → same_to nodes (suc d) a b ≡ true → same_to nodes d a b ≡ true
  less_deep zero a b h = refl
  less_deep (suc d) a b h = finer_more (same_to nodes (suc d)) (same_to nodes d) (less_deep d) a b h

  -- all places behind the last one are the same
  no_head : (a : ℕ) → length nodes ≤ a → head_at nodes a ≡ types.Missing
  no_head a h = ap (λ o. option_map_or (head_of a) o types.Missing) (slice_get_past nodes a h)

  no_parts : (a : ℕ) → length nodes ≤ a → parts_at nodes a ≡ []
  no_parts a h = ap (λ o. option_map_or parts_of o []) (slice_get_past nodes a h)

  behind : (d a b : ℕ) → length nodes ≤ a → length nodes ≤ b → same_to nodes d a b ≡ true
  behind zero a b h g = refl
  behind (suc d) a b h g = alike_finer (same_to nodes d) a b (
    ap head_code (no_head a h ∙ sym (no_head b g)),
    subst (λ xs. same_list (same_to nodes d) xs (parts_at nodes b) ≡ true) (sym (no_parts a h))
        (subst (λ ys. same_list (same_to nodes d) [] ys ≡ true) (sym (no_parts b g)) refl),
  )

  -- ---- the first of those that are the same

  abbrev is_first : ℕ → ℕ → Bool
  is_first d a = not (any_below (λ x. same_to nodes d x a) a)

  flipped : (b : Bool) → not b ≡ true → b ≡ false
  flipped true h = absurd (let bad : false ≡ true = h in cc)
  flipped false h = refl

  not_true : (b : Bool) → (b ≡ true → ⊥) → not b ≡ true
  not_true true h = absurd (h refl)
  not_true false h = refl

  none_before : (d a x : ℕ) → is_first d a ≡ true → x < a → same_to nodes d x a ≡ true → ⊥
  none_before d a x h less e =
      let some : any_below (λ x. same_to nodes d x a) a ≡ true = is_below (λ x. same_to nodes d x a) a x less e in
      let none : any_below (λ x. same_to nodes d x a) a ≡ false = flipped _ h in
      let bad : true ≡ false = sym some ∙ none in absurd cc

  first_deeper : (d a : ℕ) → is_first d a ≡ true → is_first (suc d) a ≡ true
  first_deeper d a h = not_true _ (λ e. let q = found_below (λ x. same_to nodes (suc d) x a) a e in none_before d a q.0 h q.1 (less_deep d q.0 a q.2))

  -- the first one that is the same
  pub record First (d a : ℕ) : Type 0 where
    pub place : ℕ
    pub within : place ≤ a
    pub is : is_first d place ≡ true
    pub same : same_to nodes d place a ≡ true

  first_of : (d n a : ℕ) → a < n → First d a
  first_of d zero a less = absurd (omega arith)
  first_of d (suc n) a less = ⊎_elim
      (λ e. let q = found_below (λ x. same_to nodes d x a) a e in
      let before : q.0 < a = q.1 in
      let it = first_of d n q.0 (omega arith) in
      let low : it.place ≤ q.0 = it.within in
      record { place = it.place; within = omega arith; is = it.is; same = same_then d it.place q.0 a it.same q.2 })
      (λ e. record { place = a; within = omega arith; is = ap not e; same = same_itself d a })
      (true_or_false (any_below (λ x. same_to nodes d x a) a))

  at_most : (b : Bool) (m n : ℕ) → nat_lt m n ≡ b → (m < n) ⊎ (n ≤ m)
  at_most true m n e = inl (grind (arith, nat_tests))
  at_most false m n e = inr (grind (arith, nat_tests))

  less_or_not : (m n : ℕ) → (m < n) ⊎ (n ≤ m)
  less_or_not m n = at_most (nat_lt m n) m n refl

  abbrev size : ℕ
  size = suc (length nodes)

  -- the first one, which is no further than the place behind the last definition
  pub record FirstWithin (d a : ℕ) : Type 0 where
    pub place : ℕ
    pub within : place < size
    pub is : is_first d place ≡ true
    pub same : same_to nodes d place a ≡ true

  first_within : (d a : ℕ) → FirstWithin d a
  first_within d a = ⊎_elim
      (λ (less : a < size).
      let it = first_of d (suc a) a (omega arith) in
      let low : it.place ≤ a = it.within in
      record { place = it.place; within = omega arith; is = it.is; same = it.same })
      (λ (more : size ≤ a).
      let it = first_of d size (length nodes) (omega arith) in
      let low : it.place ≤ length nodes = it.within in
      record { place = it.place; within = omega arith; is = it.is; same = same_then d it.place (length nodes) a it.same (behind d (length nodes) a (omega arith) (omega arith)) })
      (less_or_not a size)

  -- ---- no more are told apart

  abbrev Settled : ℕ → Type 0
  Settled d = (a b : ℕ) → same_to nodes d a b ≡ true → same_to nodes (suc d) a b ≡ true

  one_first : (d x y : ℕ) → is_first d x ≡ true → is_first d y ≡ true → same_to nodes d x y ≡ true → x ≡ y
  one_first d x y h g e = ⊎_elim
      (λ (less : x < y). absurd (none_before d y x g less e))
      (λ (more : y ≤ x). ⊎_elim
      (λ (less : y < x). absurd (none_before d x y h less (same_flipped d x y e)))
      (λ (other : x ≤ y). omega arith)
      (less_or_not y x))
      (less_or_not x y)

  settled_where : (d : ℕ) → count_below (is_first d) size ≡ count_below (is_first (suc d)) size → Settled d
  settled_where d e a b h =
      let x = first_within (suc d) a in
      let y = first_within (suc d) b in
      let first : is_first d x.place ≡ true = count_same (is_first d) (is_first (suc d)) size (first_deeper d) e x.place x.within x.is in
      let other : is_first d y.place ≡ true = count_same (is_first d) (is_first (suc d)) size (first_deeper d) e y.place y.within y.is in
      let left : same_to nodes d x.place b ≡ true = same_then d x.place a b (less_deep d x.place a x.same) h in
      let both : same_to nodes d x.place y.place ≡ true = same_then d x.place b y.place left (same_flipped d y.place b (less_deep d y.place b y.same)) in
      let one : x.place ≡ y.place = one_first d x.place y.place first other both in
      let to : same_to nodes (suc d) x.place b ≡ true = subst (λ z. same_to nodes (suc d) z b ≡ true) (sym one) y.same in
      same_then (suc d) a x.place b (same_flipped (suc d) x.place a x.same) to

  settled_on : (d : ℕ) → Settled d → Settled (suc d)
  settled_on d h a b e = finer_more (same_to nodes d) (same_to nodes (suc d)) h a b e

  settled_from : (d more : ℕ) → Settled d → Settled (more + d)
  settled_from d zero h = let same : d ≡ 0 + d = omega arith in subst Settled same h
  settled_from d (suc more) h = let same : suc (more + d) ≡ suc more + d = omega arith in subst Settled same (settled_on (more + d) (settled_from d more h))

  -- a depth below this one is settled, or so many are told apart
  pub record SettledBelow (d : ℕ) : Type 0 where
    pub at : ℕ
    pub below : at < d
    pub is : Settled at

  settled_or : (d : ℕ) → SettledBelow d ⊎ (suc d ≤ count_below (is_first d) size)
  settled_or zero = inr (count_at_least (is_first 0) (length nodes) refl)
  settled_or (suc d) = ⊎_elim
      (λ s. let less : s.at < d = s.below in inl (record { at = s.at; below = omega arith; is = s.is }))
      (λ (many : suc d ≤ count_below (is_first d) size).
      let more : count_below (is_first d) size ≤ count_below (is_first (suc d)) size = count_more (is_first d) (is_first (suc d)) size (first_deeper d) in
      ⊎_elim
      (λ (less : count_below (is_first d) size < count_below (is_first (suc d)) size). inr (omega arith))
      (λ (other : count_below (is_first (suc d)) size ≤ count_below (is_first d) size). inl (record { at = d; below = omega arith; is = settled_where d (omega arith) }))
      (less_or_not (count_below (is_first d) size) (count_below (is_first (suc d)) size)))
      (settled_or d)

  settled : Settled (length nodes)
  settled = ⊎_elim
      (λ s. let less : s.at < size = s.below in
      let rest : (length nodes - s.at) + s.at ≡ length nodes = omega arith in
      subst Settled rest (settled_from s.at (length nodes - s.at) s.is))
      (λ (many : suc size ≤ count_below (is_first size) size).
      let few : count_below (is_first size) size ≤ size = count_at_most (is_first size) size in
      absurd (omega arith))
      (settled_or size)

  -- TYPES THAT ARE THE SAME are one, or have one head and parts that are the same.
  pub same_is : (a b : ℕ) → same_to nodes (length nodes) a b ≡ true → (a ≡ b) ⊎ Alike (same_to nodes (length nodes)) a b
  same_is a b h = alike (same_to nodes (length nodes)) a b (settled a b h)
