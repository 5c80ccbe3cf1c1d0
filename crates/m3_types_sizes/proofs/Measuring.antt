-- The table of words stays right, and is full where no type can be added to it.
use Rattle.std.proofs.Common.{◌≡◌, ◌≢◌, ℕ, zero, suc, ◌+◌, ◌-◌, ◌*◌, ◌<◌, ◌≤◌, Bool, false, List, [], ◌∷◌, length, get_or, Option, Some, None, refl, sym, ◌∙◌, ap, subst, arith, ⊎_elim, add-zero, add-suc, add_comm}
use Rattle.std.proofs.Math.Logic.{∥∥₁_elim, ∥∥₁_prop}
use Rattle.std.specs.Coded.{×_prop, Unit-prop, le_prop}
use Rattle.std.specs.Prelude.{IsTrue, IsSome, slice_get, slice_set}
use Rattle.std.specs.Option.{option_map_or, option_and_then, unwrap_or, is_some}
use Rattle.std.proofs.lemmas.Bool.{cases_eq}
use Rattle.m3_types.specs.declared.nodes.Field.{Field}
use Rattle.m3_types.specs.declared.nodes.TypeNode.{TypeNode}
use Rattle.m3_types.specs.declared.nodes.TypeNode.TheVariants.{Reserved, Integer, Boolean, Character, Enumeration, Subrange, FixedArray, OpenArray, Fields, SetOf, RefTo, Object, Procedure, Opaque, Null, RefAny, Text, Mutex, Root, Constant}
use Rattle.m3_types.specs.Definitions.{node_at, head_at}
use Rattle.m3_types.specs.Kinds.{size_of}
use Rattle.m3_types_sizes.specs.Sizes.{most_words, field_words, words_of_node, words_to_depth, EachField, EachPart, HasParts, IsSized, known_at, Known, known_words, IsRight, AreSized, having, HasSize, AreWords, IsLow, IsFull, CanBeTold, IsTold}

each_field : (P Q : ℕ → Type 0) → ((j : ℕ) → P j → Q j) → (fs : List Field) → EachField P fs → EachField Q fs
each_field P Q h [] p = tt
each_field P Q h (f ∷ fs) p = (h f.kind.0 p.0, each_field P Q h fs p.1)

both_fields : (P Q : ℕ → Type 0) → (fs : List Field) → EachField P fs → EachField Q fs → EachField (λ j. P j × Q j) fs
both_fields P Q [] p q = tt
both_fields P Q (f ∷ fs) p q = ((p.0, q.0), both_fields P Q fs p.1 q.1)

fields_equal : (v w : ℕ → ℕ) (fs : List Field) → EachField (λ j. v j ≡ w j) fs → field_words v fs ≡ field_words w fs
fields_equal v w [] p = refl
fields_equal v w (f ∷ fs) p = ap (λ n. n + field_words v fs) p.0 ∙ ap (λ n. w f.kind.0 + n) (fields_equal v w fs p.1)

pub each_part : (P Q : ℕ → Type 0) → ((j : ℕ) → P j → Q j) → (n : TypeNode) → EachPart P n → EachPart Q n
each_part P Q h (Fields fields) p = each_field P Q h fields.now p
each_part P Q h (FixedArray index element) p = h element.0 p
each_part P Q h (OpenArray element) p = p
each_part P Q h Reserved p = p
each_part P Q h (Constant value) p = p
each_part P Q h _ p = tt

both_parts : (P Q : ℕ → Type 0) → (n : TypeNode) → EachPart P n → EachPart Q n → EachPart (λ j. P j × Q j) n
both_parts P Q (Fields fields) p q = both_fields P Q fields.now p q
both_parts P Q (FixedArray index element) p q = (p, q)
both_parts P Q (OpenArray element) p q = p
both_parts P Q Reserved p q = p
both_parts P Q (Constant value) p q = p
both_parts P Q _ p q = tt

words_equal : (nodes : List TypeNode) (v w : ℕ → ℕ) (n : TypeNode) → EachPart (λ j. v j ≡ w j) n → words_of_node nodes v n ≡ words_of_node nodes w n
words_equal nodes v w (Fields fields) p = fields_equal v w fields.now p
words_equal nodes v w (FixedArray index element) p = ap (λ k. size_of (head_at nodes index.0) * k) p
words_equal nodes v w _ p = refl

known_some : (o : Option ℕ) → IsSome o → o ≡ Some (unwrap_or o 0)
known_some None h = absurd (let z : ⊥ = cc in z)
known_some (Some w) h = refl

module _ (nodes : List TypeNode) where
  -- the words by the table are those of the definition
  same_words : (table : List (Option ℕ)) (depth : ℕ) (n : TypeNode) → IsRight nodes table → EachPart (Known table) n → EachPart (IsSized nodes depth) n → words_of_node nodes (known_words table) n ≡ words_of_node nodes (words_to_depth nodes depth) n
  same_words table depth n right known sized =
      words_equal nodes (known_words table) (words_to_depth nodes depth) n (each_part (λ j. Known table j × IsSized nodes depth j) (λ j. known_words table j ≡ words_to_depth nodes depth j) (λ j p. right j depth (known_words table j) (known_some (known_at table j) p.0) p.1) n (both_parts (Known table) (IsSized nodes depth) n known sized))

  -- what the definition at a place says of its size
  sized_parts : (depth i : ℕ) (n : TypeNode) → node_at nodes i ≡ Some n → IsSized nodes (suc depth) i → EachPart (IsSized nodes depth) n × ((words_of_node nodes (words_to_depth nodes depth) n ≤ most_words) × (words_to_depth nodes (suc depth) i ≡ words_of_node nodes (words_to_depth nodes depth) n))
  sized_parts depth i n e s =
      let w : words_to_depth nodes (suc depth) i ≡ words_of_node nodes (words_to_depth nodes depth) n = ap (λ (o : Option TypeNode). option_map_or (words_of_node nodes (words_to_depth nodes depth)) o 0) e in
      (subst (HasParts (IsSized nodes depth)) e s.0, (subst (λ k. k ≤ most_words) w s.1, w))

  pub settled_right : (table : List (Option ℕ)) (i : ℕ) (n : TypeNode) (words : ℕ) → IsRight nodes table → node_at nodes i ≡ Some n → words ≡ words_of_node nodes (known_words table) n → EachPart (Known table) n → (depth : ℕ) → IsSized nodes depth i → words ≡ words_to_depth nodes depth i
  settled_right table i n words right e w known zero s = absurd s
  settled_right table i n words right e w known (suc depth) s =
      let p = sized_parts depth i n e s in
      w ∙ same_words table depth n right known p.0 ∙ sym p.1.1

  has_node : (depth i : ℕ) (o : Option TypeNode) → node_at nodes i ≡ o → IsSized nodes (suc depth) i → (n : TypeNode) × (node_at nodes i ≡ Some n)
  has_node depth i None e s = absurd (subst (HasParts (IsSized nodes depth)) e s.0)
  has_node depth i (Some n) e s = (n, e)

  is_known : (o : Option ℕ) → (o ≡ None → ⊥) → IsSome o
  is_known None h = absurd (h refl)
  is_known (Some w) h = refl

  -- where each type is settled, the table has each type that has a size
  pub settled_full : (table : List (Option ℕ)) → IsRight nodes table → ((i : ℕ) → IsTold nodes table i) → IsFull nodes table
  settled_full table right all i zero s none = s
  settled_full table right all i (suc depth) s none =
      let h = has_node depth i (node_at nodes i) refl s in
      let p = sized_parts depth i h.0 h.1 s in
      let known : EachPart (Known table) h.0 = each_part (IsSized nodes depth) (Known table) (λ j t. is_known (known_at table j) (settled_full table right all j depth t)) h.0 p.0 in
      let w : words_of_node nodes (known_words table) h.0 ≡ words_of_node nodes (words_to_depth nodes depth) h.0 = same_words table depth h.0 right known p.0 in
      all i h.0 h.1 none (known, subst (λ k. k ≤ most_words) (sym w) p.1.0)

-- ---- one more entry in the table

known_same : (table : List (Option ℕ)) (i : ℕ) (o : Option ℕ) → i < length table → known_at (slice_set table i o) i ≡ o
known_same [] i o l = absurd (omega arith)
known_same (x ∷ xs) zero o l = refl
known_same (x ∷ xs) (suc i) o l = known_same xs i o (omega arith)

known_other : (table : List (Option ℕ)) (i j : ℕ) (o : Option ℕ) → j ≢ i → known_at (slice_set table i o) j ≡ known_at table j
known_other [] i j o ne = refl
known_other (x ∷ xs) zero zero o ne = absurd (ne refl)
known_other (x ∷ xs) zero (suc j) o ne = refl
known_other (x ∷ xs) (suc i) zero o ne = refl
known_other (x ∷ xs) (suc i) (suc j) o ne = known_other xs i j o (λ e. ne (ap suc e))

words_is : {v w : ℕ} → Some v ≡ Some w → v ≡ w
words_is h = cc

pub right_added : (nodes : List TypeNode) (table : List (Option ℕ)) (i words : ℕ) → i < length table → IsRight nodes table → ((depth : ℕ) → IsSized nodes depth i → words ≡ words_to_depth nodes depth i) → IsRight nodes (slice_set table i (Some words))
right_added nodes table i words l right here j depth w k s =
    ⊎_elim
    (λ e.
    let is : words ≡ w = words_is (sym (known_same table i (Some words) l) ∙ ap (known_at (slice_set table i (Some words))) (sym e) ∙ k) in
    sym is ∙ here depth (subst (IsSized nodes depth) e s) ∙ ap (words_to_depth nodes depth) (sym e))
    (λ ne. right j depth w (sym (known_other table i j (Some words) ne) ∙ k) s)
    (cases_eq j i)

pub low_added : (table : List (Option ℕ)) (i words : ℕ) → i < length table → IsLow table → words ≤ most_words → IsLow (slice_set table i (Some words))
low_added table i words l low here j w k =
    ⊎_elim
    (λ e.
    let is : words ≡ w = words_is (sym (known_same table i (Some words) l) ∙ ap (known_at (slice_set table i (Some words))) (sym e) ∙ k) in
    subst (λ n. n ≤ most_words) is here)
    (λ ne. low j w (sym (known_other table i j (Some words) ne) ∙ k))
    (cases_eq j i)

pub node_here : (nodes : List TypeNode) (i : ℕ) (n : TypeNode) → i < length nodes → n ≡ get_or nodes i n → node_at nodes i ≡ Some n
node_here [] i n l e = absurd (omega arith)
node_here (x ∷ xs) zero n l e = ap Some (sym e)
node_here (x ∷ xs) (suc i) n l e = node_here xs i n (omega arith) e

node_is : {m n : TypeNode} → Some m ≡ Some n → m ≡ n
node_is h = cc

pub one_node : (nodes : List TypeNode) (i : ℕ) (m n : TypeNode) → i < length nodes → n ≡ get_or nodes i n → node_at nodes i ≡ Some m → n ≡ m
one_node nodes i m n l e h = node_is (sym (node_here nodes i n l e) ∙ h)

-- what is past the list is settled
pub past_settled : (nodes : List TypeNode) (table : List (Option ℕ)) (i : ℕ) → length nodes ≤ i → IsTold nodes table i
past_settled [] table i l n h none r = let z : ⊥ = cc in z
past_settled (x ∷ xs) table zero l n h none r = absurd (omega arith)
past_settled (x ∷ xs) table (suc i) l n h none r = past (slice_get xs i) (past_get xs i (omega arith)) h
  where
    past_get : (ys : List TypeNode) (k : ℕ) → length ys ≤ k → slice_get ys k ≡ None
    past_get [] k l = refl
    past_get (y ∷ ys) zero l = absurd (omega arith)
    past_get (y ∷ ys) (suc k) l = past_get ys k (omega arith)

    past : (o : Option TypeNode) → o ≡ None → o ≡ Some n → ⊥
    past o p q = let e : None ≡ Some n = sym p ∙ q in let z : ⊥ = cc in z

having_low : (table : List (Option ℕ)) → having table ≤ length table
having_low [] = omega arith
having_low (None ∷ xs) = omega (arith, having_low xs)
having_low (Some w ∷ xs) = omega (arith, having_low xs)

one_more : (table : List (Option ℕ)) (i w : ℕ) → i < length table → known_at table i ≡ None → having (slice_set table i (Some w)) ≡ suc (having table)
one_more [] i w l e = absurd (omega arith)
one_more (None ∷ xs) zero w l e = refl
one_more (Some v ∷ xs) zero w l e = let z : ⊥ = cc in absurd z
one_more (None ∷ xs) (suc i) w l e = let r = one_more xs i w (omega arith) e in omega (arith, r)
one_more (Some v ∷ xs) (suc i) w l e = let r = one_more xs i w (omega arith) e in omega (arith, r)

pub none_here : (table : List (Option ℕ)) (i : ℕ) (b : Bool) → b ≡ is_some (get_or table i None) → b ≡ false → known_at table i ≡ None
none_here [] i b e f = refl
none_here (None ∷ xs) zero b e f = refl
none_here (Some w ∷ xs) zero b e f = let z : ⊥ = cc in absurd z
none_here (x ∷ xs) (suc i) b e f = none_here xs i b e f

some_known : (o : Option ℕ) → (o ≡ None → ⊥) → IsSome o
some_known None h = absurd (h refl)
some_known (Some w) h = refl

absurd_prop : (x y : ⊥) → x ≡ y
absurd_prop x y = absurd x

-- ---- types in the table have a size

module _ (nodes : List TypeNode) where
  words_stay : (depth i : ℕ) → IsSized nodes depth i → words_to_depth nodes (suc depth) i ≡ words_to_depth nodes depth i
  words_stay zero i s = absurd s
  words_stay (suc depth) i s =
      let h = has_node nodes depth i (node_at nodes i) refl s in
      let n = h.0 in
      let p = sized_parts nodes depth i n h.1 s in
      let now : words_to_depth nodes (suc (suc depth)) i ≡ words_of_node nodes (words_to_depth nodes (suc depth)) n = ap (λ (o : Option TypeNode). option_map_or (words_of_node nodes (words_to_depth nodes (suc depth))) o 0) h.1 in
      now ∙ words_equal nodes (words_to_depth nodes (suc depth)) (words_to_depth nodes depth) n (each_part (IsSized nodes depth) (λ j. words_to_depth nodes (suc depth) j ≡ words_to_depth nodes depth j) (words_stay depth) n p.0) ∙ sym p.1.1

  sized_deeper : (depth i : ℕ) → IsSized nodes depth i → IsSized nodes (suc depth) i
  sized_deeper zero i s = absurd s
  sized_deeper (suc depth) i s =
      let h = has_node nodes depth i (node_at nodes i) refl s in
      let p = sized_parts nodes depth i h.0 h.1 s in
      (subst (HasParts (IsSized nodes (suc depth))) (sym h.1) (each_part (IsSized nodes depth) (IsSized nodes (suc depth)) (sized_deeper depth) h.0 p.0), subst (λ k. k ≤ most_words) (sym (words_stay (suc depth) i s)) s.1)

  sized_below : (more depth i : ℕ) → IsSized nodes depth i → IsSized nodes (depth + more) i
  sized_below zero depth i s = subst (λ k. IsSized nodes k i) (sym (add-zero depth)) s
  sized_below (suc more) depth i s = subst (λ k. IsSized nodes k i) (sym (add-suc depth more)) (sized_deeper (depth + more) i (sized_below more depth i s))

  fields_sized : (depth : ℕ) (fs : List Field) → EachField (λ j. ∥ IsSized nodes depth j ∥₁) fs → ∥ EachField (IsSized nodes depth) fs ∥₁
  fields_sized depth [] p = ∣ tt ∣₁
  fields_sized depth (f ∷ fs) p =
      ∥∥₁_elim p.0 ∥∥₁_prop (λ a. ∥∥₁_elim (fields_sized depth fs p.1) ∥∥₁_prop (λ b. ∣ (a, b) ∣₁))

  parts_sized : (depth : ℕ) (n : TypeNode) → EachPart (λ j. ∥ IsSized nodes depth j ∥₁) n → ∥ EachPart (IsSized nodes depth) n ∥₁
  parts_sized depth (Fields fields) p = fields_sized depth fields.now p
  parts_sized depth (FixedArray index element) p = p
  parts_sized depth (OpenArray element) p = absurd p
  parts_sized depth Reserved p = absurd p
  parts_sized depth (Constant value) p = absurd p
  parts_sized depth _ p = ∣ tt ∣₁

  pub settled_size : (table : List (Option ℕ)) (i : ℕ) (n : TypeNode) (words : ℕ) → IsRight nodes table → AreSized nodes table → node_at nodes i ≡ Some n → words ≡ words_of_node nodes (known_words table) n → words ≤ most_words → EachPart (Known table) n → ∥ IsSized nodes (suc (having table)) i ∥₁
  settled_size table i n words right sound e w low known =
      let depth = having table in
      let parts = each_part (Known table) (λ j. ∥ IsSized nodes depth j ∥₁) (λ j k. sound j (known_words table j) (known_some (known_at table j) k)) n known in
      ∥∥₁_elim (parts_sized depth n parts) ∥∥₁_prop (λ d.
      let now : words_to_depth nodes (suc depth) i ≡ words_of_node nodes (words_to_depth nodes depth) n = ap (λ (o : Option TypeNode). option_map_or (words_of_node nodes (words_to_depth nodes depth)) o 0) e in
      let is : words ≡ words_to_depth nodes (suc depth) i = w ∙ same_words nodes table depth n right known d ∙ sym now in
      ∣ (subst (HasParts (IsSized nodes depth)) (sym e) d, subst (λ k. k ≤ most_words) is low) ∣₁)

  pub sound_added : (table : List (Option ℕ)) (i words : ℕ) → i < length table → known_at table i ≡ None → AreSized nodes table → ∥ IsSized nodes (suc (having table)) i ∥₁ → AreSized nodes (slice_set table i (Some words))
  sound_added table i words l none sound here j w k =
      subst (λ (depth : ℕ). ∥ IsSized nodes depth j ∥₁) (sym (one_more table i words l none))
      (⊎_elim
      (λ e. subst (λ m. ∥ IsSized nodes (suc (having table)) m ∥₁) (sym e) here)
      (λ ne. ∥∥₁_elim (sound j w (sym (known_other table i j (Some words) ne) ∙ k)) ∥∥₁_prop (λ s. ∣ sized_deeper (having table) j s ∣₁))
      (cases_eq j i))

  -- a type that is in the table has a size, and is nested no deeper than the table is long
  pub sound_size : (table : List (Option ℕ)) (i w : ℕ) → AreSized nodes table → known_at table i ≡ Some w → HasSize nodes i
  sound_size table i w sound k = ∥∥₁_elim (sound i w k) ∥∥₁_prop (λ s. ∣ (having table, s) ∣₁)

  pub sound_shallow : (table : List (Option ℕ)) (i w n : ℕ) → AreSized nodes table → length table ≡ n → known_at table i ≡ Some w → ∥ IsSized nodes n i ∥₁
  sound_shallow table i w n sound e k =
      ∥∥₁_elim (sound i w k) ∥∥₁_prop (λ s.
      let l : having table + (n - having table) ≡ n = omega (arith, having_low table) in
      ∣ subst (λ d. IsSized nodes d i) l (sized_below (n - having table) (having table) i s) ∣₁)

  -- a type that has a size is in a full table
  pub full_known : (table : List (Option ℕ)) (i : ℕ) → IsFull nodes table → HasSize nodes i → Known table i
  full_known table i full h =
      some_known (known_at table i) (λ none. ∥∥₁_elim h absurd_prop (λ s. full i s.0 s.1 none))

  -- whether a table that is sound and full has a type says whether the type has a size
  pub sized_if : (table : List (Option ℕ)) (i : ℕ) (b : Bool) (o : Option ℕ) → o ≡ known_at table i → b ≡ is_some o → AreSized nodes table → IsFull nodes table → (IsTrue b → HasSize nodes i) × (HasSize nodes i → IsTrue b)
  sized_if table i b o e f sound full =
      (λ t. sound_size table i (known_words table i) sound (known_some (known_at table i) (ap is_some (sym e) ∙ sym f ∙ t)), λ h. f ∙ ap is_some e ∙ full_known table i full h)

  -- the words in the table are those of the type, by the depth that the table has room for
  are_words : (table : List (Option ℕ)) (i w : ℕ) → IsRight nodes table → AreSized nodes table → known_at table i ≡ Some w → AreWords nodes i w
  are_words table i w right sound k =
      ∥∥₁_elim (sound i w k) ∥∥₁_prop (λ s. ∣ (having table, (s, right i (having table) w k s)) ∣₁)

  -- what a full table has for a type that has a size
  pub words_known : (table : List (Option ℕ)) (i : ℕ) (o : Option ℕ) → o ≡ known_at table i → IsRight nodes table → AreSized nodes table → IsFull nodes table → HasSize nodes i → AreWords nodes i (unwrap_or o 0)
  words_known table i o e right sound full h =
      are_words table i (unwrap_or o 0) right sound (known_some (known_at table i) (full_known table i full h) ∙ ap (λ k. Some (unwrap_or k 0)) (sym e))

  fields_prop : (P : ℕ → Type 0) → ((j : ℕ) → IsProp (P j)) → (fs : List Field) → IsProp (EachField P fs)
  fields_prop P h [] = Unit-prop
  fields_prop P h (f ∷ fs) = ×_prop (h f.kind.0) (fields_prop P h fs)

  part_prop : (P : ℕ → Type 0) → ((j : ℕ) → IsProp (P j)) → (n : TypeNode) → IsProp (EachPart P n)
  part_prop P h (Fields fields) = fields_prop P h fields.now
  part_prop P h (FixedArray index element) = h element.0
  part_prop P h (OpenArray element) = absurd_prop
  part_prop P h Reserved = absurd_prop
  part_prop P h (Constant value) = absurd_prop
  part_prop P h _ = Unit-prop

  node_prop : (P : ℕ → Type 0) → ((j : ℕ) → IsProp (P j)) → (o : Option TypeNode) → IsProp (HasParts P o)
  node_prop P h None = absurd_prop
  node_prop P h (Some n) = part_prop P h n

  sized_prop : (depth i : ℕ) → IsProp (IsSized nodes depth i)
  sized_prop zero i = absurd_prop
  sized_prop (suc depth) i = ×_prop (node_prop (IsSized nodes depth) (sized_prop depth) (node_at nodes i)) le_prop

  pub shallow_if : (table : List (Option ℕ)) (i n : ℕ) → AreSized nodes table → IsFull nodes table → length table ≡ n → HasSize nodes i → IsSized nodes n i
  shallow_if table i n sound full l h = ∥∥₁_elim (sound_shallow table i (known_words table i) n sound l (known_some (known_at table i) (full_known table i full h))) (sized_prop n i) (λ s. s)
