-- The line of an object type, and what its types add to a cell.
use Rattle.std.proofs.Common.{◌≡◌, ℕ, zero, suc, ◌+◌, ◌-◌, ◌<◌, ◌^◌, List, [], ◌∷◌, ◌++◌, length, Option, Some, None, refl, sym, ◌∙◌, ap, subst, arith, append_assoc, append-nil}
use Rattle.std.proofs.Math.Bool.{Bool-set}
use Rattle.std.proofs.Math.Logic.{∥∥₁_prop}
use Rattle.std.specs.Coded.{×_prop, Unit-prop, le_prop}
use Rattle.std.specs.List.{AllByRecursion}
use Rattle.std.specs.Option.{option_map_or}
use Rattle.std.proofs.lemmas.Option.{slice_get_within}
use Rattle.m3_types.specs.declared.nodes.Field.{Field}
use Rattle.m3_types.specs.declared.nodes.Reveal.{Reveal}
use Rattle.m3_types.specs.declared.nodes.Secret.TheVariants.{Revealed, Thread, Condition}
use Rattle.m3_types.specs.declared.nodes.TypeNode.{TypeNode}
use Rattle.m3_types.specs.declared.nodes.TypeNode.TheVariants.{Object, Opaque, Mutex, Root}
use Rattle.m3_types.specs.Definitions.{node_at}
use Rattle.m3_types_sizes.specs.Sizes.{field_words, EachField, HasSize, IsShallow}
use Rattle.m3_layout.specs.Pointers.{field_pointers}
use Rattle.m3_layout.specs.Cells.{IsValue, AreInTurn, parent_at, LeadsTo, IsLine, AddsIn, Adds, IsObject}
use Rattle.m3_layout.specs.Depths.{value_words, value_pointers, own_words, own_pointers, line_to, line_of, line_words, line_pointers, object_cell, CanStand, OfParent, EndsWithin}
use Rattle.m3_layout.proofs.Chains.{IsChain, chain_short}
use Rattle.m3_layout.proofs.Targets.{Fits, absurd_prop, value_is, words_size, one_words}

module _ (nodes : List TypeNode) (reveals : List Reveal) where
  abbrev Stands : ℕ → Type 0
  Stands j = CanStand nodes reveals j (node_at nodes j)

  -- ---- the line that is told

  led_longer : (i p above : ℕ) (js : List ℕ) → parent_at nodes reveals i ≡ Some p → LeadsTo nodes reveals p above js → LeadsTo nodes reveals i above (js ++ i ∷ [])
  led_longer i p above [] e l = (e ∙ ap Some (sym l), refl)
  led_longer i p above (j ∷ js) e l = (l.0, led_longer i p j js e l.1)

  line_longer : (i p : ℕ) (xs : List ℕ) → parent_at nodes reveals i ≡ Some p → IsLine nodes reveals p xs → IsLine nodes reveals i (xs ++ i ∷ [])
  line_longer i p [] e l = absurd l
  line_longer i p (top ∷ js) e l = (l.0, led_longer i p top js e l.1)

  line_above : (limit i : ℕ) (o : Option ℕ) → parent_at nodes reveals i ≡ o → ((p : ℕ) → EndsWithin nodes reveals limit p → IsLine nodes reveals p (line_to nodes reveals limit p)) → OfParent (EndsWithin nodes reveals limit) o → IsLine nodes reveals i (option_map_or (line_to nodes reveals limit) o [] ++ i ∷ [])
  line_above limit i None e r q = (e, refl)
  line_above limit i (Some p) e r q = line_longer i p (line_to nodes reveals limit p) e (r p q)

  line_is : (limit i : ℕ) → EndsWithin nodes reveals limit i → IsLine nodes reveals i (line_to nodes reveals limit i)
  line_is zero i s = absurd s
  line_is (suc limit) i s = line_above limit i (parent_at nodes reveals i) refl (line_is limit) s.1

  stand_more : (xs : List ℕ) (i : ℕ) → AllByRecursion Stands xs → Stands i → AllByRecursion Stands (xs ++ i ∷ [])
  stand_more [] i a s = (s, tt)
  stand_more (x ∷ xs) i a s = (a.0, stand_more xs i a.1 s)

  stand_above : (limit i : ℕ) (o : Option ℕ) → ((p : ℕ) → EndsWithin nodes reveals limit p → AllByRecursion Stands (line_to nodes reveals limit p)) → OfParent (EndsWithin nodes reveals limit) o → Stands i → AllByRecursion Stands (option_map_or (line_to nodes reveals limit) o [] ++ i ∷ [])
  stand_above limit i None r q s = (s, tt)
  stand_above limit i (Some p) r q s = stand_more (line_to nodes reveals limit p) i (r p q) s

  all_stand : (limit i : ℕ) → EndsWithin nodes reveals limit i → AllByRecursion Stands (line_to nodes reveals limit i)
  all_stand zero i s = absurd s
  all_stand (suc limit) i s = stand_above limit i (parent_at nodes reveals i) (all_stand limit) s.1 s.0

  -- ---- a line is short, and is told

  node_stands : (i : ℕ) (o : Option TypeNode) → node_at nodes i ≡ o → CanStand nodes reveals i o → i < length nodes
  node_stands i None e s = absurd s
  node_stands i (Some n) e s = slice_get_within nodes i n e

  -- the ancestors of a type, the nearest first
  record Climb (i many : ℕ) : Type 0 where
    js : List ℕ
    chain : IsChain (parent_at nodes reveals) i js
    count : length js ≡ many
    there : AllByRecursion (λ k. k < length nodes) (i ∷ js)

  climb : (js : List ℕ) (above i n m : ℕ) → m ≡ n + length js → LeadsTo nodes reveals i above js → AllByRecursion Stands js → Climb above n → Climb i m
  climb [] above i n m e t s c =
      let same : n ≡ m = omega arith in
      subst (λ (k : ℕ). Climb k m) t (subst (Climb above) same c)
  climb (j ∷ js) above i n m e t s c =
      let next : Climb j (suc n) = record { js = above ∷ c.js; chain = (t.0, c.chain); count = omega (arith, c.count); there = (node_stands j (node_at nodes j) refl s.0, c.there) } in
      climb js j i (suc n) m (omega arith) t.1 s.1 next

  few_above : (top i : ℕ) (js : List ℕ) → IsLine nodes reveals i (top ∷ js) → AllByRecursion Stands (top ∷ js) → length js < length nodes
  few_above top i js l s =
      let first : Climb top 0 = record { js = []; chain = l.0; count = refl; there = (node_stands top (node_at nodes top) refl s.0, tt) } in
      let c = climb js top i 0 (length js) (omega arith) l.1 s.1 first in
      let short = chain_short (parent_at nodes reveals) (length nodes) i c.js c.chain c.there in
      omega (arith, short, c.count)

  led : (js xs : List ℕ) (m n above i : ℕ) → m ≡ n + length js → EndsWithin nodes reveals n above → line_to nodes reveals n above ≡ xs → LeadsTo nodes reveals i above js → AllByRecursion Stands js → EndsWithin nodes reveals m i × (line_to nodes reveals m i ≡ xs ++ js)
  led [] xs m n above i e o l t s =
      let same : n ≡ m = omega arith in
      let P : ℕ → ℕ → Type 0 = λ (k j : ℕ). EndsWithin nodes reveals k j × (line_to nodes reveals k j ≡ xs ++ []) in
      subst (λ (k : ℕ). P k i) same (subst (P n) t (o, l ∙ sym (append-nil xs)))
  led (j ∷ js) xs m n above i e o l t s =
      let up : OfParent (EndsWithin nodes reveals n) (parent_at nodes reveals j) = subst (OfParent (EndsWithin nodes reveals n)) (sym t.0) o in
      let line : line_to nodes reveals (suc n) j ≡ xs ++ j ∷ [] = ap (λ (u : Option ℕ). option_map_or (line_to nodes reveals n) u [] ++ j ∷ []) t.0 ∙ ap (λ (ys : List ℕ). ys ++ j ∷ []) l in
      let r = led js (xs ++ j ∷ []) m (suc n) j i (omega arith) (s.0, up) line t.1 s.1 in
      (r.0, r.1 ∙ append_assoc xs (j ∷ []) js)

  line_told : (i : ℕ) (xs : List ℕ) → IsLine nodes reveals i xs → AllByRecursion Stands xs → EndsWithin nodes reveals (length nodes) i × (line_of nodes reveals i ≡ xs)
  line_told i [] l s = absurd l
  line_told i (top ∷ js) l s =
      let short = few_above top i js l s in
      let n = length nodes - length js - 1 in
      let e : length nodes ≡ suc n + length js = omega (arith, short) in
      let none : OfParent (EndsWithin nodes reveals n) (parent_at nodes reveals top) = subst (OfParent (EndsWithin nodes reveals n)) (sym l.0) tt in
      let line : line_to nodes reveals (suc n) top ≡ top ∷ [] = ap (λ (u : Option ℕ). option_map_or (line_to nodes reveals n) u [] ++ top ∷ []) l.0 in
      led js (top ∷ []) (length nodes) (suc n) top i e (s.0, none) line l.1 s.1

  -- ---- an object type is one in one way

  fields_prop : (fs : List Field) → (x y : EachField (HasSize nodes) fs) → x ≡ y
  fields_prop [] = Unit-prop
  fields_prop (f ∷ fs) = ×_prop ∥∥₁_prop (fields_prop fs)

  stand_prop : (i : ℕ) (o : Option TypeNode) → (x y : CanStand nodes reveals i o) → x ≡ y
  stand_prop i None = absurd_prop
  stand_prop i (Some (Object brand parent fields methods overrides)) = fields_prop fields.now
  stand_prop i (Some (Opaque bound Revealed)) = Bool-set _ _
  stand_prop i (Some (Opaque bound Thread)) = Unit-prop
  stand_prop i (Some (Opaque bound Condition)) = Unit-prop
  stand_prop i (Some Mutex) = Unit-prop
  stand_prop i (Some Root) = Unit-prop
  stand_prop i (Some _) = absurd_prop

  parent_prop : (P : ℕ → Type 0) → ((p : ℕ) → (x y : P p) → x ≡ y) → (o : Option ℕ) → (x y : OfParent P o) → x ≡ y
  parent_prop P h None = Unit-prop
  parent_prop P h (Some p) = h p

  ends_prop : (limit i : ℕ) → (x y : EndsWithin nodes reveals limit i) → x ≡ y
  ends_prop zero i = absurd_prop
  ends_prop (suc limit) i = ×_prop (stand_prop i (node_at nodes i)) (parent_prop (EndsWithin nodes reveals limit) (ends_prop limit) (parent_at nodes reveals i))

  -- ---- what the types add

  module _ (shallow : IsShallow nodes) where
    abbrev W : ℕ → ℕ
    W = value_words nodes

    abbrev P : ℕ → ℕ → List ℕ
    P = value_pointers nodes

    fields_add : (fs : List Field) (at : ℕ) → EachField (HasSize nodes) fs → AreInTurn (λ k f. IsValue nodes k f.kind.0) at fs (field_words W fs) (field_pointers W P at fs)
    fields_add [] at h = (refl, refl)
    fields_add (f ∷ fs) at h =
        let next = at + W f.kind.0 in
        (W f.kind.0, P at f.kind.0, field_words W fs, field_pointers W P next fs, value_is nodes shallow f.kind.0 at h.0, fields_add fs next h.1, refl, refl)

    own_adds : (at i : ℕ) (o : Option TypeNode) → CanStand nodes reveals i o → AddsIn nodes reveals at i o (own_words nodes o) (own_pointers nodes at o)
    own_adds at i None s = absurd s
    own_adds at i (Some (Object brand parent fields methods overrides)) s = fields_add fields.now at s
    own_adds at i (Some (Opaque bound Revealed)) s = (s, refl, refl)
    own_adds at i (Some (Opaque bound Thread)) s = (refl, refl)
    own_adds at i (Some (Opaque bound Condition)) s = (refl, refl)
    own_adds at i (Some Mutex) s = (refl, refl)
    own_adds at i (Some Root) s = (refl, refl)
    own_adds at i (Some _) s = absurd s

    line_adds : (xs : List ℕ) (at : ℕ) → AllByRecursion Stands xs → AreInTurn (Adds nodes reveals) at xs (line_words nodes xs) (line_pointers nodes at xs)
    line_adds [] at a = (refl, refl)
    line_adds (x ∷ xs) at a =
        let o = node_at nodes x in
        let next = at + own_words nodes o in
        (own_words nodes o, own_pointers nodes at o, line_words nodes xs, line_pointers nodes next xs, own_adds at x o a.0, line_adds xs next a.1, refl, refl)

    fields_told : (fs : List Field) (at w : ℕ) (ps : List ℕ) → AreInTurn (λ k f. IsValue nodes k f.kind.0) at fs w ps → EachField (HasSize nodes) fs × (w ≡ field_words W fs)
    fields_told [] at w ps t = (tt, t.0)
    fields_told (f ∷ fs) at w ps t =
        let r = fields_told fs (at + t.0) t.2 t.3 t.5 in
        let one = one_words nodes shallow f.kind.0 t.0 t.4.0 in
        ((words_size nodes f.kind.0 t.0 t.4.0, r.0), omega (arith, t.6, one, r.1))

    own_told : (at i : ℕ) (o : Option TypeNode) (w : ℕ) (ps : List ℕ) → AddsIn nodes reveals at i o w ps → CanStand nodes reveals i o × (w ≡ own_words nodes o)
    own_told at i None w ps t = absurd t
    own_told at i (Some (Object brand parent fields methods overrides)) w ps t = fields_told fields.now at w ps t
    own_told at i (Some (Opaque bound Revealed)) w ps t = (t.0, t.1)
    own_told at i (Some (Opaque bound Thread)) w ps t = (tt, t.0)
    own_told at i (Some (Opaque bound Condition)) w ps t = (tt, t.0)
    own_told at i (Some Mutex) w ps t = (tt, t.0)
    own_told at i (Some Root) w ps t = (tt, t.0)
    own_told at i (Some _) w ps t = absurd t

    turn_told : (xs : List ℕ) (at w : ℕ) (ps : List ℕ) → AreInTurn (Adds nodes reveals) at xs w ps → AllByRecursion Stands xs × (w ≡ line_words nodes xs)
    turn_told [] at w ps t = (tt, t.0)
    turn_told (x ∷ xs) at w ps t =
        let one = own_told at x (node_at nodes x) t.0 t.1 t.4 in
        let r = turn_told xs (at + t.0) t.2 t.3 t.5 in
        ((one.0, r.0), omega (arith, t.6, one.1, r.1))

    pub object_fits : (i : ℕ) → Fits (EndsWithin nodes reveals (length nodes) i × (1 + line_words nodes (line_of nodes reveals i) < 2 ^ 64)) (IsObject nodes reveals i) (object_cell nodes reveals i)
    object_fits i =
        let n = length nodes in
        let line = line_of nodes reveals i in
        record {
          to = λ layout o few fits. (
              let all = turn_told o.0 1 o.1 layout.pointers o.3 in
              let q = line_told i o.0 o.2 all.0 in
              let same : line_words nodes line ≡ line_words nodes o.0 = ap (line_words nodes) q.1 in
              (q.0, omega (arith, same, all.1, o.4, fits)));
          is = λ h. (line, line_words nodes line, line_is n i h.0, line_adds line 1 (all_stand n i h.0), refl, refl);
          unique = ×_prop (ends_prop n i) le_prop;
          dims = λ h. omega arith;
          words = λ h. h.1;
        }
