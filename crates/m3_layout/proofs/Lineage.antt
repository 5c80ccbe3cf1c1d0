-- An object type's line, one type further up.
use Rattle.std.proofs.Common.{◌≡◌, ℕ, zero, suc, ◌+◌, ◌-◌, ◌<◌, ◌≤◌, ◌^◌, List, [], ◌∷◌, ◌++◌, length, get_or, drop, map, Option, Some, None, true, false, refl, sym, ◌∙◌, ap, subst, arith, append_assoc, All, length-append}
use Rattle.std.specs.Option.{option_map_or}
use Rattle.std.proofs.lemmas.List.{drop_more, reverse-append}
use Rattle.std.proofs.lemmas.List.Elements.{All-nil, All-cons}
use Rattle.std.specs.Prelude.{reverse, IfNone}
use Rattle.m3_types.specs.declared.nodes.TypeId.{TypeId}
use Rattle.m3_types.specs.declared.nodes.Field.{Field}
use Rattle.m3_types.specs.declared.nodes.TypeNode.{TypeNode}
use Rattle.m3_types.specs.declared.nodes.TypeNode.TheVariants.{Object, Opaque, Mutex}
use Rattle.m3_types.specs.declared.nodes.Secret.TheVariants.{Revealed, Thread, Condition}
use Rattle.m3_types.specs.declared.nodes.Reveal.{Reveal}
use Rattle.m3_types.specs.Definitions.{node_at}
use Rattle.m3_types_sizes.specs.Sizes.{field_words, EachField, HasSize}
use Rattle.m3_layout.specs.Pointers.{field_pointers}
use Rattle.m3_layout.specs.Cells.{parent_at}
use Rattle.m3_layout.specs.Depths.{value_words, value_pointers, object_fields, is_thread, mutex_words, CanStand, OfParent, EndsWithin, line_to, line_of, line_words, line_pointers, own_words, own_pointers}

-- ---- fields, one further

pub record FieldStep (nodes : List TypeNode) (fs : List Field) (k next : ℕ) (f : Field) : Type 0 where
  pub size : EachField (HasSize nodes) (drop k fs) → HasSize nodes f.kind.0
  pub left : EachField (HasSize nodes) (drop k fs) → EachField (HasSize nodes) (drop (k + 1) fs)
  pub words : field_words (value_words nodes) (drop k fs) ≡ value_words nodes f.kind.0 + field_words (value_words nodes) (drop (k + 1) fs)
  pub pointers : field_pointers (value_words nodes) (value_pointers nodes) next (drop k fs) ≡ value_pointers nodes next f.kind.0 ++ field_pointers (value_words nodes) (value_pointers nodes) (next + value_words nodes f.kind.0) (drop (k + 1) fs)

pub field_step : (nodes : List TypeNode) (fs : List Field) (k next : ℕ) (f : Field) → k < length fs → f ≡ get_or fs k f → FieldStep nodes fs k next f
field_step nodes fs k next f l e =
    let d : drop k fs ≡ f ∷ drop (k + 1) fs = drop_more fs k f l ∙ ap (λ (g : Field). g ∷ drop (k + 1) fs) (sym e) in
    record {
      size = λ h. (let s : EachField (HasSize nodes) (f ∷ drop (k + 1) fs) = subst (EachField (HasSize nodes)) d h in s.0);
      left = λ h. (let s : EachField (HasSize nodes) (f ∷ drop (k + 1) fs) = subst (EachField (HasSize nodes)) d h in s.1);
      words = ap (field_words (value_words nodes)) d;
      pointers = ap (field_pointers (value_words nodes) (value_pointers nodes) next) d;
    }

module _ (nodes : List TypeNode) (reveals : List Reveal) where
  line_words-append : (xs ys : List ℕ) → line_words nodes (xs ++ ys) ≡ line_words nodes xs + line_words nodes ys
  line_words-append [] ys = omega arith
  line_words-append (x ∷ xs) ys = let e = line_words-append xs ys in omega (arith, e)

  -- the words above a type and its own
  pub words_up : (limit i : ℕ) → line_words nodes (line_to nodes reveals (suc limit) i) ≡ line_words nodes (option_map_or (line_to nodes reveals limit) (parent_at nodes reveals i) []) + own_words nodes (node_at nodes i)
  words_up limit i =
      let e = line_words-append (option_map_or (line_to nodes reveals limit) (parent_at nodes reveals i) []) (i ∷ []) in
      omega (arith, e)

  pub object_limit : (limit i : ℕ) → EndsWithin nodes reveals limit i → 0 < limit
  object_limit zero i o = absurd o
  object_limit (suc limit) i o = omega arith

  pub record UpStep (limit top p : ℕ) (below all : List ℕ) : Type 0 where
    pub stands : CanStand nodes reveals p (node_at nodes p)
    pub object : OfParent (EndsWithin nodes reveals limit) (parent_at nodes reveals p)
    pub line : option_map_or (line_to nodes reveals limit) (parent_at nodes reveals p) [] ++ p ∷ below ≡ all

  pub up_step : (limit limit' top p : ℕ) (below all : List ℕ) → limit ≡ suc limit' → Some p ≡ parent_at nodes reveals top → OfParent (EndsWithin nodes reveals limit) (parent_at nodes reveals top) → option_map_or (line_to nodes reveals limit) (parent_at nodes reveals top) [] ++ below ≡ all → UpStep limit' top p below all
  up_step limit limit' top p below all el ep o l =
      let q : EndsWithin nodes reveals (suc limit') p = subst (λ (k : ℕ). EndsWithin nodes reveals k p) el (subst (OfParent (EndsWithin nodes reveals limit)) (sym ep) o) in
      let m : line_to nodes reveals (suc limit') p ++ below ≡ all = subst (λ (k : ℕ). line_to nodes reveals k p ++ below ≡ all) el (ap (λ (u : Option ℕ). option_map_or (line_to nodes reveals limit) u [] ++ below) ep ∙ l) in
      record {
        stands = q.0;
        object = q.1;
        line = sym (append_assoc (option_map_or (line_to nodes reveals limit') (parent_at nodes reveals p) []) (p ∷ []) below) ∙ m;
      }

-- ---- what is there, and the rest of what is to come

pub offsets_on : (new old a b whole goal : List ℕ) → new ≡ old ++ a → whole ≡ a ++ b → old ++ whole ≡ goal → new ++ b ≡ goal
offsets_on new old a b whole goal e1 e2 e3 = ap (λ xs. xs ++ b) e1 ∙ append_assoc old a b ∙ sym (ap (λ xs. old ++ xs) e2) ∙ e3

pub record LineStep (nodes : List TypeNode) (xs : List ℕ) (k next i : ℕ) : Type 0 where
  pub words : line_words nodes (drop k xs) ≡ own_words nodes (node_at nodes i) + line_words nodes (drop (k + 1) xs)
  pub pointers : line_pointers nodes next (drop k xs) ≡ own_pointers nodes next (node_at nodes i) ++ line_pointers nodes (next + own_words nodes (node_at nodes i)) (drop (k + 1) xs)

pub line_step : (nodes : List TypeNode) (xs : List ℕ) (k next i : ℕ) → k < length xs → i ≡ get_or xs k i → LineStep nodes xs k next i
line_step nodes xs k next i l e =
    let d : drop k xs ≡ i ∷ drop (k + 1) xs = drop_more xs k i l ∙ ap (λ j. j ∷ drop (k + 1) xs) (sym e) in
    record {
      words = ap (line_words nodes) d;
      pointers = ap (line_pointers nodes next) d;
    }

-- ---- a type that adds no fields

pub plain_own : (nodes : List TypeNode) (o : Option TypeNode) (at : ℕ) → None ≡ object_fields o → is_thread o ≡ false → (own_words nodes o ≡ mutex_words o) × (own_pointers nodes at o ≡ [])
plain_own nodes None at f t = (refl, refl)
plain_own nodes (Some (Object brand parent fields methods overrides)) at f t = let z : ⊥ = cc in absurd z
plain_own nodes (Some (Opaque bound Thread)) at f t = let z : ⊥ = cc in absurd z
plain_own nodes (Some (Opaque bound Revealed)) at f t = (refl, refl)
plain_own nodes (Some (Opaque bound Condition)) at f t = (refl, refl)
plain_own nodes (Some Mutex) at f t = (refl, refl)
plain_own nodes (Some _) at f t = (refl, refl)

pub thread_own : (nodes : List TypeNode) (o : Option TypeNode) (at : ℕ) → is_thread o ≡ true → (own_words nodes o ≡ 3) × (own_pointers nodes at o ≡ (at + 2) ∷ [])
thread_own nodes None at t = let z : ⊥ = cc in absurd z
thread_own nodes (Some (Opaque bound Thread)) at t = (refl, refl)
thread_own nodes (Some (Opaque bound Revealed)) at t = let z : ⊥ = cc in absurd z
thread_own nodes (Some (Opaque bound Condition)) at t = let z : ⊥ = cc in absurd z
thread_own nodes (Some _) at t = let z : ⊥ = cc in absurd z

pub fields_own : (nodes : List TypeNode) (reveals : List Reveal) (i : ℕ) (o : Option TypeNode) (at : ℕ) (fs : List Field) → Some fs ≡ object_fields o → (CanStand nodes reveals i o → EachField (HasSize nodes) fs) × (own_words nodes o ≡ field_words (value_words nodes) fs) × (own_pointers nodes at o ≡ field_pointers (value_words nodes) (value_pointers nodes) at fs)
fields_own nodes reveals i None at fs h = let z : ⊥ = cc in absurd z
fields_own nodes reveals i (Some (Object brand parent fields methods overrides)) at fs h =
    let e : fields.now ≡ fs = cc in
    (λ s. subst (EachField (HasSize nodes)) e s, ap (field_words (value_words nodes)) e, ap (field_pointers (value_words nodes) (value_pointers nodes) at) e)
fields_own nodes reveals i (Some _) at fs h = let z : ⊥ = cc in absurd z

-- ---- the line of an object type, as far as it has been followed upwards

module _ (nodes : List TypeNode) (reveals : List Reveal) where
  abbrev pub Stands : TypeId → Type 0
  Stands u = CanStand nodes reveals u.0 (node_at nodes u.0)

  -- the ancestors above the top, and then the types so far from the top on, are the whole line
  pub record LineSoFar (items : List TypeId) (top t : TypeId) : Type 0 where
    pub few : length items ≤ length nodes
    pub object : OfParent (EndsWithin nodes reveals (length nodes - length items)) (parent_at nodes reveals top.0)
    pub stand : All Stands (reverse items)
    pub line : option_map_or (line_to nodes reveals (length nodes - length items)) (parent_at nodes reveals top.0) [] ++ map (λ (u : TypeId). u.0) (reverse items) ≡ line_of nodes reveals t.0

  pub line_start : (items : List TypeId) (t : TypeId) → items ≡ t ∷ [] → EndsWithin nodes reveals (length nodes) t.0 → LineSoFar items t t
  line_start items t e o =
      let n = length nodes in
      let some : 0 < n = object_limit nodes reveals n t.0 o in
      let el : n ≡ suc (n - 1) = omega arith in
      let q : EndsWithin nodes reveals (suc (n - 1)) t.0 = subst (λ (k : ℕ). EndsWithin nodes reveals k t.0) el o in
      let P : List TypeId → Type 0 = λ (xs : List TypeId). LineSoFar xs t t in
      let here : P (t ∷ []) = record {
        few = omega arith;
        object = q.1;
        stand = All-cons Stands t [] q.0 (All-nil Stands);
        line = ap (λ (k : ℕ). line_to nodes reveals k t.0) (sym el);
      } in
      subst P (sym e) here

  pub line_more : (items items' : List TypeId) (top p t : TypeId) → Some p.0 ≡ parent_at nodes reveals top.0 → items' ≡ items ++ p ∷ [] → LineSoFar items top t → LineSoFar items' p t
  line_more items items' top p t ep e s =
      let n = length nodes in
      let limit = n - length items in
      let limit' = n - length items' in
      let longer : length items' ≡ length items + 1 = ap length e ∙ length-append items (p ∷ []) in
      let o : EndsWithin nodes reveals limit p.0 = subst (OfParent (EndsWithin nodes reveals limit)) (sym ep) s.object in
      let some : 0 < limit = object_limit nodes reveals limit p.0 o in
      let el : limit ≡ suc limit' = omega arith in
      let below = map (λ (u : TypeId). u.0) (reverse items) in
      let u = up_step nodes reveals limit limit' top.0 p.0 below (line_of nodes reveals t.0) el ep s.object s.line in
      let re : reverse items' ≡ p ∷ reverse items = ap reverse e ∙ reverse-append items (p ∷ []) in
      record {
        few = omega arith;
        object = u.object;
        stand = subst (All Stands) (sym re) (All-cons Stands p (reverse items) u.stands s.stand);
        line = ap (λ (xs : List TypeId). option_map_or (line_to nodes reveals limit') (parent_at nodes reveals p.0) [] ++ map (λ (u : TypeId). u.0) xs) re ∙ u.line;
      }

  pub line_done : (items new : List TypeId) (top t : TypeId) → None ≡ parent_at nodes reveals top.0 → new ≡ reverse items → LineSoFar items top t → (map (λ (u : TypeId). u.0) new ≡ line_of nodes reveals t.0) × All Stands new
  line_done items new top t en e s = (
    ap (map (λ (u : TypeId). u.0)) e ∙ ap (λ (o : Option ℕ). option_map_or (line_to nodes reveals (length nodes - length items)) o [] ++ map (λ (u : TypeId). u.0) (reverse items)) en ∙ s.line,
    subst (All Stands) (sym e) s.stand,
  )

  -- ---- the words of an object type, one type further up

  pub object_up : (limit limit' top : ℕ) → limit ≡ suc limit' → EndsWithin nodes reveals limit top → CanStand nodes reveals top (node_at nodes top) × OfParent (EndsWithin nodes reveals limit') (parent_at nodes reveals top)
  object_up limit limit' top el o = subst (λ (k : ℕ). EndsWithin nodes reveals k top) el o

  pub object_down : (limit limit' top : ℕ) → limit ≡ suc limit' → CanStand nodes reveals top (node_at nodes top) → OfParent (EndsWithin nodes reveals limit') (parent_at nodes reveals top) → EndsWithin nodes reveals limit top
  object_down limit limit' top el s o = subst (λ (k : ℕ). EndsWithin nodes reveals k top) (sym el) (s, o)

  pub words_of_line : (limit limit' top : ℕ) → limit ≡ suc limit' → line_words nodes (line_to nodes reveals limit top) ≡ line_words nodes (option_map_or (line_to nodes reveals limit') (parent_at nodes reveals top) []) + own_words nodes (node_at nodes top)
  words_of_line limit limit' top el = ap (λ (k : ℕ). line_words nodes (line_to nodes reveals k top)) el ∙ words_up nodes reveals limit' top

  pub no_room : (limit limit' top t words : ℕ) → limit ≡ suc limit' → (EndsWithin nodes reveals (length nodes) t → EndsWithin nodes reveals limit top) → words + line_words nodes (line_to nodes reveals limit top) ≡ 1 + line_words nodes (line_of nodes reveals t) → EndsWithin nodes reveals (length nodes) t → 1 + line_words nodes (line_of nodes reveals t) < 2 ^ 64 → CanStand nodes reveals top (node_at nodes top) × (words + own_words nodes (node_at nodes top) < 2 ^ 64)
  no_room limit limit' top t words el whole sum o f =
      ((object_up limit limit' top el (whole o)).0, omega (arith, words_of_line limit limit' top el, sum, f))

  pub words_above : (limit limit' top words own words' : ℕ) (parent : Option ℕ) → limit ≡ suc limit' → parent ≡ parent_at nodes reveals top → own ≡ own_words nodes (node_at nodes top) → words' ≡ words + own → words' + line_words nodes (option_map_or (line_to nodes reveals limit') parent []) ≡ words + line_words nodes (line_to nodes reveals limit top)
  words_above limit limit' top words own words' parent el ep eo ew =
      let e = words_of_line limit limit' top el in
      let p : line_words nodes (option_map_or (line_to nodes reveals limit') parent []) ≡ line_words nodes (option_map_or (line_to nodes reveals limit') (parent_at nodes reveals top) []) = ap (λ (o : Option ℕ). line_words nodes (option_map_or (line_to nodes reveals limit') o [])) ep in
      omega arith

pub if_none : (r : Option ℕ) (P : Type 0) → r ≡ None → P → IfNone r P
if_none None P e p = p
if_none (Some n) P e p = let z : ⊥ = cc in absurd z
