-- Places that references lead to.
use Rattle.std.proofs.Common.{◌≡◌, ℕ, zero, suc, ◌⊎◌, inl, inr, ⊎_elim, Bool, true, false, List, [], ◌∷◌, ◌++◌, Option, Some, None, refl, sym, ap, ◌∙◌, subst, arith}
use Rattle.std.specs.Prelude.{◌||◌, slice_get, slice_set}
use Rattle.std.specs.Option.{option_map, option_map_or, option_and_then}
use Rattle.std.specs.List.{list_any}
use Rattle.m3_types.specs.declared.nodes.Brand.{Brand}
use Rattle.m3_types.specs.declared.nodes.TypeId.{TypeId}
use Rattle.m3_types.specs.declared.nodes.TypeNode.{TypeNode}
use Rattle.m3_types.specs.declared.nodes.TypeNode.TheVariants as node
use Rattle.m3_values.specs.Values as value
use Rattle.m3_values.specs.Values.{Value, Values, items, row_of}
use Rattle.m3_values.specs.Arrays.{shape}
use Rattle.m3_values.specs.Programs.{Program}
use Rattle.m3_values.specs.Types.{node_of, target_in, parent, is_object_in, object_fields, line_to, depth, is_same, is_below, unveiled, unveiled_in}
use Rattle.m3_values.specs.Places as place
use Rattle.m3_values.specs.Places.{Place, whole, selected, value_in}
use Rattle.m3_values.specs.Store as store
use Rattle.m3_values.specs.Store.{Cell, Store, Memory, cell_at, with_cell, content_in, content_of, with_content_in, with_store, cell_has_type, has_type, is_text_type, is_thread_type, is_made_type, read, write}
use Rattle.m3_source_typing.specs.ValueTypes.{OfReferences, class_in, class_of, HasFixedSizes, HasType, AreFields}
use Rattle.m3_source_typing.specs.Stores as stores
use Rattle.m3_source_typing.specs.Stores.{Becomes as CellBecomes, HasStill, IsLater, IsContentOf, IsNoText}
use Rattle.m3_source_typing.specs.Sound.{Owned, IsFair, Becomes, IsPlaceOf}
use Rattle.m3_source_typing.specs.Expressions.{ParentsAreObjects, HasField, HaveField}
use Rattle.m3_source_typing.proofs.Staying.{later_keeps, becomes_itself, type_stays}
use Rattle.m3_source_typing.proofs.Parts.{read_further, write_further, item_set, field_there, fields_set, fixed_shape}
use Rattle.m3_source_typing.proofs.Places.{becomes_so, content_stays, variables_stay}
use Rattle.m3_source_typing.proofs.Sameness.{BothSame, flipped, target_same, share_values}

-- ---- rows

pub any_in_both : (f : ℕ → Bool) (xs ys : List ℕ) → list_any f (xs ++ ys) ≡ true → (list_any f xs ≡ true) ⊎ (list_any f ys ≡ true)
any_in_both f [] ys e = inr e
any_in_both f (x ∷ xs) ys e = at (f x) e (any_in_both f xs ys)
  where
    at : (b : Bool) → (b || list_any f (xs ++ ys)) ≡ true → (list_any f (xs ++ ys) ≡ true → (list_any f xs ≡ true) ⊎ (list_any f ys ≡ true)) → ((b || list_any f xs) ≡ true) ⊎ (list_any f ys ≡ true)
    at true e h = inl refl
    at false e h = h e

pub any_alone : (b : Bool) → (b || false) ≡ true → b ≡ true
any_alone true e = refl
any_alone false e = e

-- what is set, and each other one
pub set_or : {A : Type 0} (xs : List A) (n : ℕ) (x : A) (m : ℕ) (old : A) → slice_get xs m ≡ Some old → ((n ≡ m) × (slice_get (slice_set xs n x) m ≡ Some x)) ⊎ (slice_get (slice_set xs n x) m ≡ Some old)
set_or [] n x m old h = inr h
set_or (y ∷ xs) zero x zero old h = inl (refl, refl)
set_or (y ∷ xs) zero x (suc m) old h = inr h
set_or (y ∷ xs) (suc n) x zero old h = inr h
set_or (y ∷ xs) (suc n) x (suc m) old h = ⊎_elim (λ q. inl (ap suc q.0, q.1)) (λ q. inr q) (set_or xs n x m old h)

was_or : {A : Type 0} (xs : List A) (n : ℕ) (x : A) (m : ℕ) (now : A) → slice_get (slice_set xs n x) m ≡ Some now → ((n ≡ m) × (x ≡ now)) ⊎ (slice_get xs m ≡ Some now)
was_or [] n x m now h = inr h
was_or (y ∷ xs) zero x zero now h = let one : Some x ≡ Some now = h in inl (refl, cc)
was_or (y ∷ xs) zero x (suc m) now h = inr h
was_or (y ∷ xs) (suc n) x zero now h = inr h
was_or (y ∷ xs) (suc n) x (suc m) now h = ⊎_elim (λ q. inl (ap suc q.0, q.1)) (λ q. inr q) (was_or xs n x m now h)

-- ---- cells

abbrev pub kind_or : ℕ → Cell → ℕ
kind_or n (store.Made kind v holder) = kind
kind_or n (store.Bytes bytes) = n
kind_or n (store.Forked number result is_joined) = n

abbrev pub is_made : Cell → Bool
is_made (store.Made kind v holder) = true
is_made _ = false

abbrev pub content_or : Value → Cell → Value
content_or w (store.Made kind v holder) = v
content_or w (store.Bytes bytes) = w
content_or w (store.Forked number result is_joined) = w

-- a cell that was made is there still, with something of the same shape
pub record IsThere (s : Store) (c kind : ℕ) (sizes : List ℕ) : Type 0 where
  pub content : Value
  pub holder : ℕ
  pub is : cell_at s c ≡ Some (store.Made kind content holder)
  pub shaped : shape content ≡ sizes

module _ (p : Program) where
  still_there : (s : Store) (c kind : ℕ) (v : Value) (now : Cell) → cell_at s c ≡ Some now → (cell : Cell) → CellBecomes cell now → (holder : ℕ) → cell ≡ store.Made kind v holder → IsThere s c kind (shape v)
  still_there s c kind v _ e _ (stores.made k w u m n same) holder is =
      let one : k ≡ kind = ap (kind_or kind) is in
      let other : w ≡ v = ap (content_or v) is in
      record { content = u; holder = n; is = e ∙ ap (λ x. Some (store.Made x u n)) one; shaped = sym same ∙ ap shape other }
  still_there s c kind v _ e _ (stores.text bytes) holder is = let bad : suc kind ≡ kind = ap (kind_or (suc kind)) is in absurd (omega arith)
  still_there s c kind v _ e _ (stores.thread number a b x y) holder is = let bad : suc kind ≡ kind = ap (kind_or (suc kind)) is in absurd (omega arith)

  there_later : (s t : Store) (c kind : ℕ) (sizes : List ℕ) → IsLater s t → IsThere s c kind sizes → IsThere t c kind sizes
  there_later s t c kind sizes l h =
      let still = l.cells c (store.Made kind h.content h.holder) h.is in
      let now = still_there t c kind h.content still.now still.there (store.Made kind h.content h.holder) still.becomes h.holder refl in
      record { content = now.content; holder = now.holder; is = now.is; shaped = now.shaped ∙ h.shaped }

  holds : (known : Owned) (m : Memory) (c kind : ℕ) (sizes : List ℕ) → IsFair p known m → (h : IsThere m.store c kind sizes) → IsContentOf p m.store h.content kind (node_of p kind)
  holds known m c kind sizes fair h = fair.store.cells c kind h.content h.holder h.is (λ e. let bad : Some c ≡ None = e in absurd cc)

  read_cell : (m : Memory) (c kind : ℕ) (sizes : List ℕ) → (h : IsThere m.store c kind sizes) → read m (whole (place.Referent c)) ≡ Some h.content
  read_cell m c kind sizes h = ap (λ o. option_and_then (value_in []) (option_and_then content_in o)) h.is

  -- ---- writing to a cell

  abbrev with_made : Memory → ℕ → ℕ → Value → ℕ → Memory
  with_made m c kind v holder = record m { store = with_cell c (store.Made kind v holder) m.store }

  made_later : (m : Memory) (c kind : ℕ) (sizes : List ℕ) (v : Value) → (h : IsThere m.store c kind sizes) → shape v ≡ sizes → IsLater m.store (with_made m c kind v h.holder).store
  made_later m c kind sizes v h e = record {
    cells = λ d cell is. ⊎_elim
        (λ q. record { now = store.Made kind v h.holder; there = q.1; becomes = subst (λ x. CellBecomes x (store.Made kind v h.holder)) (one d cell is q.0) (stores.made kind h.content v h.holder h.holder (h.shaped ∙ sym e)) })
        (λ q. record { now = cell; there = q; becomes = becomes_itself cell })
        (set_or m.store.cells c (store.Made kind v h.holder) d cell is);
  }
    where
      one : (d : ℕ) (cell : Cell) → cell_at m.store d ≡ Some cell → c ≡ d → store.Made kind h.content h.holder ≡ cell
      one d cell is same = let q : Some (store.Made kind h.content h.holder) ≡ Some cell = sym h.is ∙ ap (cell_at m.store) same ∙ is in cc

  made_fair : (m : Memory) (c kind : ℕ) (sizes : List ℕ) (v : Value) → (h : IsThere m.store c kind sizes) → shape v ≡ sizes → IsContentOf p m.store v kind (node_of p kind) → (own : Owned) → IsFair p own m → IsFair p own (with_made m c kind v h.holder)
  made_fair m c kind sizes v h e content own fair =
      let after = with_made m c kind v h.holder in
      let l : IsLater m.store after.store = made_later m c kind sizes v h e in
      record {
        store = record {
          cells = λ d k w holder is new. ⊎_elim
              (λ q.
              let same : kind ≡ k = ap (kind_or kind) q.1 in
              let what : v ≡ w = ap (content_or v) q.1 in
              subst (λ x. IsContentOf p after.store w x (node_of p x)) same (subst (λ x. IsContentOf p after.store x kind (node_of p kind)) what (content_stays p m.store after.store (later_keeps p m.store after.store l) v kind (node_of p kind) content)))
              (λ q. content_stays p m.store after.store (later_keeps p m.store after.store l) w k (node_of p k) (fair.store.cells d k w holder q new))
              (was_or m.store.cells c (store.Made kind v h.holder) d (store.Made k w holder) is);
          made = λ d k w holder is. ⊎_elim
              (λ q. subst (IsNoText p) (ap (kind_or kind) q.1) (fair.store.made c kind h.content h.holder h.is))
              (λ q. fair.store.made d k w holder q)
              (was_or m.store.cells c (store.Made kind v h.holder) d (store.Made k w holder) is);
          texts = λ d bytes is. ⊎_elim
              (λ q. absurd (let bad : true ≡ false = ap is_made q.1 in cc))
              (λ q. fair.store.texts d bytes q)
              (was_or m.store.cells c (store.Made kind v h.holder) d (store.Bytes bytes) is);
          globals = variables_stay p m.store after.store (later_keeps p m.store after.store l) m.store.globals p.globals fair.store.globals;
        };
        room = fair.room;
        variables = λ y t is. let w = fair.variables y t is in record { value = w.value; is = w.is; typed = type_stays p m.store after.store l w.value t w.typed };
      }

  write_cell : (m : Memory) (c kind : ℕ) (sizes : List ℕ) (v : Value) → (h : IsThere m.store c kind sizes) → write (whole (place.Referent c)) v m ≡ Some (with_made m c kind v h.holder)
  write_cell m c kind sizes v h =
      ap (λ o. option_and_then (λ w. store.holding (place.Referent c) v m) (option_and_then content_in o)) h.is
      ∙ ap (λ o. with_store m (with_content_in m.store c v o)) h.is

  pub cell_written : (known : Owned) (m : Memory) (c kind : ℕ) (sizes : List ℕ) (v : Value) → IsThere m.store c kind sizes → shape v ≡ sizes → IsContentOf p m.store v kind (node_of p kind) → Becomes p known m (write (whole (place.Referent c)) v m)
  cell_written known m c kind sizes v h e content = record {
    after = with_made m c kind v h.holder;
    is = write_cell m c kind sizes v h;
    later = made_later m c kind sizes v h e;
    fair = λ own k fair. made_fair m c kind sizes v h e content own fair;
    names = λ y q r. r;
  }

  -- ---- types of references

  pub record IsRef (o : Option TypeNode) (k : ℕ) : Type 0 where
    pub brand : Option Brand
    pub target : TypeId
    pub is : o ≡ Some (node.RefTo brand target)
    pub leads : target.0 ≡ k

  ref_node : (o : Option TypeNode) (k : ℕ) → target_in o ≡ Some k → IsRef o k
  ref_node None k e = absurd (let bad : None ≡ Some k = e in cc)
  ref_node (Some node.Reserved) k e = absurd (let bad : None ≡ Some k = e in cc)
  ref_node (Some node.Integer) k e = absurd (let bad : None ≡ Some k = e in cc)
  ref_node (Some node.Boolean) k e = absurd (let bad : None ≡ Some k = e in cc)
  ref_node (Some node.Character) k e = absurd (let bad : None ≡ Some k = e in cc)
  ref_node (Some (node.Enumeration names)) k e = absurd (let bad : None ≡ Some k = e in cc)
  ref_node (Some (node.Subrange base first last)) k e = absurd (let bad : None ≡ Some k = e in cc)
  ref_node (Some (node.FixedArray index element)) k e = absurd (let bad : None ≡ Some k = e in cc)
  ref_node (Some (node.OpenArray element)) k e = absurd (let bad : None ≡ Some k = e in cc)
  ref_node (Some (node.Fields fields)) k e = absurd (let bad : None ≡ Some k = e in cc)
  ref_node (Some (node.SetOf base)) k e = absurd (let bad : None ≡ Some k = e in cc)
  ref_node (Some (node.RefTo brand target)) k e = record { brand = brand; target = target; is = refl; leads = (let one : Some target.0 ≡ Some k = e in cc) }
  ref_node (Some (node.Object brand parent fields methods overrides)) k e = absurd (let bad : None ≡ Some k = e in cc)
  ref_node (Some (node.Procedure formals result raises)) k e = absurd (let bad : None ≡ Some k = e in cc)
  ref_node (Some (node.Opaque bound secret)) k e = absurd (let bad : None ≡ Some k = e in cc)
  ref_node (Some node.Null) k e = absurd (let bad : None ≡ Some k = e in cc)
  ref_node (Some node.RefAny) k e = absurd (let bad : None ≡ Some k = e in cc)
  ref_node (Some node.Text) k e = absurd (let bad : None ≡ Some k = e in cc)
  ref_node (Some node.Mutex) k e = absurd (let bad : None ≡ Some k = e in cc)
  ref_node (Some node.Root) k e = absurd (let bad : None ≡ Some k = e in cc)
  ref_node (Some (node.Constant value)) k e = absurd (let bad : None ≡ Some k = e in cc)

  content_of_ref : (s : Store) (v : Value) (kind : ℕ) (o : Option TypeNode) (k : ℕ) → target_in o ≡ Some k → IsContentOf p s v kind o → HasType p s v k
  content_of_ref s v kind o k e h =
      let r = ref_node o k e in
      subst (HasType p s v) r.leads (subst (IsContentOf p s v kind) r.is h)

  ref_has_content : (s : Store) (v : Value) (kind : ℕ) (o : Option TypeNode) (k : ℕ) → target_in o ≡ Some k → HasType p s v k → IsContentOf p s v kind o
  ref_has_content s v kind o k e h =
      let r = ref_node o k e in
      subst (IsContentOf p s v kind) (sym r.is) (subst (HasType p s v) (sym r.leads) h)

  -- a type or an ancestor of it
  among_line : (f : ℕ → Bool) (limit t : ℕ) → list_any f (line_to p limit t) ≡ true → (f t ≡ true) ⊎ ((u : ℕ) × (a : ℕ) × (parent p u ≡ Some a) × (f a ≡ true))
  among_line f zero t e = absurd (let bad : false ≡ true = e in cc)
  among_line f (suc limit) t e = at (parent p t) refl (any_in_both f _ (t ∷ []) e) (λ a g. among_line f limit a g)
    where
      at : (o : Option ℕ) → parent p t ≡ o → (list_any f (option_map_or (line_to p limit) o []) ≡ true) ⊎ ((f t || false) ≡ true) → ((a : ℕ) → list_any f (line_to p limit a) ≡ true → (f a ≡ true) ⊎ ((u : ℕ) × (b : ℕ) × (parent p u ≡ Some b) × (f b ≡ true))) → (f t ≡ true) ⊎ ((u : ℕ) × (a : ℕ) × (parent p u ≡ Some a) × (f a ≡ true))
      at None is (inl e) above = absurd (let bad : false ≡ true = e in cc)
      at (Some a) is (inl e) above = ⊎_elim (λ h. inr (t, a, is, h)) (λ h. inr h) (above a e)
      at o is (inr e) above = inl (any_alone (f t) e)

  no_object : (o : Option TypeNode) (k : ℕ) → target_in o ≡ Some k → is_object_in o ≡ true → ⊥
  no_object o k e h = let r = ref_node o k e in let bad : false ≡ true = sym (ap is_object_in r.is) ∙ h in absurd cc

  some_target : (a b : Option ℕ) (k : ℕ) → BothSame p a b → b ≡ Some k → (j : ℕ) × (a ≡ Some j) × (is_same p j k ≡ true)
  some_target None None k h e = absurd (let bad : None ≡ Some k = e in cc)
  some_target None (Some j) k h e = absurd h
  some_target (Some i) None k h e = absurd h
  some_target (Some i) (Some j) k h e = let one : j ≡ k = cc in (i, refl, subst (λ x. is_same p i x ≡ true) one h)

  -- a cell below a REF type is one of a REF type with the same referents
  ref_below : ParentsAreObjects p → (kind t k : ℕ) → target_in (node_of p t) ≡ Some k → is_below p kind t ≡ true → (j : ℕ) × (target_in (node_of p kind) ≡ Some j) × (is_same p j k ≡ true)
  ref_below objects kind t k e below = ⊎_elim
      (λ h. some_target (target_in (node_of p kind)) (target_in (node_of p t)) k (target_same p kind t h) e)
      (λ h. let j = some_target (target_in (node_of p h.1)) (target_in (node_of p t)) k (target_same p h.1 t h.3) e in absurd (no_object (node_of p h.1) j.0 j.1 (objects h.0 h.1 h.2)))
      (among_line (λ a. is_same p a t) (depth p) kind below)

  -- what is known of a cell that a reference leads to
  pub record IsRefCell (s : Store) (c k : ℕ) : Type 0 where
    pub kind : ℕ
    pub content : Value
    pub holder : ℕ
    pub is : cell_at s c ≡ Some (store.Made kind content holder)
    pub target : ℕ
    pub leads : target_in (node_of p kind) ≡ Some target
    pub same : is_same p target k ≡ true

  ref_cell : ParentsAreObjects p → (s : Store) (c t k : ℕ) → target_in (node_of p t) ≡ Some k → (o : Option Cell) → cell_at s c ≡ o → option_map (cell_has_type p t) o ≡ Some true → IsRefCell s c k
  ref_cell objects s c t k e None is h = absurd (let bad : None ≡ Some true = h in cc)
  ref_cell objects s c t k e (Some (store.Made kind v holder)) is h =
      let r = ref_node (node_of p t) k e in
      let made : Some (is_made_type p kind t (node_of p t)) ≡ Some true = h in
      let below : is_below p kind t ≡ true = sym (ap (is_made_type p kind t) r.is) ∙ cc in
      let j = ref_below objects kind t k e below in
      record { kind = kind; content = v; holder = holder; is = is; target = j.0; leads = j.1; same = j.2 }
  ref_cell objects s c t k e (Some (store.Bytes bytes)) is h =
      let r = ref_node (node_of p t) k e in
      let bad : Some false ≡ Some true = ap (λ o. Some (is_text_type p o)) (sym r.is) ∙ h in absurd cc
  ref_cell objects s c t k e (Some (store.Forked number result is_joined)) is h =
      let r = ref_node (node_of p t) k e in
      let bad : Some false ≡ Some true = ap (λ o. Some (is_thread_type p o)) (sym r.is) ∙ h in absurd cc

  ref_bare : (t k : ℕ) → target_in (node_of p t) ≡ Some k → unveiled p t ≡ t
  ref_bare t k e = let r = ref_node (node_of p t) k e in ap (unveiled_in p t) r.is

  pub ref_class : (t k : ℕ) → target_in (node_of p t) ≡ Some k → class_of p t ≡ OfReferences
  ref_class t k e = let r = ref_node (node_of p t) k e in ap class_in r.is

  pub ref_no_text : (t k : ℕ) → target_in (node_of p t) ≡ Some k → is_text_type p (node_of p (unveiled p t)) ≡ false
  ref_no_text t k e = let r = ref_node (node_of p t) k e in ap (λ x. is_text_type p (node_of p x)) (ref_bare t k e) ∙ ap (is_text_type p) r.is

  pub ref_no_thread : (t k : ℕ) → target_in (node_of p t) ≡ Some k → is_thread_type p (node_of p (unveiled p t)) ≡ false
  ref_no_thread t k e = let r = ref_node (node_of p t) k e in ap (λ x. is_thread_type p (node_of p x)) (ref_bare t k e) ∙ ap (is_thread_type p) r.is

  -- THE REFERENT of a reference is a variable.
  pub referent_place : (known : Owned) → ParentsAreObjects p → (s : Store) (c t k : ℕ) → target_in (node_of p t) ≡ Some k → has_type p s t (value.Pointer c) ≡ Some true → IsPlaceOf p known true s (whole (place.Referent c)) k
  referent_place known objects s c t k e h =
      let cell = ref_cell objects s c t k e (cell_at s c) refl (subst (λ x. option_map (cell_has_type p x) (cell_at s c) ≡ Some true) (ref_bare t k e) h) in
      let there : IsThere s c cell.kind (shape cell.content) = record { content = cell.content; holder = cell.holder; is = cell.is; shaped = refl } in
      record {
        sizes = shape cell.content;
        reads = λ m l fair.
            let now = there_later s m.store c cell.kind (shape cell.content) l there in
            let content = content_of_ref m.store now.content cell.kind (node_of p cell.kind) cell.target cell.leads (holds known m c cell.kind (shape cell.content) fair now) in
            (now.content, read_cell m c cell.kind (shape cell.content) now, share_values p m.store now.content cell.target k cell.same content, now.shaped);
        writes = λ is m l fair v g f.
            let now = there_later s m.store c cell.kind (shape cell.content) l there in
            cell_written known m c cell.kind (shape cell.content) v now f (ref_has_content m.store v cell.kind (node_of p cell.kind) cell.target cell.leads (share_values p m.store v k cell.target (flipped p cell.target k cell.same) g));
      }

  -- ---- fields of objects

  content_of_object : (s : Store) (v : Value) (kind : ℕ) (o : Option TypeNode) → is_object_in o ≡ true → IsContentOf p s v kind o → (vs : Values) × (v ≡ value.Record vs) × AreFields p s vs (object_fields p kind)
  content_of_object s v kind None e h = absurd (let bad : false ≡ true = e in cc)
  content_of_object s v kind (Some node.Reserved) e h = absurd (let bad : false ≡ true = e in cc)
  content_of_object s v kind (Some node.Integer) e h = absurd (let bad : false ≡ true = e in cc)
  content_of_object s v kind (Some node.Boolean) e h = absurd (let bad : false ≡ true = e in cc)
  content_of_object s v kind (Some node.Character) e h = absurd (let bad : false ≡ true = e in cc)
  content_of_object s v kind (Some (node.Enumeration names)) e h = absurd (let bad : false ≡ true = e in cc)
  content_of_object s v kind (Some (node.Subrange base first last)) e h = absurd (let bad : false ≡ true = e in cc)
  content_of_object s v kind (Some (node.FixedArray index element)) e h = absurd (let bad : false ≡ true = e in cc)
  content_of_object s v kind (Some (node.OpenArray element)) e h = absurd (let bad : false ≡ true = e in cc)
  content_of_object s v kind (Some (node.Fields fields)) e h = absurd (let bad : false ≡ true = e in cc)
  content_of_object s v kind (Some (node.SetOf base)) e h = absurd (let bad : false ≡ true = e in cc)
  content_of_object s v kind (Some (node.RefTo brand target)) e h = absurd (let bad : false ≡ true = e in cc)
  content_of_object s (value.Record vs) kind (Some (node.Object brand parent fields methods overrides)) e h = (vs, refl, h)
  content_of_object s (value.Ordinal z) kind (Some (node.Object brand parent fields methods overrides)) e h = absurd h
  content_of_object s value.Nil kind (Some (node.Object brand parent fields methods overrides)) e h = absurd h
  content_of_object s (value.Pointer c) kind (Some (node.Object brand parent fields methods overrides)) e h = absurd h
  content_of_object s (value.Text t) kind (Some (node.Object brand parent fields methods overrides)) e h = absurd h
  content_of_object s value.MainThread kind (Some (node.Object brand parent fields methods overrides)) e h = absurd h
  content_of_object s (value.Procedure q a) kind (Some (node.Object brand parent fields methods overrides)) e h = absurd h
  content_of_object s (value.Members ms) kind (Some (node.Object brand parent fields methods overrides)) e h = absurd h
  content_of_object s (value.Array below vs) kind (Some (node.Object brand parent fields methods overrides)) e h = absurd h
  content_of_object s v kind (Some (node.Procedure formals result raises)) e h = absurd (let bad : false ≡ true = e in cc)
  content_of_object s (value.Record vs) kind (Some (node.Opaque bound secret)) e h = (vs, refl, h)
  content_of_object s (value.Ordinal z) kind (Some (node.Opaque bound secret)) e h = absurd h
  content_of_object s value.Nil kind (Some (node.Opaque bound secret)) e h = absurd h
  content_of_object s (value.Pointer c) kind (Some (node.Opaque bound secret)) e h = absurd h
  content_of_object s (value.Text t) kind (Some (node.Opaque bound secret)) e h = absurd h
  content_of_object s value.MainThread kind (Some (node.Opaque bound secret)) e h = absurd h
  content_of_object s (value.Procedure q a) kind (Some (node.Opaque bound secret)) e h = absurd h
  content_of_object s (value.Members ms) kind (Some (node.Opaque bound secret)) e h = absurd h
  content_of_object s (value.Array below vs) kind (Some (node.Opaque bound secret)) e h = absurd h
  content_of_object s v kind (Some node.Null) e h = absurd (let bad : false ≡ true = e in cc)
  content_of_object s v kind (Some node.RefAny) e h = absurd (let bad : false ≡ true = e in cc)
  content_of_object s v kind (Some node.Text) e h = absurd (let bad : false ≡ true = e in cc)
  content_of_object s (value.Record vs) kind (Some node.Mutex) e h = (vs, refl, h)
  content_of_object s (value.Ordinal z) kind (Some node.Mutex) e h = absurd h
  content_of_object s value.Nil kind (Some node.Mutex) e h = absurd h
  content_of_object s (value.Pointer c) kind (Some node.Mutex) e h = absurd h
  content_of_object s (value.Text t) kind (Some node.Mutex) e h = absurd h
  content_of_object s value.MainThread kind (Some node.Mutex) e h = absurd h
  content_of_object s (value.Procedure q a) kind (Some node.Mutex) e h = absurd h
  content_of_object s (value.Members ms) kind (Some node.Mutex) e h = absurd h
  content_of_object s (value.Array below vs) kind (Some node.Mutex) e h = absurd h
  content_of_object s (value.Record vs) kind (Some node.Root) e h = (vs, refl, h)
  content_of_object s (value.Ordinal z) kind (Some node.Root) e h = absurd h
  content_of_object s value.Nil kind (Some node.Root) e h = absurd h
  content_of_object s (value.Pointer c) kind (Some node.Root) e h = absurd h
  content_of_object s (value.Text t) kind (Some node.Root) e h = absurd h
  content_of_object s value.MainThread kind (Some node.Root) e h = absurd h
  content_of_object s (value.Procedure q a) kind (Some node.Root) e h = absurd h
  content_of_object s (value.Members ms) kind (Some node.Root) e h = absurd h
  content_of_object s (value.Array below vs) kind (Some node.Root) e h = absurd h
  content_of_object s v kind (Some (node.Constant value)) e h = absurd (let bad : false ≡ true = e in cc)

  object_has_content : (s : Store) (vs : Values) (kind : ℕ) (o : Option TypeNode) → is_object_in o ≡ true → AreFields p s vs (object_fields p kind) → IsContentOf p s (value.Record vs) kind o
  object_has_content s vs kind None e h = absurd (let bad : false ≡ true = e in cc)
  object_has_content s vs kind (Some node.Reserved) e h = absurd (let bad : false ≡ true = e in cc)
  object_has_content s vs kind (Some node.Integer) e h = absurd (let bad : false ≡ true = e in cc)
  object_has_content s vs kind (Some node.Boolean) e h = absurd (let bad : false ≡ true = e in cc)
  object_has_content s vs kind (Some node.Character) e h = absurd (let bad : false ≡ true = e in cc)
  object_has_content s vs kind (Some (node.Enumeration names)) e h = absurd (let bad : false ≡ true = e in cc)
  object_has_content s vs kind (Some (node.Subrange base first last)) e h = absurd (let bad : false ≡ true = e in cc)
  object_has_content s vs kind (Some (node.FixedArray index element)) e h = absurd (let bad : false ≡ true = e in cc)
  object_has_content s vs kind (Some (node.OpenArray element)) e h = absurd (let bad : false ≡ true = e in cc)
  object_has_content s vs kind (Some (node.Fields fields)) e h = absurd (let bad : false ≡ true = e in cc)
  object_has_content s vs kind (Some (node.SetOf base)) e h = absurd (let bad : false ≡ true = e in cc)
  object_has_content s vs kind (Some (node.RefTo brand target)) e h = absurd (let bad : false ≡ true = e in cc)
  object_has_content s vs kind (Some (node.Object brand parent fields methods overrides)) e h = h
  object_has_content s vs kind (Some (node.Procedure formals result raises)) e h = absurd (let bad : false ≡ true = e in cc)
  object_has_content s vs kind (Some (node.Opaque bound secret)) e h = h
  object_has_content s vs kind (Some node.Null) e h = absurd (let bad : false ≡ true = e in cc)
  object_has_content s vs kind (Some node.RefAny) e h = absurd (let bad : false ≡ true = e in cc)
  object_has_content s vs kind (Some node.Text) e h = absurd (let bad : false ≡ true = e in cc)
  object_has_content s vs kind (Some node.Mutex) e h = h
  object_has_content s vs kind (Some node.Root) e h = h
  object_has_content s vs kind (Some (node.Constant value)) e h = absurd (let bad : false ≡ true = e in cc)

  -- the cell of an object, whatever type it has
  pub record IsObjectCell (s : Store) (c n k : ℕ) : Type 0 where
    pub kind : ℕ
    pub content : Value
    pub holder : ℕ
    pub is : cell_at s c ≡ Some (store.Made kind content holder)
    pub has : HasField p kind n k

  object_cell : (s : Store) (c t n k : ℕ) → HaveField p t n k → (o : Option Cell) → cell_at s c ≡ o → option_map (cell_has_type p (unveiled p t)) o ≡ Some true → IsObjectCell s c n k
  object_cell s c t n k have None is h = absurd (let bad : None ≡ Some true = h in cc)
  object_cell s c t n k have (Some (store.Made kind v holder)) is h =
      let made : Some (is_made_type p kind (unveiled p t) (node_of p (unveiled p t))) ≡ Some true = h in
      record { kind = kind; content = v; holder = holder; is = is; has = have.each kind cc }
  object_cell s c t n k have (Some (store.Bytes bytes)) is h = let bad : Some false ≡ Some true = ap Some (sym have.no_text) ∙ h in absurd cc
  object_cell s c t n k have (Some (store.Forked number result is_joined)) is h = let bad : Some false ≡ Some true = ap Some (sym have.no_thread) ∙ h in absurd cc

  pub object_place : (known : Owned) (s : Store) (c t n k : ℕ) → HaveField p t n k → HasFixedSizes p k → has_type p s t (value.Pointer c) ≡ Some true → IsPlaceOf p known true s (place.further (whole (place.Referent c)) (place.Field n)) k
  object_place known s c t n k have fixed h =
      let cell = object_cell s c t n k have (cell_at s c) refl h in
      let there : IsThere s c cell.kind (shape cell.content) = record { content = cell.content; holder = cell.holder; is = cell.is; shaped = refl } in
      let f = cell.has.field in
      record {
        sizes = fixed.sizes;
        reads = λ m l fair.
            let now = there_later s m.store c cell.kind (shape cell.content) l there in
            let r = content_of_object m.store now.content cell.kind (node_of p cell.kind) cell.has.object (holds known m c cell.kind (shape cell.content) fair now) in
            let w = field_there p m.store r.0 (object_fields p cell.kind) n f r.2 cell.has.there in
            let typed = share_values p m.store w.0 f.kind.0 k cell.has.same w.2 in
            (w.0, read_further m (whole (place.Referent c)) (place.Field n) ∙ ap (option_and_then (selected (place.Field n))) (read_cell m c cell.kind (shape cell.content) now ∙ ap Some r.1) ∙ w.1, typed, fixed_shape p m.store w.0 k typed fixed);
        writes = λ is m l fair new g e.
            let now = there_later s m.store c cell.kind (shape cell.content) l there in
            let r = content_of_object m.store now.content cell.kind (node_of p cell.kind) cell.has.object (holds known m c cell.kind (shape cell.content) fair now) in
            let w = field_there p m.store r.0 (object_fields p cell.kind) n f r.2 cell.has.there in
            let changed : Value = value.Record (row_of (slice_set (items r.0) n new)) in
            becomes_so p known m (write (place.further (whole (place.Referent c)) (place.Field n)) new m) (write (whole (place.Referent c)) changed m)
            (write_further m (whole (place.Referent c)) (place.Field n) (value.Record r.0) w.0 new changed (read_cell m c cell.kind (shape cell.content) now ∙ ap Some r.1) w.1 (ap (λ o. place.as_record o) (item_set (items r.0) n new w.0 w.1)))
            (cell_written known m c cell.kind (shape cell.content) changed now (sym (ap shape r.1) ∙ now.shaped)
            (object_has_content m.store (row_of (slice_set (items r.0) n new)) cell.kind (node_of p cell.kind) cell.has.object
            (fields_set p m.store r.0 (object_fields p cell.kind) n f new r.2 cell.has.there (share_values p m.store new k f.kind.0 (flipped p f.kind.0 k cell.has.same) g))));
      }
