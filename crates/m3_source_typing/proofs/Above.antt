-- Values of a reference type are values of each type above it.
use Rattle.std.proofs.Common.{◌≡◌, ℕ, zero, suc, ◌⊎◌, inl, inr, Bool, true, false, List, [], ◌∷◌, ◌++◌, Option, Some, None, refl, sym, ap, ◌∙◌, subst}
use Rattle.std.specs.Prelude.{◌==◌, ◌||◌}
use Rattle.std.specs.Option.{option_map, option_map_or}
use Rattle.std.specs.List.{list_any}
use Rattle.m3_types.specs.declared.nodes.TypeNode.{TypeNode}
use Rattle.m3_types.specs.declared.nodes.TypeNode.TheVariants as node
use Rattle.m3_values.specs.Values as value
use Rattle.m3_values.specs.Values.{Value}
use Rattle.m3_values.specs.Programs.{Program}
use Rattle.m3_values.specs.Types.{node_of, depth, parent, parent_in, line, line_to, is_object_in, is_same, is_below, unveiled, unveiled_in}
use Rattle.m3_values.specs.Store as store
use Rattle.m3_values.specs.Store.{Cell, Store, cell_at, cell_has_type, is_text_type, is_thread_type, is_made_type}
use Rattle.m3_source_typing.specs.ValueTypes.{OfReferences, class_of, IsOfNil, HasType}
use Rattle.m3_source_typing.specs.Sound.{Scope}
use Rattle.m3_source_typing.specs.Operators as rule
use Rattle.m3_source_typing.specs.Routines.{is_any_in}
use Rattle.m3_source_typing.specs.Subtypes as below
use Rattle.m3_source_typing.specs.Subtypes.{is_declared_in, LinesEnd, IsBelow}
use Rattle.m3_source_typing.proofs.Heads.{first_of, code_of, made_by, known}
use Rattle.m3_source_typing.proofs.Sameness.{BothSame, and_then, declared_same, parent_same}
use Rattle.m3_source_typing.proofs.Referents.{any_in_both, any_alone}
use Rattle.m3_source_typing.proofs.Serving.{any_typed}

-- ---- lines

any_first : (f : ℕ → Bool) (xs ys : List ℕ) → list_any f xs ≡ true → list_any f (xs ++ ys) ≡ true
any_first f [] ys e = absurd (let bad : false ≡ true = e in cc)
any_first f (x ∷ xs) ys e = at (f x) e (any_first f xs ys)
  where
    at : (b : Bool) → (b || list_any f xs) ≡ true → (list_any f xs ≡ true → list_any f (xs ++ ys) ≡ true) → (b || list_any f (xs ++ ys)) ≡ true
    at true e h = refl
    at false e h = h e

any_second : (f : ℕ → Bool) (xs ys : List ℕ) → list_any f ys ≡ true → list_any f (xs ++ ys) ≡ true
any_second f [] ys e = e
any_second f (x ∷ xs) ys e = at (f x) (any_second f xs ys e)
  where
    at : (b : Bool) → list_any f (xs ++ ys) ≡ true → (b || list_any f (xs ++ ys)) ≡ true
    at true h = refl
    at false h = h

one : (b : Bool) → b ≡ true → (b || false) ≡ true
one true e = refl
one false e = e

module _ (p : Program) where
  module _ (ends : LinesEnd p) where
    self_in : (f : ℕ → Bool) (t : ℕ) → f t ≡ true → list_any f (line p t) ≡ true
    self_in f t h = subst (λ xs. list_any f xs ≡ true) (ends t) (any_second f (option_map_or (line p) (parent p t) []) (t ∷ []) (one (f t) h))

    above_in : (f : ℕ → Bool) (t q : ℕ) → parent p t ≡ Some q → list_any f (line p q) ≡ true → list_any f (line p t) ≡ true
    above_in f t q e h = subst (λ xs. list_any f xs ≡ true) (ends t) (any_first f (option_map_or (line p) (parent p t) []) (t ∷ []) (subst (λ o. list_any f (option_map_or (line p) o []) ≡ true) (sym e) h))

    -- a type or one above it, by what is asked of each
    same_lines : (w limit x y : ℕ) → is_same p x y ≡ true → list_any (λ b. is_same p b w) (line_to p limit y) ≡ true → list_any (λ b. is_same p b w) (line p x) ≡ true
    same_lines w zero x y e h = absurd (let bad : false ≡ true = h in cc)
    same_lines w (suc limit) x y e h = at (parent p x) (parent p y) refl (parent_same p x y e) (any_in_both (λ b. is_same p b w) _ (y ∷ []) h) (λ q r f g. same_lines w limit q r f g)
      where
        at : (o k : Option ℕ) → parent p x ≡ o → BothSame p o k → (list_any (λ b. is_same p b w) (option_map_or (line_to p limit) k []) ≡ true) ⊎ ((is_same p y w || false) ≡ true) → ((q r : ℕ) → is_same p q r ≡ true → list_any (λ b. is_same p b w) (line_to p limit r) ≡ true → list_any (λ b. is_same p b w) (line p q) ≡ true) → list_any (λ b. is_same p b w) (line p x) ≡ true
        at o k is both (inr g) more = self_in (λ b. is_same p b w) x (and_then p x y w e (any_alone (is_same p y w) g))
        at None None is both (inl g) more = absurd (let bad : false ≡ true = g in cc)
        at None (Some r) is both (inl g) more = absurd both
        at (Some q) None is both (inl g) more = absurd both
        at (Some q) (Some r) is both (inl g) more = above_in (λ b. is_same p b w) x q is (more q r both g)

    below_then : (t u limit kind : ℕ) → is_below p t u ≡ true → list_any (λ a. is_same p a t) (line_to p limit kind) ≡ true → is_below p kind u ≡ true
    below_then t u zero kind e h = absurd (let bad : false ≡ true = h in cc)
    below_then t u (suc limit) kind e h = at (parent p kind) refl (any_in_both (λ a. is_same p a t) _ (kind ∷ []) h) (λ q g. below_then t u limit q e g)
      where
        at : (o : Option ℕ) → parent p kind ≡ o → (list_any (λ a. is_same p a t) (option_map_or (line_to p limit) o []) ≡ true) ⊎ ((is_same p kind t || false) ≡ true) → ((q : ℕ) → list_any (λ a. is_same p a t) (line_to p limit q) ≡ true → is_below p q u ≡ true) → is_below p kind u ≡ true
        at o is (inr g) more = same_lines u (depth p) kind t (any_alone (is_same p kind t) g) e
        at None is (inl g) more = absurd (let bad : false ≡ true = g in cc)
        at (Some q) is (inl g) more = above_in (λ b. is_same p b u) kind q is (more q g)

  -- ---- objects

  has_parent : (o : Option TypeNode) (a : ℕ) → parent_in p o ≡ Some a → is_object_in o ≡ true
  has_parent None a e = absurd (let bad : None ≡ Some a = e in cc)
  has_parent (Some node.Reserved) a e = absurd (let bad : None ≡ Some a = e in cc)
  has_parent (Some node.Integer) a e = absurd (let bad : None ≡ Some a = e in cc)
  has_parent (Some node.Boolean) a e = absurd (let bad : None ≡ Some a = e in cc)
  has_parent (Some node.Character) a e = absurd (let bad : None ≡ Some a = e in cc)
  has_parent (Some (node.Enumeration names)) a e = absurd (let bad : None ≡ Some a = e in cc)
  has_parent (Some (node.Subrange base first last)) a e = absurd (let bad : None ≡ Some a = e in cc)
  has_parent (Some (node.FixedArray index element)) a e = absurd (let bad : None ≡ Some a = e in cc)
  has_parent (Some (node.OpenArray element)) a e = absurd (let bad : None ≡ Some a = e in cc)
  has_parent (Some (node.Fields fields)) a e = absurd (let bad : None ≡ Some a = e in cc)
  has_parent (Some (node.SetOf base)) a e = absurd (let bad : None ≡ Some a = e in cc)
  has_parent (Some (node.RefTo brand target)) a e = absurd (let bad : None ≡ Some a = e in cc)
  has_parent (Some (node.Object brand parent fields methods overrides)) a e = refl
  has_parent (Some (node.Procedure formals result raises)) a e = absurd (let bad : None ≡ Some a = e in cc)
  has_parent (Some (node.Opaque bound secret)) a e = absurd (let bad : None ≡ Some a = e in cc)
  has_parent (Some node.Null) a e = absurd (let bad : None ≡ Some a = e in cc)
  has_parent (Some node.RefAny) a e = absurd (let bad : None ≡ Some a = e in cc)
  has_parent (Some node.Text) a e = absurd (let bad : None ≡ Some a = e in cc)
  has_parent (Some node.Mutex) a e = absurd (let bad : None ≡ Some a = e in cc)
  has_parent (Some node.Root) a e = absurd (let bad : None ≡ Some a = e in cc)
  has_parent (Some (node.Constant value)) a e = absurd (let bad : None ≡ Some a = e in cc)

  declared_object : (o : Option TypeNode) → is_declared_in o ≡ true → is_object_in o ≡ true
  declared_object None e = absurd (let bad : false ≡ true = e in cc)
  declared_object (Some node.Reserved) e = absurd (let bad : false ≡ true = e in cc)
  declared_object (Some node.Integer) e = absurd (let bad : false ≡ true = e in cc)
  declared_object (Some node.Boolean) e = absurd (let bad : false ≡ true = e in cc)
  declared_object (Some node.Character) e = absurd (let bad : false ≡ true = e in cc)
  declared_object (Some (node.Enumeration names)) e = absurd (let bad : false ≡ true = e in cc)
  declared_object (Some (node.Subrange base first last)) e = absurd (let bad : false ≡ true = e in cc)
  declared_object (Some (node.FixedArray index element)) e = absurd (let bad : false ≡ true = e in cc)
  declared_object (Some (node.OpenArray element)) e = absurd (let bad : false ≡ true = e in cc)
  declared_object (Some (node.Fields fields)) e = absurd (let bad : false ≡ true = e in cc)
  declared_object (Some (node.SetOf base)) e = absurd (let bad : false ≡ true = e in cc)
  declared_object (Some (node.RefTo brand target)) e = absurd (let bad : false ≡ true = e in cc)
  declared_object (Some (node.Object brand parent fields methods overrides)) e = refl
  declared_object (Some (node.Procedure formals result raises)) e = absurd (let bad : false ≡ true = e in cc)
  declared_object (Some (node.Opaque bound secret)) e = absurd (let bad : false ≡ true = e in cc)
  declared_object (Some node.Null) e = absurd (let bad : false ≡ true = e in cc)
  declared_object (Some node.RefAny) e = absurd (let bad : false ≡ true = e in cc)
  declared_object (Some node.Text) e = absurd (let bad : false ≡ true = e in cc)
  declared_object (Some node.Mutex) e = refl
  declared_object (Some node.Root) e = absurd (let bad : false ≡ true = e in cc)
  declared_object (Some (node.Constant value)) e = absurd (let bad : false ≡ true = e in cc)

  declared_plain : (o : Option TypeNode) → is_declared_in o ≡ true → (is_text_type p o ≡ false) × (is_thread_type p o ≡ false) × ((kind t : ℕ) → is_made_type p kind t o ≡ is_below p kind t)
  declared_plain None e = absurd (let bad : false ≡ true = e in cc)
  declared_plain (Some node.Reserved) e = absurd (let bad : false ≡ true = e in cc)
  declared_plain (Some node.Integer) e = absurd (let bad : false ≡ true = e in cc)
  declared_plain (Some node.Boolean) e = absurd (let bad : false ≡ true = e in cc)
  declared_plain (Some node.Character) e = absurd (let bad : false ≡ true = e in cc)
  declared_plain (Some (node.Enumeration names)) e = absurd (let bad : false ≡ true = e in cc)
  declared_plain (Some (node.Subrange base first last)) e = absurd (let bad : false ≡ true = e in cc)
  declared_plain (Some (node.FixedArray index element)) e = absurd (let bad : false ≡ true = e in cc)
  declared_plain (Some (node.OpenArray element)) e = absurd (let bad : false ≡ true = e in cc)
  declared_plain (Some (node.Fields fields)) e = absurd (let bad : false ≡ true = e in cc)
  declared_plain (Some (node.SetOf base)) e = absurd (let bad : false ≡ true = e in cc)
  declared_plain (Some (node.RefTo brand target)) e = absurd (let bad : false ≡ true = e in cc)
  declared_plain (Some (node.Object brand parent fields methods overrides)) e = (refl, refl, λ kind t. refl)
  declared_plain (Some (node.Procedure formals result raises)) e = absurd (let bad : false ≡ true = e in cc)
  declared_plain (Some (node.Opaque bound secret)) e = absurd (let bad : false ≡ true = e in cc)
  declared_plain (Some node.Null) e = absurd (let bad : false ≡ true = e in cc)
  declared_plain (Some node.RefAny) e = absurd (let bad : false ≡ true = e in cc)
  declared_plain (Some node.Text) e = absurd (let bad : false ≡ true = e in cc)
  declared_plain (Some node.Mutex) e = (refl, refl, λ kind t. refl)
  declared_plain (Some node.Root) e = absurd (let bad : false ≡ true = e in cc)
  declared_plain (Some (node.Constant value)) e = absurd (let bad : false ≡ true = e in cc)

  -- what stands below an object type is one
  object_kind : (kind t limit : ℕ) → is_declared_in (node_of p t) ≡ true → list_any (λ a. is_same p a t) (line_to p limit kind) ≡ true → is_object_in (node_of p kind) ≡ true
  object_kind kind t zero d h = absurd (let bad : false ≡ true = h in cc)
  object_kind kind t (suc limit) d h = at (parent p kind) refl (any_in_both (λ a. is_same p a t) _ (kind ∷ []) h)
    where
      at : (o : Option ℕ) → parent p kind ≡ o → (list_any (λ a. is_same p a t) (option_map_or (line_to p limit) o []) ≡ true) ⊎ ((is_same p kind t || false) ≡ true) → is_object_in (node_of p kind) ≡ true
      at o is (inr g) = declared_object (node_of p kind) (declared_same p kind t (any_alone (is_same p kind t) g) ∙ d)
      at None is (inl g) = absurd (let bad : false ≡ true = g in cc)
      at (Some q) is (inl g) = has_parent (node_of p kind) q is

  made_true : (n : ℕ) (object below : Bool) → object ≡ true → below ≡ true → made_by n object below ≡ true
  made_true n object below e f = at (n == 16) (n == 19)
    where
      at : (x y : Bool) → (elim x as (λ b. Bool) [ true ↦ true | false ↦ elim y as (λ b. Bool) [ true ↦ object | false ↦ below ] ]) ≡ true
      at true y = refl
      at false true = e
      at false false = f

  -- the cells of an object type are those of each one above it
  cells_above : (t u : ℕ) → IsBelow p t u → (n : ℕ) → unveiled p t ≡ n → is_declared_in (node_of p n) ≡ true → (cell : Cell) → cell_has_type p n cell ≡ true → cell_has_type p (unveiled p u) cell ≡ true
  cells_above t u b n is d (store.Bytes bytes) h = let bad : false ≡ true = sym (declared_plain (node_of p n) d).0 ∙ h in absurd cc
  cells_above t u b n is d (store.Forked number result is_joined) h = let bad : false ≡ true = sym (declared_plain (node_of p n) d).1 ∙ h in absurd cc
  cells_above t u (below.ancestor e f ends) n is d (store.Made kind v holder) h =
      let under : is_below p kind n ≡ true = sym ((declared_plain (node_of p n) d).2 kind n) ∙ h in
      (known p (unveiled p u) (node_of p (unveiled p u))).made kind
      ∙ made_true (first_of (code_of (unveiled p u) (node_of p (unveiled p u)))) (is_object_in (node_of p kind)) (is_below p kind (unveiled p u)) (object_kind kind n (depth p) d under) (below_then ends n (unveiled p u) (depth p) kind (subst (λ x. is_below p x (unveiled p u) ≡ true) is f) under)
  cells_above t u (below.root e f) n is d (store.Made kind v holder) h =
      let under : is_below p kind n ≡ true = sym ((declared_plain (node_of p n) d).2 kind n) ∙ h in
      let bare : unveiled p u ≡ u = ap (unveiled_in p u) f in
      ap (λ x. is_made_type p kind x (node_of p x)) bare ∙ ap (is_made_type p kind u) f ∙ object_kind kind n (depth p) d under
  cells_above t u (below.any f) n is d (store.Made kind v holder) h =
      let bare : unveiled p u ≡ u = ap (unveiled_in p u) f in
      ap (λ x. is_made_type p kind x (node_of p x)) bare ∙ ap (is_made_type p kind u) f

  pointer_above : (t u : ℕ) → IsBelow p t u → is_declared_in (node_of p (unveiled p t)) ≡ true → (o : Option Cell) → option_map (cell_has_type p (unveiled p t)) o ≡ Some true → option_map (cell_has_type p (unveiled p u)) o ≡ Some true
  pointer_above t u b d None h = absurd (let bad : None ≡ Some true = h in cc)
  pointer_above t u b d (Some cell) h = ap Some (cells_above t u b (unveiled p t) refl d cell (let same : Some (cell_has_type p (unveiled p t) cell) ≡ Some true = h in cc))

  object_above : (s : Store) (v : Value) (t u : ℕ) → class_of p t ≡ OfReferences → class_of p u ≡ OfReferences → IsBelow p t u → is_declared_in (node_of p (unveiled p t)) ≡ true → HasType p s v t → HasType p s v u
  object_above s value.Nil t u c e b d h = subst IsOfNil (sym e) tt
  object_above s (value.Pointer n) t u c e b d h = (e, pointer_above t u b d (cell_at s n) h.1)
  object_above s (value.Text n) t u c e b d h = let bad : Some false ≡ Some true = ap Some (sym (declared_plain (node_of p (unveiled p t)) d).0) ∙ h.1 in absurd cc
  object_above s value.MainThread t u c e b d h = let bad : Some false ≡ Some true = ap Some (sym (declared_plain (node_of p (unveiled p t)) d).1) ∙ h.1 in absurd cc
  object_above s (value.Ordinal z) t u c e b d h = let bad : true ≡ false = sym (ap rule.is_references c) ∙ ap rule.is_references h.0 in absurd cc
  object_above s (value.Procedure q a) t u c e b d h = let bad : true ≡ false = sym (ap rule.is_references c) ∙ ap rule.is_references h.0 in absurd cc
  object_above s (value.Members ms) t u c e b d h = let bad : true ≡ false = sym (ap rule.is_references c) ∙ ap rule.is_references h.0 in absurd cc
  object_above s (value.Record vs) t u c e b d h = let bad : true ≡ false = sym (ap rule.is_references c) ∙ ap rule.is_references h.0 in absurd cc
  object_above s (value.Array below vs) t u c e b d h = let bad : true ≡ false = sym (ap rule.is_references c) ∙ ap rule.is_references h.0 in absurd cc

  cell_there : (t : ℕ) (o : Option Cell) → option_map (cell_has_type p t) o ≡ Some true → (cell : Cell) × (o ≡ Some cell)
  cell_there t None h = absurd (let bad : None ≡ Some true = h in cc)
  cell_there t (Some cell) h = (cell, refl)

  any_above : (own : Scope) (s : Store) (v : Value) (t u : ℕ) → class_of p t ≡ OfReferences → node_of p u ≡ Some node.RefAny → HasType p s v t → HasType p s v u
  any_above own s value.Nil t u c e h = any_typed p own u (ap is_any_in e) s value.Nil tt
  any_above own s (value.Pointer n) t u c e h = any_typed p own u (ap is_any_in e) s (value.Pointer n) (cell_there (unveiled p t) (cell_at s n) h.1)
  any_above own s (value.Text n) t u c e h = any_typed p own u (ap is_any_in e) s (value.Text n) h.2
  any_above own s value.MainThread t u c e h = any_typed p own u (ap is_any_in e) s value.MainThread tt
  any_above own s (value.Ordinal z) t u c e h = let bad : true ≡ false = sym (ap rule.is_references c) ∙ ap rule.is_references h.0 in absurd cc
  any_above own s (value.Procedure q a) t u c e h = let bad : true ≡ false = sym (ap rule.is_references c) ∙ ap rule.is_references h.0 in absurd cc
  any_above own s (value.Members ms) t u c e h = let bad : true ≡ false = sym (ap rule.is_references c) ∙ ap rule.is_references h.0 in absurd cc
  any_above own s (value.Record vs) t u c e h = let bad : true ≡ false = sym (ap rule.is_references c) ∙ ap rule.is_references h.0 in absurd cc
  any_above own s (value.Array below vs) t u c e h = let bad : true ≡ false = sym (ap rule.is_references c) ∙ ap rule.is_references h.0 in absurd cc

  pub typed_above : (own : Scope) (s : Store) (v : Value) (t u : ℕ) → class_of p t ≡ OfReferences → class_of p u ≡ OfReferences → IsBelow p t u → HasType p s v t → HasType p s v u
  typed_above own s v t u c e (below.ancestor d f ends) h = object_above s v t u c e (below.ancestor d f ends) d h
  typed_above own s v t u c e (below.root d f) h = object_above s v t u c e (below.root d f) d h
  typed_above own s v t u c e (below.any f) h = any_above own s v t u c f h
