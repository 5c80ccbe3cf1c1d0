-- Types that are the same have the same values.
use Rattle.std.proofs.Common.{◌≡◌, ℕ, zero, suc, ◌⊎◌, inl, inr, ⊎_elim, Bool, true, false, List, [], ◌∷◌, map, take, Option, Some, None, refl, sym, ap, ◌∙◌, subst, arith}
use Rattle.std.specs.Prelude.{◌==◌, ◌||◌, slice_get}
use Rattle.std.specs.Option.{option_map, option_map_or, option_and_then}
use Rattle.std.specs.List.{list_any}
use Rattle.m3_core.specs.declared.program.ProcDef.{ProcDef}
use Rattle.m3_types.specs.declared.nodes.Field.{Field}
use Rattle.m3_types.specs.declared.nodes.Formal.{Formal}
use Rattle.m3_types.specs.declared.nodes.Mode.{Mode}
use Rattle.m3_types.specs.declared.nodes.Mode.TheVariants as mode
use Rattle.m3_types.specs.declared.nodes.TypeNode.{TypeNode}
use Rattle.m3_types.specs.Definitions.{parts_at}
use Rattle.m3_values.specs.Values as value
use Rattle.m3_values.specs.Values.{Value, Values, same_list}
use Rattle.m3_values.specs.Arrays.{shape}
use Rattle.m3_values.specs.Programs.{Program, procedure_at}
use Rattle.m3_values.specs.Sameness.{mode_code}
use Rattle.m3_values.specs.Types.{bounds, node_of, members, element, elements, target_in, index_in, is_open, is_object_in, size_said, sizes_to, depth, formals_in, is_same, is_below, line, unveiled}
use Rattle.m3_values.specs.Store as store
use Rattle.m3_values.specs.Store.{Cell, Store, cell_at, cell_has_type, has_type, is_text_type, is_thread_type}
use Rattle.m3_source_typing.specs.ValueTypes.{class_of, member_in, record_fields, result_in, same_mode, same_formal, same_result, called_alike, IsOfNil, IsNumberOf, AreMembersOf, IsProcedureOf, HasType, AreFields, AreElements, has_sizes}
use Rattle.m3_source_typing.specs.Laws.{SameTypesShareValues}
use Rattle.m3_source_typing.proofs.Operands.{left_true, right_true, both_true}
use Rattle.m3_source_typing.proofs.Depths.{same_is, same_itself, same_flipped, same_then, list_then}
use Rattle.m3_source_typing.proofs.Heads.{code_of, first_of, rest_of, pick, row_if, part_if, class_by, bounds_by, size_by, made_by, opaque_by, modes_by, has_result_by, element_place, member_place, target_place, above_place, named_parent, index_place, result_by, field_kind, formal_kind, formal_mode, known, bounds_known, size_known, fields_known, formals_known, modes_known, result_known, IsPlain, opaque_or}
use Rattle.m3_types.specs.declared.nodes.TypeNode.TheVariants as node
use Rattle.m3_values.specs.Types.{parent, parent_in}
use Rattle.m3_source_typing.specs.Subtypes.{is_declared_in}

any_more : (f g : ℕ → Bool) → ((x : ℕ) → f x ≡ true → g x ≡ true) → (xs : List ℕ) → list_any f xs ≡ true → list_any g xs ≡ true
any_more f g h [] e = e
any_more f g h (x ∷ xs) e = either (f x) (list_any f xs) (g x) (list_any g xs) (h x) (any_more f g h xs) e
  where
    either : (a b c d : Bool) → (a ≡ true → c ≡ true) → (b ≡ true → d ≡ true) → (a || b) ≡ true → (c || d) ≡ true
    either a b true d h g e = refl
    either true b false d h g e = absurd (let bad : false ≡ true = h refl in cc)
    either false b false d h g e = g e

made_more : (n : ℕ) (object a b : Bool) → (a ≡ true → b ≡ true) → made_by n object a ≡ true → made_by n object b ≡ true
made_more n object a b h e = at (n == 16) (n == 19) object e
  where
    at : (x y object : Bool) → (elim x as (λ b. Bool) [ true ↦ true | false ↦ elim y as (λ b. Bool) [ true ↦ object | false ↦ a ] ]) ≡ true → (elim x as (λ b. Bool) [ true ↦ true | false ↦ elim y as (λ b. Bool) [ true ↦ object | false ↦ b ] ]) ≡ true
    at true y object e = refl
    at false true object e = e
    at false false object e = h e

module _ (p : Program) where
  abbrev pub Same : ℕ → ℕ → Type 0
  Same t u = is_same p t u ≡ true

  abbrev AreSame : List ℕ → List ℕ → Type 0
  AreSame ts us = same_list (is_same p) ts us ≡ true

  abbrev code : ℕ → List ℕ
  code t = code_of t (node_of p t)

  abbrev parts : ℕ → List ℕ
  parts t = parts_at p.nodes t

  same_heads : (t u : ℕ) → Same t u → (t ≡ u) ⊎ ((code t ≡ code u) × AreSame (parts t) (parts u))
  same_heads t u e = same_is p.nodes t u e

  itself : (t : ℕ) → Same t t
  itself t = same_itself p.nodes (depth p) t

  pub flipped : (t u : ℕ) → Same t u → Same u t
  flipped t u e = same_flipped p.nodes (depth p) t u e

  pub and_then : (t u v : ℕ) → Same t u → Same u v → Same t v
  and_then t u v e f = same_then p.nodes (depth p) t u v e f

  -- what hangs on the head alone is the same
  by_code : {A : Type 0} (f : ℕ → A) (g : List ℕ → A) → ((t : ℕ) → f t ≡ g (code t)) → (t u : ℕ) → Same t u → f t ≡ f u
  by_code f g h t u e = ⊎_elim (λ q. ap f q) (λ q. h t ∙ ap g q.0 ∙ sym (h u)) (same_heads t u e)

  pub class_same : (t u : ℕ) → Same t u → class_of p t ≡ class_of p u
  class_same t u e = by_code (class_of p) (λ c. class_by (first_of c)) (λ t. (known p t (node_of p t)).class) t u e

  bounds_same : (t u : ℕ) → Same t u → bounds p t ≡ bounds p u
  bounds_same t u e = by_code (bounds p) bounds_by (λ t. bounds_known p t (node_of p t)) t u e

  members_same : (t u : ℕ) → Same t u → members p t ≡ members p u
  members_same t u e = by_code (members p) size_by (λ t. size_known p t (node_of p t)) t u e

  open_same : (t u : ℕ) → Same t u → is_open p t ≡ is_open p u
  open_same t u e = by_code (is_open p) (λ c. first_of c == 8) (λ t. (known p t (node_of p t)).opened) t u e

  -- ---- parts

  abbrev pub BothSame : Option ℕ → Option ℕ → Type 0
  BothSame None None = Unit {0}
  BothSame (Some t) (Some u) = Same t u
  BothSame _ _ = ⊥

  both_itself : (o : Option ℕ) → BothSame o o
  both_itself None = tt
  both_itself (Some t) = itself t

  part_same : (xs ys : List ℕ) (i : ℕ) → AreSame xs ys → BothSame (slice_get xs i) (slice_get ys i)
  part_same [] [] i h = tt
  part_same [] (y ∷ ys) i h = absurd (let bad : false ≡ true = h in cc)
  part_same (x ∷ xs) [] i h = absurd (let bad : false ≡ true = h in cc)
  part_same (x ∷ xs) (y ∷ ys) zero h = left_true (is_same p x y) (same_list (is_same p) xs ys) h
  part_same (x ∷ xs) (y ∷ ys) (suc i) h = part_same xs ys i (right_true (is_same p x y) (same_list (is_same p) xs ys) h)

  picked : (i : Option ℕ) (xs ys : List ℕ) → AreSame xs ys → BothSame (pick i xs) (pick i ys)
  picked None xs ys h = tt
  picked (Some i) xs ys h = part_same xs ys i h

  by_place : (f : ℕ → Option ℕ) (place : ℕ → Option ℕ) → ((t : ℕ) → f t ≡ pick (place (first_of (code t))) (parts t)) → (t u : ℕ) → Same t u → BothSame (f t) (f u)
  by_place f place h t u e = ⊎_elim
      (λ q. subst (λ x. BothSame (f t) (f x)) q (both_itself (f t)))
      (λ q. subst (λ a. BothSame a (f u)) (sym (h t)) (subst (BothSame (pick (place (first_of (code t))) (parts t))) (sym (h u))
      (subst (λ c. BothSame (pick (place (first_of (code t))) (parts t)) (pick (place (first_of c)) (parts u))) q.0 (picked (place (first_of (code t))) (parts t) (parts u) q.1))))
      (same_heads t u e)

  element_same : (t u : ℕ) → Same t u → BothSame (element p t) (element p u)
  element_same t u e = by_place (element p) element_place (λ t. (known p t (node_of p t)).element) t u e

  member_same : (t u : ℕ) → Same t u → BothSame (member_in (node_of p t)) (member_in (node_of p u))
  member_same t u e = by_place (λ t. member_in (node_of p t)) member_place (λ t. (known p t (node_of p t)).member) t u e

  pub target_same : (t u : ℕ) → Same t u → BothSame (target_in (node_of p t)) (target_in (node_of p u))
  target_same t u e = by_place (λ t. target_in (node_of p t)) target_place (λ t. (known p t (node_of p t)).target) t u e

  above_same : (t u : ℕ) → Same t u → BothSame (named_parent (node_of p t)) (named_parent (node_of p u))
  above_same t u e = by_place (λ t. named_parent (node_of p t)) above_place (λ t. (known p t (node_of p t)).above) t u e

  pub declared_same : (t u : ℕ) → Same t u → is_declared_in (node_of p t) ≡ is_declared_in (node_of p u)
  declared_same t u e = by_code (λ t. is_declared_in (node_of p t)) (λ c. (first_of c == 12) || (first_of c == 18)) (λ t. (known p t (node_of p t)).declared) t u e

  index_same : (t u : ℕ) → Same t u → BothSame (index_in (node_of p t)) (index_in (node_of p u))
  index_same t u e = by_place (λ t. index_in (node_of p t)) index_place (λ t. (known p t (node_of p t)).index) t u e

  taken : (n : ℕ) (xs ys : List ℕ) → AreSame xs ys → AreSame (take n xs) (take n ys)
  taken zero xs ys h = refl
  taken (suc n) [] [] h = refl
  taken (suc n) [] (y ∷ ys) h = absurd (let bad : false ≡ true = h in cc)
  taken (suc n) (x ∷ xs) [] h = absurd (let bad : false ≡ true = h in cc)
  taken (suc n) (x ∷ xs) (y ∷ ys) h = both_true (is_same p x y) (same_list (is_same p) (take n xs) (take n ys)) (left_true (is_same p x y) (same_list (is_same p) xs ys) h) (taken n xs ys (right_true (is_same p x y) (same_list (is_same p) xs ys) h))

  kept_if : (b : Bool) (xs ys : List ℕ) → AreSame xs ys → AreSame (row_if b xs) (row_if b ys)
  kept_if true xs ys h = h
  kept_if false xs ys h = refl

  all_themselves : (xs : List ℕ) → AreSame xs xs
  all_themselves [] = refl
  all_themselves (x ∷ xs) = both_true (is_same p x x) (same_list (is_same p) xs xs) (itself x) (all_themselves xs)

  by_row : (f : ℕ → List ℕ) (form : ℕ) → ((t : ℕ) → f t ≡ row_if (first_of (code t) == form) (take (first_of (rest_of (code t))) (parts t))) → (t u : ℕ) → Same t u → AreSame (f t) (f u)
  by_row f form h t u e = ⊎_elim
      (λ q. subst (λ x. AreSame (f t) (f x)) q (all_themselves (f t)))
      (λ q. subst (λ a. AreSame a (f u)) (sym (h t)) (subst (AreSame (row_if (first_of (code t) == form) (take (first_of (rest_of (code t))) (parts t)))) (sym (h u))
      (subst (λ c. AreSame (row_if (first_of (code t) == form) (take (first_of (rest_of (code t))) (parts t))) (row_if (first_of c == form) (take (first_of (rest_of c)) (parts u)))) q.0
      (kept_if (first_of (code t) == form) (take (first_of (rest_of (code t))) (parts t)) (take (first_of (rest_of (code t))) (parts u)) (taken (first_of (rest_of (code t))) (parts t) (parts u) q.1)))))
      (same_heads t u e)

  fields_same : (t u : ℕ) → Same t u → AreSame (map (field_kind p) (record_fields (node_of p t))) (map (field_kind p) (record_fields (node_of p u)))
  fields_same t u e = by_row (λ t. map (field_kind p) (record_fields (node_of p t))) 9 (λ t. fields_known p t (node_of p t)) t u e

  formals_same : (t u : ℕ) → Same t u → AreSame (map (formal_kind p) (formals_in (node_of p t))) (map (formal_kind p) (formals_in (node_of p u)))
  formals_same t u e = by_row (λ t. map (formal_kind p) (formals_in (node_of p t))) 13 (λ t. formals_known p t (node_of p t)) t u e

  modes_same : (t u : ℕ) → Same t u → map (formal_mode p) (formals_in (node_of p t)) ≡ map (formal_mode p) (formals_in (node_of p u))
  modes_same t u e = by_code (λ t. map (formal_mode p) (formals_in (node_of p t))) modes_by (λ t. modes_known p t (node_of p t)) t u e

  part_kept : (b : Bool) (x y : Option ℕ) → BothSame x y → BothSame (part_if b x) (part_if b y)
  part_kept true x y h = h
  part_kept false x y h = tt

  results_same : (t u : ℕ) → Same t u → BothSame (result_in (node_of p t)) (result_in (node_of p u))
  results_same t u e = ⊎_elim
      (λ q. subst (λ x. BothSame (result_in (node_of p t)) (result_in (node_of p x))) q (both_itself (result_in (node_of p t))))
      (λ q. subst (λ a. BothSame a (result_in (node_of p u))) (sym (result_known p t (node_of p t))) (subst (BothSame (result_by (code t) (parts t))) (sym (result_known p u (node_of p u)))
      (subst (λ c. BothSame (result_by (code t) (parts t)) (result_by c (parts u))) q.0
      (part_kept (first_of (code t) == 13) _ _ (part_kept (has_result_by (code t)) _ _ (part_same (parts t) (parts u) (first_of (rest_of (code t))) q.1))))))
      (same_heads t u e)

  -- ---- sizes

  members_or : (a b : Option ℕ) → BothSame a b → option_map_or (members p) a 0 ≡ option_map_or (members p) b 0
  members_or None None h = refl
  members_or (Some t) (Some u) h = members_same t u h
  members_or None (Some u) h = absurd h
  members_or (Some t) None h = absurd h

  said_same : (t u : ℕ) → Same t u → size_said p t ≡ size_said p u
  said_same t u e =
      ap (λ b. elim b as (λ x. Option ℕ) [ true ↦ None | false ↦ Some (elements p t) ]) (open_same t u e)
      ∙ ap (λ n. elim (is_open p u) as (λ x. Option ℕ) [ true ↦ None | false ↦ Some n ]) (members_or (index_in (node_of p t)) (index_in (node_of p u)) (index_same t u e))

  sizes_next : (limit : ℕ) (m n : Option ℕ) (a b : Option ℕ) → m ≡ n → BothSame a b → ((t u : ℕ) → Same t u → sizes_to p limit t ≡ sizes_to p limit u) →
      option_map_or (λ e. m ∷ sizes_to p limit e) a [] ≡ option_map_or (λ e. n ∷ sizes_to p limit e) b []
  sizes_next limit m n None None e h g = refl
  sizes_next limit m n (Some t) (Some u) e h g = ap (λ x. x ∷ sizes_to p limit t) e ∙ ap (λ xs. n ∷ xs) (g t u h)
  sizes_next limit m n None (Some u) e h g = absurd h
  sizes_next limit m n (Some t) None e h g = absurd h

  sizes_same : (limit t u : ℕ) → Same t u → sizes_to p limit t ≡ sizes_to p limit u
  sizes_same zero t u e = refl
  sizes_same (suc limit) t u e = sizes_next limit (size_said p t) (size_said p u) (element p t) (element p u) (said_same t u e) (element_same t u e) (sizes_same limit)

  bounds_of_both : (a b : Option ℕ) → BothSame a b → option_and_then (bounds p) a ≡ option_and_then (bounds p) b
  bounds_of_both None None h = refl
  bounds_of_both (Some t) (Some u) h = bounds_same t u h
  bounds_of_both None (Some u) h = absurd h
  bounds_of_both (Some t) None h = absurd h

  -- ---- procedures

  alike_modes : (m n : Mode) → mode_code m ≡ mode_code n → same_mode p m n ≡ true
  alike_modes mode.Value mode.Value e = refl
  alike_modes mode.Var mode.Var e = refl
  alike_modes mode.Readonly mode.Readonly e = refl
  alike_modes mode.Value mode.Var e = absurd (omega arith)
  alike_modes mode.Value mode.Readonly e = absurd (omega arith)
  alike_modes mode.Var mode.Value e = absurd (omega arith)
  alike_modes mode.Var mode.Readonly e = absurd (omega arith)
  alike_modes mode.Readonly mode.Value e = absurd (omega arith)
  alike_modes mode.Readonly mode.Var e = absurd (omega arith)

  one_mode : (m n : Mode) → same_mode p m n ≡ true → m ≡ n
  one_mode mode.Value mode.Value e = refl
  one_mode mode.Var mode.Var e = refl
  one_mode mode.Readonly mode.Readonly e = refl
  one_mode mode.Value mode.Var e = absurd (let bad : false ≡ true = e in cc)
  one_mode mode.Value mode.Readonly e = absurd (let bad : false ≡ true = e in cc)
  one_mode mode.Var mode.Value e = absurd (let bad : false ≡ true = e in cc)
  one_mode mode.Var mode.Readonly e = absurd (let bad : false ≡ true = e in cc)
  one_mode mode.Readonly mode.Value e = absurd (let bad : false ≡ true = e in cc)
  one_mode mode.Readonly mode.Var e = absurd (let bad : false ≡ true = e in cc)

  alike_formals : (fs gs : List Formal) → map (formal_mode p) fs ≡ map (formal_mode p) gs → AreSame (map (formal_kind p) fs) (map (formal_kind p) gs) → same_list (same_formal p) fs gs ≡ true
  alike_formals [] [] e h = refl
  alike_formals [] (g ∷ gs) e h = h
  alike_formals (f ∷ fs) [] e h = h
  alike_formals (f ∷ fs) (g ∷ gs) e h =
      both_true (same_formal p f g) (same_list (same_formal p) fs gs)
      (both_true (same_mode p f.mode g.mode) (is_same p f.kind.0 g.kind.0) (alike_modes f.mode g.mode (ap first_of e)) (left_true (is_same p f.kind.0 g.kind.0) (same_list (is_same p) (map (formal_kind p) fs) (map (formal_kind p) gs)) h))
      (alike_formals fs gs (ap rest_of e) (right_true (is_same p f.kind.0 g.kind.0) (same_list (is_same p) (map (formal_kind p) fs) (map (formal_kind p) gs)) h))

  formal_then : (f g h : Formal) → same_formal p f g ≡ true → same_formal p g h ≡ true → same_formal p f h ≡ true
  formal_then f g h a b = both_true (same_mode p f.mode h.mode) (is_same p f.kind.0 h.kind.0)
      (subst (λ m. same_mode p m h.mode ≡ true) (sym (one_mode f.mode g.mode (left_true (same_mode p f.mode g.mode) (is_same p f.kind.0 g.kind.0) a))) (left_true (same_mode p g.mode h.mode) (is_same p g.kind.0 h.kind.0) b))
      (and_then f.kind.0 g.kind.0 h.kind.0 (right_true (same_mode p f.mode g.mode) (is_same p f.kind.0 g.kind.0) a) (right_true (same_mode p g.mode h.mode) (is_same p g.kind.0 h.kind.0) b))

  alike_results : (a b : Option ℕ) → BothSame a b → same_result p a b ≡ true
  alike_results None None h = refl
  alike_results (Some t) (Some u) h = h
  alike_results None (Some u) h = absurd h
  alike_results (Some t) None h = absurd h

  result_then : (a b c : Option ℕ) → same_result p a b ≡ true → same_result p b c ≡ true → same_result p a c ≡ true
  result_then None None c e f = f
  result_then (Some t) (Some u) (Some v) e f = and_then t u v e f
  result_then None (Some u) c e f = absurd (let bad : false ≡ true = e in cc)
  result_then (Some t) None c e f = absurd (let bad : false ≡ true = e in cc)
  result_then (Some t) (Some u) None e f = f

  called_then : (a b c : Option TypeNode) → called_alike p a b ≡ true → called_alike p b c ≡ true → called_alike p a c ≡ true
  called_then a b c h g = both_true (same_list (same_formal p) (formals_in a) (formals_in c)) (same_result p (result_in a) (result_in c))
      (list_then (same_formal p) formal_then (formals_in a) (formals_in b) (formals_in c)
      (left_true (same_list (same_formal p) (formals_in a) (formals_in b)) (same_result p (result_in a) (result_in b)) h)
      (left_true (same_list (same_formal p) (formals_in b) (formals_in c)) (same_result p (result_in b) (result_in c)) g))
      (result_then (result_in a) (result_in b) (result_in c)
      (right_true (same_list (same_formal p) (formals_in a) (formals_in b)) (same_result p (result_in a) (result_in b)) h)
      (right_true (same_list (same_formal p) (formals_in b) (formals_in c)) (same_result p (result_in b) (result_in c)) g))

  pub procedure_then : (q : Option ProcDef) (t u : ℕ) → called_alike p (node_of p t) (node_of p u) ≡ true → IsProcedureOf p q t → IsProcedureOf p q u
  procedure_then None t u e h = h
  procedure_then (Some q) t u e h = called_then (node_of p q.kind.0) (node_of p t) (node_of p u) h e

  called_same : (o : Option TypeNode) (t u : ℕ) → Same t u → called_alike p o (node_of p t) ≡ true → called_alike p o (node_of p u) ≡ true
  called_same o t u e h = called_then o (node_of p t) (node_of p u) h
      (both_true (same_list (same_formal p) (formals_in (node_of p t)) (formals_in (node_of p u))) (same_result p (result_in (node_of p t)) (result_in (node_of p u)))
      (alike_formals (formals_in (node_of p t)) (formals_in (node_of p u)) (modes_same t u e) (formals_same t u e))
      (alike_results (result_in (node_of p t)) (result_in (node_of p u)) (results_same t u e)))

  procedure_same : (q : Option ProcDef) (t u : ℕ) → Same t u → IsProcedureOf p q t → IsProcedureOf p q u
  procedure_same None t u e h = h
  procedure_same (Some q) t u e h = called_same (node_of p q.kind.0) t u e h

  -- ---- references

  abbrev BothPlain : ℕ → ℕ → Type 0
  BothPlain t u = IsPlain p t (node_of p t) × IsPlain p u (node_of p u) × (code t ≡ code u)

  plain_both : (t u : ℕ) → (code t ≡ code u) → (t ≡ u) ⊎ BothPlain t u
  plain_both t u e = ⊎_elim
      (λ a. ⊎_elim
      (λ b. let one : Some t ≡ Some u = sym a ∙ ap opaque_by e ∙ b in inl cc)
      (λ b. let bad : Some t ≡ None = sym a ∙ ap opaque_by e ∙ b.none in absurd cc)
      (opaque_or p u (node_of p u)))
      (λ a. ⊎_elim
      (λ b. let bad : None ≡ Some u = sym a.none ∙ ap opaque_by e ∙ b in absurd cc)
      (λ b. inr (a, b, e))
      (opaque_or p u (node_of p u)))
      (opaque_or p t (node_of p t))

  same_plain : (t u : ℕ) → Same t u → (t ≡ u) ⊎ BothPlain t u
  same_plain t u e = ⊎_elim (λ q. inl q) (λ q. plain_both t u q.0) (same_heads t u e)

  unveiled_same : (t u : ℕ) → Same t u → Same (unveiled p t) (unveiled p u)
  unveiled_same t u e = ⊎_elim
      (λ q. subst (λ x. Same (unveiled p t) (unveiled p x)) q (itself (unveiled p t)))
      (λ q. subst (λ x. Same x (unveiled p u)) (sym q.0.bare) (subst (Same t) (sym q.1.bare) e))
      (same_plain t u e)

  parent_is : (o : Option TypeNode) → parent_in p o ≡ option_map (unveiled p) (named_parent o)
  parent_is None = refl
  parent_is (Some node.Reserved) = refl
  parent_is (Some node.Integer) = refl
  parent_is (Some node.Boolean) = refl
  parent_is (Some node.Character) = refl
  parent_is (Some (node.Enumeration names)) = refl
  parent_is (Some (node.Subrange base first last)) = refl
  parent_is (Some (node.FixedArray index element)) = refl
  parent_is (Some (node.OpenArray element)) = refl
  parent_is (Some (node.Fields fields)) = refl
  parent_is (Some (node.SetOf base)) = refl
  parent_is (Some (node.RefTo brand target)) = refl
  parent_is (Some (node.Object brand parent fields methods overrides)) = refl
  parent_is (Some (node.Procedure formals result raises)) = refl
  parent_is (Some (node.Opaque bound secret)) = refl
  parent_is (Some node.Null) = refl
  parent_is (Some node.RefAny) = refl
  parent_is (Some node.Text) = refl
  parent_is (Some node.Mutex) = refl
  parent_is (Some node.Root) = refl
  parent_is (Some (node.Constant value)) = refl

  both_unveiled : (a b : Option ℕ) → BothSame a b → BothSame (option_map (unveiled p) a) (option_map (unveiled p) b)
  both_unveiled None None h = tt
  both_unveiled (Some t) (Some u) h = unveiled_same t u h
  both_unveiled None (Some u) h = absurd h
  both_unveiled (Some t) None h = absurd h

  -- types that are the same have parents that are
  pub parent_same : (t u : ℕ) → Same t u → BothSame (parent p t) (parent p u)
  parent_same t u e = subst (λ a. BothSame a (parent p u)) (sym (parent_is (node_of p t))) (subst (BothSame (option_map (unveiled p) (named_parent (node_of p t)))) (sym (parent_is (node_of p u))) (both_unveiled (named_parent (node_of p t)) (named_parent (node_of p u)) (above_same t u e)))

  text_same : (t u : ℕ) → Same t u → is_text_type p (node_of p (unveiled p t)) ≡ is_text_type p (node_of p (unveiled p u))
  text_same t u e = ⊎_elim
      (λ q. ap (λ x. is_text_type p (node_of p (unveiled p x))) q)
      (λ q. ap (λ x. is_text_type p (node_of p x)) q.0.bare ∙ (known p t (node_of p t)).text ∙ ap (λ c. (first_of c == 16) || (first_of c == 17)) q.2 ∙ sym (known p u (node_of p u)).text ∙ sym (ap (λ x. is_text_type p (node_of p x)) q.1.bare))
      (same_plain t u e)

  thread_same : (t u : ℕ) → Same t u → is_thread_type p (node_of p (unveiled p t)) ≡ is_thread_type p (node_of p (unveiled p u))
  thread_same t u e = ⊎_elim
      (λ q. ap (λ x. is_thread_type p (node_of p (unveiled p x))) q)
      (λ q. ap (λ x. is_thread_type p (node_of p x)) q.0.bare ∙ q.0.thread ∙ ap (λ c. (first_of c == 16) || (first_of c == 19)) q.2 ∙ sym q.1.thread ∙ sym (ap (λ x. is_thread_type p (node_of p x)) q.1.bare))
      (same_plain t u e)

  below_same : (kind t u : ℕ) → Same t u → is_below p kind t ≡ true → is_below p kind u ≡ true
  below_same kind t u e h = any_more (λ a. is_same p a t) (λ a. is_same p a u) (λ a f. and_then a t u f e) (line p kind) h

  made_same : (kind t u : ℕ) → Same t u → code t ≡ code u → cell_has_type p t (store.Made kind value.Nil 0) ≡ true → cell_has_type p u (store.Made kind value.Nil 0) ≡ true
  made_same kind t u e c h =
      let object = is_object_in (node_of p kind) in
      (known p u (node_of p u)).made kind
      ∙ ap (λ c. made_by (first_of c) object (is_below p kind u)) (sym c)
      ∙ made_more (first_of (code t)) object (is_below p kind t) (is_below p kind u) (below_same kind t u e) (sym ((known p t (node_of p t)).made kind) ∙ h)

  plain_cell : (t u : ℕ) → Same t u → BothPlain t u → (cell : Cell) → cell_has_type p (unveiled p t) cell ≡ true → cell_has_type p (unveiled p u) cell ≡ true
  plain_cell t u e q (store.Made kind v holder) h =
      ap (λ x. cell_has_type p x (store.Made kind v holder)) q.1.bare
      ∙ made_same kind t u e q.2 (sym (ap (λ x. cell_has_type p x (store.Made kind v holder)) q.0.bare) ∙ h)
  plain_cell t u e q (store.Bytes bytes) h = sym (text_same t u e) ∙ h
  plain_cell t u e q (store.Forked number result is_joined) h = sym (thread_same t u e) ∙ h

  cell_same : (t u : ℕ) → Same t u → (cell : Cell) → cell_has_type p (unveiled p t) cell ≡ true → cell_has_type p (unveiled p u) cell ≡ true
  cell_same t u e cell h = ⊎_elim
      (λ q. subst (λ x. cell_has_type p (unveiled p x) cell ≡ true) q h)
      (λ q. plain_cell t u e q cell h)
      (same_plain t u e)

  pointer_same : (t u : ℕ) → Same t u → (o : Option Cell) → option_map (cell_has_type p (unveiled p t)) o ≡ Some true → option_map (cell_has_type p (unveiled p u)) o ≡ Some true
  pointer_same t u e None h = absurd (let bad : None ≡ Some true = h in cc)
  pointer_same t u e (Some cell) h = ap Some (cell_same t u e cell (let one : Some (cell_has_type p (unveiled p t) cell) ≡ Some true = h in cc))

  -- ---- values

  mutual
    pub share_values : (s : Store) (v : Value) (t u : ℕ) → Same t u → HasType p s v t → HasType p s v u
    share_values s (value.Ordinal z) t u e h = (sym (class_same t u e) ∙ h.0, subst (IsNumberOf z) (bounds_same t u e) h.1)
    share_values s value.Nil t u e h = subst IsOfNil (class_same t u e) h
    share_values s (value.Pointer c) t u e h = (sym (class_same t u e) ∙ h.0, pointer_same t u e (cell_at s c) h.1)
    share_values s (value.Text n) t u e h = (sym (class_same t u e) ∙ h.0, ap Some (sym (text_same t u e)) ∙ h.1, h.2)
    share_values s value.MainThread t u e h = (sym (class_same t u e) ∙ h.0, ap Some (sym (thread_same t u e)) ∙ h.1)
    share_values s (value.Procedure q around) t u e h = (sym (class_same t u e) ∙ h.0, procedure_same (procedure_at p q) t u e h.1)
    share_values s (value.Members ms) t u e h = (sym (class_same t u e) ∙ h.0, subst (AreMembersOf ms) (bounds_of_both (member_in (node_of p t)) (member_in (node_of p u)) (member_same t u e)) h.1)
    share_values s (value.Record vs) t u e h = (sym (class_same t u e) ∙ h.0, share_fields s vs (record_fields (node_of p t)) (record_fields (node_of p u)) (fields_same t u e) h.1)
    share_values s (value.Array below vs) t u e h = (
      sym (class_same t u e) ∙ h.0,
      share_elements s vs below (element p t) (element p u) (element_same t u e) h.1,
      subst (λ sizes. has_sizes sizes (shape (value.Array below vs)) ≡ true) (sizes_same (depth p) t u e) h.2,
    )

    share_fields : (s : Store) (vs : Values) (fs gs : List Field) → AreSame (map (field_kind p) fs) (map (field_kind p) gs) → AreFields p s vs fs → AreFields p s vs gs
    share_fields s value.End [] [] e h = tt
    share_fields s value.End [] (g ∷ gs) e h = absurd (let bad : false ≡ true = e in cc)
    share_fields s value.End (f ∷ fs) gs e h = absurd h
    share_fields s (value.More v vs) [] gs e h = absurd h
    share_fields s (value.More v vs) (f ∷ fs) [] e h = absurd (let bad : false ≡ true = e in cc)
    share_fields s (value.More v vs) (f ∷ fs) (g ∷ gs) e h = (
      share_values s v f.kind.0 g.kind.0 (left_true (is_same p f.kind.0 g.kind.0) (same_list (is_same p) (map (field_kind p) fs) (map (field_kind p) gs)) e) h.0,
      share_fields s vs fs gs (right_true (is_same p f.kind.0 g.kind.0) (same_list (is_same p) (map (field_kind p) fs) (map (field_kind p) gs)) e) h.1,
    )

    pub share_elements : (s : Store) (vs : Values) (below : List ℕ) (a b : Option ℕ) → BothSame a b → AreElements p s vs below a → AreElements p s vs below b
    share_elements s vs below None b e h = absurd h
    share_elements s vs below (Some t) None e h = absurd e
    share_elements s value.End below (Some t) (Some u) e h = tt
    share_elements s (value.More v vs) below (Some t) (Some u) e h = (share_values s v t u e h.0, h.1, share_elements s vs below (Some t) (Some u) e h.2)

pub same_types_share_values : SameTypesShareValues
same_types_share_values p s v t u e h = share_values p s v t u e h
