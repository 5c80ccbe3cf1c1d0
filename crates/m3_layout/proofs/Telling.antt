-- Each way in which a walk goes a task further.
use Rattle.std.proofs.Common.{◌≡◌, ℕ, zero, suc, ◌+◌, ◌*◌, ◌-◌, ◌<◌, ◌≤◌, ◌^◌, List, [], ◌∷◌, ◌++◌, length, drop, map, Option, Some, None, true, false, refl, sym, ◌∙◌, ap, subst, arith, All, append_assoc, length-append}
use Rattle.std.specs.Option.{option_map_or}
use Rattle.std.specs.BTreeMap.{BTreeMap}
use Rattle.std.proofs.lemmas.List.{append-nil, drop_at}
use Rattle.std.proofs.lemmas.List.Elements.{All-nil, All-cons, All-same}
use Rattle.std.specs.Borrow.{Bor}
use Rattle.m3_types.specs.declared.nodes.TypeId.{TypeId}
use Rattle.m3_types.specs.declared.nodes.Field.{Field}
use Rattle.m3_types.specs.declared.nodes.TypeNode.{TypeNode}
use Rattle.m3_types.specs.declared.nodes.TypeNode.TheVariants.{FixedArray, Fields, RefTo, Object, Opaque, Null, RefAny, Text, Mutex, Root}
use Rattle.m3_types.specs.Definitions.{node_at, head_at, head_of, Missing}
use Rattle.m3_types.specs.Kinds.{size_of, is_reference}
use Rattle.m3_types_sizes.specs.Sizes.{field_words, words_to_depth, EachField, HasSize, IsSized}
use Rattle.m3_layout.specs.declared.walk.Run.{Run}
use Rattle.m3_layout.specs.declared.walk.Whole.{Whole}
use Rattle.m3_layout.specs.declared.walk.Task.{Task}
use Rattle.m3_layout.specs.declared.walk.Task.TheVariants.{OneValue, FieldsFrom, ElementsLeft}
use Rattle.m3_layout.specs.Pointers.{field_pointers, element_pointers, pointers_of_node, pointers_to_depth, RisesWithin}
use Rattle.m3_layout.specs.Depths.{value_words, value_pointers}
use Rattle.m3_layout.specs.Walking.{fields_in, fields_at, is_record, array_parts, task_pointers, IsReady, IsOpen, IsBegun, run_of, AreRuns, IsWalk, effort_of_node, effort_to_depth, value_effort, task_effort}
use Rattle.m3_layout.proofs.Depths.{OfFields, of_fields, OfElements, of_elements, element_pointers_equal}
use Rattle.m3_layout.proofs.Rising.{value_rises, rises_all}
use Rattle.m3_layout.proofs.Shifting.{value_moved}
use Rattle.m3_layout.proofs.Walks.{open_more, begun_last, runs_more, last_ready, Goes, goes}

module _ (nodes : List TypeNode) where
  node_effort : (e : ℕ → ℕ) (o : Option TypeNode) → 0 < option_map_or (effort_of_node nodes e) o 1
  node_effort e None = omega arith
  node_effort e (Some (Fields fields)) = omega arith
  node_effort e (Some (FixedArray index element)) = omega arith
  node_effort e (Some _) = omega arith

  some_effort : (depth i : ℕ) → 0 < effort_to_depth nodes depth i
  some_effort zero i = omega arith
  some_effort (suc depth) i = node_effort (effort_to_depth nodes depth) (node_at nodes i)

  pub task_takes : (t : Task) → 0 < task_effort nodes t
  task_takes (OneValue t at) = some_effort (length nodes) t.0
  task_takes (FieldsFrom whole next at) = omega arith
  task_takes (ElementsLeft whole element left at) = omega arith

  -- a task that tells all that it is for
  pub told_go : (old told new : List ℕ) (tasks tasks' : List Task) (t : Task) (runs : BTreeMap ℕ Run) → new ≡ old ++ told → tasks' ≡ tasks → told ≡ task_pointers nodes t → IsWalk nodes old (tasks ++ t ∷ []) runs → Goes nodes old new tasks tasks' t runs
  told_go old told new tasks tasks' t runs en et e w =
      goes nodes old told new tasks [] tasks' t runs runs en (et ∙ sym (append-nil tasks)) (append-nil told ∙ e) w (All-nil (IsReady nodes)) tt (runs_more nodes old told runs w.known) (task_takes t)

  -- a task that has nothing left to tell
  pub closed_go : (old new : List ℕ) (tasks tasks' : List Task) (t : Task) (runs runs' : BTreeMap ℕ Run) → new ≡ old → tasks' ≡ tasks → task_pointers nodes t ≡ [] → IsWalk nodes old (tasks ++ t ∷ []) runs → AreRuns nodes new runs' → Goes nodes old new tasks tasks' t runs'
  closed_go old new tasks tasks' t runs runs' en et e w known =
      goes nodes old [] new tasks [] tasks' t runs runs' (en ∙ sym (append-nil old)) (et ∙ sym (append-nil tasks)) (sym e) w (All-nil (IsReady nodes)) tt (subst (λ (o : List ℕ). AreRuns nodes o runs') (en ∙ sym (append-nil old)) known) (task_takes t)

  -- a task that another one takes the place of
  pub next_goes : (old told new : List ℕ) (tasks tasks' : List Task) (t t' : Task) (runs : BTreeMap ℕ Run) → new ≡ old ++ told → tasks' ≡ tasks ++ t' ∷ [] → told ++ task_pointers nodes t' ≡ task_pointers nodes t → IsWalk nodes old (tasks ++ t ∷ []) runs → IsReady nodes t' → IsBegun nodes (old ++ told) t' (task_pointers nodes t') → task_effort nodes t' < task_effort nodes t → Goes nodes old new tasks tasks' t runs
  next_goes old told new tasks tasks' t t' runs en et e w ready begun less =
      goes nodes old told new tasks (t' ∷ []) tasks' t runs runs en et e w (All-cons (IsReady nodes) t' [] ready (All-nil (IsReady nodes))) (begun, tt) (runs_more nodes old told runs w.known) (omega arith)

  -- a task that begins with a part, which another one goes on behind
  pub part_goes : (old : List ℕ) (tasks tasks' : List Task) (t rest : Task) (part : TypeId) (at : ℕ) (runs : BTreeMap ℕ Run) → tasks' ≡ (tasks ++ rest ∷ []) ++ OneValue part at ∷ [] → value_pointers nodes at part.0 ++ task_pointers nodes rest ≡ task_pointers nodes t → IsWalk nodes old (tasks ++ t ∷ []) runs → IsReady nodes rest → IsReady nodes (OneValue part at) → IsBegun nodes (old ++ []) rest (value_pointers nodes at part.0 ++ task_pointers nodes rest) → task_effort nodes rest + value_effort nodes part.0 < task_effort nodes t → Goes nodes old old tasks tasks' t runs
  part_goes old tasks tasks' t rest part at runs et e w ready now begun less =
      let one = OneValue part at in
      goes nodes old [] old tasks (rest ∷ one ∷ []) tasks' t runs runs (sym (append-nil old)) (et ∙ append_assoc tasks (rest ∷ []) (one ∷ [])) e w
      (All-cons (IsReady nodes) rest (one ∷ []) ready (All-cons (IsReady nodes) one [] now (All-nil (IsReady nodes))))
      (begun, (tt, tt)) (runs_more nodes old [] runs w.known) (omega arith)

  -- the next field
  pub fields_go : (old : List ℕ) (tasks tasks' : List Task) (runs : BTreeMap ℕ Run) (whole : Whole) (next at words : ℕ) (f : Field) (kind : TypeId) → f.kind ≡ kind → drop next (fields_at nodes whole.kind.0) ≡ f ∷ drop (next + 1) (fields_at nodes whole.kind.0) → words ≡ value_words nodes kind.0 → IsSized nodes (length nodes) kind.0 → IsWalk nodes old (tasks ++ FieldsFrom whole next at ∷ []) runs → tasks' ≡ (tasks ++ FieldsFrom whole (next + 1) (at + words) ∷ []) ++ OneValue kind at ∷ [] → Goes nodes old old tasks tasks' (FieldsFrom whole next at) runs
  fields_go old tasks tasks' runs whole next at words f kind ek ed ew sized w et =
      let t = FieldsFrom whole next at in
      let rest = FieldsFrom whole (next + 1) (at + words) in
      let fs = drop (next + 1) (fields_at nodes whole.kind.0) in
      let W = value_words nodes in
      let P = value_pointers nodes in
      let ready = last_ready nodes old tasks t runs w in
      let k : ℕ → ℕ = λ (n : ℕ). n in
      let fk : f.kind.0 ≡ kind.0 = ap (λ (u : TypeId). u.0) ek in
      let sum : field_words W (drop next (fields_at nodes whole.kind.0)) ≡ W kind.0 + field_words W fs = ap (field_words W) ed ∙ ap (λ n. W n + field_words W fs) fk in
      let fits : at + W kind.0 + field_words W fs < 2 ^ 64 = omega (arith, ready.1) in
      let same : P at kind.0 ++ task_pointers nodes rest ≡ task_pointers nodes t =
      ap (λ n. P at kind.0 ++ field_pointers W P (at + n) fs) ew
      ∙ sym (ap (λ n. P at n ++ field_pointers W P (at + W n) fs) fk)
      ∙ sym (ap (field_pointers W P at) ed) in
      let E = λ (i : ℕ). 1 + value_effort nodes i in
      let effort : field_words E (drop next (fields_at nodes whole.kind.0)) ≡ E kind.0 + field_words E fs = ap (field_words E) ed ∙ ap (λ n. E n + field_words E fs) fk in
      let sizes : EachField (HasSize nodes) (f ∷ fs) = subst (EachField (HasSize nodes)) ed ready.0 in
      part_goes old tasks tasks' t rest kind at runs et same w
      (sizes.1, subst (λ n. at + n + field_words W fs < 2 ^ 64) (sym ew) fits)
      (sized, omega arith)
      (open_more nodes old [] whole (P at kind.0 ++ task_pointers nodes rest) (subst (IsOpen nodes old whole) (sym same) (begun_last nodes old tasks t w.begun)))
      (omega arith)

  -- the next element
  pub elements_go : (old : List ℕ) (tasks tasks' : List Task) (runs : BTreeMap ℕ Run) (whole : Whole) (element : TypeId) (left at words : ℕ) → words ≡ value_words nodes element.0 → IsSized nodes (length nodes) element.0 → IsWalk nodes old (tasks ++ ElementsLeft whole element (suc left) at ∷ []) runs → tasks' ≡ (tasks ++ ElementsLeft whole element left (at + words) ∷ []) ++ OneValue element at ∷ [] → Goes nodes old old tasks tasks' (ElementsLeft whole element (suc left) at) runs
  elements_go old tasks tasks' runs whole element left at words ew sized w et =
      let t = ElementsLeft whole element (suc left) at in
      let rest = ElementsLeft whole element left (at + words) in
      let W = value_words nodes in
      let P = value_pointers nodes in
      let ready = last_ready nodes old tasks t runs w in
      let V = W element.0 in
      let fits : at + (V + left * V) < 2 ^ 64 = omega (arith, ready.1) in
      let same : P at element.0 ++ task_pointers nodes rest ≡ task_pointers nodes t =
      ap (λ n. P at element.0 ++ element_pointers V (λ k. P k element.0) (at + n) left) ew in
      part_goes old tasks tasks' t rest element at runs et same w
      (sized, subst (λ n. at + n + left * V < 2 ^ 64) (sym ew) (omega arith))
      (sized, omega arith)
      (open_more nodes old [] whole (P at element.0 ++ task_pointers nodes rest) (subst (IsOpen nodes old whole) (sym same) (begun_last nodes old tasks t w.begun)))
      (omega arith)

  pub more_elements_go : (old : List ℕ) (tasks tasks' : List Task) (runs : BTreeMap ℕ Run) (whole : Whole) (element : TypeId) (left rest at words : ℕ) → left ≡ suc rest → words ≡ value_words nodes element.0 → IsSized nodes (length nodes) element.0 → IsWalk nodes old (tasks ++ ElementsLeft whole element left at ∷ []) runs → tasks' ≡ (tasks ++ ElementsLeft whole element rest (at + words) ∷ []) ++ OneValue element at ∷ [] → Goes nodes old old tasks tasks' (ElementsLeft whole element left at) runs
  more_elements_go old tasks tasks' runs whole element left rest at words el ew sized w et =
      let P : ℕ → Type 0 = λ (n : ℕ). IsWalk nodes old (tasks ++ ElementsLeft whole element n at ∷ []) runs → Goes nodes old old tasks tasks' (ElementsLeft whole element n at) runs in
      let all : P (suc rest) = λ v. elements_go old tasks tasks' runs whole element rest at words ew sized v et in
      subst P (sym el) all w

  -- what a field's place in its record says
  pub field_room : (old : List ℕ) (tasks : List Task) (runs : BTreeMap ℕ Run) (whole : Whole) (next at : ℕ) (f : Field) (kind : TypeId) → f.kind ≡ kind → drop next (fields_at nodes whole.kind.0) ≡ f ∷ drop (next + 1) (fields_at nodes whole.kind.0) → IsWalk nodes old (tasks ++ FieldsFrom whole next at ∷ []) runs → HasSize nodes kind.0 × (at + value_words nodes kind.0 < 2 ^ 64)
  field_room old tasks runs whole next at f kind ek ed w =
      let fs = drop (next + 1) (fields_at nodes whole.kind.0) in
      let W = value_words nodes in
      let ready = last_ready nodes old tasks (FieldsFrom whole next at) runs w in
      let fk : f.kind.0 ≡ kind.0 = ap (λ (u : TypeId). u.0) ek in
      let sum : field_words W (drop next (fields_at nodes whole.kind.0)) ≡ W kind.0 + field_words W fs = ap (field_words W) ed ∙ ap (λ n. W n + field_words W fs) fk in
      let sizes : EachField (HasSize nodes) (f ∷ fs) = subst (EachField (HasSize nodes)) ed ready.0 in
      (subst (HasSize nodes) fk sizes.0, omega (arith, ready.1))

  pub nothing_left : (old : List ℕ) (tasks : List Task) (runs : BTreeMap ℕ Run) (t : Task) (whole : Whole) → IsBegun nodes old t (task_pointers nodes t) ≡ IsOpen nodes old whole (task_pointers nodes t) → task_pointers nodes t ≡ [] → IsWalk nodes old (tasks ++ t ∷ []) runs → IsOpen nodes old whole []
  nothing_left old tasks runs t whole e none w =
      subst (IsOpen nodes old whole) none (subst (λ (X : Type 0). X) e (begun_last nodes old tasks t w.begun))

  -- elements that are copied
  pub copies_go : (old new : List ℕ) (tasks tasks' : List Task) (runs : BTreeMap ℕ Run) (whole : Whole) (element : TypeId) (left rest at words : ℕ) (run : Run) → left ≡ suc rest → words ≡ value_words nodes element.0 → run_of old run ≡ value_pointers nodes run.at element.0 → IsWalk nodes old (tasks ++ ElementsLeft whole element left at ∷ []) runs → new ≡ old ++ element_pointers words (λ k. map (λ p. p - run.at + k) (run_of old run)) at left → tasks' ≡ tasks ++ ElementsLeft whole element 0 at ∷ [] → Goes nodes old new tasks tasks' (ElementsLeft whole element left at) runs
  copies_go old new tasks tasks' runs whole element left rest at words run el ew er w en et =
      let t = ElementsLeft whole element left at in
      let V = value_words nodes element.0 in
      let told = element_pointers words (λ k. map (λ p. p - run.at + k) (run_of old run)) at left in
      let ready = last_ready nodes old tasks t runs w in
      let E = 1 + value_effort nodes element.0 in
      let same : told ++ [] ≡ task_pointers nodes t =
      append-nil told
      ∙ ap (λ n. element_pointers n (λ k. map (λ p. p - run.at + k) (run_of old run)) at left) ew
      ∙ element_pointers_equal V (λ k. map (λ p. p - run.at + k) (run_of old run)) (λ k. value_pointers nodes k element.0) (λ k. ap (map (λ p. p - run.at + k)) er ∙ value_moved nodes run.at k element.0) left at in
      let all : left * E ≡ E + rest * E = ap (λ n. n * E) el ∙ (omega arith) in
      next_goes old told new tasks tasks' t (ElementsLeft whole element 0 at) runs en et same w
      (ready.0, omega (arith, ready.1))
      (open_more nodes old told whole [] (subst (IsOpen nodes old whole) (sym same) (begun_last nodes old tasks t w.begun)))
      (omega arith)

  -- a value that is copied
  pub copy_goes : (old new : List ℕ) (tasks tasks' : List Task) (runs : BTreeMap ℕ Run) (t : TypeId) (at words : ℕ) (run : Run) → run_of old run ≡ value_pointers nodes run.at t.0 → IsWalk nodes old (tasks ++ OneValue t at ∷ []) runs → new ≡ old ++ element_pointers words (λ k. map (λ p. p - run.at + k) (run_of old run)) at 1 → tasks' ≡ tasks → Goes nodes old new tasks tasks' (OneValue t at) runs
  copy_goes old new tasks tasks' runs t at words run er w en et =
      told_go old (element_pointers words (λ k. map (λ p. p - run.at + k) (run_of old run)) at 1) new tasks tasks' (OneValue t at) runs en et
      (append-nil (map (λ p. p - run.at + at) (run_of old run)) ∙ ap (map (λ p. p - run.at + at)) er ∙ value_moved nodes run.at at t.0) w

  -- the pointers of a run lie in the value
  pub run_inside : (old : List ℕ) (i words : ℕ) (run : Run) → IsSized nodes (length nodes) i → words ≡ value_words nodes i → run_of old run ≡ value_pointers nodes run.at i → All (λ p. (run.at ≤ p) × (p - run.at < words)) (run_of old run)
  run_inside old i words run s ew er =
      let l : run.at ≤ run.at = omega arith in
      let r : RisesWithin run.at (run.at + words) (value_pointers nodes run.at i) = subst (λ n. RisesWithin run.at (run.at + n) (value_pointers nodes run.at i)) (sym ew) (value_rises nodes i s run.at) in
      All-same (λ p. (run.at ≤ p) × (p - run.at < words)) (run_of old run) (value_pointers nodes run.at i) er (rises_all run.at run.at words (value_pointers nodes run.at i) l r)

  -- ---- what a value's definition says

  record_node : (o : Option TypeNode) → is_record o ≡ true → (fields : Bor (List Field)) × (o ≡ Some (Fields fields))
  record_node None h = let z : ⊥ = cc in absurd z
  record_node (Some (Fields fields)) h = (fields, refl)
  record_node (Some _) h = let z : ⊥ = cc in absurd z

  fresh_open : (old : List ℕ) (whole : Whole) (rest : List ℕ) → whole.start ≡ length old → rest ≡ value_pointers nodes whole.at whole.kind.0 → IsOpen nodes (old ++ []) whole rest
  fresh_open old whole rest es e =
      (omega (arith, es, length-append old []), ap (λ xs. xs ++ rest) (drop_at old [] whole.start (sym es)) ∙ e)

  pub record_goes : (old : List ℕ) (tasks tasks' : List Task) (runs : BTreeMap ℕ Run) (whole : Whole) → whole.start ≡ length old → is_record (node_at nodes whole.kind.0) ≡ true → IsWalk nodes old (tasks ++ OneValue whole.kind whole.at ∷ []) runs → tasks' ≡ tasks ++ FieldsFrom whole 0 whole.at ∷ [] → Goes nodes old old tasks tasks' (OneValue whole.kind whole.at) runs
  record_goes old tasks tasks' runs whole es h w et =
      let at = whole.at in
      let i = whole.kind.0 in
      let t = OneValue whole.kind at in
      let ready = last_ready nodes old tasks t runs w in
      let n = record_node (node_at nodes i) h in
      let o : OfFields nodes (length nodes) i n.0.now = of_fields nodes (length nodes) i n.0 n.1 ready.0 in
      let e : fields_at nodes i ≡ n.0.now = ap fields_in n.1 in
      let W = value_words nodes in
      let P = value_pointers nodes in
      let E = λ (j : ℕ). 1 + value_effort nodes j in
      let same : task_pointers nodes (FieldsFrom whole 0 at) ≡ value_pointers nodes at i = ap (field_pointers W P at) e ∙ sym (o.pointers at) in
      let sum : field_words W (fields_at nodes i) ≡ value_words nodes i = ap (field_words W) e ∙ sym o.words in
      let effort : field_words E (fields_at nodes i) ≡ field_words E n.0.now = ap (field_words E) e in
      next_goes old [] old tasks tasks' t (FieldsFrom whole 0 at) runs (sym (append-nil old)) et same w
      (subst (EachField (HasSize nodes)) (sym e) o.sizes, subst (λ k. at + k < 2 ^ 64) (sym sum) ready.1)
      (fresh_open old whole (task_pointers nodes (FieldsFrom whole 0 at)) es same)
      (omega (arith, o.effort))

  array_node : (o : Option TypeNode) (index element : TypeId) → Some (index.0, element.0) ≡ array_parts o → o ≡ Some (FixedArray index element)
  array_node None index element h = let z : ⊥ = cc in absurd z
  array_node (Some (FixedArray i e)) index element h =
      let p : (index.0, element.0) ≡ (i.0, e.0) = cc in
      let x : i ≡ index = ap (λ (n : ℕ). let u : TypeId = record { 0 = n } in u) (sym (ap (λ (q : ℕ × ℕ). q.0) p)) in
      let y : e ≡ element = ap (λ (n : ℕ). let u : TypeId = record { 0 = n } in u) (sym (ap (λ (q : ℕ × ℕ). q.1) p)) in
      ap (λ (u : TypeId). Some (FixedArray u e)) x ∙ ap (λ (u : TypeId). Some (FixedArray index u)) y
  array_node (Some _) index element h = let z : ⊥ = cc in absurd z

  pub array_goes : (old : List ℕ) (tasks tasks' : List Task) (runs : BTreeMap ℕ Run) (whole : Whole) (index element : TypeId) (count : ℕ) → whole.start ≡ length old → Some (index.0, element.0) ≡ array_parts (node_at nodes whole.kind.0) → count ≡ size_of (head_at nodes index.0) → IsWalk nodes old (tasks ++ OneValue whole.kind whole.at ∷ []) runs → tasks' ≡ tasks ++ ElementsLeft whole element count whole.at ∷ [] → Goes nodes old old tasks tasks' (OneValue whole.kind whole.at) runs
  array_goes old tasks tasks' runs whole index element count es h ec w et =
      let at = whole.at in
      let i = whole.kind.0 in
      let t = OneValue whole.kind at in
      let ready = last_ready nodes old tasks t runs w in
      let o : OfElements nodes (length nodes) i index.0 element.0 = of_elements nodes (length nodes) i index element (array_node (node_at nodes i) index element h) ready.0 in
      let V = value_words nodes element.0 in
      let P = value_pointers nodes in
      let E = 1 + value_effort nodes element.0 in
      let same : task_pointers nodes (ElementsLeft whole element count at) ≡ value_pointers nodes at i = ap (element_pointers V (λ k. P k element.0) at) ec ∙ sym (o.pointers at) in
      let sum : count * V ≡ value_words nodes i = ap (λ n. n * V) ec ∙ sym o.words in
      let effort : count * E ≡ size_of (head_at nodes index.0) * E = ap (λ n. n * E) ec in
      next_goes old [] old tasks tasks' t (ElementsLeft whole element count at) runs (sym (append-nil old)) et same w
      (o.deep, subst (λ k. at + k < 2 ^ 64) (sym sum) ready.1)
      (fresh_open old whole (task_pointers nodes (ElementsLeft whole element count at)) es same)
      (omega (arith, o.effort))

  reference_option : (w : ℕ → ℕ) (p : ℕ → ℕ → List ℕ) (place at : ℕ) (o : Option TypeNode) → is_reference (option_map_or (head_of place) o Missing) ≡ true → option_map_or (pointers_of_node nodes w p at) o [] ≡ at ∷ []
  reference_option w p place at (Some (RefTo brand target)) h = refl
  reference_option w p place at (Some (Object brand parent fields methods overrides)) h = refl
  reference_option w p place at (Some (Opaque bound secret)) h = refl
  reference_option w p place at (Some Null) h = refl
  reference_option w p place at (Some RefAny) h = refl
  reference_option w p place at (Some Text) h = refl
  reference_option w p place at (Some Mutex) h = refl
  reference_option w p place at (Some Root) h = refl
  reference_option w p place at (Some _) h = let z : ⊥ = cc in absurd z
  reference_option w p place at None h = let z : ⊥ = cc in absurd z

  reference_pointers : (depth i at : ℕ) → IsSized nodes depth i → is_reference (head_at nodes i) ≡ true → pointers_to_depth nodes depth at i ≡ at ∷ []
  reference_pointers zero i at s h = absurd s
  reference_pointers (suc depth) i at s h = reference_option (words_to_depth nodes depth) (pointers_to_depth nodes depth) i at (node_at nodes i) h

  plain_option : (w : ℕ → ℕ) (p : ℕ → ℕ → List ℕ) (place at : ℕ) (o : Option TypeNode) → is_record o ≡ false → None ≡ array_parts o → is_reference (option_map_or (head_of place) o Missing) ≡ false → option_map_or (pointers_of_node nodes w p at) o [] ≡ []
  plain_option w p place at None r a h = refl
  plain_option w p place at (Some (Fields fields)) r a h = let z : ⊥ = cc in absurd z
  plain_option w p place at (Some (FixedArray index element)) r a h = let z : ⊥ = cc in absurd z
  plain_option w p place at (Some (RefTo brand target)) r a h = let z : ⊥ = cc in absurd z
  plain_option w p place at (Some (Object brand parent fields methods overrides)) r a h = let z : ⊥ = cc in absurd z
  plain_option w p place at (Some (Opaque bound secret)) r a h = let z : ⊥ = cc in absurd z
  plain_option w p place at (Some Null) r a h = let z : ⊥ = cc in absurd z
  plain_option w p place at (Some RefAny) r a h = let z : ⊥ = cc in absurd z
  plain_option w p place at (Some Text) r a h = let z : ⊥ = cc in absurd z
  plain_option w p place at (Some Mutex) r a h = let z : ⊥ = cc in absurd z
  plain_option w p place at (Some Root) r a h = let z : ⊥ = cc in absurd z
  plain_option w p place at (Some _) r a h = refl

  plain_pointers : (depth i at : ℕ) → IsSized nodes depth i → is_record (node_at nodes i) ≡ false → None ≡ array_parts (node_at nodes i) → is_reference (head_at nodes i) ≡ false → pointers_to_depth nodes depth at i ≡ []
  plain_pointers zero i at s r a h = absurd s
  plain_pointers (suc depth) i at s r a h = plain_option (words_to_depth nodes depth) (pointers_to_depth nodes depth) i at (node_at nodes i) r a h

  pub reference_told : (old : List ℕ) (tasks : List Task) (runs : BTreeMap ℕ Run) (t : TypeId) (at : ℕ) → is_reference (head_at nodes t.0) ≡ true → IsWalk nodes old (tasks ++ OneValue t at ∷ []) runs → at ∷ [] ≡ value_pointers nodes at t.0
  reference_told old tasks runs t at h w = sym (reference_pointers (length nodes) t.0 at (last_ready nodes old tasks (OneValue t at) runs w).0 h)

  pub plain_told : (old : List ℕ) (tasks : List Task) (runs : BTreeMap ℕ Run) (t : TypeId) (at : ℕ) → is_record (node_at nodes t.0) ≡ false → None ≡ array_parts (node_at nodes t.0) → is_reference (head_at nodes t.0) ≡ false → IsWalk nodes old (tasks ++ OneValue t at ∷ []) runs → [] ≡ value_pointers nodes at t.0
  plain_told old tasks runs t at r a h w = sym (plain_pointers (length nodes) t.0 at (last_ready nodes old tasks (OneValue t at) runs w).0 r a h)

  -- a value that is told at once
  pub leaf_open : (old told offsets : List ℕ) (whole : Whole) → whole.start ≡ length old → offsets ≡ old ++ told → told ≡ value_pointers nodes whole.at whole.kind.0 → IsOpen nodes offsets whole []
  leaf_open old told offsets whole es eo e =
      (omega (arith, es, ap length eo, length-append old told), ap (λ xs. drop whole.start xs ++ []) eo ∙ append-nil (drop whole.start (old ++ told)) ∙ drop_at old told whole.start (sym es) ∙ e)

  pub leaf_goes : (old told new : List ℕ) (tasks tasks' : List Task) (t : TypeId) (at : ℕ) (runs runs' : BTreeMap ℕ Run) → new ≡ old ++ told → tasks' ≡ tasks → told ≡ value_pointers nodes at t.0 → IsWalk nodes old (tasks ++ OneValue t at ∷ []) runs → AreRuns nodes new runs' → Goes nodes old new tasks tasks' (OneValue t at) runs'
  leaf_goes old told new tasks tasks' t at runs runs' en et e w known =
      goes nodes old told new tasks [] tasks' (OneValue t at) runs runs' en (et ∙ sym (append-nil tasks)) (append-nil told ∙ e) w (All-nil (IsReady nodes)) tt (subst (λ (o : List ℕ). AreRuns nodes o runs') en known) (task_takes (OneValue t at))
