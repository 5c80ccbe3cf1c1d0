-- One task is done: something is told, and other tasks take its place.
use Rattle.std.proofs.Common.{◌≡◌, ℕ, ◌+◌, ◌-◌, ◌<◌, ◌≤◌, List, [], ◌∷◌, ◌++◌, length, take, drop, refl, sym, ◌∙◌, ap, subst, arith, All, append_assoc, length-append}
use Rattle.std.specs.BTreeMap.{BTreeMap}
use Rattle.std.proofs.lemmas.List.{append-nil, drop-append-le, take-append-le, length-drop, take_at, get_or_push}
use Rattle.std.proofs.lemmas.List.Elements.{All-append, All-same, All-take, All-get_or}
use Rattle.m3_types.specs.declared.nodes.TypeNode.{TypeNode}
use Rattle.m3_layout.specs.declared.walk.Run.{Run}
use Rattle.m3_layout.specs.declared.walk.Whole.{Whole}
use Rattle.m3_layout.specs.declared.walk.Task.{Task}
use Rattle.m3_layout.specs.declared.walk.Task.TheVariants.{OneValue, FieldsFrom, ElementsLeft}
use Rattle.m3_layout.specs.Walking.{task_pointers, IsReady, pending, IsOpen, IsBegun, AreBegun, run_of, AreRuns, IsWalk, task_effort, total_effort}

all_first : (P : Task → Type 0) (xs ys : List Task) → All P (xs ++ ys) → All P xs
all_first P xs ys p = All-same P xs (take (length xs) (xs ++ ys)) (sym (take_at xs ys (length xs) refl)) (All-take P (length xs) (xs ++ ys) p)

all_last : (P : Task → Type 0) (xs : List Task) (t : Task) → All P (xs ++ t ∷ []) → P t
all_last P xs t p =
    let l : length xs < length (xs ++ t ∷ []) = omega (arith, length-append xs (t ∷ [])) in
    subst P (get_or_push xs t t (length xs) refl) (All-get_or P (xs ++ t ∷ []) (length xs) t l p)

pub run_stays : (offsets told : List ℕ) (run : Run) → run.start ≤ run.end → run.end ≤ length offsets → run_of (offsets ++ told) run ≡ run_of offsets run
run_stays offsets told run o l =
    let s : run.start ≤ length offsets = omega arith in
    let m : run.end - run.start ≤ length (drop run.start offsets) = omega (arith, length-drop run.start offsets) in
    ap (take (run.end - run.start)) (drop-append-le run.start offsets told s) ∙ take-append-le (run.end - run.start) (drop run.start offsets) told m

module _ (nodes : List TypeNode) where
  pending-append : (xs ts : List Task) → pending nodes (xs ++ ts) ≡ pending nodes ts ++ pending nodes xs
  pending-append [] ts = sym (append-nil (pending nodes ts))
  pending-append (x ∷ xs) ts =
      ap (λ ys. ys ++ task_pointers nodes x) (pending-append xs ts) ∙ append_assoc (pending nodes ts) (pending nodes xs) (task_pointers nodes x)

  total_effort-append : (xs ts : List Task) → total_effort nodes (xs ++ ts) ≡ total_effort nodes xs + total_effort nodes ts
  total_effort-append [] ts = omega arith
  total_effort-append (x ∷ xs) ts = let e = total_effort-append xs ts in omega (arith, e)

  -- what was pending after a task is what it told and what is pending now
  pending_change : (xs ts : List Task) (t : Task) (told : List ℕ) → told ++ pending nodes ts ≡ task_pointers nodes t → pending nodes (xs ++ t ∷ []) ≡ told ++ pending nodes (xs ++ ts)
  pending_change xs ts t told e =
      pending-append xs (t ∷ [])
      ∙ ap (λ ys. ys ++ pending nodes xs) (sym e)
      ∙ append_assoc told (pending nodes ts) (pending nodes xs)
      ∙ ap (λ ys. told ++ ys) (sym (pending-append xs ts))

  pub open_more : (offsets told : List ℕ) (whole : Whole) (rest : List ℕ) → IsOpen nodes offsets whole (told ++ rest) → IsOpen nodes (offsets ++ told) whole rest
  open_more offsets told whole rest o = (
    omega (arith, o.0, length-append offsets told),
    ap (λ ys. ys ++ rest) (drop-append-le whole.start offsets told o.0) ∙ append_assoc (drop whole.start offsets) told rest ∙ o.1,
  )

  begun_more : (offsets told : List ℕ) (x : Task) (rest : List ℕ) → IsBegun nodes offsets x (told ++ rest) → IsBegun nodes (offsets ++ told) x rest
  begun_more offsets told (OneValue t at) rest b = tt
  begun_more offsets told (FieldsFrom whole next at) rest b = open_more offsets told whole rest b
  begun_more offsets told (ElementsLeft whole element left at) rest b = open_more offsets told whole rest b

  begun_change : (offsets told : List ℕ) (xs ts : List Task) (t : Task) → told ++ pending nodes ts ≡ task_pointers nodes t → AreBegun nodes offsets (xs ++ t ∷ []) → AreBegun nodes (offsets ++ told) ts → AreBegun nodes (offsets ++ told) (xs ++ ts)
  begun_change offsets told [] ts t e b new = new
  begun_change offsets told (x ∷ xs) ts t e b new =
      let rest : pending nodes (xs ++ t ∷ []) ++ task_pointers nodes x ≡ told ++ (pending nodes (xs ++ ts) ++ task_pointers nodes x) =
      ap (λ ys. ys ++ task_pointers nodes x) (pending_change xs ts t told e) ∙ append_assoc told (pending nodes (xs ++ ts)) (task_pointers nodes x) in
      (begun_more offsets told x (pending nodes (xs ++ ts) ++ task_pointers nodes x) (subst (IsBegun nodes offsets x) rest b.0), begun_change offsets told xs ts t e b.1 new)

  pub begun_last : (offsets : List ℕ) (xs : List Task) (t : Task) → AreBegun nodes offsets (xs ++ t ∷ []) → IsBegun nodes offsets t (task_pointers nodes t)
  begun_last offsets [] t b = b.0
  begun_last offsets (x ∷ xs) t b = begun_last offsets xs t b.1

  pub runs_more : (offsets told : List ℕ) (runs : BTreeMap ℕ Run) → AreRuns nodes offsets runs → AreRuns nodes (offsets ++ told) runs
  runs_more offsets told runs known i run g =
      let r = known i run g in
      record {
        ordered = r.ordered;
        within = omega (arith, r.within, length-append offsets told);
        right = run_stays offsets told run r.ordered r.within ∙ r.right;
      }

  pub last_ready : (offsets : List ℕ) (xs : List Task) (t : Task) (runs : BTreeMap ℕ Run) → IsWalk nodes offsets (xs ++ t ∷ []) runs → IsReady nodes t
  last_ready offsets xs t runs w = all_last (IsReady nodes) xs t w.ready

  -- a walk a task further
  pub record Goes (old new : List ℕ) (tasks tasks' : List Task) (t : Task) (runs' : BTreeMap ℕ Run) : Type 0 where
    pub walk : IsWalk nodes new tasks' runs'
    pub same : new ++ pending nodes tasks' ≡ old ++ pending nodes (tasks ++ t ∷ [])
    pub less : total_effort nodes tasks' < total_effort nodes (tasks ++ t ∷ [])

  pub goes : (old told new : List ℕ) (tasks ts tasks' : List Task) (t : Task) (runs runs' : BTreeMap ℕ Run) → new ≡ old ++ told → tasks' ≡ tasks ++ ts → told ++ pending nodes ts ≡ task_pointers nodes t → IsWalk nodes old (tasks ++ t ∷ []) runs → All (IsReady nodes) ts → AreBegun nodes (old ++ told) ts → AreRuns nodes (old ++ told) runs' → total_effort nodes ts < task_effort nodes t → Goes old new tasks tasks' t runs'
  goes old told new tasks ts tasks' t runs runs' en et e w ready begun known less =
      let all : All (IsReady nodes) (tasks ++ ts) = All-append (IsReady nodes) tasks ts (all_first (IsReady nodes) tasks (t ∷ []) w.ready) ready in
      let now : IsWalk nodes (old ++ told) (tasks ++ ts) runs' = record { ready = all; begun = begun_change old told tasks ts t e w.begun begun; known = known } in
      let sum : (old ++ told) ++ pending nodes (tasks ++ ts) ≡ old ++ pending nodes (tasks ++ t ∷ []) =
      append_assoc old told (pending nodes (tasks ++ ts)) ∙ ap (λ ys. old ++ ys) (sym (pending_change tasks ts t told e)) in
      let fewer : total_effort nodes (tasks ++ ts) < total_effort nodes (tasks ++ t ∷ []) = omega (arith, total_effort-append tasks ts, total_effort-append tasks (t ∷ [])) in
      let P : List ℕ → List Task → Type 0 = λ (o : List ℕ) (ks : List Task). Goes old o tasks ks t runs' in
      let here : P (old ++ told) (tasks ++ ts) = record { walk = now; same = sum; less = fewer } in
      subst (λ (o : List ℕ). P o tasks') (sym en) (subst (P (old ++ told)) (sym et) here)
