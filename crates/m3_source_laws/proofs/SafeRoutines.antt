-- All routines are safe.
use Rattle.std.proofs.Common.{◌≡◌, refl, subst, ℕ, ℤ, zero, suc, pos, Bool, true, false, List, [], ◌∷◌, ◌++◌, Option, Some, None}
use Rattle.std.specs.Prelude.{slice_get}
use Rattle.m3_base.specs.declared.places.Pos.{Pos}
use Rattle.m3_core.specs.declared.calls.Routine.{Routine}
use Rattle.m3_core.specs.declared.calls.Routine.TheVariants as routine
use Rattle.m3_runs.specs.Languages as asked
use Rattle.m3_runs.specs.Languages.{Answer, Gives, Raises, Fails, Action}
use Rattle.m3_values.specs.Values as value
use Rattle.m3_values.specs.Values.{Value}
use Rattle.m3_values.specs.Programs.{Program}
use Rattle.m3_values.specs.Methods.{procedure_of}
use Rattle.m3_values.specs.Places.{Thing, Is, At}
use Rattle.m3_source_meaning.specs.Meanings.{Evaluates, there, ◌>>=◌}
use Rattle.m3_source_meaning.specs.Phrases.{Expression}
use Rattle.m3_source_meaning.specs.Constructors as constructors
use Rattle.m3_source_meaning.specs.Routines as routines
use Rattle.m3_source_laws.specs.Own.{AllOf, things_of_action, things_in_service}
use Rattle.m3_source_laws.proofs.Safe.{Invariant, Safe, safe_given, safe_done, safe_bind, safe_then, safe_holding_all, safe_fault, safe_undefined, safe_seeing, safe_acting, safe_raising}
use Rattle.m3_source_laws.proofs.SafeExpressions.{SafeExpression, safe_in_range, safe_nil_check, safe_kind_of}

safe_cell_check : {inv : Invariant} (b : Bool) (at : Pos) (v : Value) → Safe inv (routines.cell_check b at v)
safe_cell_check true at v = safe_nil_check at v
safe_cell_check false at v = safe_done

safe_not_zero : {inv : Invariant} (at : Pos) (v : Value) → Safe inv (routines.not_zero at v)
safe_not_zero at (value.Ordinal (pos zero)) = safe_fault _ _
safe_not_zero at _ = safe_done

safe_divisor : {inv : Invariant} (at : Pos) (r : Routine) (n : ℕ) (v : Value) → Safe inv (routines.divisor_check at r n v)
safe_divisor at routine.WordDivide (suc n) v = safe_not_zero at v
safe_divisor at routine.WordMod (suc n) v = safe_not_zero at v
safe_divisor at _ n v = safe_done

module _ (p : Program) where
  safe_bound_method : {inv : Invariant} (at : Pos) (q : Option ℕ) → Safe inv (routines.bound_method p at q)
  safe_bound_method at None = safe_fault _ _
  safe_bound_method at (Some q) = safe_done

  safe_apply : {inv : Invariant} (r : Routine) (at : Pos) (v : Value) → Safe inv (routines.apply_check p r at v)
  safe_apply routine.Fork at v = safe_bind (safe_kind_of p v) (λ kind. safe_bound_method at (procedure_of p kind 0))
  safe_apply _ at v = safe_done

  safe_checked : {inv : Invariant} (call : Pos) (r : Routine) (n : ℕ) (at : Pos) (v : Value) → Safe inv (routines.checked_actual p call r n at v)
  safe_checked call r n at v = safe_then (safe_cell_check (routines.wants_cell r n) at v) (safe_then (safe_divisor call r n v) (safe_apply r at v))

  safe_one : {inv : Invariant} (call : Pos) (r : Routine) (n : ℕ) (e : Expression) → SafeExpression inv e → Safe inv (routines.one_actual p call r n e)
  safe_one call r n e h = safe_bind h.value (λ v. safe_then (safe_checked call r n e.pos v) (safe_given _))

  -- each expression of a list is safe, at each place
  safe_at : {inv : Invariant} (es : List Expression) → AllOf (SafeExpression inv) es → (n : ℕ) (e : Expression) → slice_get es n ≡ Some e → SafeExpression inv e
  safe_at [] h n e is = absurd (let bad : None ≡ Some e = is in cc)
  safe_at {inv = inv} (x ∷ es) h zero e is =
      let q : Some x ≡ Some e = is in
      let same : x ≡ e = cc in
      subst (SafeExpression inv) same h.0
  safe_at (x ∷ es) h (suc n) e is = safe_at es h.1 n e is

  safe_if_there : {inv : Invariant} {A B : Type 0} (o : Option A) (f : A → Evaluates B) → ((x : A) → o ≡ Some x → Safe inv (f x)) → Safe inv (there o >>= f)
  safe_if_there {inv = inv} None f h = record { ends = λ around now exits others g b. inv.undefined }
  safe_if_there (Some x) f h = record { ends = λ around now exits others g b. (h x refl).ends around now exits others g b }

  safe_each : {inv : Invariant} (call : Pos) (r : Routine) (es : List Expression) → AllOf (SafeExpression inv) es → (ns : List ℕ) (before : List (ℕ × Value)) → Safe inv (routines.each_operand p call r es before ns)
  safe_each call r es h [] before = safe_given before
  safe_each call r es h (n ∷ ns) before = safe_if_there (slice_get es n) _
      (λ e is. safe_bind (safe_holding_all _ (safe_one call r n e (safe_at es h n e is))) (λ v. safe_each call r es h ns (before ++ v ∷ [])))

  safe_answer : {inv : Invariant} (at : Pos) (a : Answer Thing) → Safe inv (routines.answer_of p at a)
  safe_answer at (Gives None) = safe_given _
  safe_answer at (Gives (Some (Is v))) = safe_given v
  safe_answer at (Raises e n t) = safe_raising _
  safe_answer at (Fails kind) = safe_fault kind at
  safe_answer at (Gives (Some (At place))) = safe_undefined

  safe_asking : {inv : Invariant} (at : Pos) (a : Action Thing) → AllOf inv.out (things_of_action a) → Safe inv (routines.asking p at a)
  safe_asking at a h = safe_bind (safe_acting a h) (λ x. safe_answer at x)

  safe_serving : {inv : Invariant} (at : Pos) (a : asked.Service Thing) → AllOf inv.out (things_in_service a) → Safe inv (routines.serving p at a)
  safe_serving at a h = safe_asking at (asked.Serves a) h

  safe_behind : {inv : Invariant} (at : Pos) (e : Evaluates Value) → Safe inv e → Safe inv (routines.behind_point p at e)
  safe_behind at e h = safe_bind (safe_asking at asked.Passes tt) (λ v. h)

  safe_text : {inv : Invariant} (v : Value) → Safe inv (routines.text p v)
  safe_text v = safe_seeing _

  safe_or_fault : {inv : Invariant} (at : Pos) (o : Option Value) → Safe inv (routines.or_fault p at o)
  safe_or_fault at None = safe_fault _ _
  safe_or_fault at (Some v) = safe_given v

  safe_byte_in : {inv : Invariant} (call index : Pos) (t i : Value) → Safe inv (routines.byte_in p call index t i)
  safe_byte_in call index t i = safe_bind (safe_text t) (λ bytes. safe_bind (safe_or_fault index _) (λ v. safe_behind call _ (safe_given v)))

  safe_equal : {inv : Invariant} (t u : Value) → Safe inv (routines.equal_texts p t u)
  safe_equal t u = safe_bind (safe_text t) (λ bytes. safe_bind (safe_text u) (λ others. safe_given _))

  safe_length : {inv : Invariant} (t : Value) → Safe inv (routines.length_of p t)
  safe_length t = safe_bind (safe_text t) (λ bytes. safe_given _)

  safe_empty : {inv : Invariant} (t : Value) → Safe inv (routines.is_empty p t)
  safe_empty t = safe_bind (safe_text t) (λ bytes. safe_given _)

  safe_word : {inv : Invariant} (f : ℤ → ℤ → ℤ) (at : Pos) (v u : Value) → Safe inv (routines.word p f at v u)
  safe_word f at (value.Ordinal x) (value.Ordinal y) = safe_behind at _ (safe_given _)
  safe_word f at _ _ = safe_undefined

  safe_word_test : {inv : Invariant} (f : ℤ → ℤ → Bool) (at : Pos) (v u : Value) → Safe inv (routines.word_test p f at v u)
  safe_word_test f at (value.Ordinal x) (value.Ordinal y) = safe_behind at _ (safe_given _)
  safe_word_test f at _ _ = safe_undefined

  safe_complement : {inv : Invariant} (at : Pos) (v : Value) → Safe inv (routines.word_complement p at v)
  safe_complement at (value.Ordinal x) = safe_behind at _ (safe_given _)
  safe_complement at _ = safe_undefined

  safe_chosen : {inv : Invariant} (f : ℤ → ℤ → ℤ) (v u : Value) → Safe inv (routines.chosen p f v u)
  safe_chosen f (value.Ordinal x) (value.Ordinal y) = safe_given _
  safe_chosen f _ _ = safe_undefined

  safe_val : {inv : Invariant} (at : Pos) (kind : Option ℕ) (v : Value) → Safe inv (routines.val p at kind v)
  safe_val at (Some kind) (value.Ordinal z) = safe_in_range p at kind z
  safe_val at _ _ = safe_undefined

  safe_routine_of : {inv : Invariant} (r : Routine) (at i : Pos) (kind : Option ℕ) (vs : List Value) → Safe inv (routines.routine_of p r at i kind vs)
  safe_routine_of {inv = inv} routine.Put at i kind (t ∷ []) = safe_serving at _ (inv.value t, tt)
  safe_routine_of {inv = inv} routine.PutInt at i kind (n ∷ []) = safe_serving at _ (inv.value n, tt)
  safe_routine_of {inv = inv} routine.PutChar at i kind (c ∷ []) = safe_serving at _ (inv.value c, tt)
  safe_routine_of routine.GetChar at i kind [] = safe_serving at _ tt
  safe_routine_of routine.EndOfInput at i kind [] = safe_serving at _ tt
  safe_routine_of {inv = inv} routine.TextCat at i kind (t ∷ u ∷ []) = safe_asking at _ (inv.value t, (inv.value u, tt))
  safe_routine_of routine.TextEqual at i kind (t ∷ u ∷ []) = safe_behind at _ (safe_equal t u)
  safe_routine_of routine.TextGetChar at i kind (t ∷ n ∷ []) = safe_byte_in at i t n
  safe_routine_of routine.TextLength at i kind (t ∷ []) = safe_behind at _ (safe_length t)
  safe_routine_of routine.TextEmpty at i kind (t ∷ []) = safe_behind at _ (safe_empty t)
  safe_routine_of {inv = inv} routine.TextSub at i kind (t ∷ start ∷ n ∷ []) = safe_asking at _ (inv.value t, (inv.value start, (inv.value n, tt)))
  safe_routine_of {inv = inv} routine.TextFromChar at i kind (c ∷ []) = safe_asking at _ (inv.value c, tt)
  safe_routine_of routine.WordPlus at i kind (x ∷ y ∷ []) = safe_word _ at x y
  safe_routine_of routine.WordTimes at i kind (x ∷ y ∷ []) = safe_word _ at x y
  safe_routine_of routine.WordMinus at i kind (x ∷ y ∷ []) = safe_word _ at x y
  safe_routine_of routine.WordDivide at i kind (x ∷ y ∷ []) = safe_word _ at x y
  safe_routine_of routine.WordMod at i kind (x ∷ y ∷ []) = safe_word _ at x y
  safe_routine_of routine.WordLess at i kind (x ∷ y ∷ []) = safe_word_test _ at x y
  safe_routine_of routine.WordLessEqual at i kind (x ∷ y ∷ []) = safe_word_test _ at x y
  safe_routine_of routine.WordGreater at i kind (x ∷ y ∷ []) = safe_word_test _ at y x
  safe_routine_of routine.WordGreaterEqual at i kind (x ∷ y ∷ []) = safe_word_test _ at y x
  safe_routine_of routine.WordAnd at i kind (x ∷ y ∷ []) = safe_word _ at x y
  safe_routine_of routine.WordOr at i kind (x ∷ y ∷ []) = safe_word _ at x y
  safe_routine_of routine.WordXor at i kind (x ∷ y ∷ []) = safe_word _ at x y
  safe_routine_of routine.WordNot at i kind (x ∷ []) = safe_complement at x
  safe_routine_of routine.WordShift at i kind (x ∷ n ∷ []) = safe_word _ at x n
  safe_routine_of routine.WordRotate at i kind (x ∷ n ∷ []) = safe_word _ at x n
  safe_routine_of {inv = inv} routine.Fork at i kind (closure ∷ []) = safe_asking at _ (inv.value closure, tt)
  safe_routine_of {inv = inv} routine.Join at i kind (t ∷ []) = safe_serving at _ (inv.value t, tt)
  safe_routine_of {inv = inv} routine.Wait at i kind (m ∷ c ∷ []) = safe_serving at _ (inv.value m, (inv.value c, tt))
  safe_routine_of {inv = inv} routine.Acquire at i kind (m ∷ []) = safe_serving at _ (inv.value m, tt)
  safe_routine_of {inv = inv} routine.Release at i kind (m ∷ []) = safe_serving at _ (inv.value m, tt)
  safe_routine_of {inv = inv} routine.Signal at i kind (c ∷ []) = safe_serving at _ (inv.value c, tt)
  safe_routine_of {inv = inv} routine.Broadcast at i kind (c ∷ []) = safe_serving at _ (inv.value c, tt)
  safe_routine_of routine.MySelf at i kind [] = safe_serving at _ tt
  safe_routine_of {inv = inv} routine.Alert at i kind (t ∷ []) = safe_serving at _ (inv.value t, tt)
  safe_routine_of routine.TestAlert at i kind [] = safe_serving at _ tt
  safe_routine_of {inv = inv} routine.AlertWait at i kind (m ∷ c ∷ []) = safe_serving at _ (inv.value m, (inv.value c, tt))
  safe_routine_of {inv = inv} routine.AlertJoin at i kind (t ∷ []) = safe_serving at _ (inv.value t, tt)
  safe_routine_of routine.Min at i kind (x ∷ y ∷ []) = safe_chosen _ x y
  safe_routine_of routine.Max at i kind (x ∷ y ∷ []) = safe_chosen _ x y
  safe_routine_of routine.Ord at i kind (x ∷ []) = safe_given x
  safe_routine_of routine.Val at i kind (x ∷ []) = safe_val at kind x
  safe_routine_of _ at i kind _ = safe_undefined

  pub safe_routine_call : {inv : Invariant} (r : Routine) (at : Pos) (es : List Expression) (order : List ℕ) (kind : Option ℕ) → AllOf (SafeExpression inv) es → Safe inv (routines.routine_call p r at es order kind)
  safe_routine_call r at es order kind h = safe_bind (safe_each at r es h order []) (λ vs. safe_routine_of r at (routines.second_place p es at) kind (constructors.in_order vs))
