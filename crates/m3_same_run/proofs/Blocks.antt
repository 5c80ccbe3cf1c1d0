-- Blocks, jumps, and the whole run.
use Rattle.std.proofs.Common.{◌≡◌, ℕ, zero, suc, ◌⊎◌, inl, inr, ⊎_elim, Bool, true, false, List, [], ◌∷◌, refl, sym, ap, ◌∙◌, subst, arith}
use Rattle.std.specs.Prelude.{◌==◌, ◌&&◌, nat_lt, nat_le, length, if◌then◌else◌, Option, Some, None, slice_get}
use Rattle.std.specs.Option.{option_map}
use Rattle.std.proofs.lemmas.Bool.Decides.{nat_tests}
use Rattle.m3_base.specs.Words.{sub_words}
use Rattle.m3_mid.specs.declared.procs.Slot.{Slot}
use Rattle.m3_mid.specs.declared.procs.Proc.{Proc}
use Rattle.m3_mid.specs.declared.procs.Block.{Block}
use Rattle.m3_mid.specs.declared.procs.End.{End}
use Rattle.m3_mid.specs.declared.procs.End.TheVariants as ends
use Rattle.m3_mid.specs.declared.ops.Operand.{Operand}
use Rattle.m3_mid.specs.declared.ops.Relation.{Relation}
use Rattle.m3_mid.specs.declared.ops.MidOp.{MidOp}
use Rattle.m3_mid_meaning.specs.Words.{Word, IsNormal, number, normal, sum_of, times_of, number_of, Place, InCell, Outside}
use Rattle.m3_mid_meaning.specs.Memory.{Memory, Around, environment_address, slot_address, seen}
use Rattle.m3_mid_meaning.specs.Operations.{is_true}
use Rattle.m3_mid_meaning.specs.States.{State, Returned, Faulted, operand}
use Rattle.m3_mid_meaning.specs.Points.{Answer, Outcome}
use Rattle.m3_mid_meaning.specs.Meaning.{arm_of, raised_by}
use Rattle.m3_mid_meaning.specs.Machinery.{over, leave, run_ops, run_block, run_blocks}
use Rattle.m3_mid_meaning.specs.Runs.{start_of, FollowsRun}
use Rattle.m3_mid_meaning.proofs.WordSums.{normal_is, number_normal}
use Rattle.m3_same_forms.specs.declared.forms.Symbol.{Symbol}
use Rattle.m3_same_forms.specs.declared.forms.Symbol.TheVariants as symbols
use Rattle.m3_same_forms.specs.Forms.{Form, Query, Known, Setting, Pair, merge, scaled, same_form, of_symbol}
use Rattle.m3_same_forms.specs.Seen.{operand_form}
use Rattle.m3_same_forms.specs.Sides.{form_at, value_at, is_common}
use Rattle.m3_same_forms.specs.Facts.{is_form, known}
use Rattle.m3_same_run.specs.Check.{Standing, left_form, right_form, advance, steps, symbol_form, now_onto, form_now, query_now, fits_at, all_fit, all_known, all_left, enters_right, enters, goes_to, goes_at, jumps_to, same_words, same_value, learn_test, end_with, no_ops, ended, ends_so, is_old, old_form, old_settings, old_both, old_query, old_knowns, standing_at, blocks_so, pair_so, pairs_so, no_settings, no_knowns, no_facts, starts, same_run}
use Rattle.m3_same_forms.specs.Meaning.{OldSymbol, Old, OldQuery, eval, Means, IsWords, given, Says, AllTrue}
use Rattle.m3_same_run.specs.Fits.{Fits}
use Rattle.m3_same_forms.proofs.Codes.{both, same_number, is_relation, is_fault, is_place, are_slots}
use Rattle.m3_same_forms.proofs.Sums.{merge_eval, scaled_eval, same_eval, symbol_eval, eval_normal, commutes, associates, nothing, zero_add}
use Rattle.m3_same_forms.proofs.Seeing.{operand_means}
use Rattle.m3_same_forms.proofs.Knowing.{is_answer}
use Rattle.m3_same_run.proofs.RightGoes.{Ends, advance_so}
use Rattle.m3_same_run.proofs.Steps.{Defined, undefined_so, fits_true, fits_false}
use Rattle.m3_same_run.proofs.Together.{steps_so}

no : {P : Type 0} → false ≡ true → P
no e = absurd (let bad : false ≡ true = e in cc)

-- ---- old forms

old_symbol : (s : Symbol) → is_old s ≡ true → OldSymbol 0 s
old_symbol symbols.One e = tt
old_symbol symbols.Frame e = tt
old_symbol symbols.Globals e = tt
old_symbol (symbols.Text t) e = tt
old_symbol (symbols.Constant t) e = tt
old_symbol (symbols.Left t) e = tt
old_symbol (symbols.Right t) e = tt
old_symbol (symbols.New n) e = no e

old_so : (xs : Form) → old_form xs ≡ true → Old 0 xs
old_so [] e = tt
old_so (x ∷ xs) e = let h = both _ _ e in (old_symbol x.symbol h.0, old_so xs h.1)

old_if : (a b : Form) (t : Bool) → Old 0 a → Old 0 b → Old 0 (if t then a else b)
old_if a b true h i = h
old_if a b false h i = i

old_at : (xs : List Setting) → old_settings xs ≡ true → (t : ℕ) (other : Form) → Old 0 other → Old 0 (value_at xs t other)
old_at [] e t other h = h
old_at (x ∷ xs) e t other h =
    let r = both _ _ e in old_if x.value (value_at xs t other) (t == x.temp) (old_so x.value r.0) (old_at xs r.1 t other h)

old_default : (t : ℕ) (b : Bool) → Old 0 (of_symbol (if b then symbols.Left t else symbols.Right t))
old_default t true = (tt, tt)
old_default t false = (tt, tt)

module _ (slots : List Slot) (around : Around) (common : List Bool) (p q : Proc) (here : p.slots.now ≡ slots) (frame : q.slots.now ≡ slots) (jumps : ℕ) where
  abbrev EndsRight : List MidOp → End → State → List Answer → Outcome → Type 0
  EndsRight rest end s answers o = Ends slots around common q frame rest end s answers o

  abbrev IsDefined : Outcome → Type 0
  IsDefined o = Defined slots around common q frame o

  -- ---- the entry of a pair

  -- what each symbol is there
  abbrev entry : State → State → Symbol → Word
  entry s s' symbols.One = number 1
  entry s s' symbols.Frame = number around.frame
  entry s s' symbols.Globals = number around.globals
  entry s s' (symbols.Text t) = number (around.texts t)
  entry s s' (symbols.Constant t) = number (around.constants t)
  entry s s' (symbols.Left t) = s.temps t
  entry s s' (symbols.Right t) = s'.temps t
  entry s s' (symbols.New n) = number 0

  module _ (s s' : State) (h : (t : ℕ) → IsNormal (s.temps t)) (h' : (t : ℕ) → IsNormal (s'.temps t)) where
    entry_normal : (x : Symbol) → IsNormal (entry s s' x)
    entry_normal symbols.One = number_normal 1
    entry_normal symbols.Frame = number_normal around.frame
    entry_normal symbols.Globals = number_normal around.globals
    entry_normal (symbols.Text t) = number_normal (around.texts t)
    entry_normal (symbols.Constant t) = number_normal (around.constants t)
    entry_normal (symbols.Left t) = h t
    entry_normal (symbols.Right t) = h' t
    entry_normal (symbols.New n) = number_normal 0

    entry_words : IsWords around (entry s s')
    entry_words = record { normals = entry_normal; one = refl; frame = refl; globals = refl; text = λ n. refl; constant = λ n. refl }

  module _ (v : Symbol → Word) (st : Standing) (s s' : State) (fits : Fits around common v st s s') where
    left_normal : (t : ℕ) → IsNormal (s.temps t)
    left_normal t = subst IsNormal (sym (fits.left t).1) (eval_normal v (left_form st t))

    right_normal : (t : ℕ) → IsNormal (s'.temps t)
    right_normal t = subst IsNormal (sym (fits.right t).1) (eval_normal v (right_form common st t))

    fixed_so : (x : Symbol) (w : Word) → v x ≡ w → eval v (of_symbol x) ≡ w
    fixed_so x w e = sym (symbol_eval v x (fits.words.normals x)) ∙ e

    symbol_so : (x : Symbol) → eval v (symbol_form common st x) ≡ entry s s' x
    symbol_so symbols.One = fixed_so symbols.One (number 1) fits.words.one
    symbol_so symbols.Frame = fixed_so symbols.Frame (number around.frame) fits.words.frame
    symbol_so symbols.Globals = fixed_so symbols.Globals (number around.globals) fits.words.globals
    symbol_so (symbols.Text t) = fixed_so (symbols.Text t) (number (around.texts t)) (fits.words.text t)
    symbol_so (symbols.Constant t) = fixed_so (symbols.Constant t) (number (around.constants t)) (fits.words.constant t)
    symbol_so (symbols.Left t) = sym (fits.left t).1
    symbol_so (symbols.Right t) = sym (fits.right t).1
    symbol_so (symbols.New n) = refl

    now_so : (xs out : Form) → eval v (now_onto common st out xs) ≡ sum_of (eval (entry s s') xs) (eval v out)
    now_so [] out = sym (zero_add (eval v out) (eval_normal v out))
    now_so (x ∷ xs) out =
        let term = times_of x.times (entry s s' x.symbol) in
        now_so xs (merge (scaled x.times (symbol_form common st x.symbol)) out)
        ∙ ap (sum_of (eval (entry s s') xs)) (merge_eval v (scaled x.times (symbol_form common st x.symbol)) out ∙ ap (λ z. sum_of z (eval v out)) (scaled_eval v x.times (symbol_form common st x.symbol) ∙ ap (times_of x.times) (symbol_so x.symbol)))
        ∙ sym (associates (eval (entry s s') xs) term (eval v out)) ∙ ap (λ z. sum_of z (eval v out)) (commutes (eval (entry s s') xs) term)

    now_eval : (xs : Form) → eval v (form_now common st xs) ≡ eval (entry s s') xs
    now_eval xs = now_so xs [] ∙ nothing (eval (entry s s') xs) ∙ normal_is (eval (entry s s') xs) (eval_normal (entry s s') xs)

    -- a temporary fits, or no setting names it
    in_list : (settings : List Setting) (x : Setting) (xs : List Setting) (t : ℕ) (b : Bool) → (t == x.temp) ≡ b → fits_at common st settings x.temp ≡ true →
        (fits_at common st settings t ≡ true) ⊎ ((other : Form) → value_at xs t other ≡ other) → (fits_at common st settings t ≡ true) ⊎ ((other : Form) → (if b then x.value else value_at xs t other) ≡ other)
    in_list settings x xs t true e h r = inl (let same : t ≡ x.temp = grind (arith, nat_tests) in subst (λ u. fits_at common st settings u ≡ true) (sym same) h)
    in_list settings x xs t false e h r = r

    fits_or : (settings xs : List Setting) → all_fit common st settings xs ≡ true → (t : ℕ) → (fits_at common st settings t ≡ true) ⊎ ((other : Form) → value_at xs t other ≡ other)
    fits_or settings [] e t = inr (λ other. refl)
    fits_or settings (x ∷ xs) e t = let h = both _ _ e in in_list settings x xs t (t == x.temp) refl h.0 (fits_or settings xs h.1 t)

    abbrev RightSo : List Setting → ℕ → Type 0
    RightSo settings t = s'.temps t ≡ eval (entry s s') (form_at (Some common) settings t)

    by_fit : (settings : List Setting) (t : ℕ) → fits_at common st settings t ≡ true → RightSo settings t
    by_fit settings t e =
        (fits.right t).1 ∙ sym (same_eval v (form_now common st (form_at (Some common) settings t)) (right_form common st t) e) ∙ now_eval (form_at (Some common) settings t)

    -- it was set on neither side
    untouched : (t : ℕ) (b : Bool) → right_form common st t ≡ of_symbol (if b then symbols.Left t else symbols.Right t) → left_form st t ≡ of_symbol (symbols.Left t) →
        s'.temps t ≡ eval (entry s s') (of_symbol (if b then symbols.Left t else symbols.Right t))
    untouched t true r l = (fits.right t).1 ∙ ap (eval v) (r ∙ sym l) ∙ sym (fits.left t).1 ∙ symbol_eval (entry s s') (symbols.Left t) (left_normal t)
    untouched t false r l = symbol_eval (entry s s') (symbols.Right t) (right_normal t)

    -- what the left one's temporaries hold
    left_if : (x : Setting) (rest : Form) (t : ℕ) (b : Bool) → (t == x.temp) ≡ b → same_form (form_now common st x.value) (left_form st x.temp) ≡ true → s.temps t ≡ eval (entry s s') rest → s.temps t ≡ eval (entry s s') (if b then x.value else rest)
    left_if x rest t true e h r =
        let same : t ≡ x.temp = grind (arith, nat_tests) in
        let here = subst (λ u. same_form (form_now common st x.value) (left_form st u) ≡ true) (sym same) h in
        (fits.left t).1 ∙ sym (same_eval v (form_now common st x.value) (left_form st t) here) ∙ now_eval x.value
    left_if x rest t false e h r = r

    left_so : (xs : List Setting) → all_left common st xs ≡ true → (t : ℕ) → s.temps t ≡ eval (entry s s') (value_at xs t (of_symbol (symbols.Left t)))
    left_so [] e t = symbol_eval (entry s s') (symbols.Left t) (left_normal t)
    left_so (x ∷ xs) e t =
        let h = both _ _ e in
        left_if x (value_at xs t (of_symbol (symbols.Left t))) t (t == x.temp) refl h.0 (left_so xs h.1 t)

    right_so : (pair : Pair) → enters_right common st pair ≡ true → (t : ℕ) → RightSo pair.settings t
    right_so pair e t =
        let h = both _ _ e in
        let h2 = both _ _ h.0 in
        let h3 = both _ _ h2.0 in
        let default = of_symbol (if is_common common t then symbols.Left t else symbols.Right t) in
        ⊎_elim (by_fit pair.settings t) (λ no.
        ⊎_elim (by_fit pair.settings t) (λ no_left.
        ⊎_elim (by_fit pair.settings t) (λ no_right.
        untouched t (is_common common t) (no_right default) (no_left (of_symbol (symbols.Left t))) ∙ ap (eval (entry s s')) (sym (no default)))
        (fits_or pair.settings st.right h2.1 t))
        (fits_or pair.settings st.left h3.1 t))
        (fits_or pair.settings pair.settings h3.0 t)

    -- ---- what the pair knows

    says_there : (x : Query) (a : Form) → is_form (form_now common st a) (known (query_now common st x) st.knowns) ≡ true → Says around (entry s s') s.own s.environment s.memory x a
    says_there x a e =
        ap (λ z. option_map normal (given around s.own s.environment s.memory x.tag z (eval (entry s s') x.second) (eval (entry s s') x.third))) (sym (now_eval x.first))
        ∙ ap (λ z. option_map normal (given around s.own s.environment s.memory x.tag (eval v (form_now common st x.first)) z (eval (entry s s') x.third))) (sym (now_eval x.second))
        ∙ ap (λ z. option_map normal (given around s.own s.environment s.memory x.tag (eval v (form_now common st x.first)) (eval v (form_now common st x.second)) z)) (sym (now_eval x.third))
        ∙ is_answer around v st.fresh s.own s.environment s.memory (query_now common st x) (form_now common st a) st.knowns fits.knowns e ∙ ap (λ z. Some z) (now_eval a)

    old_query_so : (x : Query) → old_query x ≡ true → OldQuery 0 x
    old_query_so x e =
        let h = both _ _ e in
        let h2 = both _ _ h.0 in
        (old_so x.first h2.0, old_so x.second h2.1, old_so x.third h.1)

    knowns_so : (xs : List Known) → old_knowns xs ≡ true → all_known common st xs ≡ true → AllTrue around (entry s s') 0 s.own s.environment s.memory xs
    knowns_so [] old e = tt
    knowns_so (x ∷ xs) old e =
        let o = both _ _ old in
        let o2 = both _ _ o.0 in
        let h = both _ _ e in
        (old_query_so x.query o2.0, old_so x.value o2.1, says_there x.query x.value h.0, knowns_so xs o.1 h.1)

    enters_so : (pair : Pair) (block : Block) → old_both pair ≡ true → old_knowns pair.knowns ≡ true → enters common st pair ≡ true → Fits around common (entry s s') (standing_at pair block) s s'
    enters_so pair block old old' e = record {
      words = entry_words s s' left_normal right_normal;
      left = λ t. (old_at pair.left_settings (both _ _ old).0 t _ (tt, tt), left_so pair.left_settings (both _ _ e).0 t);
      right = λ t. (old_at pair.settings (both _ _ old).1 t _ (old_default t (is_common common t)), right_so pair (both _ _ e).1 t);
      rest = fits.rest;
      knowns = knowns_so pair.knowns old' (both _ _ (both _ _ e).1).1;
    }

  -- ---- whole blocks

  module _ (proof : List Pair) (all : pairs_so common p q jumps proof proof ≡ true) where
    record Found (b b' : ℕ) (st : Standing) : Type 0 where
      pair : Pair
      left : pair.left ≡ b
      right : pair.right ≡ b'
      enters : enters common st pair ≡ true
      so : pair_so common p q jumps proof pair ≡ true

    found_if : (b b' : ℕ) (st : Standing) (pair : Pair) (pairs : List Pair) (t : Bool) → (pair.left == b && pair.right == b') ≡ t → pair_so common p q jumps proof pair ≡ true → (goes_to common pairs b b' st ≡ true → Found b b' st) →
        (if t then enters common st pair else goes_to common pairs b b' st) ≡ true → Found b b' st
    found_if b b' st pair pairs true e so rest g =
        let h = both _ _ e in
        record { pair = pair; left = same_number pair.left b h.0; right = same_number pair.right b' h.1; enters = g; so = so }
    found_if b b' st pair pairs false e so rest g = rest g

    find : (b b' : ℕ) (st : Standing) (pairs : List Pair) → pairs_so common p q jumps proof pairs ≡ true → goes_to common pairs b b' st ≡ true → Found b b' st
    find b b' st [] so e = no e
    find b b' st (pair ∷ pairs) so e =
        let h = both _ _ so in
        found_if b b' st pair pairs (pair.left == b && pair.right == b') refl h.0 (find b b' st pairs h.1) e

    get_so : (n : ℕ) (pairs : List Pair) (pair : Pair) → pairs_so common p q jumps proof pairs ≡ true → slice_get pairs n ≡ Some pair → pair_so common p q jumps proof pair ≡ true
    get_so n [] pair so e = absurd (let bad : None ≡ Some pair = e in cc)
    get_so zero (x ∷ xs) pair so e = let same : x ≡ pair = cc in subst (λ z. pair_so common p q jumps proof z ≡ true) same (both _ _ so).0
    get_so (suc n) (x ∷ xs) pair so e = get_so n xs pair (both _ _ so).1 e

    find_at : (b b' : ℕ) (st : Standing) (x : Option Pair) → slice_get proof b ≡ x → goes_at common proof b b' st x ≡ true → Found b b' st
    find_at b b' st None e g = find b b' st proof all g
    find_at b b' st (Some pair) e g =
        found_if b b' st pair proof (pair.left == b && pair.right == b') refl (get_so b proof pair all e) (find b b' st proof all) g

    abbrev JumpsSo : ℕ → Type 0
    JumpsSo n =
        (b b' : ℕ) (st : Standing) (v : Symbol → Word) (s s' : State) → Fits around common v st s s' → jumps_to common proof b b' st ≡ true → (answers : List Answer) (o : Outcome) →
        run_blocks n p around b s answers ≡ Some o → IsDefined o → EndsRight [] (ends.Goto b') s' answers o

    module _ (n : ℕ) (jump : JumpsSo n) (v : Symbol → Word) (st : Standing) (s s' : State) (fits : Fits around common v st s s') (answers : List Answer) (o : Outcome) (d : IsDefined o) where
      left_word : (a : Operand) → Means v st.fresh (operand_form (left_form st) a) (operand s a)
      left_word a = operand_means [] around v st.fresh fits.words (left_form st) s fits.left a

      right_word : (a : Operand) → Means v st.fresh (operand_form (right_form common st) a) (operand s' a)
      right_word a = operand_means [] around v st.fresh fits.words (right_form common st) s' fits.right a

      word_same : (a b : Operand) → same_words common st a b ≡ true → operand s' b ≡ operand s a
      word_same a b e =
          (right_word b).1 ∙ sym (same_eval v (operand_form (left_form st) a) (operand_form (right_form common st) b) e) ∙ sym (left_word a).1

      if_so : (r r' : Relation) (x y x' y' : Operand) (b c b' c' : ℕ) (test : Option Bool) → is_true r (operand s x) (operand s y) ≡ test → is_true r' (operand s' x') (operand s' y') ≡ test →
          jumps_to common proof b b' (learn_test st r x y (of_symbol symbols.One)) ≡ true → jumps_to common proof c c' (learn_test st r x y []) ≡ true →
          leave (arm_of b c test) (λ i. run_blocks n p around i s answers) ≡ Some o → EndsRight [] (ends.If r' x' y' b' c') s' answers o
      if_so r r' x y x' y' b c b' c' None e e' g g' run = undefined_so slots around common q frame o _ run d
      if_so r r' x y x' y' b c b' c' (Some true) e e' g g' run =
          let lx = left_word x in
          let ly = left_word y in
          let a = operand_form (left_form st) x in
          let b2 = operand_form (left_form st) y in
          let e2 : is_true r (eval v a) (eval v b2) ≡ Some true = ap (λ z. is_true r z (eval v b2)) (sym lx.1) ∙ ap (is_true r (operand s x)) (sym ly.1) ∙ e in
          let f = fits_true slots around common q frame v st s s' fits answers (λ s2 more. None) o d r a b2 (lx.0, ly.0) e2 in
          let h = jump b b' (learn_test st r x y (of_symbol symbols.One)) v s s' f g answers o run d in
          (h.0, ap (λ z. leave (arm_of b' c' z) (λ i. run_blocks h.0 q around i s' answers)) e' ∙ h.1)
      if_so r r' x y x' y' b c b' c' (Some false) e e' g g' run =
          let lx = left_word x in
          let ly = left_word y in
          let a = operand_form (left_form st) x in
          let b2 = operand_form (left_form st) y in
          let e2 : is_true r (eval v a) (eval v b2) ≡ Some false = ap (λ z. is_true r z (eval v b2)) (sym lx.1) ∙ ap (is_true r (operand s x)) (sym ly.1) ∙ e in
          let f = fits_false slots around common q frame v st s s' fits answers (λ s2 more. None) o d r a b2 (lx.0, ly.0) e2 in
          let h = jump c c' (learn_test st r x y []) v s s' f g' answers o run d in
          (h.0, ap (λ z. leave (arm_of b' c' z) (λ i. run_blocks h.0 q around i s' answers)) e' ∙ h.1)

      value_same : (x x' : Option Operand) → same_value common st x x' ≡ true → option_map (operand s') x' ≡ option_map (operand s) x
      value_same None None e = refl
      value_same (Some x) (Some x') e = ap (λ z. Some z) (word_same x x' e)
      value_same None (Some x') e = no e
      value_same (Some x) None e = no e

      memory_same : s'.memory ≡ s.memory
      memory_same = ap (λ z. z.memory) fits.rest

      raise_over : (number tidy : Word) (memory : Memory) (exception : Option ℕ) (f g : ℕ → Option Outcome) → leave (raised_by number tidy memory exception) f ≡ leave (raised_by number tidy memory exception) g
      raise_over number tidy memory None f g = refl
      raise_over number tidy memory (Some zero) f g = refl
      raise_over number tidy memory (Some (suc m)) f g = refl

      end_so : (end end' : End) → end_with common proof end end' st ≡ true → run_ops p around [] end s answers (run_blocks n p around) ≡ Some o → EndsRight [] end' s' answers o
      end_so (ends.Goto b) (ends.Goto b') e run = jump b b' st v s s' fits e answers o run d
      end_so (ends.If r x y b c) (ends.If r' x' y' b' c') e run =
          let h = both _ _ e in
          let h2 = both _ _ h.0 in
          let h3 = both _ _ h2.0 in
          let h4 = both _ _ h3.0 in
          let test = is_true r (operand s x) (operand s y) in
          let same_right : is_true r' (operand s' x') (operand s' y') ≡ test =
          ap (λ z. is_true z (operand s' x') (operand s' y')) (sym (is_relation r r' h4.0)) ∙ ap (λ z. is_true r z (operand s' y')) (word_same x x' h4.1) ∙ ap (is_true r (operand s x)) (word_same y y' h3.1) in
          if_so r r' x y x' y' b c b' c' test refl same_right h2.1 h.1 run
      end_so (ends.Return x) (ends.Return x') e run =
          (0, ap (λ z. over (Returned z s'.memory)) (value_same x x' e) ∙ ap (λ z. over (Returned (option_map (operand s) x) z)) memory_same ∙ run)
      end_so (ends.FaultAt fault place) (ends.FaultAt fault' place') e run =
          let h = both _ _ e in
          (0, ap (λ z. over (Faulted z place')) (sym (is_fault fault fault' h.0)) ∙ ap (λ z. over (Faulted fault z)) (sym (is_place place place' h.1)) ∙ run)
      end_so (ends.Raise x y z) (ends.Raise x' y' z') e run =
          let h = both _ _ e in
          let h2 = both _ _ h.0 in
          let go : ℕ → Option Outcome = λ i. run_blocks 0 q around i s' answers in (
            0,
            ap (λ w. leave (raised_by (operand s' y') (operand s' z') s'.memory (number_of w)) go) (word_same x x' h2.0)
                ∙ ap (λ w. leave (raised_by w (operand s' z') s'.memory (number_of (operand s x))) go) (word_same y y' h2.1)
                ∙ ap (λ w. leave (raised_by (operand s y) w s'.memory (number_of (operand s x))) go) (word_same z z' h.1)
                ∙ ap (λ m. leave (raised_by (operand s y) (operand s z) m (number_of (operand s x))) go) memory_same
                ∙ raise_over (operand s y) (operand s z) s.memory (number_of (operand s x)) go (λ i. run_blocks n p around i s answers) ∙ run,
          )
      end_so (ends.Goto x0) (ends.If y0 y1 y2 y3 y4) e run = no e
      end_so (ends.Goto x0) (ends.Return y0) e run = no e
      end_so (ends.Goto x0) (ends.FaultAt y0 y1) e run = no e
      end_so (ends.Goto x0) (ends.Raise y0 y1 y2) e run = no e
      end_so (ends.If x0 x1 x2 x3 x4) (ends.Goto y0) e run = no e
      end_so (ends.If x0 x1 x2 x3 x4) (ends.Return y0) e run = no e
      end_so (ends.If x0 x1 x2 x3 x4) (ends.FaultAt y0 y1) e run = no e
      end_so (ends.If x0 x1 x2 x3 x4) (ends.Raise y0 y1 y2) e run = no e
      end_so (ends.Return x0) (ends.Goto y0) e run = no e
      end_so (ends.Return x0) (ends.If y0 y1 y2 y3 y4) e run = no e
      end_so (ends.Return x0) (ends.FaultAt y0 y1) e run = no e
      end_so (ends.Return x0) (ends.Raise y0 y1 y2) e run = no e
      end_so (ends.FaultAt x0 x1) (ends.Goto y0) e run = no e
      end_so (ends.FaultAt x0 x1) (ends.If y0 y1 y2 y3 y4) e run = no e
      end_so (ends.FaultAt x0 x1) (ends.Return y0) e run = no e
      end_so (ends.FaultAt x0 x1) (ends.Raise y0 y1 y2) e run = no e
      end_so (ends.Raise x0 x1 x2) (ends.Goto y0) e run = no e
      end_so (ends.Raise x0 x1 x2) (ends.If y0 y1 y2 y3 y4) e run = no e
      end_so (ends.Raise x0 x1 x2) (ends.Return y0) e run = no e
      end_so (ends.Raise x0 x1 x2) (ends.FaultAt y0 y1) e run = no e

    is_empty : (rest : List MidOp) → no_ops rest ≡ true → [] ≡ rest
    is_empty [] e = refl
    is_empty (op ∷ rest) e = no e

    ended_so : (n : ℕ) → JumpsSo n → (end : End) (v : Symbol → Word) (st : Standing) (s s' : State) → Fits around common v st s s' → ended common proof end (advance slots common st.ops st) ≡ true → (answers : List Answer) (o : Outcome) →
        run_ops p around [] end s answers (run_blocks n p around) ≡ Some o → IsDefined o → EndsRight st.ops st.end s' answers o
    ended_so n jump end v st s s' fits e answers o run d =
        let there = advance slots common st.ops st in
        let r = advance_so slots around common q frame v s st.ops st s' fits in
        let h = both _ _ e in
        r.2 answers o (subst (λ z. EndsRight z there.end r.0 answers o) (is_empty there.ops h.0) (end_so n jump v there s r.0 r.1 answers o d end there.end h.1 run))

    steps_end : (end : End) (r : Option Standing) → ends_so slots common proof end r ≡ true → (st2 : Standing) × (r ≡ Some st2) × (ended common proof end (advance slots common st2.ops st2) ≡ true)
    steps_end end None e = no e
    steps_end end (Some st2) e = (st2, refl, e)

    there_so : (pair : Pair) (block block' : Block) → blocks_so common p q jumps proof pair (Some block) (Some block') ≡ true → ends_so slots common proof block.end (steps slots common q jumps block.ops.now (standing_at pair block')) ≡ true
    there_so pair block block' so = subst (λ z. ends_so z common proof block.end (steps z common q jumps block.ops.now (standing_at pair block')) ≡ true) here so

    block_so : (n : ℕ) → JumpsSo n → (pair : Pair) (x y : Option Block) → slice_get q.blocks.now pair.right ≡ y → blocks_so common p q jumps proof pair x y ≡ true → (s s' : State) →
        ((block : Block) → Fits around common (entry s s') (standing_at pair block) s s') → (answers : List Answer) (o : Outcome) → run_block p around x s answers (run_blocks n p around) ≡ Some o → IsDefined o →
        EndsRight [] (ends.Goto pair.right) s' answers o
    block_so n jump pair None y e so s s' fits answers o run d = no so
    block_so n jump pair (Some block) None e so s s' fits answers o run d = no so
    block_so n jump pair (Some block) (Some block') e so s s' fits answers o run d =
        let h = steps_end block.end (steps slots common q jumps block.ops.now (standing_at pair block')) (there_so pair block block' so) in
        let r = steps_so slots around common q frame p here jumps (run_blocks n p around) block.end block.ops.now (entry s s') (standing_at pair block') s s' (fits block') answers o d h.0 h.1 run
        (λ v2 s2 s2' answers2 o2 fits2 run2 d2. ended_so n jump block.end v2 h.0 s2 s2' fits2 h.2 answers2 o2 run2 d2) in
        (suc r.0, ap (λ z. run_block q around z s' answers (run_blocks r.0 q around)) e ∙ r.1)

    pair_here : (n : ℕ) → JumpsSo n → (pair : Pair) → pair_so common p q jumps proof pair ≡ true → (s s' : State) → (old_both pair ≡ true → old_knowns pair.knowns ≡ true → (block : Block) → Fits around common (entry s s') (standing_at pair block) s s') →
        (answers : List Answer) (o : Outcome) → run_blocks (suc n) p around pair.left s answers ≡ Some o → IsDefined o → EndsRight [] (ends.Goto pair.right) s' answers o
    pair_here n jump pair so s s' fits answers o run d =
        let h = both _ _ so in
        let h2 = both _ _ h.0 in
        block_so n jump pair (slice_get p.blocks.now pair.left) (slice_get q.blocks.now pair.right) refl h.1 s s' (fits h2.0 h2.1) answers o run d

    jumps_so : (n : ℕ) → JumpsSo n
    jumps_so zero b b' st v s s' fits g answers o run d = absurd (let bad : None ≡ Some o = run in cc)
    jumps_so (suc n) b b' st v s s' fits g answers o run d =
        let f = find_at b b' st (slice_get proof b) refl g in
        subst (λ z. EndsRight [] (ends.Goto z) s' answers o) f.right
        (pair_here n (jumps_so n) f.pair f.so s s' (λ old old' block. enters_so v st s s' fits f.pair block old old' f.enters) answers o
        (ap (λ z. run_blocks (suc n) p around z s answers) f.left ∙ run) d)

    -- ---- from the start

    record First (b b' : ℕ) : Type 0 where
      pair : Pair
      left : pair.left ≡ b
      right : pair.right ≡ b'
      lefts : [] ≡ pair.left_settings
      settings : [] ≡ pair.settings
      knowns : [] ≡ pair.knowns
      so : pair_so common p q jumps proof pair ≡ true

    no_setting : (xs : List Setting) → no_settings xs ≡ true → [] ≡ xs
    no_setting [] e = refl
    no_setting (x ∷ xs) e = no e

    no_known : (xs : List Known) → no_knowns xs ≡ true → [] ≡ xs
    no_known [] e = refl
    no_known (x ∷ xs) e = no e

    first_if : (b b' : ℕ) (pair : Pair) (pairs : List Pair) (t : Bool) → (pair.left == b && pair.right == b') ≡ t → pair_so common p q jumps proof pair ≡ true → (starts pairs b b' ≡ true → First b b') →
        (if t then no_facts pair else starts pairs b b') ≡ true → First b b'
    first_if b b' pair pairs true e so rest g =
        let h = both _ _ e in
        let h2 = both _ _ g in
        let h3 = both _ _ h2.0 in
        record { pair = pair; left = same_number pair.left b h.0; right = same_number pair.right b' h.1; lefts = no_setting pair.left_settings h3.0; settings = no_setting pair.settings h3.1; knowns = no_known pair.knowns h2.1; so = so }
    first_if b b' pair pairs false e so rest g = rest g

    first : (b b' : ℕ) (pairs : List Pair) → pairs_so common p q jumps proof pairs ≡ true → starts pairs b b' ≡ true → First b b'
    first b b' [] so e = no e
    first b b' (pair ∷ pairs) so e =
        let h = both _ _ so in
        first_if b b' pair pairs (pair.left == b && pair.right == b') refl h.0 (first b b' pairs h.1) e

    module _ (s : State) (zeros : (t : ℕ) → s.temps t ≡ number 0) where
      zero_normal : (t : ℕ) → IsNormal (s.temps t)
      zero_normal t = subst IsNormal (sym (zeros t)) (number_normal 0)

      zero_means : (t : ℕ) (b : Bool) → Means (entry s s) 0 (of_symbol (if b then symbols.Left t else symbols.Right t)) (s.temps t)
      zero_means t true = ((tt, tt), symbol_eval (entry s s) (symbols.Left t) (zero_normal t))
      zero_means t false = ((tt, tt), symbol_eval (entry s s) (symbols.Right t) (zero_normal t))

      start_fits : (pair : Pair) (block : Block) → [] ≡ pair.left_settings → [] ≡ pair.settings → [] ≡ pair.knowns → Fits around common (entry s s) (standing_at pair block) s s
      start_fits pair block e0 e e' = record {
        words = entry_words s s zero_normal zero_normal;
        left = λ t. subst (λ xs. Means (entry s s) 0 (form_at None xs t) (s.temps t)) e0 ((tt, tt), symbol_eval (entry s s) (symbols.Left t) (zero_normal t));
        right = λ t. subst (λ xs. Means (entry s s) 0 (form_at (Some common) xs t) (s.temps t)) e (zero_means t (is_common common t));
        rest = refl;
        knowns = subst (λ xs. AllTrue around (entry s s) 0 s.own s.environment s.memory xs) e' tt;
      }

      started : (answers : List Answer) (o : Outcome) → IsDefined o → (n : ℕ) → run_blocks n p around p.start s answers ≡ Some o → First p.start q.start → EndsRight [] (ends.Goto q.start) s answers o
      started answers o d zero run f = absurd (let bad : None ≡ Some o = run in cc)
      started answers o d (suc n) run f =
          subst (λ z. EndsRight [] (ends.Goto z) s answers o) f.right
          (pair_here n (jumps_so n) f.pair f.so s s (λ old old' block. start_fits f.pair block f.lefts f.settings f.knowns) answers o
          (ap (λ z. run_blocks (suc n) p around z s answers) f.left ∙ run) d)

    pub from_start : starts proof p.start q.start ≡ true → (memory : Memory) (answers : List Answer) (o : Outcome) → IsDefined o → (n : ℕ) → run_blocks n p around p.start (start_of p around memory) answers ≡ Some o → EndsRight [] (ends.Goto q.start) (start_of p around memory) answers o
    from_start e memory answers o d n run = started (start_of p around memory) (λ t. refl) answers o d n run (first p.start q.start proof all e)

abbrev is_clear_in : ℕ → List Slot → Around → Place → Bool
is_clear_in formals slots around (InCell c n) = false
is_clear_in formals slots around (Outside address) =
    let slot = sub_words address (slot_address around 0) in nat_le formals slot && nat_lt slot (length slots)

-- the state at the start, by what it depends on
abbrev start_with : ℕ → List Slot → Around → Memory → State
start_with formals slots around memory = record {
  temps = λ t. number 0;
  own = λ n. if nat_le formals n && nat_lt n (length slots) then Some (number 0) else memory.words (Outside (slot_address around n));
  environment = memory.words (Outside (environment_address around));
  memory = seen slots around (record memory { words = λ place. if is_clear_in formals slots around place then Some (number 0) else memory.words place });
}

same_start : (p q : Proc) (around : Around) (memory : Memory) → p.formals ≡ q.formals → p.slots.now ≡ q.slots.now → start_of p around memory ≡ start_of q around memory
same_start p q around memory e e' =
    ap (λ n. start_with n p.slots.now around memory) e ∙ ap (λ xs. start_with q.formals xs around memory) e'

-- THE THEOREM
pub follows : (common : List Bool) (p q : Proc) (jumps : ℕ) (proof : List Pair) → same_run common p q jumps proof ≡ true → FollowsRun p q
follows common p q jumps proof e around memory answers o d run =
    let h = both _ _ e in
    let h2 = both _ _ h.0 in
    let f = both _ _ h2.0 in
    let slots : p.slots.now ≡ q.slots.now = are_slots p.slots.now q.slots.now f.1 in
    let r = from_start p.slots.now around common p q refl (sym slots) jumps proof h.1 h2.1 memory answers o d run.blocks run.is in
    let start = same_start p q around memory (same_number p.formals q.formals f.0) slots in
    record { blocks = r.0; is = ap (λ s. run_blocks r.0 q around q.start s answers) (sym start) ∙ r.1 }
