-- The two procedures go on together.
use Rattle.std.proofs.Common.{◌≡◌, ◌≢◌, ℕ, suc, Bool, true, false, List, [], refl, sym, ap, ◌∙◌, subst}
use Rattle.std.specs.Prelude.{◌==◌, ◌&&◌, Option, Some, None, Result, Ok, Err}
use Rattle.std.specs.Option.{option_map}
use Rattle.m3_base.specs.declared.outcomes.FaultKind.{FaultKind}
use Rattle.m3_base.specs.declared.places.Pos.{Pos}
use Rattle.m3_mid.specs.declared.procs.Slot.{Slot}
use Rattle.m3_mid.specs.declared.procs.Proc.{Proc}
use Rattle.m3_mid.specs.declared.ops.CheckedOperator.{CheckedOperator}
use Rattle.m3_mid.specs.declared.ops.Relation.{Relation}
use Rattle.m3_mid_meaning.specs.Numbers.{checked_value}
use Rattle.m3_mid_meaning.specs.Words.{Word, IsNormal, number, normal, of_numbers}
use Rattle.m3_mid_meaning.specs.Memory.{Memory, Around}
use Rattle.m3_mid_meaning.specs.Operations.{is_true, flag_word}
use Rattle.m3_mid_meaning.specs.States.{State, Undefined, Goes, sets, sets_or_faults, goes_or_faults, goes_to, stored_own, with_own, with_memory, state_with}
use Rattle.m3_mid_meaning.specs.Points.{Answer, Outcome, Effect, Plain}
use Rattle.m3_mid_meaning.specs.Machinery.{Following, over, go_on, carry_out, run_ops, run_blocks}
use Rattle.m3_mid_meaning.proofs.WordSums.{normal_is, number_normal, times_normal}
use Rattle.m3_same_forms.specs.declared.forms.Symbol.{Symbol}
use Rattle.m3_same_forms.specs.declared.forms.Symbol.TheVariants as symbols
use Rattle.m3_same_forms.specs.declared.forms.Tag.TheVariants as tags
use Rattle.m3_same_forms.specs.declared.seen.Deed.{Deed}
use Rattle.m3_same_forms.specs.Forms.{Form, Query, same_form, of_symbol}
use Rattle.m3_same_forms.specs.Seen.{asks}
use Rattle.m3_same_forms.specs.Same.{same_checked, same_relation, same_deed, same_fault, same_place}
use Rattle.m3_same_forms.specs.Facts.{known, holds, lasts, is_other_slot}
use Rattle.m3_same_run.specs.Check.{Standing, set_left, learn, forget, new_word, newest, both_tried, when}
use Rattle.m3_same_forms.specs.Meaning.{Old, OldQuery, eval, with_new, Means, checked_word, given, answer_to, changed}
use Rattle.m3_same_run.specs.Fits.{Fits}
use Rattle.m3_same_forms.proofs.Codes.{both, same_number, is_checked, is_relation, is_deed, is_fault, is_place}
use Rattle.m3_same_forms.proofs.Sums.{same_eval, symbol_eval, stays, new_is}
use Rattle.m3_same_forms.proofs.Knowing.{known_so, holds_so, older_query}
use Rattle.m3_same_run.proofs.Fitting.{fits_left, fits_right, fits_learn, fits_new, fits_memory, fits_own, newest_old}
use Rattle.m3_same_run.proofs.RightGoes.{Ends, some_word, checked_so}

module _ (slots : List Slot) (around : Around) (common : List Bool) (q : Proc) (frame : q.slots.now ≡ slots) where
  abbrev pub Defined : Outcome → Type 0
  Defined o = o.ending ≢ Undefined

  -- a run that isn't defined is none
  pub undefined_so : (o : Outcome) (P : Type 0) → over Undefined ≡ Some o → Defined o → P
  undefined_so o P e d =
      let same : record { events = []; ending = Undefined } ≡ o = cc in
      absurd (d (sym (ap (λ z. z.ending) same)))

  -- what follows in both procedures
  abbrev pub Later : Standing → Following → Type 0
  Later st go =
      (v : Symbol → Word) (s s' : State) (answers : List Answer) (o : Outcome) → Fits around common v st s s' → go s answers ≡ Some o → Defined o → Ends slots around common q frame st.ops st.end s' answers o

  -- the right one, behind its operation
  abbrev pub Rest : Standing → ℕ → Following
  Rest st n = λ s rest. run_ops q around st.ops st.end s rest (run_blocks n q around)

  -- the right one does this, and the rest
  abbrev pub Does : Effect → Standing → List Answer → Outcome → Type 0
  Does x st answers o = (n : ℕ) × (carry_out x answers (Rest st n) ≡ Some o)

  pub when_so : (b : Bool) (st st2 : Standing) → when b st ≡ Some st2 → (b ≡ true) × (st ≡ st2)
  when_so true st st2 e = (refl, cc)
  when_so false st st2 e = absurd (let bad : None ≡ Some st2 = e in cc)

  module _ (v : Symbol → Word) (st : Standing) (s s' : State) (fits : Fits around common v st s s') (answers : List Answer) (go : Following) (o : Outcome) (d : Defined o) where
    abbrev pub asked : Query → Option Word
    asked x = answer_to around v s.own s.environment s.memory x

    -- ---- what the left one computes

    abbrev new_so : Query → Word → Symbol → Word
    new_so x w = with_new v st.fresh (normal w)

    abbrev learnt : Query → Standing
    learnt x = learn (new_word st) x (newest st.fresh)

    pub fits_learnt : (x : Query) (w : Word) → OldQuery st.fresh x → asked x ≡ Some w → Fits around common (with_new v st.fresh (normal w)) (learn (new_word st) x (newest st.fresh)) s s'
    fits_learnt x w old e =
        let n = st.fresh in
        let u = normal w in
        let v' = with_new v n u in
        let is_u : IsNormal u = times_normal 1 w in
        let f1 = fits_new around common v st s s' fits u is_u in
        let says : option_map normal (answer_to around v' s.own s.environment s.memory x) ≡ Some (eval v' (newest n)) =
        ap (λ z. option_map normal (given around s.own s.environment s.memory x.tag z (eval v' x.second) (eval v' x.third))) (sym (stays v n u x.first old.0))
        ∙ ap (λ z. option_map normal (given around s.own s.environment s.memory x.tag (eval v x.first) z (eval v' x.third))) (sym (stays v n u x.second old.1))
        ∙ ap (λ z. option_map normal (given around s.own s.environment s.memory x.tag (eval v x.first) (eval v x.second) z)) (sym (stays v n u x.third old.2))
        ∙ ap (option_map normal) e ∙ ap (λ z. Some z) (new_is v n u is_u) in
        fits_learn around common v' (new_word st) s s' f1 x (newest n) (older_query around v n u s.own s.environment s.memory x old) (newest_old n) says

    pub newest_means : (w : Word) → Means (with_new v st.fresh (normal w)) (suc st.fresh) (newest st.fresh) (normal w)
    newest_means w = (newest_old st.fresh, new_is v st.fresh (normal w) (times_normal 1 w))

    pub compute_known : (to : ℕ) (x : Query) (a : Form) (there : Option Word) → known x st.knowns ≡ Some a → asked x ≡ there → go_on (sets s to there) answers go ≡ Some o → Later (set_left st to a) go → Ends slots around common q frame st.ops st.end s' answers o
    compute_known to x a there e e' run later =
        let h = known_so around v st.fresh s.own s.environment s.memory x a st.knowns fits.knowns e in
        let w = some_word there (eval v a) (ap (option_map normal) (sym e') ∙ h.1) in
        later v (state_with s to w.0) s' answers o (fits_left around common v st s s' fits to a w.0 (h.0, w.2)) (ap (λ z. go_on (sets s to z) answers go) (sym w.1) ∙ run) d

    pub compute_new : (to : ℕ) (x : Query) (there : Option Word) → OldQuery st.fresh x → asked x ≡ there → go_on (sets s to there) answers go ≡ Some o → Later (set_left (learn (new_word st) x (newest st.fresh)) to (newest st.fresh)) go → Ends slots around common q frame st.ops st.end s' answers o
    compute_new to x None old e run later = undefined_so o _ run d
    compute_new to x (Some w) old e run later =
        let f = fits_learnt x w old e in
        later (with_new v st.fresh (normal w)) (state_with s to w) s' answers o
        (fits_left around common (with_new v st.fresh (normal w)) (learnt x) s s' f to (newest st.fresh) w (newest_means w)) run d

    pub try_known : (to : ℕ) (co : CheckedOperator) (a b c : Form) (place : Pos) → known (asks (tags.Checked co) a b []) st.knowns ≡ Some c →
        go_on (sets_or_faults s to place (of_numbers (checked_value co) (eval v a) (eval v b))) answers go ≡ Some o → Later (set_left st to c) go → Ends slots around common q frame st.ops st.end s' answers o
    try_known to co a b c place e run later =
        let x = asks (tags.Checked co) a b [] in
        let h = known_so around v st.fresh s.own s.environment s.memory x c st.knowns fits.knowns e in
        let w = some_word (asked x) (eval v c) h.1 in
        let n = checked_so (of_numbers (checked_value co) (eval v a) (eval v b)) w.0 w.1 in
        later v (state_with s to w.0) s' answers o (fits_left around common v st s s' fits to c w.0 (h.0, w.2))
        (ap (λ z. go_on (Goes (state_with s to z)) answers go) (sym n.2) ∙ ap (λ z. go_on (sets_or_faults s to place z) answers go) (sym n.1) ∙ run) d

    -- ---- checked operators

    try_at : (to to' : ℕ) (co : CheckedOperator) (a b : Form) (place : Pos) (r : Option (Result ℕ FaultKind)) → OldQuery st.fresh (asks (tags.Checked co) a b []) → of_numbers (checked_value co) (eval v a) (eval v b) ≡ r →
        go_on (sets_or_faults s to place r) answers go ≡ Some o → Later (both_tried to to' (asks (tags.Checked co) a b []) st) go → Does (Plain (sets_or_faults s' to' place r)) st answers o
    try_at to to' co a b place None old e run later = undefined_so o _ run d
    try_at to to' co a b place (Some (Err kind)) old e run later = (0, run)
    try_at to to' co a b place (Some (Ok m)) old e run later =
        let x = asks (tags.Checked co) a b [] in
        let w = number m in
        let v' = with_new v st.fresh (normal w) in
        let f1 = fits_learnt x w old (ap checked_word e) in
        let st1 = set_left (learnt x) to (newest st.fresh) in
        let f2 = fits_left around common v' (learnt x) s s' f1 to (newest st.fresh) w (newest_means w) in
        let f3 = fits_right around common v' st1 (state_with s to w) s' f2 to' (newest st.fresh) w (newest_means w) in
        later v' (state_with s to w) (state_with s' to' w) answers o f3 run d

    pub tries_so : (to to' : ℕ) (co co' : CheckedOperator) (a b a' b' : Form) (place place' : Pos) (st2 : Standing) →
        when (same_checked co co' && same_place place place' && same_form a a' && same_form b b') (both_tried to to' (asks (tags.Checked co) a b []) st) ≡ Some st2 → Old st.fresh a × Old st.fresh b →
        go_on (sets_or_faults s to place (of_numbers (checked_value co) (eval v a) (eval v b))) answers go ≡ Some o → Later st2 go →
        Does (Plain (sets_or_faults s' to' place' (of_numbers (checked_value co') (eval v a') (eval v b')))) st answers o
    tries_so to to' co co' a b a' b' place place' st2 e old run later =
        let w = when_so _ (both_tried to to' (asks (tags.Checked co) a b []) st) st2 e in
        let p = both _ _ w.0 in
        let p2 = both _ _ p.0 in
        let p3 = both _ _ p2.0 in
        let same : of_numbers (checked_value co) (eval v a) (eval v b) ≡ of_numbers (checked_value co') (eval v a') (eval v b') =
        ap (λ z. of_numbers (checked_value z) (eval v a) (eval v b)) (is_checked co co' p3.0) ∙ ap (λ z. of_numbers (checked_value co') z (eval v b)) (same_eval v a a' p2.1)
        ∙ ap (of_numbers (checked_value co') (eval v a')) (same_eval v b b' p.1) in
        let h = try_at to to' co a b place (of_numbers (checked_value co) (eval v a) (eval v b)) (old.0, old.1, tt) refl run (subst (λ z. Later z go) (sym w.1) later) in (
          h.0,
          ap (λ z. carry_out (Plain (sets_or_faults s' to' z (of_numbers (checked_value co') (eval v a') (eval v b')))) answers (Rest st h.0)) (sym (is_place place place' p3.1))
              ∙ ap (λ z. carry_out (Plain (sets_or_faults s' to' place z)) answers (Rest st h.0)) (sym same) ∙ h.1,
        )

    -- ---- checks

    abbrev pub true_here : Relation → Form → Form → Standing
    true_here r a b = learn st (asks (tags.Compared r) a b []) (of_symbol symbols.One)

    one_word : eval v (of_symbol symbols.One) ≡ number 1
    one_word = sym (symbol_eval v symbols.One (fits.words.normals symbols.One)) ∙ fits.words.one

    pub fits_true : (r : Relation) (a b : Form) → Old st.fresh a × Old st.fresh b → is_true r (eval v a) (eval v b) ≡ Some true → Fits around common v (learn st (asks (tags.Compared r) a b []) (of_symbol symbols.One)) s s'
    fits_true r a b old e =
        fits_learn around common v st s s' fits (asks (tags.Compared r) a b []) (of_symbol symbols.One) (old.0, old.1, tt) (tt, tt)
        (ap (λ z. option_map normal (flag_word z)) e ∙ ap (λ z. Some z) (normal_is (number 1) (number_normal 1) ∙ sym one_word))

    pub fits_false : (r : Relation) (a b : Form) → Old st.fresh a × Old st.fresh b → is_true r (eval v a) (eval v b) ≡ Some false → Fits around common v (learn st (asks (tags.Compared r) a b []) []) s s'
    fits_false r a b old e =
        fits_learn around common v st s s' fits (asks (tags.Compared r) a b []) [] (old.0, old.1, tt) tt
        (ap (λ z. option_map normal (flag_word z)) e ∙ ap (λ z. Some z) (normal_is (number 0) (number_normal 0)))

    check_at : (r : Relation) (a b : Form) (fault : FaultKind) (place : Pos) (test : Option Bool) → Old st.fresh a × Old st.fresh b → is_true r (eval v a) (eval v b) ≡ test →
        go_on (goes_or_faults s fault place test) answers go ≡ Some o → Later (true_here r a b) go → Does (Plain (goes_or_faults s' fault place test)) st answers o
    check_at r a b fault place None old e run later = undefined_so o _ run d
    check_at r a b fault place (Some true) old e run later = later v s s' answers o (fits_true r a b old e) run d
    check_at r a b fault place (Some false) old e run later = (0, run)

    pub checks_so : (r r' : Relation) (a b a' b' : Form) (fault fault' : FaultKind) (place place' : Pos) (st2 : Standing) →
        when (same_relation r r' && same_fault fault fault' && same_place place place' && same_form a a' && same_form b b') (true_here r a b) ≡ Some st2 → Old st.fresh a × Old st.fresh b →
        go_on (goes_or_faults s fault place (is_true r (eval v a) (eval v b))) answers go ≡ Some o → Later st2 go → Does (Plain (goes_or_faults s' fault' place' (is_true r' (eval v a') (eval v b')))) st answers o
    checks_so r r' a b a' b' fault fault' place place' st2 e old run later =
        let w = when_so _ (true_here r a b) st2 e in
        let p = both _ _ w.0 in
        let p2 = both _ _ p.0 in
        let p3 = both _ _ p2.0 in
        let p4 = both _ _ p3.0 in
        let same : is_true r (eval v a) (eval v b) ≡ is_true r' (eval v a') (eval v b') =
        ap (λ z. is_true z (eval v a) (eval v b)) (is_relation r r' p4.0) ∙ ap (λ z. is_true r' z (eval v b)) (same_eval v a a' p2.1) ∙ ap (is_true r' (eval v a')) (same_eval v b b' p.1) in
        let h = check_at r a b fault place (is_true r (eval v a) (eval v b)) old refl run (subst (λ z. Later z go) (sym w.1) later) in (
          h.0,
          ap (λ z. carry_out (Plain (goes_or_faults s' z place' (is_true r' (eval v a') (eval v b')))) answers (Rest st h.0)) (sym (is_fault fault fault' p4.1))
              ∙ ap (λ z. carry_out (Plain (goes_or_faults s' fault z (is_true r' (eval v a') (eval v b')))) answers (Rest st h.0)) (sym (is_place place place' p3.1))
              ∙ ap (λ z. carry_out (Plain (goes_or_faults s' fault place z)) answers (Rest st h.0)) (sym same) ∙ h.1,
        )

    pub check_known : (r : Relation) (a b : Form) (fault : FaultKind) (place : Pos) → holds r a b st.knowns ≡ true → go_on (goes_or_faults s fault place (is_true r (eval v a) (eval v b))) answers go ≡ Some o → Later st go → Ends slots around common q frame st.ops st.end s' answers o
    check_known r a b fault place e run later =
        let h = holds_so around v st.fresh s.own s.environment s.memory fits.words r a b st.knowns fits.knowns e in
        later v s s' answers o fits (ap (λ z. go_on (goes_or_faults s fault place z) answers go) (sym h) ∙ run) d

    -- ---- own slots

    abbrev pub kept_here : ℕ → Form → Standing
    kept_here n a = learn (forget (is_other_slot n) st) (asks (tags.OwnSlot n) [] [] []) a

    keep_at : (n : ℕ) (a : Form) (old_word : Option Word) → Old st.fresh a → go_on (goes_to (option_map (λ w. with_own s n (eval v a)) old_word)) answers go ≡ Some o → Later (kept_here n a) go →
        Does (Plain (goes_to (option_map (λ w. with_own s' n (eval v a)) old_word))) st answers o
    keep_at n a None old run later = undefined_so o _ run d
    keep_at n a (Some w) old run later = later v (with_own s n (eval v a)) (with_own s' n (eval v a)) answers o (fits_own around common v st s s' fits n a old) run d

    pub keeps_so : (n n' : ℕ) (a a' : Form) (st2 : Standing) → when (n == n' && same_form a a') (kept_here n a) ≡ Some st2 → Old st.fresh a → go_on (goes_to (stored_own s n (eval v a))) answers go ≡ Some o → Later st2 go →
        Does (Plain (goes_to (stored_own s' n' (eval v a')))) st answers o
    keeps_so n n' a a' st2 e old run later =
        let w = when_so _ (kept_here n a) st2 e in
        let p = both _ _ w.0 in
        let h = keep_at n a (s.own n) old run (subst (λ z. Later z go) (sym w.1) later) in (
          h.0,
          ap (λ z. carry_out (Plain (goes_to (stored_own s' z (eval v a')))) answers (Rest st h.0)) (sym (same_number n n' p.0))
              ∙ ap (λ z. carry_out (Plain (goes_to (stored_own s' n z))) answers (Rest st h.0)) (sym (same_eval v a a' p.1))
              ∙ ap (λ z. carry_out (Plain (goes_to (option_map (λ w. with_own s' n (eval v a)) (z.own n)))) answers (Rest st h.0)) fits.rest ∙ h.1,
        )

    -- ---- memory

    change_at : (after : Option Memory) → go_on (goes_to (option_map (with_memory s) after)) answers go ≡ Some o → Later (forget lasts st) go → Does (Plain (goes_to (option_map (with_memory s') after))) st answers o
    change_at None run later = undefined_so o _ run d
    change_at (Some m) run later = later v (with_memory s m) (with_memory s' m) answers o (fits_memory around common v st s s' fits m) run d

    pub changes_so : (deed deed' : Deed) (a b c a' b' c' : Form) (st2 : Standing) → when (same_deed deed deed' && same_form a a' && same_form b b' && same_form c c') (forget lasts st) ≡ Some st2 →
        go_on (goes_to (option_map (with_memory s) (changed around s.memory deed (eval v a) (eval v b) (eval v c)))) answers go ≡ Some o → Later st2 go →
        Does (Plain (goes_to (option_map (with_memory s') (changed around s'.memory deed' (eval v a') (eval v b') (eval v c'))))) st answers o
    changes_so deed deed' a b c a' b' c' st2 e run later =
        let w = when_so _ (forget lasts st) st2 e in
        let p = both _ _ w.0 in
        let p2 = both _ _ p.0 in
        let p3 = both _ _ p2.0 in
        let same : changed around s.memory deed (eval v a) (eval v b) (eval v c) ≡ changed around s'.memory deed' (eval v a') (eval v b') (eval v c') =
        ap (λ z. changed around s.memory z (eval v a) (eval v b) (eval v c)) (is_deed deed deed' p3.0) ∙ ap (λ z. changed around s.memory deed' z (eval v b) (eval v c)) (same_eval v a a' p3.1)
        ∙ ap (λ z. changed around s.memory deed' (eval v a') z (eval v c)) (same_eval v b b' p2.1) ∙ ap (changed around s.memory deed' (eval v a') (eval v b')) (same_eval v c c' p.1)
        ∙ sym (ap (λ z. changed around z.memory deed' (eval v a') (eval v b') (eval v c')) fits.rest) in
        let h = change_at (changed around s.memory deed (eval v a) (eval v b) (eval v c)) run (subst (λ z. Later z go) (sym w.1) later) in
        (h.0, ap (λ z. carry_out (Plain (goes_to (option_map (with_memory s') z))) answers (Rest st h.0)) (sym same) ∙ h.1)
