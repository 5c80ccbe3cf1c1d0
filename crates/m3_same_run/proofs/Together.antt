-- One operation of the left procedure, and a row of them.
use Rattle.std.proofs.Common.{◌≡◌, ℕ, zero, suc, Bool, true, false, List, [], ◌∷◌, refl, sym, ap, ◌∙◌, subst}
use Rattle.std.specs.Prelude.{if◌then◌else◌, Option, Some, None, slice_get}
use Rattle.m3_base.specs.declared.outcomes.FaultKind.{FaultKind}
use Rattle.m3_base.specs.declared.places.Pos.{Pos}
use Rattle.m3_mid.specs.declared.procs.Slot.{Slot}
use Rattle.m3_mid.specs.declared.procs.Proc.{Proc}
use Rattle.m3_mid.specs.declared.procs.Block.{Block}
use Rattle.m3_mid.specs.declared.procs.End.{End}
use Rattle.m3_mid.specs.declared.procs.End.TheVariants as ends
use Rattle.m3_mid.specs.declared.ops.MidOp.{MidOp}
use Rattle.m3_mid.specs.declared.ops.CheckedOperator.{CheckedOperator}
use Rattle.m3_mid.specs.declared.ops.Relation.{Relation}
use Rattle.m3_mid_meaning.specs.Numbers.{checked_value}
use Rattle.m3_mid_meaning.specs.Words.{Word, of_numbers}
use Rattle.m3_mid_meaning.specs.Memory.{Around}
use Rattle.m3_mid_meaning.specs.States.{State, sets, sets_or_faults, state_with}
use Rattle.m3_mid_meaning.specs.Points.{Answer, Outcome}
use Rattle.m3_mid_meaning.specs.Meaning.{effect_of}
use Rattle.m3_mid_meaning.specs.Machinery.{Following, go_on, carry_out, run_ops}
use Rattle.m3_mid_meaning.proofs.WordSums.{normal_is}
use Rattle.m3_same_forms.specs.declared.forms.Symbol.{Symbol}
use Rattle.m3_same_forms.specs.declared.forms.Tag.TheVariants as tags
use Rattle.m3_same_forms.specs.declared.seen.Seen.{Seen}
use Rattle.m3_same_forms.specs.declared.seen.Seen.TheVariants.{Sets, Computes, Tries, Checks, Keeps, Changes, Points}
use Rattle.m3_same_forms.specs.Forms.{Form, Query}
use Rattle.m3_same_forms.specs.Seen.{asks, seen}
use Rattle.m3_same_forms.specs.Same.{same_point}
use Rattle.m3_same_forms.specs.Facts.{known, holds}
use Rattle.m3_same_run.specs.Check.{Standing, left_form, right_form, set_left, set_right, at_ops, set_known, go_right, advance, in_block, follow, resolve, passed, matched, with_right, compute_left, step_known, step_seen, step, and_then, steps}
use Rattle.m3_same_forms.specs.Meaning.{eval, answer_to}
use Rattle.m3_same_run.specs.Fits.{Fits}
use Rattle.m3_same_forms.proofs.Sums.{eval_normal}
use Rattle.m3_same_forms.proofs.Seeing.{OldSeen, does, seen_so}
use Rattle.m3_same_run.proofs.Fitting.{fits_left, fits_at as fits_ops_at}
use Rattle.m3_same_run.proofs.RightGoes.{Ends, effect_here, resolve_so}
use Rattle.m3_same_run.proofs.Steps.{Defined, Later, Rest, Does, when_so, compute_known, compute_new, try_known, check_known, tries_so, checks_so, keeps_so, changes_so}
use Rattle.m3_same_run.proofs.Replies.{points_so}

-- ---- the right one makes no new word

set_known_fresh : (a : Option Form) (to : ℕ) (stop : List MidOp) (st : Standing) (next : Standing → Standing) → ((st1 : Standing) → (next st1).fresh ≡ st1.fresh) → (set_known a to stop st next).fresh ≡ st.fresh
set_known_fresh None to stop st next h = refl
set_known_fresh (Some a) to stop st next h = h (set_right st to a)

if_fresh : (b : Bool) (stop : List MidOp) (st : Standing) (next : Standing → Standing) → ((st1 : Standing) → (next st1).fresh ≡ st1.fresh) → (if b then next st else at_ops st stop).fresh ≡ st.fresh
if_fresh true stop st next h = h st
if_fresh false stop st next h = refl

go_fresh : (x : Seen) (stop : List MidOp) (st : Standing) (next : Standing → Standing) → ((st1 : Standing) → (next st1).fresh ≡ st1.fresh) → (go_right x stop st next).fresh ≡ st.fresh
go_fresh (Sets to a) stop st next h = h (set_right st to a)
go_fresh (Computes to x) stop st next h = set_known_fresh (known x st.knowns) to stop st next h
go_fresh (Tries to o a b place) stop st next h = set_known_fresh (known (asks (tags.Checked o) a b []) st.knowns) to stop st next h
go_fresh (Checks r a b fault place) stop st next h = if_fresh (holds r a b st.knowns) stop st next h
go_fresh (Keeps n a) stop st next h = refl
go_fresh (Changes deed a b c) stop st next h = refl
go_fresh Points stop st next h = refl

advance_fresh : (slots : List Slot) (common : List Bool) (rest : List MidOp) (st : Standing) → (advance slots common rest st).fresh ≡ st.fresh
advance_fresh slots common [] st = refl
advance_fresh slots common (op ∷ rest) st = go_fresh (seen slots (right_form common st) op) (op ∷ rest) st (advance slots common rest) (advance_fresh slots common rest)

in_block_fresh : (block : Option Block) (st : Standing) (next : Standing → Standing) → ((st1 : Standing) → (next st1).fresh ≡ st1.fresh) → (in_block block st next).fresh ≡ st.fresh
in_block_fresh None st next h = refl
in_block_fresh (Some block) st next h = h (record st { ops = block.ops.now; end = block.end })

follow_fresh : (q : Proc) (rest : List MidOp) (end : End) (st : Standing) (next : Standing → Standing) → ((st1 : Standing) → (next st1).fresh ≡ st1.fresh) → (follow q rest end st next).fresh ≡ st.fresh
follow_fresh q [] (ends.Goto b) st next h = in_block_fresh (slice_get q.blocks.now b) st next h
follow_fresh q [] (ends.If r x y b c) st next h = refl
follow_fresh q [] (ends.Return x) st next h = refl
follow_fresh q [] (ends.FaultAt fault place) st next h = refl
follow_fresh q [] (ends.Raise x y z) st next h = refl
follow_fresh q (op ∷ rest) end st next h = refl

resolve_fresh : (slots : List Slot) (common : List Bool) (q : Proc) (n : ℕ) (st : Standing) → (resolve slots common q n st).fresh ≡ st.fresh
resolve_fresh slots common q zero st = advance_fresh slots common st.ops st
resolve_fresh slots common q (suc n) st =
    let there = advance slots common st.ops st in
    follow_fresh q there.ops there.end there (resolve slots common q n) (resolve_fresh slots common q n) ∙ advance_fresh slots common st.ops st

none : {P : Type 0} (st2 : Standing) → None ≡ Some st2 → P
none st2 e = absurd (let bad : None ≡ Some st2 = e in cc)

module _ (slots : List Slot) (around : Around) (common : List Bool) (q : Proc) (frame : q.slots.now ≡ slots) where
  abbrev Goes_on : Standing → Following → Type 0
  Goes_on st go = Later slots around common q frame st go

  module _ (op op' : MidOp) (v : Symbol → Word) (st : Standing) (s s' : State) (fits : Fits around common v st s s') (answers : List Answer) (go : Following) (o : Outcome) (d : Defined slots around common q frame o) where
    matched_so : (x y : Seen) (st2 : Standing) → matched op op' (left_form st) (right_form common st) x y st ≡ Some st2 → OldSeen st.fresh x → carry_out (does slots around v s op x) answers go ≡ Some o → Goes_on st2 go →
        Does slots around common q frame (does slots around v s' op' y) st answers o
    matched_so (Tries to co a b place) (Tries to' co' a' b' place') st2 e old run later = tries_so slots around common q frame v st s s' fits answers go o d to to' co co' a b a' b' place place' st2 e old run later
    matched_so (Checks r a b fault place) (Checks r' a' b' fault' place') st2 e old run later = checks_so slots around common q frame v st s s' fits answers go o d r r' a b a' b' fault fault' place place' st2 e old run later
    matched_so (Keeps n a) (Keeps n' a') st2 e old run later = keeps_so slots around common q frame v st s s' fits answers go o d n n' a a' st2 e old run later
    matched_so (Changes deed a b c) (Changes deed' a' b' c') st2 e old run later = changes_so slots around common q frame v st s s' fits answers go o d deed deed' a b c a' b' c' st2 e run later
    matched_so Points Points st2 e old run later =
        let w = when_so slots around common q frame (same_point (left_form st) (right_form common st) op op') (passed op op' st) st2 e in
        points_so slots around common q frame st s s' v fits answers go o d op op' w.0 run (subst (λ z. Goes_on z go) (sym w.1) later)
    matched_so (Sets x0 x1) y st2 e old run later = none st2 e
    matched_so (Computes x0 x1) y st2 e old run later = none st2 e
    matched_so (Tries x0 x1 x2 x3 x4) (Sets y0 y1) st2 e old run later = none st2 e
    matched_so (Tries x0 x1 x2 x3 x4) (Computes y0 y1) st2 e old run later = none st2 e
    matched_so (Tries x0 x1 x2 x3 x4) (Checks y0 y1 y2 y3 y4) st2 e old run later = none st2 e
    matched_so (Tries x0 x1 x2 x3 x4) (Keeps y0 y1) st2 e old run later = none st2 e
    matched_so (Tries x0 x1 x2 x3 x4) (Changes y0 y1 y2 y3) st2 e old run later = none st2 e
    matched_so (Tries x0 x1 x2 x3 x4) Points st2 e old run later = none st2 e
    matched_so (Checks x0 x1 x2 x3 x4) (Sets y0 y1) st2 e old run later = none st2 e
    matched_so (Checks x0 x1 x2 x3 x4) (Computes y0 y1) st2 e old run later = none st2 e
    matched_so (Checks x0 x1 x2 x3 x4) (Tries y0 y1 y2 y3 y4) st2 e old run later = none st2 e
    matched_so (Checks x0 x1 x2 x3 x4) (Keeps y0 y1) st2 e old run later = none st2 e
    matched_so (Checks x0 x1 x2 x3 x4) (Changes y0 y1 y2 y3) st2 e old run later = none st2 e
    matched_so (Checks x0 x1 x2 x3 x4) Points st2 e old run later = none st2 e
    matched_so (Keeps x0 x1) (Sets y0 y1) st2 e old run later = none st2 e
    matched_so (Keeps x0 x1) (Computes y0 y1) st2 e old run later = none st2 e
    matched_so (Keeps x0 x1) (Tries y0 y1 y2 y3 y4) st2 e old run later = none st2 e
    matched_so (Keeps x0 x1) (Checks y0 y1 y2 y3 y4) st2 e old run later = none st2 e
    matched_so (Keeps x0 x1) (Changes y0 y1 y2 y3) st2 e old run later = none st2 e
    matched_so (Keeps x0 x1) Points st2 e old run later = none st2 e
    matched_so (Changes x0 x1 x2 x3) (Sets y0 y1) st2 e old run later = none st2 e
    matched_so (Changes x0 x1 x2 x3) (Computes y0 y1) st2 e old run later = none st2 e
    matched_so (Changes x0 x1 x2 x3) (Tries y0 y1 y2 y3 y4) st2 e old run later = none st2 e
    matched_so (Changes x0 x1 x2 x3) (Checks y0 y1 y2 y3 y4) st2 e old run later = none st2 e
    matched_so (Changes x0 x1 x2 x3) (Keeps y0 y1) st2 e old run later = none st2 e
    matched_so (Changes x0 x1 x2 x3) Points st2 e old run later = none st2 e
    matched_so Points (Sets y0 y1) st2 e old run later = none st2 e
    matched_so Points (Computes y0 y1) st2 e old run later = none st2 e
    matched_so Points (Tries y0 y1 y2 y3 y4) st2 e old run later = none st2 e
    matched_so Points (Checks y0 y1 y2 y3 y4) st2 e old run later = none st2 e
    matched_so Points (Keeps y0 y1) st2 e old run later = none st2 e
    matched_so Points (Changes y0 y1 y2 y3) st2 e old run later = none st2 e

  module _ (op : MidOp) (v : Symbol → Word) (s : State) (answers : List Answer) (go : Following) (o : Outcome) (d : Defined slots around common q frame o) where
    with_right_so : (st : Standing) (s' : State) → Fits around common v st s s' → (x : Seen) (rest : List MidOp) (st2 : Standing) → with_right slots common op x rest st ≡ Some st2 → OldSeen st.fresh x → carry_out (does slots around v s op x) answers go ≡ Some o → Goes_on st2 go →
        Ends slots around common q frame rest st.end s' answers o
    with_right_so st s' fits x [] st2 e old run later = none st2 e
    with_right_so st s' fits x (op' ∷ rest) st2 e old run later =
        let f' = right_form common st in
        let see = seen_so slots around v st.fresh fits.words f' s' fits.right op' in
        let h = matched_so op op' v (at_ops st rest) s s' (fits_ops_at around common v st s s' fits rest) answers go o d x (seen slots f' op') st2 e old run later in
        (h.0, ap (λ z. carry_out z answers (Rest slots around common q frame (at_ops st rest) h.0)) (effect_here slots around common q frame s' op' ∙ see.0) ∙ h.1)

    module _ (jumps : ℕ) (st : Standing) (s' : State) (fits : Fits around common v st s s') where
      abbrev there : Standing
      there = resolve slots common q jumps st

      meets_so : (x : Seen) (st2 : Standing) → with_right slots common op x there.ops there ≡ Some st2 → OldSeen st.fresh x → carry_out (does slots around v s op x) answers go ≡ Some o → Goes_on st2 go → Ends slots around common q frame st.ops st.end s' answers o
      meets_so x st2 e old run later =
          let r = resolve_so slots around common q frame v s jumps st s' fits in
          let old' : OldSeen there.fresh x = subst (λ n. OldSeen n x) (sym (resolve_fresh slots common q jumps st)) old in
          r.2 answers o (with_right_so there r.0 r.1 x there.ops st2 e old' run later)

      compute_so : (to : ℕ) (x : Query) (a : Option Form) (st2 : Standing) → known x st.knowns ≡ a → Some (compute_left a to x st) ≡ Some st2 → OldSeen st.fresh (Computes to x) → go_on (sets s to (answer_to around v s.own s.environment s.memory x)) answers go ≡ Some o → Goes_on st2 go →
          Ends slots around common q frame st.ops st.end s' answers o
      compute_so to x None st2 e e' old run later =
          let same : compute_left None to x st ≡ st2 = cc in
          compute_new slots around common q frame v st s s' fits answers go o d to x (answer_to around v s.own s.environment s.memory x) old refl run (subst (λ z. Goes_on z go) (sym same) later)
      compute_so to x (Some a) st2 e e' old run later =
          let same : compute_left (Some a) to x st ≡ st2 = cc in
          compute_known slots around common q frame v st s s' fits answers go o d to x a (answer_to around v s.own s.environment s.memory x) e refl run (subst (λ z. Goes_on z go) (sym same) later)

      try_so : (x : Seen) (to : ℕ) (co : CheckedOperator) (a b : Form) (place : Pos) (c : Option Form) (st2 : Standing) → known (asks (tags.Checked co) a b []) st.knowns ≡ c → step_known c to st (with_right slots common op (Tries to co a b place) there.ops there) ≡ Some st2 →
          OldSeen st.fresh (Tries to co a b place) → go_on (sets_or_faults s to place (of_numbers (checked_value co) (eval v a) (eval v b))) answers go ≡ Some o → Goes_on st2 go → Ends slots around common q frame st.ops st.end s' answers o
      try_so x to co a b place None st2 e e' old run later = meets_so (Tries to co a b place) st2 e' old run later
      try_so x to co a b place (Some c) st2 e e' old run later =
          let same : set_left st to c ≡ st2 = let all : Some (set_left st to c) ≡ Some st2 = e' in cc in
          try_known slots around common q frame v st s s' fits answers go o d to co a b c place e run (subst (λ z. Goes_on z go) (sym same) later)

      check_so : (r : Relation) (a b : Form) (fault : FaultKind) (place : Pos) (st2 : Standing) (t : Bool) → holds r a b st.knowns ≡ t → (if t then Some st else with_right slots common op (Checks r a b fault place) there.ops there) ≡ Some st2 →
          OldSeen st.fresh (Checks r a b fault place) → carry_out (does slots around v s op (Checks r a b fault place)) answers go ≡ Some o → Goes_on st2 go → Ends slots around common q frame st.ops st.end s' answers o
      check_so r a b fault place st2 true e e' old run later =
          let same : st ≡ st2 = cc in
          check_known slots around common q frame v st s s' fits answers go o d r a b fault place e run (subst (λ z. Goes_on z go) (sym same) later)
      check_so r a b fault place st2 false e e' old run later = meets_so (Checks r a b fault place) st2 e' old run later

      seen_step : (x : Seen) (st2 : Standing) → step_seen x st (with_right slots common op x there.ops there) ≡ Some st2 → OldSeen st.fresh x → carry_out (does slots around v s op x) answers go ≡ Some o → Goes_on st2 go → Ends slots around common q frame st.ops st.end s' answers o
      seen_step (Sets to a) st2 e old run later =
          let same : set_left st to a ≡ st2 = cc in
          subst (λ z. Goes_on z go) (sym same) later v (state_with s to (eval v a)) s' answers o (fits_left around common v st s s' fits to a (eval v a) (old, normal_is (eval v a) (eval_normal v a))) run d
      seen_step (Computes to x) st2 e old run later = compute_so to x (known x st.knowns) st2 refl e old run later
      seen_step (Tries to co a b place) st2 e old run later = try_so (Tries to co a b place) to co a b place (known (asks (tags.Checked co) a b []) st.knowns) st2 refl e old run later
      seen_step (Checks r a b fault place) st2 e old run later = check_so r a b fault place st2 (holds r a b st.knowns) refl e old run later
      seen_step (Keeps n a) st2 e old run later = meets_so (Keeps n a) st2 e old run later
      seen_step (Changes deed a b c) st2 e old run later = meets_so (Changes deed a b c) st2 e old run later
      seen_step Points st2 e old run later = meets_so Points st2 e old run later

      pub step_so : (st2 : Standing) → step slots common q jumps op st ≡ Some st2 → carry_out (effect_of slots around s op) answers go ≡ Some o → Goes_on st2 go → Ends slots around common q frame st.ops st.end s' answers o
      step_so st2 e run later =
          let see = seen_so slots around v st.fresh fits.words (left_form st) s fits.left op in
          seen_step (seen slots (left_form st) op) st2 e see.1 (ap (λ z. carry_out z answers go) (sym see.0) ∙ run) later

  then_so : (r : Option Standing) (next : Standing → Option Standing) (st2 : Standing) → and_then r next ≡ Some st2 → (st1 : Standing) × (r ≡ Some st1) × (next st1 ≡ Some st2)
  then_so None next st2 e = none st2 e
  then_so (Some st1) next st2 e = (st1, refl, e)

  -- what a row of operations of the left one comes to
  module _ (p : Proc) (here : p.slots.now ≡ slots) (jumps : ℕ) (go : ℕ → Following) (end : End) where
    pub steps_so : (rest : List MidOp) (v : Symbol → Word) (st : Standing) (s s' : State) → Fits around common v st s s' → (answers : List Answer) (o : Outcome) → Defined slots around common q frame o →
        (st2 : Standing) → steps slots common q jumps rest st ≡ Some st2 → run_ops p around rest end s answers go ≡ Some o → Goes_on st2 (λ s2 more. run_ops p around [] end s2 more go) → Ends slots around common q frame st.ops st.end s' answers o
    steps_so [] v st s s' fits answers o d st2 e run later =
        let same : st ≡ st2 = let all : Some st ≡ Some st2 = e in cc in
        subst (λ z. Goes_on z (λ s2 more. run_ops p around [] end s2 more go)) (sym same) later v s s' answers o fits run d
    steps_so (op ∷ rest) v st s s' fits answers o d st2 e run later =
        let h = then_so (step slots common q jumps op st) (steps slots common q jumps rest) st2 e in
        let after : Following = λ s2 more. run_ops p around rest end s2 more go in
        let run' : carry_out (effect_of slots around s op) answers after ≡ Some o = ap (λ z. carry_out (effect_of z around s op) answers after) (sym here) ∙ run in
        step_so op v s answers after o d jumps st s' fits h.0 h.1 run'
        (λ v1 s1 s1' answers1 o1 fits1 run1 d1. steps_so rest v1 h.0 s1 s1' fits1 answers1 o1 d1 st2 h.2 run1 later)
