-- The right procedure goes on by itself.
use Rattle.std.proofs.Common.{◌≡◌, ℕ, zero, suc, Bool, true, false, List, [], ◌∷◌, refl, sym, ap, ◌∙◌}
use Rattle.std.specs.Prelude.{if◌then◌else◌, Option, Some, None, Result, Ok, Err, slice_get}
use Rattle.std.specs.Option.{option_map}
use Rattle.m3_base.specs.declared.outcomes.FaultKind.{FaultKind}
use Rattle.m3_base.specs.declared.places.Pos.{Pos}
use Rattle.m3_mid.specs.declared.procs.Slot.{Slot}
use Rattle.m3_mid.specs.declared.procs.Proc.{Proc}
use Rattle.m3_mid.specs.declared.procs.Block.{Block}
use Rattle.m3_mid.specs.declared.procs.End.{End}
use Rattle.m3_mid.specs.declared.procs.End.TheVariants as ends
use Rattle.m3_mid.specs.declared.ops.MidOp.{MidOp}
use Rattle.m3_mid.specs.declared.ops.CheckedOperator.{CheckedOperator}
use Rattle.m3_mid_meaning.specs.Numbers.{checked_value}
use Rattle.m3_mid_meaning.specs.Words.{Word, number, normal, of_numbers}
use Rattle.m3_mid_meaning.specs.Memory.{Around}
use Rattle.m3_mid_meaning.specs.States.{State, Goes, sets, sets_or_faults, goes_or_faults, state_with}
use Rattle.m3_mid_meaning.specs.Points.{Answer, Outcome, Plain}
use Rattle.m3_mid_meaning.specs.Meaning.{effect_of}
use Rattle.m3_mid_meaning.specs.Machinery.{carry_out, run_ops, run_block, run_blocks}
use Rattle.m3_mid_meaning.proofs.WordSums.{normal_is}
use Rattle.m3_same_forms.specs.declared.forms.Symbol.{Symbol}
use Rattle.m3_same_forms.specs.declared.forms.Tag.TheVariants as tags
use Rattle.m3_same_forms.specs.declared.seen.Seen.{Seen}
use Rattle.m3_same_forms.specs.declared.seen.Seen.TheVariants.{Sets, Computes, Tries, Checks, Keeps, Changes, Points}
use Rattle.m3_same_forms.specs.Forms.{Form, Query}
use Rattle.m3_same_forms.specs.Seen.{asks, seen}
use Rattle.m3_same_forms.specs.Facts.{known, holds}
use Rattle.m3_same_run.specs.Check.{Standing, right_form, set_right, at_ops, set_known, go_right, advance, in_block, follow, resolve}
use Rattle.m3_same_forms.specs.Meaning.{eval, checked_word, answer_to}
use Rattle.m3_same_run.specs.Fits.{Fits}
use Rattle.m3_same_forms.proofs.Sums.{eval_normal}
use Rattle.m3_same_forms.proofs.Seeing.{OldSeen, does, seen_so}
use Rattle.m3_same_forms.proofs.Knowing.{known_so, holds_so}
use Rattle.m3_same_run.proofs.Fitting.{fits_right, fits_at, fits_in}

-- a word that is there, whose normal form is known
pub some_word : (r : Option Word) (w : Word) → option_map normal r ≡ Some w → (x : Word) × (r ≡ Some x) × (normal x ≡ w)
some_word None w e = absurd (let bad : None ≡ Some w = e in cc)
some_word (Some x) w e = (x, refl, cc)

-- a checked operator that gave a word
pub checked_so : (r : Option (Result ℕ FaultKind)) (x : Word) → checked_word r ≡ Some x → (n : ℕ) × (r ≡ Some (Ok n)) × (number n ≡ x)
checked_so None x e = absurd (let bad : None ≡ Some x = e in cc)
checked_so (Some (Ok n)) x e = (n, refl, cc)
checked_so (Some (Err kind)) x e = absurd (let bad : None ≡ Some x = e in cc)

module _ (slots : List Slot) (around : Around) (common : List Bool) (q : Proc) (frame : q.slots.now ≡ slots) where
  -- from here on the right procedure's run is so
  abbrev pub Ends : List MidOp → End → State → List Answer → Outcome → Type 0
  Ends rest end s answers o = (n : ℕ) × (run_ops q around rest end s answers (run_blocks n q around) ≡ Some o)

  pub effect_here : (s : State) (op : MidOp) → effect_of q.slots.now around s op ≡ effect_of slots around s op
  effect_here s op = ap (λ z. effect_of z around s op) frame

  module _ (v : Symbol → Word) (s : State) where
    -- it comes there from these operations
    abbrev pub Comes : Standing → State → List MidOp → End → Type 0
    Comes there s' rest end =
        (s2 : State) × Fits around common v there s s2 × ((answers : List Answer) (o : Outcome) → Ends there.ops there.end s2 answers o → Ends rest end s' answers o)

    stops : (st : Standing) (s' : State) (rest : List MidOp) → Fits around common v st s s' → Comes (at_ops st rest) s' rest st.end
    stops st s' rest fits = (s', fits_at around common v st s s' fits rest, λ answers o e. e)

    module _ (op : MidOp) (rest : List MidOp) (st : Standing) (s' : State) (fits : Fits around common v st s s') (next : Standing → Standing)
        (later : (st1 : Standing) (s1 : State) → Fits around common v st1 s s1 → Comes (next st1) s1 rest st1.end) where
      -- one operation
      goes : (st1 : Standing) (s1 : State) → Fits around common v st1 s s1 → st1.end ≡ st.end → effect_of slots around s' op ≡ Plain (Goes s1) → Comes (next st1) s' (op ∷ rest) st.end
      goes st1 s1 fits1 same e =
          let r = later st1 s1 fits1 in (
            r.0,
            r.1,
            λ answers o there.
                let h = r.2 answers o there in (
                  h.0,
                  ap (λ z. carry_out z answers (λ after more. run_ops q around rest st.end after more (run_blocks h.0 q around))) (effect_here s' op ∙ e)
                      ∙ ap (λ z. run_ops q around rest z s1 answers (run_blocks h.0 q around)) (sym same) ∙ h.1,
                ),
          )

      -- what is asked here is what was asked there
      abbrev here : Query → Option Word
      here x = answer_to around v s'.own s'.environment s'.memory x

      abbrev there : Query → Option Word
      there x = answer_to around v s.own s.environment s.memory x

      moved : (x : Query) → here x ≡ there x
      moved x = ap (λ z. answer_to around v z.own z.environment z.memory x) fits.rest

      ask_goes : (to : ℕ) (x : Query) (a : Option Form) → known x st.knowns ≡ a → effect_of slots around s' op ≡ Plain (sets s' to (here x)) → Comes (set_known a to (op ∷ rest) st next) s' (op ∷ rest) st.end
      ask_goes to x None e run = stops st s' (op ∷ rest) fits
      ask_goes to x (Some a) e run =
          let h = known_so around v st.fresh s.own s.environment s.memory x a st.knowns fits.knowns e in
          let w = some_word (there x) (eval v a) h.1 in
          goes (set_right st to a) (state_with s' to w.0) (fits_right around common v st s s' fits to a w.0 (h.0, w.2)) refl (run ∙ ap (λ z. Plain (sets s' to z)) (moved x ∙ w.1))

      try_goes : (to : ℕ) (o : CheckedOperator) (a b : Form) (place : Pos) (c : Option Form) → known (asks (tags.Checked o) a b []) st.knowns ≡ c → effect_of slots around s' op ≡ Plain (sets_or_faults s' to place (of_numbers (checked_value o) (eval v a) (eval v b))) →
          Comes (set_known c to (op ∷ rest) st next) s' (op ∷ rest) st.end
      try_goes to o a b place None e run = stops st s' (op ∷ rest) fits
      try_goes to o a b place (Some c) e run =
          let x = asks (tags.Checked o) a b [] in
          let h = known_so around v st.fresh s.own s.environment s.memory x c st.knowns fits.knowns e in
          let w = some_word (there x) (eval v c) h.1 in
          let n = checked_so (of_numbers (checked_value o) (eval v a) (eval v b)) w.0 w.1 in
          goes (set_right st to c) (state_with s' to w.0) (fits_right around common v st s s' fits to c w.0 (h.0, w.2)) refl
          (run ∙ ap (λ z. Plain (sets_or_faults s' to place z)) n.1 ∙ ap (λ z. Plain (Goes (state_with s' to z))) n.2)

      check_goes : (t : Bool) → (t ≡ true → effect_of slots around s' op ≡ Plain (Goes s')) → Comes (if t then next st else at_ops st (op ∷ rest)) s' (op ∷ rest) st.end
      check_goes true run = goes st s' fits refl (run refl)
      check_goes false run = stops st s' (op ∷ rest) fits

      op_goes : (x : Seen) → OldSeen st.fresh x → effect_of slots around s' op ≡ does slots around v s' op x → Comes (go_right x (op ∷ rest) st next) s' (op ∷ rest) st.end
      op_goes (Sets to a) old run = goes (set_right st to a) (state_with s' to (eval v a)) (fits_right around common v st s s' fits to a (eval v a) (old, normal_is (eval v a) (eval_normal v a))) refl run
      op_goes (Computes to x) old run = ask_goes to x (known x st.knowns) refl run
      op_goes (Tries to o a b place) old run = try_goes to o a b place (known (asks (tags.Checked o) a b []) st.knowns) refl run
      op_goes (Checks r a b fault place) old run =
          check_goes (holds r a b st.knowns) (λ e. run ∙ ap (λ z. Plain (goes_or_faults s' fault place z)) (holds_so around v st.fresh s.own s.environment s.memory fits.words r a b st.knowns fits.knowns e))
      op_goes (Keeps n a) old run = stops st s' (op ∷ rest) fits
      op_goes (Changes deed a b c) old run = stops st s' (op ∷ rest) fits
      op_goes Points old run = stops st s' (op ∷ rest) fits

    pub advance_so : (rest : List MidOp) (st : Standing) (s' : State) → Fits around common v st s s' → Comes (advance slots common rest st) s' rest st.end
    advance_so [] st s' fits = stops st s' [] fits
    advance_so (op ∷ rest) st s' fits =
        let see = seen_so slots around v st.fresh fits.words (right_form common st) s' fits.right op in
        op_goes op rest st s' fits (advance slots common rest) (advance_so rest) (seen slots (right_form common st) op) see.1 see.0

    comes_on : (st st2 : Standing) (s' : State) (rest : List MidOp) (end : End) → (first : Comes st s' rest end) → Comes st2 first.0 st.ops st.end → Comes st2 s' rest end
    comes_on st st2 s' rest end first second = (second.0, second.1, λ answers o e. first.2 answers o (second.2 answers o e))

    in_block_so : (b : ℕ) (block : Option Block) (st : Standing) (s' : State) (next : Standing → Standing) → slice_get q.blocks.now b ≡ block → Fits around common v st s s' → st.ops ≡ [] → st.end ≡ ends.Goto b →
        ((st1 : Standing) → Fits around common v st1 s s' → Comes (next st1) s' st1.ops st1.end) → Comes (in_block block st next) s' st.ops st.end
    in_block_so b None st s' next e fits eo ee later = (s', fits, λ answers o h. h)
    in_block_so b (Some block) st s' next e fits eo ee later =
        let r = later (record st { ops = block.ops.now; end = block.end }) (fits_in around common v st s s' fits block.ops.now block.end) in (
          r.0,
          r.1,
          λ answers o there.
              let h = r.2 answers o there in (
                suc h.0,
                ap (λ z. run_ops q around z st.end s' answers (run_blocks (suc h.0) q around)) eo ∙ ap (λ z. run_ops q around [] z s' answers (run_blocks (suc h.0) q around)) ee
                    ∙ ap (λ z. run_block q around z s' answers (run_blocks h.0 q around)) e ∙ h.1,
              ),
        )

    follow_so : (rest : List MidOp) (end : End) (st : Standing) (s' : State) (next : Standing → Standing) → Fits around common v st s s' → st.ops ≡ rest → st.end ≡ end →
        ((st1 : Standing) → Fits around common v st1 s s' → Comes (next st1) s' st1.ops st1.end) → Comes (follow q rest end st next) s' st.ops st.end
    follow_so [] (ends.Goto b) st s' next fits eo ee later = in_block_so b (slice_get q.blocks.now b) st s' next refl fits eo ee later
    follow_so [] (ends.If r x y b c) st s' next fits eo ee later = (s', fits, λ answers o h. h)
    follow_so [] (ends.Return x) st s' next fits eo ee later = (s', fits, λ answers o h. h)
    follow_so [] (ends.FaultAt fault place) st s' next fits eo ee later = (s', fits, λ answers o h. h)
    follow_so [] (ends.Raise x y z) st s' next fits eo ee later = (s', fits, λ answers o h. h)
    follow_so (op ∷ rest) end st s' next fits eo ee later = (s', fits, λ answers o h. h)

    pub resolve_so : (n : ℕ) (st : Standing) (s' : State) → Fits around common v st s s' → Comes (resolve slots common q n st) s' st.ops st.end
    resolve_so zero st s' fits = advance_so st.ops st s' fits
    resolve_so (suc n) st s' fits =
        let there = advance slots common st.ops st in
        let r = advance_so st.ops st s' fits in
        comes_on there (resolve slots common q (suc n) st) s' st.ops st.end r (follow_so there.ops there.end there r.0 (resolve slots common q n) r.1 refl refl (λ st1 fits1. resolve_so n st1 r.0 fits1))
