-- The two procedures pass a point together.
use Rattle.std.proofs.Common.{◌≡◌, ℕ, suc, Bool, true, false, List, [], ◌∷◌, refl, sym, ap, ◌∙◌}
use Rattle.std.specs.Prelude.{Option, Some, None}
use Rattle.m3_base.specs.declared.outcomes.FaultKind.{FaultKind}
use Rattle.m3_base.specs.declared.places.Pos.{Pos}
use Rattle.m3_mid.specs.declared.calls.Raised.{Raised}
use Rattle.m3_mid.specs.declared.procs.Slot.{Slot}
use Rattle.m3_mid.specs.declared.procs.Proc.{Proc}
use Rattle.m3_mid.specs.declared.ops.MidOp.{MidOp}
use Rattle.m3_mid.specs.declared.ops.MidOp.TheVariants as ops
use Rattle.m3_mid_meaning.specs.Words.{Word}
use Rattle.m3_mid_meaning.specs.Memory.{Around, seen}
use Rattle.m3_mid_meaning.specs.States.{State, Ending, Faulted, Next, Goes, Ends as Ends_with, state_with}
use Rattle.m3_mid_meaning.specs.Actions.{Action, Passes, call_action, make_action, serve_action}
use Rattle.m3_mid_meaning.specs.Points.{Event, Answer, Outcome, event_of, effect_at, state_after, state_with_any, state_with_raised, after_call, after_make, after_service, after_nothing, served}
use Rattle.m3_mid_meaning.specs.Meaning.{effect_of}
use Rattle.m3_mid_meaning.specs.Machinery.{Progress, Following, over, behind, go_on, carry_out}
use Rattle.m3_mid_meaning.specs.Laws.{preceded}
use Rattle.m3_same_forms.specs.declared.forms.Symbol.{Symbol}
use Rattle.m3_same_forms.specs.Same.{same_point}
use Rattle.m3_same_forms.specs.Forms.{Form}
use Rattle.m3_same_run.specs.Check.{Standing, left_form, right_form, passed, newest, setting, told, told_raised, set_left, set_right}
use Rattle.m3_same_run.specs.Fits.{Fits}
use Rattle.m3_same_forms.proofs.Codes.{both, same_number, is_choice, is_service, is_place}
use Rattle.m3_same_forms.proofs.Events.{call_same, make_same, serve_same, event_same}
use Rattle.m3_same_run.proofs.Fitting.{fits_left, fits_right}
use Rattle.m3_same_run.proofs.Answering.{alerted, v5, five, behind_point, fits_answer, result_means, exception_means, number_means, tidy_means, alerted_means, told_left, told_right, raised_left, raised_right}
use Rattle.m3_same_run.proofs.Steps.{Defined, undefined_so, Later, Rest, Does}

module _ (slots : List Slot) (around : Around) (common : List Bool) (q : Proc) (frame : q.slots.now ≡ slots) where
  event_so : (event : Event) (r : Progress) (o : Outcome) → behind event r ≡ Some o → (later : Outcome) × (r ≡ Some later) × (preceded event later ≡ o)
  event_so event None o e = absurd (let bad : None ≡ Some o = e in cc)
  event_so event (Some later) o e = (later, refl, let all : Some (preceded event later) ≡ Some o = e in cc)

  -- what follows an answer in both
  abbrev Follows : Next → Next → Standing → Type 0
  Follows next next' st =
      (answers : List Answer) (go : Following) (o : Outcome) → Defined slots around common q frame o → go_on next answers go ≡ Some o → Later slots around common q frame st go → (n : ℕ) × (go_on next' answers (Rest slots around common q frame st n) ≡ Some o)

  both_go : (v : Symbol → Word) (st : Standing) (s s' : State) → Fits around common v st s s' → Follows (Goes s) (Goes s') st
  both_go v st s s' fits answers go o d run later = later v s s' answers o fits run d

  both_end : (ending ending' : Ending) (st : Standing) → ending ≡ ending' → Follows (Ends_with ending) (Ends_with ending') st
  both_end ending ending' st e answers go o d run later = (0, ap (λ z. over z) (sym e) ∙ run)

  module _ (st : Standing) (s s' : State) where
    -- one event, and what follows each answer to it
    act_so : (event : Option Event) (reply reply' : Answer → Next) (st2 : Standing) → ((answer : Answer) → Follows (reply answer) (reply' answer) st2) → (answers : List Answer) (go : Following) (o : Outcome) → Defined slots around common q frame o →
        carry_out (effect_at event reply) answers go ≡ Some o → Later slots around common q frame st2 go → (n : ℕ) × (carry_out (effect_at event reply') answers (Rest slots around common q frame st2 n) ≡ Some o)
    act_so None reply reply' st2 follows answers go o d run later = undefined_so slots around common q frame o _ run d
    act_so (Some event) reply reply' st2 follows [] go o d run later = (0, run)
    act_so (Some event) reply reply' st2 follows (answer ∷ answers) go o d run later =
        let h = event_so event (go_on (reply answer) answers go) o run in
        let d2 : Defined slots around common q frame h.0 = λ bad. d (ap (λ z. z.ending) (sym h.2) ∙ bad) in
        let r = follows answer answers go h.0 d2 h.1 later in
        (r.0, ap (behind event) r.1 ∙ ap (λ z. Some z) h.2)

    act_same : (event event' : Option Event) (reply reply' : Answer → Next) (st2 : Standing) → event' ≡ event → ((answer : Answer) → Follows (reply answer) (reply' answer) st2) → (answers : List Answer) (go : Following) (o : Outcome) → Defined slots around common q frame o →
        carry_out (effect_at event reply) answers go ≡ Some o → Later slots around common q frame st2 go → Does slots around common q frame (effect_at event' reply') st2 answers o
    act_same event event' reply reply' st2 e follows answers go o d run later =
        let r = act_so event reply reply' st2 follows answers go o d run later in
        (r.0, ap (λ z. carry_out (effect_at z reply') answers (Rest slots around common q frame st2 r.0)) e ∙ r.1)

    module _ (v : Symbol → Word) (fits : Fits around common v st s s') (answer : Answer) where
      abbrev n : ℕ
      n = st.fresh

      abbrev w5 : Symbol → Word
      w5 = v5 around common v n answer

      abbrev t : State
      t = state_after slots around s answer

      abbrev t' : State
      t' = state_after slots around s' answer

      after : Fits around common w5 (behind_point around common st) t t'
      after = fits_answer around common v st s s' (seen slots around answer.memory) answer fits

      -- a call
      call_replies : (result result' : Option ℕ) (raised raised' : Option Raised) →
          Follows (after_call result raised t answer) (after_call result' raised' t' answer)
          (record (behind_point around common st) { left = told_raised raised (suc n) (suc (suc n)) (suc (suc (suc n))) (told result n st.left); right = told_raised raised' (suc n) (suc (suc n)) (suc (suc (suc n))) (told result' n st.right) })
      call_replies result result' raised raised' =
          let stA = behind_point around common st in
          let k = five around common v n answer in
          let e = exception_means around common v n answer in
          let m = number_means around common v n answer in
          let d = tidy_means around common v n answer in
          let w = result_means around common v n answer in
          let s1 = state_with_any t result answer.result in
          let st1 = record stA { left = told result n st.left } in
          let f1 = told_left around common w5 stA t t' after result n answer.result w in
          let s2 = state_with_raised s1 raised answer in
          let st2 = record stA { left = told_raised raised (suc n) (suc (suc n)) (suc (suc (suc n))) (told result n st.left) } in
          let f2 = raised_left around common w5 n answer k e m d st1 s1 t' refl f1 raised in
          let s3 = state_with_any t' result' answer.result in
          let st3 = record st2 { right = told result' n st.right } in
          let f3 = told_right around common w5 st2 s2 t' f2 result' n answer.result w in
          let st4 = record st2 { right = told_raised raised' (suc n) (suc (suc n)) (suc (suc (suc n))) (told result' n st.right) } in
          let f4 = raised_right around common w5 n answer k e m d st3 s2 s3 refl f3 raised' in
          both_go w5 st4 s2 (state_with_raised s3 raised' answer) f4

      make_replies : (to to' : ℕ) → Follows (after_make to t answer) (after_make to' t' answer) (record (behind_point around common st) { left = setting to (newest n) st.left; right = setting to' (newest n) st.right })
      make_replies to to' =
          let stA = behind_point around common st in
          let w = result_means around common v n answer in
          let f1 = fits_left around common w5 stA t t' after to (newest n) answer.result w in
          let st1 = set_left stA to (newest n) in
          let s1 = state_with t to answer.result in
          let f2 = fits_right around common w5 st1 s1 t' f1 to' (newest n) answer.result w in
          both_go w5 (set_right st1 to' (newest n)) s1 (state_with t' to' answer.result) f2

      abbrev n4 : ℕ
      n4 = suc (suc (suc (suc n)))

      serve_replies : (to to' raised raised' : Option ℕ) (place place' : Pos) (fault : Option FaultKind) → place ≡ place' → Follows (served to raised place t answer fault) (served to' raised' place' t' answer fault)
          (record (behind_point around common st) { left = told raised n4 (told to n st.left); right = told raised' n4 (told to' n st.right) })
      serve_replies to to' raised raised' place place' (Some kind) e = both_end (Faulted kind place) (Faulted kind place') _ (ap (Faulted kind) e)
      serve_replies to to' raised raised' place place' None e =
          let stA = behind_point around common st in
          let w = result_means around common v n answer in
          let x = alerted_means around common v n answer in
          let s1 = state_with_any t to answer.result in
          let st1 = record stA { left = told to n st.left } in
          let f1 = told_left around common w5 stA t t' after to n answer.result w in
          let s2 = state_with_any s1 raised (alerted answer) in
          let st2 = record stA { left = told raised n4 (told to n st.left) } in
          let f2 = told_left around common w5 st1 s1 t' f1 raised n4 (alerted answer) x in
          let s3 = state_with_any t' to' answer.result in
          let st3 = record st2 { right = told to' n st.right } in
          let f3 = told_right around common w5 st2 s2 t' f2 to' n answer.result w in
          let st4 = record st2 { right = told raised' n4 (told to' n st.right) } in
          let f4 = told_right around common w5 st3 s2 s3 f3 raised' n4 (alerted answer) x in
          both_go w5 st4 s2 (state_with_any s3 raised' (alerted answer)) f4

      point_replies : Follows (after_nothing t answer) (after_nothing t' answer) (behind_point around common st)
      point_replies = both_go w5 (behind_point around common st) t t' after

    -- ---- one point

    no : {P : Type 0} → false ≡ true → P
    no e = absurd (let bad : false ≡ true = e in cc)

    module _ (v : Symbol → Word) (fits : Fits around common v st s s') (answers : List Answer) (go : Following) (o : Outcome) (d : Defined slots around common q frame o) where
      abbrev f : ℕ → Form
      f = left_form st

      abbrev f' : ℕ → Form
      f' = right_form common st

      pub points_so : (op op' : MidOp) → same_point f f' op op' ≡ true → carry_out (effect_of slots around s op) answers go ≡ Some o → Later slots around common q frame (passed op op' st) go → Does slots around common q frame (effect_of slots around s' op') st answers o
      points_so (ops.Call callee row result raised shown) (ops.Call callee' row' result' raised' shown') e run later =
          let p = both _ _ e in
          let p2 = both _ _ p.0 in
          let action = call_action slots around s callee row.now in
          let action' = call_action slots around s' callee' row'.now in
          let same = call_same slots around v st.fresh fits.words f f' s s' fits.left fits.right fits.rest callee callee' row.now row'.now p2.0 p2.1 in
          let events = event_same slots around v st.fresh fits.words f f' s s' fits.left fits.right fits.rest shown.now shown'.now action action' same p.1 in
          act_same (event_of slots around s shown.now action) (event_of slots around s' shown'.now action') (λ answer. after_call result raised (state_after slots around s answer) answer) (λ answer. after_call result' raised' (state_after slots around s' answer) answer)
          (passed (ops.Call callee row result raised shown) (ops.Call callee' row' result' raised' shown') st) events (λ answer. call_replies v fits answer result result' raised raised') answers go o d run later
      points_so (ops.Make to cell sizes shown) (ops.Make to' cell' sizes' shown') e run later =
          let p = both _ _ e in
          let p2 = both _ _ p.0 in
          let action = make_action slots around s cell sizes in
          let action' = make_action slots around s' cell' sizes' in
          let same = make_same slots around v st.fresh fits.words f f' s s' fits.left fits.right fits.rest cell cell' sizes sizes' (same_number cell cell' p2.0) (is_choice sizes sizes' p2.1) in
          let events = event_same slots around v st.fresh fits.words f f' s s' fits.left fits.right fits.rest shown.now shown'.now action action' same p.1 in
          act_same (event_of slots around s shown.now action) (event_of slots around s' shown'.now action') (λ answer. after_make to (state_after slots around s answer) answer) (λ answer. after_make to' (state_after slots around s' answer) answer)
          (passed (ops.Make to cell sizes shown) (ops.Make to' cell' sizes' shown') st) events (λ answer. make_replies v fits answer to to') answers go o d run later
      points_so (ops.Service service row to raised place shown) (ops.Service service' row' to' raised' place' shown') e run later =
          let p = both _ _ e in
          let p2 = both _ _ p.0 in
          let p3 = both _ _ p2.0 in
          let action = serve_action s service row.now in
          let action' = serve_action s' service' row'.now in
          let same = serve_same slots around v st.fresh fits.words f f' s s' fits.left fits.right fits.rest service service' row.now row'.now (is_service service service' p3.0) p3.1 in
          let events = event_same slots around v st.fresh fits.words f f' s s' fits.left fits.right fits.rest shown.now shown'.now action action' same p.1 in
          act_same (event_of slots around s shown.now action) (event_of slots around s' shown'.now action') (λ answer. after_service to raised place (state_after slots around s answer) answer) (λ answer. after_service to' raised' place' (state_after slots around s' answer) answer)
          (passed (ops.Service service row to raised place shown) (ops.Service service' row' to' raised' place' shown') st) events (λ answer. serve_replies v fits answer to to' raised raised' place place' answer.fault (is_place place place' p2.1)) answers go o d run later
      points_so (ops.Point shown) (ops.Point shown') e run later =
          let action : Option Action = Some Passes in
          let events = event_same slots around v st.fresh fits.words f f' s s' fits.left fits.right fits.rest shown.now shown'.now action action refl e in
          act_same (event_of slots around s shown.now action) (event_of slots around s' shown'.now action) (λ answer. after_nothing (state_after slots around s answer) answer) (λ answer. after_nothing (state_after slots around s' answer) answer)
          (passed (ops.Point shown) (ops.Point shown') st) events (λ answer. point_replies v fits answer) answers go o d run later
      points_so (ops.Number x0 x1) op' e run later = no e
      points_so (ops.Move x0 x1) op' e run later = no e
      points_so (ops.Arith x0 x1 x2 x3) op' e run later = no e
      points_so (ops.Checked x0 x1 x2 x3 x4) op' e run later = no e
      points_so (ops.Compare x0 x1 x2 x3) op' e run later = no e
      points_so (ops.Load x0 x1) op' e run later = no e
      points_so (ops.Store x0 x1) op' e run later = no e
      points_so (ops.SlotAddress x0 x1) op' e run later = no e
      points_so (ops.FrameAddress x0) op' e run later = no e
      points_so (ops.GlobalAddress x0 x1) op' e run later = no e
      points_so (ops.TextCell x0 x1) op' e run later = no e
      points_so (ops.ConstantAddress x0 x1) op' e run later = no e
      points_so (ops.Index x0 x1 x2 x3 x4) op' e run later = no e
      points_so (ops.Copy x0 x1 x2) op' e run later = no e
      points_so (ops.Fill x0 x1 x2) op' e run later = no e
      points_so (ops.EqualWords x0 x1 x2 x3) op' e run later = no e
      points_so (ops.Check x0 x1 x2 x3 x4) op' e run later = no e
      points_so (ops.TypeTest x0 x1 x2) op' e run later = no e
      points_so (ops.MethodOf x0 x1 x2) op' e run later = no e
      points_so (ops.TextByte x0 x1 x2) op' e run later = no e
      points_so (ops.EqualTexts x0 x1 x2) op' e run later = no e
      points_so (ops.Call x0 x1 x2 x3 x4) (ops.Number y0 y1) e run later = no e
      points_so (ops.Call x0 x1 x2 x3 x4) (ops.Move y0 y1) e run later = no e
      points_so (ops.Call x0 x1 x2 x3 x4) (ops.Arith y0 y1 y2 y3) e run later = no e
      points_so (ops.Call x0 x1 x2 x3 x4) (ops.Checked y0 y1 y2 y3 y4) e run later = no e
      points_so (ops.Call x0 x1 x2 x3 x4) (ops.Compare y0 y1 y2 y3) e run later = no e
      points_so (ops.Call x0 x1 x2 x3 x4) (ops.Load y0 y1) e run later = no e
      points_so (ops.Call x0 x1 x2 x3 x4) (ops.Store y0 y1) e run later = no e
      points_so (ops.Call x0 x1 x2 x3 x4) (ops.SlotAddress y0 y1) e run later = no e
      points_so (ops.Call x0 x1 x2 x3 x4) (ops.FrameAddress y0) e run later = no e
      points_so (ops.Call x0 x1 x2 x3 x4) (ops.GlobalAddress y0 y1) e run later = no e
      points_so (ops.Call x0 x1 x2 x3 x4) (ops.TextCell y0 y1) e run later = no e
      points_so (ops.Call x0 x1 x2 x3 x4) (ops.ConstantAddress y0 y1) e run later = no e
      points_so (ops.Call x0 x1 x2 x3 x4) (ops.Index y0 y1 y2 y3 y4) e run later = no e
      points_so (ops.Call x0 x1 x2 x3 x4) (ops.Copy y0 y1 y2) e run later = no e
      points_so (ops.Call x0 x1 x2 x3 x4) (ops.Fill y0 y1 y2) e run later = no e
      points_so (ops.Call x0 x1 x2 x3 x4) (ops.EqualWords y0 y1 y2 y3) e run later = no e
      points_so (ops.Call x0 x1 x2 x3 x4) (ops.Check y0 y1 y2 y3 y4) e run later = no e
      points_so (ops.Call x0 x1 x2 x3 x4) (ops.TypeTest y0 y1 y2) e run later = no e
      points_so (ops.Call x0 x1 x2 x3 x4) (ops.MethodOf y0 y1 y2) e run later = no e
      points_so (ops.Call x0 x1 x2 x3 x4) (ops.TextByte y0 y1 y2) e run later = no e
      points_so (ops.Call x0 x1 x2 x3 x4) (ops.EqualTexts y0 y1 y2) e run later = no e
      points_so (ops.Call x0 x1 x2 x3 x4) (ops.Make y0 y1 y2 y3) e run later = no e
      points_so (ops.Call x0 x1 x2 x3 x4) (ops.Service y0 y1 y2 y3 y4 y5) e run later = no e
      points_so (ops.Call x0 x1 x2 x3 x4) (ops.Point y0) e run later = no e
      points_so (ops.Make x0 x1 x2 x3) (ops.Number y0 y1) e run later = no e
      points_so (ops.Make x0 x1 x2 x3) (ops.Move y0 y1) e run later = no e
      points_so (ops.Make x0 x1 x2 x3) (ops.Arith y0 y1 y2 y3) e run later = no e
      points_so (ops.Make x0 x1 x2 x3) (ops.Checked y0 y1 y2 y3 y4) e run later = no e
      points_so (ops.Make x0 x1 x2 x3) (ops.Compare y0 y1 y2 y3) e run later = no e
      points_so (ops.Make x0 x1 x2 x3) (ops.Load y0 y1) e run later = no e
      points_so (ops.Make x0 x1 x2 x3) (ops.Store y0 y1) e run later = no e
      points_so (ops.Make x0 x1 x2 x3) (ops.SlotAddress y0 y1) e run later = no e
      points_so (ops.Make x0 x1 x2 x3) (ops.FrameAddress y0) e run later = no e
      points_so (ops.Make x0 x1 x2 x3) (ops.GlobalAddress y0 y1) e run later = no e
      points_so (ops.Make x0 x1 x2 x3) (ops.TextCell y0 y1) e run later = no e
      points_so (ops.Make x0 x1 x2 x3) (ops.ConstantAddress y0 y1) e run later = no e
      points_so (ops.Make x0 x1 x2 x3) (ops.Index y0 y1 y2 y3 y4) e run later = no e
      points_so (ops.Make x0 x1 x2 x3) (ops.Copy y0 y1 y2) e run later = no e
      points_so (ops.Make x0 x1 x2 x3) (ops.Fill y0 y1 y2) e run later = no e
      points_so (ops.Make x0 x1 x2 x3) (ops.EqualWords y0 y1 y2 y3) e run later = no e
      points_so (ops.Make x0 x1 x2 x3) (ops.Check y0 y1 y2 y3 y4) e run later = no e
      points_so (ops.Make x0 x1 x2 x3) (ops.TypeTest y0 y1 y2) e run later = no e
      points_so (ops.Make x0 x1 x2 x3) (ops.MethodOf y0 y1 y2) e run later = no e
      points_so (ops.Make x0 x1 x2 x3) (ops.TextByte y0 y1 y2) e run later = no e
      points_so (ops.Make x0 x1 x2 x3) (ops.EqualTexts y0 y1 y2) e run later = no e
      points_so (ops.Make x0 x1 x2 x3) (ops.Call y0 y1 y2 y3 y4) e run later = no e
      points_so (ops.Make x0 x1 x2 x3) (ops.Service y0 y1 y2 y3 y4 y5) e run later = no e
      points_so (ops.Make x0 x1 x2 x3) (ops.Point y0) e run later = no e
      points_so (ops.Service x0 x1 x2 x3 x4 x5) (ops.Number y0 y1) e run later = no e
      points_so (ops.Service x0 x1 x2 x3 x4 x5) (ops.Move y0 y1) e run later = no e
      points_so (ops.Service x0 x1 x2 x3 x4 x5) (ops.Arith y0 y1 y2 y3) e run later = no e
      points_so (ops.Service x0 x1 x2 x3 x4 x5) (ops.Checked y0 y1 y2 y3 y4) e run later = no e
      points_so (ops.Service x0 x1 x2 x3 x4 x5) (ops.Compare y0 y1 y2 y3) e run later = no e
      points_so (ops.Service x0 x1 x2 x3 x4 x5) (ops.Load y0 y1) e run later = no e
      points_so (ops.Service x0 x1 x2 x3 x4 x5) (ops.Store y0 y1) e run later = no e
      points_so (ops.Service x0 x1 x2 x3 x4 x5) (ops.SlotAddress y0 y1) e run later = no e
      points_so (ops.Service x0 x1 x2 x3 x4 x5) (ops.FrameAddress y0) e run later = no e
      points_so (ops.Service x0 x1 x2 x3 x4 x5) (ops.GlobalAddress y0 y1) e run later = no e
      points_so (ops.Service x0 x1 x2 x3 x4 x5) (ops.TextCell y0 y1) e run later = no e
      points_so (ops.Service x0 x1 x2 x3 x4 x5) (ops.ConstantAddress y0 y1) e run later = no e
      points_so (ops.Service x0 x1 x2 x3 x4 x5) (ops.Index y0 y1 y2 y3 y4) e run later = no e
      points_so (ops.Service x0 x1 x2 x3 x4 x5) (ops.Copy y0 y1 y2) e run later = no e
      points_so (ops.Service x0 x1 x2 x3 x4 x5) (ops.Fill y0 y1 y2) e run later = no e
      points_so (ops.Service x0 x1 x2 x3 x4 x5) (ops.EqualWords y0 y1 y2 y3) e run later = no e
      points_so (ops.Service x0 x1 x2 x3 x4 x5) (ops.Check y0 y1 y2 y3 y4) e run later = no e
      points_so (ops.Service x0 x1 x2 x3 x4 x5) (ops.TypeTest y0 y1 y2) e run later = no e
      points_so (ops.Service x0 x1 x2 x3 x4 x5) (ops.MethodOf y0 y1 y2) e run later = no e
      points_so (ops.Service x0 x1 x2 x3 x4 x5) (ops.TextByte y0 y1 y2) e run later = no e
      points_so (ops.Service x0 x1 x2 x3 x4 x5) (ops.EqualTexts y0 y1 y2) e run later = no e
      points_so (ops.Service x0 x1 x2 x3 x4 x5) (ops.Call y0 y1 y2 y3 y4) e run later = no e
      points_so (ops.Service x0 x1 x2 x3 x4 x5) (ops.Make y0 y1 y2 y3) e run later = no e
      points_so (ops.Service x0 x1 x2 x3 x4 x5) (ops.Point y0) e run later = no e
      points_so (ops.Point x0) (ops.Number y0 y1) e run later = no e
      points_so (ops.Point x0) (ops.Move y0 y1) e run later = no e
      points_so (ops.Point x0) (ops.Arith y0 y1 y2 y3) e run later = no e
      points_so (ops.Point x0) (ops.Checked y0 y1 y2 y3 y4) e run later = no e
      points_so (ops.Point x0) (ops.Compare y0 y1 y2 y3) e run later = no e
      points_so (ops.Point x0) (ops.Load y0 y1) e run later = no e
      points_so (ops.Point x0) (ops.Store y0 y1) e run later = no e
      points_so (ops.Point x0) (ops.SlotAddress y0 y1) e run later = no e
      points_so (ops.Point x0) (ops.FrameAddress y0) e run later = no e
      points_so (ops.Point x0) (ops.GlobalAddress y0 y1) e run later = no e
      points_so (ops.Point x0) (ops.TextCell y0 y1) e run later = no e
      points_so (ops.Point x0) (ops.ConstantAddress y0 y1) e run later = no e
      points_so (ops.Point x0) (ops.Index y0 y1 y2 y3 y4) e run later = no e
      points_so (ops.Point x0) (ops.Copy y0 y1 y2) e run later = no e
      points_so (ops.Point x0) (ops.Fill y0 y1 y2) e run later = no e
      points_so (ops.Point x0) (ops.EqualWords y0 y1 y2 y3) e run later = no e
      points_so (ops.Point x0) (ops.Check y0 y1 y2 y3 y4) e run later = no e
      points_so (ops.Point x0) (ops.TypeTest y0 y1 y2) e run later = no e
      points_so (ops.Point x0) (ops.MethodOf y0 y1 y2) e run later = no e
      points_so (ops.Point x0) (ops.TextByte y0 y1 y2) e run later = no e
      points_so (ops.Point x0) (ops.EqualTexts y0 y1 y2) e run later = no e
      points_so (ops.Point x0) (ops.Call y0 y1 y2 y3 y4) e run later = no e
      points_so (ops.Point x0) (ops.Make y0 y1 y2 y3) e run later = no e
      points_so (ops.Point x0) (ops.Service y0 y1 y2 y3 y4 y5) e run later = no e
