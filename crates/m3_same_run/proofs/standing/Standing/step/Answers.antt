use Rattle.std.proofs.Common.{◌≡◌, IfOk, None, ap, ◌∙◌, subst}
use Rattle.m3_same_forms.specs.Seen.{seen}
use Rattle.m3_same_forms.specs.Sides.{form_at}
use Rattle.m3_same_run.specs.Check.{meeting, step_seen, left_form}
use Rattle.m3_same_run.proofs.standing.Standing.step.Goals as goal

pub returns : goal.returns
returns c =
    let st = c.args.self in
    let slots = c.args.judge.slots.now in
    let items : c.deref.result.now ≡ st.left = c.deref.ensures.value ∙ ap (λ z. z.left) c.self.view_is in
    let same : c.in_ok-x.x ≡ seen slots (left_form st) c.args.op.now = c.in_ok-x.ensures ∙ ap (λ ls. seen slots (form_at None ls) c.args.op.now) items in
    subst (λ z. IfOk c.step_seen.result (λ o. o ≡ step_seen z st (meeting slots c.args.judge.common.now c.args.judge.right 1 c.args.op.now z st))) same c.step_seen.ensures
