use Rattle.std.proofs.Common.{◌≡◌, true, false, Some, None, sym, ap, ◌∙◌}
use Rattle.m3_same_forms.specs.Same.{same_point}
use Rattle.m3_same_forms.specs.Sides.{form_at}
use Rattle.m3_same_run.specs.Check.{left_form, right_form, passed, when}
use Rattle.m3_same_run.proofs.standing.Standing.pass_same.Goals as goal

pub returns-in_ok-pass : goal.returns-in_ok-pass
returns-in_ok-pass c =
    let st = c.args.self.now in
    let common = c.args.judge.common.now in
    let op = c.args.op.now in
    let other = c.args.other.now in
    let left : c.deref.result.now ≡ st.left = c.deref.ensures.value ∙ ap (λ z. z.left) c.self.view_is in
    let right : c.deref-2.result.now ≡ st.right = c.deref-2.ensures.value ∙ ap (λ z. z.right) c.self.view_is in
    let same : same_point (left_form st) (right_form common st) op other ≡ true =
    sym (c.in_ok-same_point.ensures ∙ ap (λ ls. same_point (form_at None ls) (form_at (Some common) c.deref-2.result.now) op other) left
    ∙ ap (λ ls. same_point (left_form st) (form_at (Some common) ls) op other) right) ∙ c.if-branch.true in
    ap (λ b. when b (passed op other st)) same ∙ ap (λ z. Some z) (sym c.in_ok-pass.ensures)

pub returns-else-branch : goal.returns-else-branch
returns-else-branch c =
    let st = c.args.self.now in
    let common = c.args.judge.common.now in
    let op = c.args.op.now in
    let other = c.args.other.now in
    let left : c.deref.result.now ≡ st.left = c.deref.ensures.value ∙ ap (λ z. z.left) c.self.view_is in
    let right : c.deref-2.result.now ≡ st.right = c.deref-2.ensures.value ∙ ap (λ z. z.right) c.self.view_is in
    let same : same_point (left_form st) (right_form common st) op other ≡ false =
    sym (c.in_ok-same_point.ensures ∙ ap (λ ls. same_point (form_at None ls) (form_at (Some common) c.deref-2.result.now) op other) left
    ∙ ap (λ ls. same_point (left_form st) (form_at (Some common) ls) op other) right) ∙ c.if-branch.false in
    ap (λ b. when b (passed op other st)) same
