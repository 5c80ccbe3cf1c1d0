use Rattle.std.proofs.Common.{◌≡◌, IfOk, List, Some, sym, ap, ◌∙◌, subst}
use Rattle.std.specs.Prelude.{if◌then◌else◌}
use Rattle.m3_mid.specs.declared.ops.MidOp.{MidOp}
use Rattle.m3_same_forms.specs.declared.seen.Seen.TheVariants.{Computes}
use Rattle.m3_same_forms.specs.Seen.{seen}
use Rattle.m3_same_forms.specs.Sides.{form_at}
use Rattle.m3_same_run.specs.Check.{Standing, right_form, go_right, at_ops}
use Rattle.m3_same_run.proofs.standing.Standing.go_right.Goals as goal

pub returns-in-Computes : goal.returns-in-Computes
returns-in-Computes c =
    let st = c.args.self.now in
    let slots = c.args.judge.slots.now in
    let common = c.args.judge.common.now in
    let op = c.args.op.now in
    let there = c.set_known.new.self in
    let items : c.deref.result.now ≡ st.right = c.deref.ensures.value ∙ ap (λ z. z.right) c.self.view_is in
    let sees : seen slots (right_form common st) op ≡ Computes c.in-Computes.to c.in-Computes.query =
    sym (c.in_ok-to.ensures ∙ ap (λ ls. seen slots (form_at (Some common) ls) op) items) ∙ c.in-Computes.is in
    subst (λ z. IfOk c.set_known.result (λ b. (stop : List MidOp) (next : Standing → Standing) → go_right z stop st next ≡ (if b then next there else at_ops there stop))) (sym sees) c.set_known.ensures
