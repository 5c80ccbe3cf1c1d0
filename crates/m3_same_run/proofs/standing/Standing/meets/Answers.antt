use Rattle.std.proofs.Common.{◌≡◌, ◌∷◌, Bool, Some, None, Option, sym, ap, ◌∙◌}
use Rattle.std.specs.Prelude.{if◌then◌else◌}
use Rattle.m3_same_forms.specs.Seen.{seen}
use Rattle.m3_same_run.specs.Check.{Standing, matched, with_right, left_form, right_form, at_ops}
use Rattle.m3_same_run.proofs.standing.Standing.meets.Goals as goal

pub returns-then-branch : goal.returns-then-branch
returns-then-branch c =
    let slots = c.args.judge.slots.now in
    let common = c.args.judge.common.now in
    let op = c.args.op.now in
    let x = c.args.x.now in
    let other = c.in-Some.other.now in
    let ops : c.args.self.ops ≡ other ∷ c.in-Some.rest.now = sym (ap (λ z. z.ops) c.self.view_is) ∙ c.in-Some.ensures.cases.0 in
    let on = ap (λ z. with_right slots common op x z c.args.self) ops in
    let st : c.at_ops-st.result ≡ at_ops c.args.self c.in-Some.rest.now = c.at_ops-st.ensures in
    let pick : Bool → Option Standing = λ b. if b then Some c.matches_op.new.self else None in
    sym (on ∙ sym (ap (λ z. matched op other (left_form z) (right_form common z) x (seen slots (right_form common z) other) z) st) ∙ c.in_ok-matches_op-in-Some.ensures ∙ ap pick c.if-branch.true)

pub returns : goal.returns
returns c =
    let slots = c.args.judge.slots.now in
    let common = c.args.judge.common.now in
    let op = c.args.op.now in
    let x = c.args.x.now in
    let other = c.in-Some.other.now in
    let ops : c.args.self.ops ≡ other ∷ c.in-Some.rest.now = sym (ap (λ z. z.ops) c.self.view_is) ∙ c.in-Some.ensures.cases.0 in
    let on = ap (λ z. with_right slots common op x z c.args.self) ops in
    let st : c.at_ops-st.result ≡ at_ops c.args.self c.in-Some.rest.now = c.at_ops-st.ensures in
    let pick : Bool → Option Standing = λ b. if b then Some c.matches_op.new.self else None in
    sym (on ∙ sym (ap (λ z. matched op other (left_form z) (right_form common z) x (seen slots (right_form common z) other) z) st) ∙ c.in_ok-matches_op-in-Some.ensures ∙ ap pick c.if-branch.false)
