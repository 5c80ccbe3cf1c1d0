use Rattle.std.proofs.Common.{◌≡◌, IfOk, [], sym, ap, ◌∙◌, subst}
use Rattle.m3_mid.specs.declared.procs.End.TheVariants.{Goto}
use Rattle.m3_same_run.specs.Check.{Standing, advance, follow}
use Rattle.m3_same_run.proofs.FollowingJumps.{empty_so, followed, stayed}
use Rattle.m3_same_run.proofs.standing.Standing.resolve.Goals as goal

pub returns-in-Some : goal.returns-in-Some
returns-in-Some c =
    let st = c.in_ok-st.st in
    let eo : st.ops ≡ [] = sym (ap (λ z. z.ops) c.st.view_is) ∙ empty_so c.st.inside.ops.now c.if-not-is_empty.ensures in
    let ee : st.end ≡ Goto c.in-Goto.b = sym (ap (λ z. z.end) c.st.view_is) ∙ c.in-Goto.is in
    let next : Standing → Standing = λ x. advance c.args.judge.slots.now c.args.judge.common.now x.ops x in
    let whole = ap next c.in_block.ensures ∙ followed c.args.judge.right c.in-Goto.b c.in-Some.block st next eo ee c.in-Some.ensures ∙ ap (λ z. follow c.args.judge.right z.ops z.end z next) c.in_ok-st.ensures in
    subst (λ z. IfOk c.advance-in-Some.result (λ x. x ≡ z)) whole c.advance-in-Some.ensures

pub returns-in-None : goal.returns-in-None
returns-in-None c =
    let st = c.in_ok-st.st in
    let eo : st.ops ≡ [] = sym (ap (λ z. z.ops) c.st.view_is) ∙ empty_so c.st.inside.ops.now c.if-not-is_empty.ensures in
    let ee : st.end ≡ Goto c.in-Goto.b = sym (ap (λ z. z.end) c.st.view_is) ∙ c.in-Goto.is in
    let next : Standing → Standing = λ x. advance c.args.judge.slots.now c.args.judge.common.now x.ops x in
    stayed c.args.judge.right c.in-Goto.b st next eo ee c.in-None.ensures ∙ ap (λ z. follow c.args.judge.right z.ops z.end z next) c.in_ok-st.ensures
