use Rattle.std.proofs.Common.{sym, ◌∙◌}
use Rattle.m3_same_run.proofs.WholeRun.{whole}
use Rattle.m3_same_run.proofs.check.have_same_run.Goals as goal

pub returns : goal.returns
returns c = λ e.
    whole c.args.common.now c.args.p.now c.args.q.now 1 c.args.proof.now (sym c.in_ok-is_same.ensures ∙ e)
