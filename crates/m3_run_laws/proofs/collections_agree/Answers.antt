use Rattle.m3_run_laws.proofs.Agreeing.{same_kept}
use Rattle.m3_run_laws.proofs.collections_agree.Goals as goal

pub returns : goal.returns
returns c = λ p s t u good one other. same_kept p s t u good one other
