use Rattle.m3_run_laws.proofs.Agreeing.{one_answer}
use Rattle.m3_run_laws.proofs.requests_have_one_answer.Goals as goal

pub returns : goal.returns
returns c = λ kind words s one other a b none p q. one_answer kind words s one other a b none p q
