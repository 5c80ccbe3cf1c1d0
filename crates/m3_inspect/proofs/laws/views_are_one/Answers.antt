use Rattle.m3_inspect.proofs.OnceLemmas.{view_once}
use Rattle.m3_inspect.proofs.laws.views_are_one.Goals as goal

pub returns : goal.returns
returns c = λ i all globals s u good one other. view_once i all globals s u good one other
