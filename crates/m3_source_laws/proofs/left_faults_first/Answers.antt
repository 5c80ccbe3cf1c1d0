use Rattle.m3_source_meaning.proofs.Laws.{left_faults_first}
use Rattle.m3_source_laws.proofs.left_faults_first.Goals as goal

pub returns : goal.returns
returns d = left_faults_first
