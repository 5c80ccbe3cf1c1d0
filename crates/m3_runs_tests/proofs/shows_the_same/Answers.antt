use Rattle.m3_runs_tests.proofs.Starting.{shows_same}
use Rattle.m3_runs_tests.proofs.shows_the_same.Goals as goal

pub returns : goal.returns
returns d c k check w s s' good good' sh = shows_same c k check w s s' good good' sh
