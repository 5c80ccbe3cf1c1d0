use Rattle.m3_runs.proofs.Courses as law
use Rattle.m3_mid_programs.specs.Programs.{mid_language}
use Rattle.m3_mid_programs_tests.proofs.goes_further.Goals as goal

pub returns : goal.returns
returns d linked given = law.goes_on (mid_language linked) given
