use Rattle.m3_runs.proofs.Growing as law
use Rattle.m3_mid_programs.specs.Programs.{mid_language}
use Rattle.m3_mid_programs_tests.proofs.budget_ends.Goals as goal

pub returns : goal.returns
returns d linked given = law.budget_ends (mid_language linked) given
