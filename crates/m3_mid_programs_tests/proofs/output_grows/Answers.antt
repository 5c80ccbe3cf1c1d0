use Rattle.m3_runs.proofs.Growing as law
use Rattle.m3_mid_programs.specs.Programs.{mid_language}
use Rattle.m3_mid_programs_tests.proofs.output_grows.Goals as goal

pub returns : goal.returns
returns d linked given = law.output_grows (mid_language linked) given
