use Rattle.m3_runs.proofs.Once.{runs_once}
use Rattle.m3_mid_programs.specs.Programs.{mid_language}
use Rattle.m3_mid_programs.proofs.Determined.{determined}
use Rattle.m3_mid_programs.proofs.one_run.Goals as goal

pub returns : goal.returns
returns d linked given = runs_once (mid_language linked) (determined linked) given
