-- What the runs of linked programs keep to, whatever the program.
use Rattle.m3_runs.specs.Laws as law
use Rattle.m3_runs.specs.States.{Given}
use Rattle.m3_mid_programs.specs.Linked.{Linked}
use Rattle.m3_mid_programs.specs.Programs.{mid_language}

abbrev pub GoesOn : Type 0
GoesOn = (linked : Linked) (given : Given) → law.GoesOn (mid_language linked) given

abbrev pub OutputGrows : Type 0
OutputGrows = (linked : Linked) (given : Given) → law.OutputGrows (mid_language linked) given

abbrev pub BudgetEnds : Type 0
BudgetEnds = (linked : Linked) (given : Given) → law.BudgetEnds (mid_language linked) given
