use Rattle.m3_plain_runs.proofs.Ending.{runs-end}
use Rattle.m3_plain_runs.proofs.plain_runs.Goals as goal

pub returns : goal.returns
returns c = λ text name puts heap threads stack points input from d plain enough small begun leads.
    runs-end text name puts heap threads stack points input from d plain enough small begun leads
