use Rattle.m3c_inspect_command.proofs.InspectLemmas.{never_fourteen}
use Rattle.m3c_inspect_command.proofs.spent_is_shown_or_trapped.Goals as goal

pub returns : goal.returns
returns c = λ i setting tells out status line answer. never_fourteen i setting tells out status line answer
