use Rattle.std.proofs.Common.{sym}
use Rattle.m3_run_meaning.proofs.near.is_of_type.Goals as goal

pub returns : goal.returns
returns g c = (c.in_ok-kind.kind, sym c.in_ok-kind.ensures.kind, c.is_subtype.ensures)
