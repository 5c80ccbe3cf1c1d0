use Rattle.std.specs.List.{slice_get}
use Rattle.m3_tables.specs.Views.{entries_of}
use Rattle.m3_tables.specs.Tables.{derived_in}
use Rattle.m3_tables.proofs.ViewLemmas.{none_left}
use Rattle.m3_tables.proofs.row.Row.derived.Goals as goal

pub returns-in_err-next : goal.returns-in_err-next
returns-in_err-next c =
    rw c.from_residual.ensures (none_left (entries_of c.loop.entries) c.args.n c.loop.counter (slice_get (derived_in c.args.self.now) c.args.n) c.in_err-next.ensures.steps.0 c.loop.invariant)
