use Rattle.std.proofs.Common.{sym, ap, subst}
use Rattle.m3_threads.specs.Actions.{alert_marked, with_threads}
use Rattle.m3_threads.specs.PlacesInside.{MayBecome}
use Rattle.m3_threads.proofs.Places.{updated-missing}
use Rattle.m3_threads.proofs.Changes.{may-alert}
use Rattle.m3_threads.proofs.threads.Threads.mark.Goals as goal

pub returns-in_default : goal.returns-in_default
returns-in_default c =
    sym (ap (with_threads c.args.self.now) (updated-missing alert_marked c.args.number c.args.self.now.threads (sym c.in_default.ensures.found)))

pub set-requires : goal.set-requires
set-requires c = (c.in-Some.t, sym c.in-Some.ensures.found, subst (MayBecome c.in-Some.t) (sym c.marked.ensures) (may-alert c.in-Some.t))
