use Rattle.std.proofs.Common.{sym, subst, refl, IsSome}
use Rattle.m3_threads.specs.All.{thread_named}
use Rattle.m3_threads.specs.Actions.{alert_marked}
use Rattle.m3_threads.proofs.Places.{named-updated}
use Rattle.m3_threads.proofs.threads.Threads.alert.Goals as goal

pub go_on_at-requires : goal.go_on_at-requires
go_on_at-requires g c =
    subst (λ v. IsSome (thread_named v c.args.thread)) (sym c.mark.ensures)
    (named-updated alert_marked c.in-Some.other c.args.thread c.args.self.now.threads (λ t. refl) c.requires.there)
