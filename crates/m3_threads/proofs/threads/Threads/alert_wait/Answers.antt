use Rattle.std.proofs.Common.{◌≡◌, sym, subst}
use Rattle.m3_threads.specs.Actions.{IsAfter, alert_waits, alert_waits_at}
use Rattle.m3_threads.proofs.threads.Threads.alert_wait.Goals as goal

pub returns-in-Wants-clause-after : goal.returns-in-Wants-clause-after
returns-in-Wants-clause-after g c = λ t e.
    let all = c.args.self.now in
    let m = g.W.Words.holds c.args.mem.now in
    let can = g.W.Words.writable c.args.mem.now in
    let i = c.args.i in
    let same : c.thread-t.result ≡ t = cc in
    subst (λ u. IsAfter (alert_waits u i all m can) c.relock.result c.relock.new.self (g.W.Words.holds c.relock.new.mem)) same
    (subst (λ s. IsAfter (alert_waits_at s c.thread-t.result i all m can) c.relock.result c.relock.new.self (g.W.Words.holds c.relock.new.mem)) (sym c.in-Wants.is) (c.relock.ensures.after c.in-Wants.field-0))
