use Rattle.std.proofs.Common.{◌≡◌, false, sym, ap, ◌∙◌}
use Rattle.m3_threads.specs.Going.{entry_goes}
use Rattle.m3_threads.proofs.Choosing.{choice_lowest}
use Rattle.m3_threads.proofs.threads.Threads.choose.Goals as goal
use Rattle.m3_threads.proofs.threads.Threads.choose.Goals.{in-Some+else-may_go_if_there, in_default}

pub returns-else-may_go_if_there-2 : goal.returns-else-may_go_if_there-2
returns-else-may_go_if_there-2 g c =
    let all = c.args.self.now in
    let m = g.W.Words.holds c.args.mem.now in
    let entry : entry_goes all m c.args.to ≡ false =
    elim c.match-to.branch [
      | in-Some+else-may_go_if_there w ↦ ap (entry_goes all m) w.in-Some.is ∙ sym w.may_go_if_there.ensures ∙ w.if-may_go_if_there.false
      | in_default w ↦ ap (entry_goes all m) w.in_default.is
    ] in
    choice_lowest all m c.args.to c.args.running c.lowest.result entry (sym c.may_go_if_there-2.ensures ∙ c.if-may_go_if_there-2.false) c.lowest.ensures.lowest c.lowest.ensures.none
