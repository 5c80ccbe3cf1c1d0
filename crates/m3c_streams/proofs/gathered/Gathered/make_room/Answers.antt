use Rattle.std.proofs.lemmas.Result.{on_err_weaker}
use Rattle.m3c_streams.proofs.Steps.{flush_fails}
use Rattle.m3c_streams.proofs.gathered.Gathered.make_room.Goals as goal

pub returns-then-count-len-clause-failed : goal.returns-then-count-len-clause-failed
returns-then-count-len-clause-failed g c =
    on_err_weaker c.flush.result (λ h. flush_fails c.args.self.now c.flush.new.self c.flush.ensures.nothing c.flush.ensures.faults h.0 c.flush.ensures.told h.1) c.flush.ensures.failed
