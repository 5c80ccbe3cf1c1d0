use Rattle.m3_threads.specs.Spaces.{held}
use Rattle.m3_threads.specs.Going.{may_go_in}
use Rattle.m3_threads.proofs.Choosing.{Fails}
use Rattle.m3_threads.proofs.threads.Threads.lowest.Given as goal

abbrev pub invariant-loop-t : goal.invariant-loop-t
invariant-loop-t g l = Fails (may_go_in (held l.self (g.W.Words.holds l.mem))) l.t-items l.t-index
