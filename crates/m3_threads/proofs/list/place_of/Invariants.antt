use Rattle.m3_threads.proofs.Places.{Passed}
use Rattle.m3_threads.proofs.list.place_of.Given as goal

abbrev pub invariant-loop-k : goal.invariant-loop-k
invariant-loop-k l = Passed l.number l.threads l.k
