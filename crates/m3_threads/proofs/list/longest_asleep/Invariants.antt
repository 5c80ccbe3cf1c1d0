use Rattle.m3_threads.specs.PlacesInside.{IsLongestBelow}
use Rattle.m3_threads.proofs.list.longest_asleep.Given as goal

abbrev pub invariant-loop-k : goal.invariant-loop-k
invariant-loop-k l = IsLongestBelow l.condition l.threads l.k l.best
