use Rattle.std.proofs.Common.{◌≡◌, false}
use Rattle.m3_heap_bench.proofs.tests.heap_of.Given as goal

abbrev pub invariant-loop-i : goal.invariant-loop-i
invariant-loop-i l = l.heap.halves.is_open ≡ false
