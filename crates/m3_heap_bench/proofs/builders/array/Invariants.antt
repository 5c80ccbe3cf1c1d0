use Rattle.std.proofs.Common.{◌≡◌, false}
use Rattle.m3_heap_bench.proofs.builders.array.Given as goal

abbrev pub invariant-loop-place : goal.invariant-loop-place
invariant-loop-place l = l.heap.halves.is_open ≡ false
