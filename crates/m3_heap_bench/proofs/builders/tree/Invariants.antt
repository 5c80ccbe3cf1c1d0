use Rattle.std.proofs.Common.{◌≡◌, false}
use Rattle.m3_heap_bench.proofs.builders.tree.Given as goal

abbrev pub invariant-loop-number : goal.invariant-loop-number
invariant-loop-number l = l.heap.halves.is_open ≡ false

abbrev pub invariant-loop-i : goal.invariant-loop-i
invariant-loop-i l = l.heap.halves.is_open ≡ false
