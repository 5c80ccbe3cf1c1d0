use Rattle.std.proofs.Common.{◌≡◌}
use Rattle.m3_run_memory_tests.proofs.steps.run_over.Given as goal

abbrev pub invariant-loop-i : goal.invariant-loop-i
invariant-loop-i g l = (g.S.Store.heap l.memory.heap.store).free ≡ (g.S.Store.heap l.initial.memory.heap.store).free
