use Rattle.std.proofs.Common.{◌≡◌, true}
use Rattle.m3_heap_bench.specs.Layouts.{layouts}
use Rattle.m3_heap_bench.proofs.collecting.collect.Given as goal

abbrev pub invariant-loop-root : goal.invariant-loop-root
invariant-loop-root g l = record {
  opened : (g.S.Store.heap l.heap).is_open ≡ true;
  fitting : g.S.Store.fits l.heap layouts;
}
