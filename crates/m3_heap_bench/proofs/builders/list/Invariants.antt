use Rattle.std.proofs.Common.{◌≡◌, false, List}
use Rattle.m3_heap.specs.Shapes.{Shape}
use Rattle.m3_heap_bench.proofs.builders.list.Given as goal

abbrev pub invariant-loop-number : goal.invariant-loop-number
invariant-loop-number g l = record {
  closed : (g.S.Store.heap l.heap).is_open ≡ false;
  fitting : (shapes : List Shape) → g.S.Store.fits l.initial.heap shapes → g.S.Store.fits l.heap shapes;
}
