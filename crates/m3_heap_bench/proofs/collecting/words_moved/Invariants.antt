use Rattle.std.proofs.Common.{◌≡◌, false}
use Rattle.m3_heap_bench.specs.Layouts.{layouts}
use Rattle.m3_heap_bench.proofs.collecting.words_moved.Given as goal

abbrev pub invariant-loop-round : goal.invariant-loop-round
invariant-loop-round g l = record {
  closed : (g.S.Store.heap l.heap).is_open ≡ false;
  fitting : g.S.Store.fits l.heap layouts;
}
