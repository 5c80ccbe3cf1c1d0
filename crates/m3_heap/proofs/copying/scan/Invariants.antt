use Rattle.std.proofs.Common.{◌≡◌, ◌+◌, ◌-◌, ℕ, List}
use Rattle.m3_heap.specs.Cells.{total_words}
use Rattle.m3_heap.specs.CollectorScanning.{Scans, Grows, met, IsBoundary}
use Rattle.m3_heap.specs.CollectorTracing.{IsTracing}
use Rattle.m3_heap.proofs.copying.scan.Given as goal

abbrev pub invariant-loop-at : goal.invariant-loop-at
invariant-loop-at g l = record {
  keeping : g.C.Copying.keeps l.copying;
  tracing : IsTracing (g.C.Copying.left l.copying) (g.C.Copying.kept l.copying);
  boundary : IsBoundary (g.C.Copying.kept l.copying) l.at;
  grows : Grows (g.C.Copying.left l.fn.copying) (g.C.Copying.kept l.fn.copying) (g.C.Copying.left l.copying) (g.C.Copying.kept l.copying);
  scans : (roots : List ℕ) → Scans (g.M.Maps.shapes l.maps) roots (g.C.Copying.left l.fn.copying) (g.C.Copying.kept l.fn.copying) l.from → Scans (g.M.Maps.shapes l.maps) roots (g.C.Copying.left l.copying) (g.C.Copying.kept l.copying) l.at;
  cost : l.steps + met (g.M.Maps.shapes l.maps) (g.C.Copying.left l.fn.copying) (g.C.Copying.kept l.fn.copying) l.from + total_words (g.C.Copying.kept l.fn.copying).cells ≡ l.fn.steps + met (g.M.Maps.shapes l.maps) (g.C.Copying.left l.copying) (g.C.Copying.kept l.copying) l.at + total_words (g.C.Copying.kept l.copying).cells;
}

abbrev pub decreases-loop-at : goal.decreases-loop-at
decreases-loop-at g l = (g.C.Copying.kept l.copying).base + (g.C.Copying.kept l.copying).size - l.at
