use Rattle.std.proofs.Common.{◌≡◌, ◌+◌, ℕ, true, List, length}
use Rattle.m3_heap.specs.Cells.{header, is_start, words_from, total_words}
use Rattle.m3_heap.specs.CollectorScanning.{Scans, Grows, met}
use Rattle.m3_heap.specs.CollectorTracing.{IsTracing}
use Rattle.m3_heap.proofs.copying.scan_cell.Given as goal

abbrev pub invariant-loop-place : goal.invariant-loop-place
invariant-loop-place g l = record {
  keeping : g.C.Copying.keeps l.copying;
  tracing : IsTracing (g.C.Copying.left l.copying) (g.C.Copying.kept l.copying);
  starts : is_start (g.C.Copying.kept l.copying).cells l.start ≡ true;
  same_length : length (words_from (g.C.Copying.kept l.copying).cells l.start) ≡ length (words_from (g.C.Copying.kept l.fn.copying).cells l.start);
  same_header : header (words_from (g.C.Copying.kept l.copying).cells l.start) ≡ header (words_from (g.C.Copying.kept l.fn.copying).cells l.start);
  grows : Grows (g.C.Copying.left l.fn.copying) (g.C.Copying.kept l.fn.copying) (g.C.Copying.left l.copying) (g.C.Copying.kept l.copying);
  scans : (roots : List ℕ) → Scans (g.M.Maps.shapes l.maps) roots (g.C.Copying.left l.fn.copying) (g.C.Copying.kept l.fn.copying) l.start → Scans (g.M.Maps.shapes l.maps) roots (g.C.Copying.left l.copying) (g.C.Copying.kept l.copying) (l.start + l.place);
  cost : l.steps + met (g.M.Maps.shapes l.maps) (g.C.Copying.left l.fn.copying) (g.C.Copying.kept l.fn.copying) l.start + total_words (g.C.Copying.kept l.fn.copying).cells ≡ l.fn.steps + met (g.M.Maps.shapes l.maps) (g.C.Copying.left l.copying) (g.C.Copying.kept l.copying) (l.start + l.place) + total_words (g.C.Copying.kept l.copying).cells;
}
