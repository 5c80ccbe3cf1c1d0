use Rattle.std.proofs.Common.{◌≡◌, ◌+◌, ◌-◌, ◌<◌, ℕ, List, true, false, get_or, take, min, length}
use Rattle.m3_heap.specs.Cells.{total_words}
use Rattle.m3_heap.specs.CollectorScanning.{Scans, Grows}
use Rattle.m3_heap.specs.CollectorTracing.{IsTracing}
use Rattle.m3_generational.specs.Remembering.{marked_count}
use Rattle.m3_generational.specs.Collecting.{minor_left, IsKeeping}
use Rattle.m3_generational.proofs.remembering.scan_remembered.Given as goal

abbrev pub invariant-loop-place : goal.invariant-loop-place
invariant-loop-place g l = record {
  tracing : IsTracing (minor_left l.spaces) l.spaces.here;
  keeping : IsKeeping l.spaces;
  minor : l.spaces.is_minor ≡ true;
  tenured : l.spaces.tenured ≡ l.fn.spaces.tenured;
  found : l.spaces.found.value ≡ l.fn.spaces.found.value;
  base : l.base ≡ l.spaces.here.base;
  grows : Grows (minor_left l.fn.spaces) l.fn.spaces.here (minor_left l.spaces) l.spaces.here;
  there : l.place < length l.remembered → get_or l.remembered l.place false ≡ true;
  scans : (roots : List ℕ) → Scans (g.M.Maps.shapes l.maps) roots (minor_left l.fn.spaces) l.fn.spaces.here l.fn.spaces.here.base → Scans (g.M.Maps.shapes l.maps) roots (minor_left l.spaces) l.spaces.here (l.base + min l.place l.tenured);
  cost : l.steps + total_words l.fn.spaces.here.cells ≡ l.fn.steps + marked_count (take (min l.place l.tenured) l.remembered) + total_words l.spaces.here.cells;
}

abbrev pub decreases-loop-place : goal.decreases-loop-place
decreases-loop-place g l = l.tenured - l.place
