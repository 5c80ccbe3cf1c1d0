use Rattle.std.proofs.Common.{◌≤◌, ◌<◌, length, map}
use Rattle.m3_image_decoded.specs.Ready.{image_of}
use Rattle.m3_inspect.specs.Shown.{shown_thread, ShowThreads}
use Rattle.m3_inspect.proofs.views.put_threads.Given as goal

abbrev pub invariant-loop-place : goal.invariant-loop-place
invariant-loop-place l = record {
  shown : ShowThreads (image_of l.fn.image) l.fn.threads l.fn.cells.keys l.place (map shown_thread l.views.items) l.cells.keys;
  few : l.place ≤ length l.fn.threads.threads;
  last : 0 < l.place → length l.fn.threads.threads ≤ 64;
}
