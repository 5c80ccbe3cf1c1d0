use Rattle.std.proofs.Common.{◌≡◌}
use Rattle.m3_image_sections.specs.Ranges.{end_from}
use Rattle.m3_image_sections.specs.PartViews.{procs_of}
use Rattle.m3_image_sections.proofs.procs.Procs.end.Given as goal

abbrev pub invariant-loop-proc : goal.invariant-loop-proc
invariant-loop-proc l = end_from l.end (procs_of l.proc-iterator) ≡ end_from 0 (procs_of l.self)
