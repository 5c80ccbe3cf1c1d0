use Rattle.std.proofs.Common.{◌≡◌}
use Rattle.m3_image_sections.specs.Forms.{follow_from}
use Rattle.m3_image_sections.specs.PartViews.{procs_of}
use Rattle.m3_image_sections.proofs.procs.Procs.follow.Given as goal

abbrev pub invariant-loop-proc : goal.invariant-loop-proc
invariant-loop-proc l = follow_from l.end (procs_of l.proc-iterator) ≡ follow_from 0 (procs_of l.self)
