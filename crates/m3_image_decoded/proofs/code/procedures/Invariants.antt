use Rattle.std.proofs.Common.{◌≡◌, ◌++◌}
use Rattle.m3_image.specs.Views.{image_view}
use Rattle.m3_image_sections.specs.PartViews.{procs_of}
use Rattle.m3_image_decoded.proofs.code.procedures.Given as goal

abbrev pub invariant-loop-proc : goal.invariant-loop-proc
invariant-loop-proc l = l.found.items ++ procs_of l.proc-iterator ≡ (image_view l.image).program.procs
