use Rattle.std.proofs.Common.{◌≡◌, ◌++◌, List, length}
use Rattle.m3_image_sections.specs.declared.procs.ProcPart.{ProcPart}
use Rattle.m3_image_sections.specs.PartViews.{procs_of}
use Rattle.m3_image_decoded.specs.Ready.{image_of}
use Rattle.m3_image_dump.specs.Texts.{Adds, ProcsText}
use Rattle.m3_image_dump.proofs.lines.put_procs.Given as goal

abbrev pub invariant-procs : goal.invariant-procs
invariant-procs l =
    (done : List ProcPart)
    × (done ++ procs_of l.proc-iterator ≡ (image_of l.image).program.procs)
    × (l.number ≡ length done)
    × Adds (ProcsText (image_of l.image).program done) l.fn.text.items l.text.items
