use Rattle.std.proofs.Common.{◌≡◌, take}
use Rattle.std.specs.List.{flat_map, AllByRecursion}
use Rattle.m3_image_sections.specs.Parts.{proc_in}
use Rattle.m3_image_writer.specs.Sections.{proc_bytes}
use Rattle.m3_image_writer.specs.Again.{ReadsFixed}
use Rattle.m3_image_writer.proofs.sections.put_procs.Given as goal

abbrev pub invariant-loop-proc : goal.invariant-loop-proc
invariant-loop-proc l =
    record {
      bytes : l.section.items ≡ flat_map proc_bytes (take l.proc-index l.procs);
      again : AllByRecursion (λ p. ReadsFixed 16 proc_in (proc_bytes p) p) (take l.proc-index l.procs);
    }
