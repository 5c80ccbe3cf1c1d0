use Rattle.std.proofs.Common.{◌≡◌, ◌+◌, ◌<◌, ◌^◌, length}
use Rattle.m3_image_sections.specs.PartViews.{procs_of}
use Rattle.m3_image.specs.Views.{image_view}
use Rattle.m3_inspect.specs.Standing.{proc_number}
use Rattle.m3_inspect.proofs.frames.proc_number.Given as goal

abbrev pub invariant-procs : goal.invariant-procs
invariant-procs l = record {
  so_far : l.number + proc_number l.fn.instr (procs_of l.proc-iterator) ≡ proc_number l.fn.instr (image_view l.fn.image).program.procs;
  few : l.number + length (procs_of l.proc-iterator) < 2 ^ 64;
}
