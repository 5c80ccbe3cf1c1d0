use Rattle.std.proofs.Common.{rules, ◌≡◌, length}
use Rattle.m3_image_sections.specs.Parts.{proc_in}
use Rattle.m3_image_sections.specs.PartViews.{procs_of}
use Rattle.m3_image_sections.proofs.ListLemmas.{length_each}
use Rattle.m3_inspect.proofs.frames.proc_number.Goals as goal

pub procs-init : goal.procs-init
procs-init c =
    let it = c.into_iter-proc-iterator.result in
    let count : length (procs_of it) ≡ it.count = length_each 16 proc_in it.count it.bytes.now in
    record { so_far = search rules; few = search (rules, count) }
