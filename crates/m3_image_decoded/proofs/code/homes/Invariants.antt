use Rattle.std.proofs.Common.{◌≡◌, ℕ, Some, length}
use Rattle.std.specs.List.{slice_get}
use Rattle.m3_image_sections.specs.declared.procs.ProcPart.{ProcPart}
use Rattle.m3_image_sections.specs.Ranges.{containing}
use Rattle.m3_image.specs.Views.{image_view}
use Rattle.m3_image_decoded.proofs.code.homes.Given as goal

abbrev pub invariant-loop-n : goal.invariant-loop-n
invariant-loop-n l =
    ((k : ℕ) (p : ProcPart) → slice_get l.found.items k ≡ Some p → containing (image_view l.image).program.procs k ≡ Some p) × (length l.found.items ≡ l.n)
