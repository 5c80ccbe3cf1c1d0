use Rattle.std.proofs.Common.{◌≡◌, ◌+◌, length}
use Rattle.m3_image_sections.specs.Forms.{types_fit_from}
use Rattle.m3_image_sections.specs.PartViews.{types_of}
use Rattle.m3_image_sections.proofs.types.Types.each_fits.Given as goal

abbrev pub invariant-loop-found : goal.invariant-loop-found
invariant-loop-found l = record {
  told : types_fit_from l.procs l.number (types_of l.found-iterator) ≡ types_fit_from l.procs 0 (types_of l.self);
  left : l.number + length (types_of l.found-iterator) ≡ length (types_of l.self);
}
