use Rattle.std.proofs.Common.{◌≡◌}
use Rattle.m3_image_sections.specs.PartViews.{pairs_of}
use Rattle.m3_inspect.specs.Standing.{place_at}
use Rattle.m3_inspect.proofs.locals.place_at.Given as goal

abbrev pub invariant-spans : goal.invariant-spans
invariant-spans l = place_at l.fn.instr (pairs_of l.at-iterator) ≡ place_at l.fn.instr (pairs_of l.fn.spans)
