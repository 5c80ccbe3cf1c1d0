use Rattle.std.proofs.Common.{◌≡◌, ◌+◌, length}
use Rattle.m3_image_sections.specs.PartViews.{types_of}
use Rattle.m3_image_sections.proofs.types.Types.len.Given as goal

abbrev pub invariant-loop : goal.invariant-loop
invariant-loop l = l.count + length (types_of l.iterator') ≡ length (types_of l.self)
