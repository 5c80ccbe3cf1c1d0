use Rattle.std.proofs.Common.{◌≡◌, length}
use Rattle.m3_image_sections.specs.Fields.{left_by}
use Rattle.m3_image_sections.specs.Parts.{type_at}
use Rattle.m3_image_sections.proofs.types.Types.at.Given as goal

abbrev pub invariant-loop-after : goal.invariant-loop-after
invariant-loop-after l = left_by type_at (length l.rest) l.rest ≡ left_by type_at (length l.section) l.section

abbrev pub decreases-loop-after : goal.decreases-loop-after
decreases-loop-after l = length l.rest
