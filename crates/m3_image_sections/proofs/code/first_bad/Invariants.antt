use Rattle.std.proofs.Common.{◌≡◌, None}
use Rattle.std.specs.Prelude.{is_some}
use Rattle.m3_image_sections.specs.Ranges.{first_failing}
use Rattle.m3_image_sections.specs.Reading.{instruction_at}
use Rattle.m3_image_sections.proofs.code.first_bad.Given as goal

abbrev pub invariant-loop-n : goal.invariant-loop-n
invariant-loop-n l = first_failing (λ k. is_some (instruction_at l.section k)) l.n ≡ None
