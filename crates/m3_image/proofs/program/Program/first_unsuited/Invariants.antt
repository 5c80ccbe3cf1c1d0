use Rattle.std.proofs.Common.{◌≡◌, None}
use Rattle.m3_image_sections.specs.Ranges.{first_failing}
use Rattle.m3_image.specs.Programs.{row_suits}
use Rattle.m3_image.specs.Views.{program_view}
use Rattle.m3_image.proofs.program.Program.first_unsuited.Given as goal

abbrev pub invariant-loop-n : goal.invariant-loop-n
invariant-loop-n l = first_failing (row_suits (program_view l.self)) l.n ≡ None
