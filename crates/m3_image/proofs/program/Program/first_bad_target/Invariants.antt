use Rattle.std.proofs.Common.{◌≡◌, None}
use Rattle.m3_image_sections.specs.Ranges.{first_failing}
use Rattle.m3_image.specs.Programs.{target_fits}
use Rattle.m3_image.specs.Views.{program_view}
use Rattle.m3_image.proofs.program.Program.first_bad_target.Given as goal

abbrev pub invariant-loop-pc : goal.invariant-loop-pc
invariant-loop-pc l = first_failing (target_fits (program_view l.self)) l.pc ≡ None
