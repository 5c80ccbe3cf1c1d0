use Rattle.std.proofs.Common.{◌≡◌, ◌≤◌}
use Rattle.m3_image.specs.Programs.{lists_points}
use Rattle.m3_image.specs.Views.{program_view}
use Rattle.m3_image.proofs.RowLemmas.{lists_from}
use Rattle.m3_image.proofs.program.Program.lists_points.Given as goal

abbrev pub invariant-loop-pc : goal.invariant-loop-pc
invariant-loop-pc l = (l.row ≤ l.pc) × (lists_from (program_view l.self) l.row l.pc ≡ lists_points (program_view l.self))
