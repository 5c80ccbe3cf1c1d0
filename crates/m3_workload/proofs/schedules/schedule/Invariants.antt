use Rattle.std.proofs.Common.{◌≡◌, ◌++◌}
use Rattle.m3_workload.specs.Schedules.{entries_behind, schedule_of}
use Rattle.m3_workload.proofs.schedules.schedule.Given as goal

abbrev pub invariant-loop-left : goal.invariant-loop-left
invariant-loop-left l = l.entries.items ++ entries_behind l.left l.state ≡ schedule_of l.fn.number

abbrev pub decreases-loop-left : goal.decreases-loop-left
decreases-loop-left l = l.left
