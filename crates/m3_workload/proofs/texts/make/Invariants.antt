use Rattle.std.proofs.Common.{◌≡◌}
use Rattle.m3_workload.specs.Schedules.{schedule_of}
use Rattle.m3_workload.proofs.texts.make.Given as goal

abbrev pub invariant-loop-unit : goal.invariant-loop-unit
invariant-loop-unit l = l.workload.schedule.items ≡ schedule_of l.fn.number
