use Rattle.std.proofs.Common.{length}
use Rattle.m3_base.proofs.Reading.{IsReadTo}
use Rattle.m3_base.proofs.schedules.read_schedule.Given as goal

abbrev pub invariant-loop-rest : goal.invariant-loop-rest
invariant-loop-rest l = IsReadTo l.bytes l.entries.items l.rest

abbrev pub decreases-loop-rest : goal.decreases-loop-rest
decreases-loop-rest l = length l.rest
