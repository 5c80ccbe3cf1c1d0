use Rattle.std.proofs.Common.{arith, rules}
use Rattle.m3_workload.proofs.Entries.{goes_on, is_whole}
use Rattle.m3_workload.proofs.schedules.schedule.Goals as goal

pub loop-left-preserved : goal.loop-left-preserved
loop-left-preserved c = search (rules, goes_on)

pub returns : goal.returns
returns c = is_whole c.loop-left.entries.items _ c.loop-left.left c.loop-left.state (omega (arith, c.loop-left-test.false)) c.loop-left.invariant
