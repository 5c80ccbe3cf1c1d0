use Rattle.std.proofs.Common.{◌+◌}
use Rattle.m3_base.proofs.ScheduleLemmas.{lines_at, rest_taken}
use Rattle.m3_base.proofs.schedules.first_line.Goals as goal

pub returns-then-byte-eq10-clause-lines : goal.returns-then-byte-eq10-clause-lines
returns-then-byte-eq10-clause-lines c =
    let at_feed = lines_at c.args.text.now c.loop-end.end c.loop-end.invariant c.loop-end-test.true c.if-byte-eq10.true in
    rw (rest_taken c.args.text.now (c.loop-end.end + 1)) at_feed
