use Rattle.std.proofs.Common.{◌+◌, ◌≤◌}
use Rattle.m3_threads_tests.proofs.tests.play.Given as goal

abbrev pub invariant-loop-row : goal.invariant-loop-row
invariant-loop-row g l = l.all.forks + l.all.waits ≤ l.initial.all.forks + l.initial.all.waits + l.row
