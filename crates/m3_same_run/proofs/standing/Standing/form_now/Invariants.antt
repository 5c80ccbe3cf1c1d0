use Rattle.std.proofs.Common.{◌≡◌, [], drop}
use Rattle.m3_same_run.specs.Check.{now_onto}
use Rattle.m3_same_run.proofs.standing.Standing.form_now.Given as goal

abbrev pub invariant-loop-term : goal.invariant-loop-term
invariant-loop-term l = now_onto l.judge.common.now l.self l.out (drop l.term-index l.term-items) ≡ now_onto l.judge.common.now l.self [] l.form
