use Rattle.std.proofs.Common.{[]}
use Rattle.m3c_streams.proofs.Steps.{at_any, fails_before, flush_fails}
use Rattle.m3c_streams.proofs.kept.Kept.give_with.Goals as goal

pub returns-in_err-give-clause-failed : goal.returns-in_err-give-clause-failed
returns-in_err-give-clause-failed g c =
    let old = c.args.self.now in
    let given = c.give.new.self in
    let e = c.in_err-give.ensures in
    at_any _ c.from_residual.result (fails_before old given [] c.args.piece.now (flush_fails old given e.nothing e.faults e.failed.0 e.told e.failed.1))
