use Rattle.std.proofs.Common.{[]}
use Rattle.std.proofs.lemmas.Result.{on_err_weaker}
use Rattle.m3c_streams.proofs.Steps.{at_any, fails_before, flush_fails, flush_fails_after, takes_after, told_of_fault, waits_behind}
use Rattle.m3c_streams.proofs.gathered.GatheredSink.put.Goals as goal

pub returns-in_err-make_room-clause-failed : goal.returns-in_err-make_room-clause-failed
returns-in_err-make_room-clause-failed g c =
    at_any _ c.from_residual.result (told_of_fault c.args.self.now c.make_room.new.self c.args.piece.now (fails_before c.args.self.now c.make_room.new.self [] c.args.piece.now c.in_err-make_room.ensures.failed))

pub returns-then-eq-clause-failed : goal.returns-then-eq-clause-failed
returns-then-eq-clause-failed g c =
    let old = c.args.self.now in
    let made = c.make_room.new.self in
    let kept = c.keep.new.self in
    let piece = c.args.piece.now in
    let took = takes_after old made kept [] piece c.in_ok-make_room.ensures.took (waits_behind made kept piece c.keep.ensures) in
    on_err_weaker c.flush.result (λ h. told_of_fault old c.flush.new.self piece (flush_fails_after old kept c.flush.new.self piece took (flush_fails kept c.flush.new.self c.flush.ensures.nothing c.flush.ensures.faults h.0 c.flush.ensures.told h.1))) c.flush.ensures.failed
