use Rattle.std.proofs.lemmas.Option.{slice_get-get_or}
use Rattle.m3_threads.proofs.Places.{place_here, place_more, nobody_here, passed_none}
use Rattle.m3_threads.proofs.list.place_of.Goals as goal

pub loop-k-init : goal.loop-k-init
loop-k-init c = passed_none c.args.number c.args.threads.now

pub returns-then-t-number : goal.returns-then-t-number
returns-then-t-number c =
    let ts = c.args.threads.now in
    place_here c.args.number ts c.loop-k.k _ c.loop-k.invariant (slice_get-get_or ts c.loop-k.k _ c.loop-k-test.true) c.if-t-number.true

pub loop-k-preserved : goal.loop-k-preserved
loop-k-preserved c =
    let ts = c.args.threads.now in
    place_more c.args.number ts c.loop-k.k _ c.loop-k.invariant (slice_get-get_or ts c.loop-k.k _ c.loop-k-test.true) c.if-t-number.false

pub returns : goal.returns
returns c = nobody_here c.args.number c.args.threads.now c.loop-k.k c.loop-k-test.false c.loop-k.invariant
