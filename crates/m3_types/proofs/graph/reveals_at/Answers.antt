use Rattle.std.proofs.Common.{arith}
use Rattle.m3_types.proofs.Revealing.{places_more, places_all}
use Rattle.m3_types.proofs.graph.reveals_at.Goals as goal

pub loop-place-preserved : goal.loop-place-preserved
loop-place-preserved c =
    let e = c.in_ok-add_at.ensures in
    record {
      there = e.there c.loop-place.invariant.there;
      all = places_more c.args.places.now c.loop-place.place-index c.loop-place-test.true c.args.reveals.now c.loop-place.found.items c.add_at.new.found.items e.keeps e.has c.loop-place.invariant.all;
    }

pub returns-clause-all : goal.returns-clause-all
returns-clause-all c = places_all c.args.places.now c.loop-place.place-index (omega arith) c.args.reveals.now c.loop-place.found.items c.loop-place.invariant.all
