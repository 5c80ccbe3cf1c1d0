use Rattle.std.proofs.Common.{◌<◌, [], length, arith, below_more}
use Rattle.m3_types_subtype.proofs.Adding.{has_stays}
use Rattle.m3_types_subtype.proofs.Stepping.{adds_chained, nil_place}
use Rattle.m3_types_subtype.proofs.upward.add_nil.Goals as goal

pub loop-y-preserved : goal.loop-y-preserved
loop-y-preserved c =
    let nodes = c.args.nodes.now in
    let was = c.loop-y.invariant in
    let e = c.in_ok-add_nil_at.ensures in
    let old = c.loop-y.reached.places.items in
    let new = c.add_nil_at.new.reached.places.items in
    record {
      kept = e.kept;
      adds = λ reveals view. adds_chained nodes reveals view c.args.x c.args.reached.now.places.items old new (was.adds reveals view) (e.adds reveals view);
      all = below_more _ _ (λ y l h. has_stays old new y (e.adds [] 0).extends (was.all y l h)) e.has;
    }

pub returns-clause-all : goal.returns-clause-all
returns-clause-all c = λ y n. c.loop-y.invariant.all y (let l : y < length c.args.nodes.now = nil_place c.args.nodes.now y n.1 in omega arith) n.1
