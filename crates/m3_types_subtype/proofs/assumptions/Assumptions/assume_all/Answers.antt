use Rattle.std.proofs.Common.{get_or, length, arith, below_more}
use Rattle.m3_types_subtype.specs.Classes.{parent_of, SameClass}
use Rattle.m3_types_subtype.specs.Sameness.{Same}
use Rattle.m3_types_subtype.proofs.Agreement.{pairwise_at, pairwise_from_places}
use Rattle.m3_types_subtype.proofs.Keeping.{front_stays, longer_stays, forced_stays}
use Rattle.m3_types_subtype.proofs.assumptions.Assumptions.assume_all.Goals as goal

pub loop-i-preserved : goal.loop-i-preserved
loop-i-preserved c =
    let was = c.loop-i.invariant in
    let e = c.in_ok-assume.ensures in
    let first = c.args.self.now.pairs.items in
    let old = c.loop-i.self.pairs.items in
    let new = c.assume.new.self.pairs.items in
    let i = c.loop-i.i in
    let x = get_or c.args.xs.now i 0 in
    let y = get_or c.args.ys.now i 0 in
    record {
      kept = e.kept;
      joined = below_more _ _ (λ k l. e.keeps _ _ (was.joined k l)) e.joined;
      keeps = λ a b h. e.keeps a b (was.keeps a b h);
      front = front_stays x y first old new was.front was.longer e.adds;
      longer = longer_stays x y (length first) old new was.longer e.adds;
      forced = λ nodes h all. forced_stays nodes x y old new (pairwise_at (Same nodes) c.args.xs.now c.args.ys.now i h (omega arith)) (was.forced nodes h all) e.adds;
    }

pub returns-clause-joined : goal.returns-clause-joined
returns-clause-joined c = pairwise_from_places (SameClass (parent_of c.loop-i.self.classes.parents)) c.args.xs.now c.args.ys.now c.requires.alike (λ k l. c.loop-i.invariant.joined k (omega arith))
