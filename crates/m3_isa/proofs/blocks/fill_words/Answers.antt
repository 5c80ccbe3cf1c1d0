use Rattle.std.proofs.Common.{arith}
use Rattle.std.proofs.lemmas.Grind.{common_steps}
use Rattle.m3_base.specs.Words.{add_words}
use Rattle.m3_isa.specs.Effects.{filled}
use Rattle.m3_isa.proofs.Fills.{stops_at_load, stops_at_store, filled-stops}
use Rattle.m3_isa.proofs.blocks.fill_words.Goals as goal

pub returns-in_default-clause-filled : goal.returns-in_default-clause-filled
returns-in_default-clause-filled g c =
    let m = g.W.Words.holds c.args.mem.now in
    let can = g.W.Words.writable c.args.mem.now in
    let k = c.loop-k.k in
    filled-stops m can c.args.from c.args.distance k c.args.n (omega arith)
    (stops_at_load (filled m can c.args.from c.args.distance k) (g.W.Words.holds c.loop-k.mem) can (add_words c.args.from k) (add_words (add_words c.args.from c.args.distance) k) c.loop-k.invariant.filled (grind (arith, common_steps)))

pub returns-then-not-store-clause-filled : goal.returns-then-not-store-clause-filled
returns-then-not-store-clause-filled g c =
    let m = g.W.Words.holds c.args.mem.now in
    let can = g.W.Words.writable c.args.mem.now in
    let k = c.loop-k.k in
    let to = add_words (add_words c.args.from c.args.distance) k in
    let same = c.loop-k.invariant.writable to in
    filled-stops m can c.args.from c.args.distance k c.args.n (omega arith)
    (stops_at_store (filled m can c.args.from c.args.distance k) can (add_words c.args.from k) to (grind (arith, common_steps)))
