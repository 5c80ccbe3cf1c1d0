use Rattle.std.proofs.Common.{◌≡◌, length, take}
use Rattle.m3_mid_additions.specs.Additions.{AreBlocksWithAdded}
use Rattle.m3_gen_bases.proofs.rewriting.rewrite.Given as goal

abbrev pub invariant-loop-at-2 : goal.invariant-loop-at-2
invariant-loop-at-2 l =
    let p = l.analysis.proc in
    AreBlocksWithAdded (length p.temps.now) p.formals (take l.at p.blocks.now) l.blocks.items
