use Rattle.std.proofs.Common.{[], length, sym, subst}
use Rattle.m3_mid_additions.specs.Additions.{AreBlocksWithAdded, none}
use Rattle.m3_gen_bases.proofs.Adding.{carried_block}
use Rattle.m3_gen_bases.proofs.rewriting.rewrite.Goals as goal

pub loop-at-2-init : goal.loop-at-2-init
loop-at-2-init c =
    let p = c.args.analysis.now.proc in
    subst (λ z. AreBlocksWithAdded (length p.temps.now) p.formals [] z) (sym c.new-blocks.ensures.items) none

pub loop-at-2-preserved : goal.loop-at-2-preserved
loop-at-2-preserved c =
    carried_block c.args.analysis.now.proc c.new-rewriter.result.proc.now c.args.analysis.now.proc.blocks.now c.loop-at-2.at _ c.in_ok-block.field-0 c.loop-at-2.blocks.items _ c.in_ok-push-2.ensures.items c.new-rewriter.ensures.proc c.loop-at-2-test.true (c.in_ok-block.ensures.ops c.new-rewriter.ensures.ops) c.in_ok-block.ensures.end c.loop-at-2.invariant
