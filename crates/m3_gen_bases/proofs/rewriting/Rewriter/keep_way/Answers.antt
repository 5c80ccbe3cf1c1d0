use Rattle.std.proofs.Common.{length, sym, subst}
use Rattle.m3_mid_additions.specs.Additions.{IsAdded}
use Rattle.m3_mid_additions.proofs.Growing.{added_behind}
use Rattle.m3_gen_bases.specs.Keeping.{HasAdded}
use Rattle.m3_gen_bases.proofs.rewriting.Rewriter.keep_way.Goals as goal

pub returns-clause-adds : goal.returns-clause-adds
returns-clause-adds c first h =
    let p = c.args.self.now.proc.now in
    let told = c.in_ok-telling.field-0 in
    let kept = c.loop-at.invariant.1 first h in
    let is = subst (λ z. IsAdded (length z.now.temps.now) z.now.formals told) c.loop-at.invariant.0 c.in_ok-telling.ensures in
    subst (λ z. HasAdded p first z) (sym c.in_ok-push.ensures.items)
    (added_behind (length p.temps.now) p.formals told first c.loop-at.self.ops.items is kept)
