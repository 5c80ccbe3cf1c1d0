use Rattle.std.proofs.Common.{length, sym, subst}
use Rattle.m3_mid_additions.proofs.Growing.{added_behind}
use Rattle.m3_gen_bases.specs.Keeping.{HasAdded}
use Rattle.m3_gen_bases.proofs.rewriting.Rewriter.keep.Goals as goal

pub returns-in_ok-push-clause-adds : goal.returns-in_ok-push-clause-adds
returns-in_ok-push-clause-adds c first h =
    let p = c.args.self.now.proc.now in
    subst (λ z. HasAdded p first z) (sym c.in_ok-push.ensures.items)
    (added_behind (length p.temps.now) p.formals c.in_ok-keeping.field-0 first c.args.self.now.ops.items c.in_ok-keeping.ensures h)
