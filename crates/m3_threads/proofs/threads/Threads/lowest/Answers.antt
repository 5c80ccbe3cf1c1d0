use Rattle.std.proofs.Common.{◌<◌, sym, ap, subst, ◌∙◌}
use Rattle.std.proofs.lemmas.Option.{slice_get-get_or}
use Rattle.m3_threads.specs.All.{AreOrderedBy}
use Rattle.m3_threads.specs.Spaces.{held}
use Rattle.m3_threads.specs.Going.{may_go_in}
use Rattle.m3_threads.proofs.Choosing.{fails_none, fails_more, lowest_found, none_found}
use Rattle.m3_threads.proofs.threads.Threads.lowest.Goals as goal

pub loop-t-init : goal.loop-t-init
loop-t-init g c = fails_none (may_go_in (held c.args.self.now (g.W.Words.holds c.args.mem.now))) c.deref-t-items.result.now

pub loop-t-preserved : goal.loop-t-preserved
loop-t-preserved g c =
    let ts = c.deref-t-items.result.now in
    let got = slice_get-get_or ts c.loop-t.t-index _ c.loop-t-test.true in
    fails_more (may_go_in (held c.args.self.now (g.W.Words.holds c.args.mem.now))) ts c.loop-t.t-index _ c.loop-t.invariant got (sym c.goes.ensures ∙ c.if-goes.false)

pub returns-then-goes-clause-lowest : goal.returns-then-goes-clause-lowest
returns-then-goes-clause-lowest g c =
    let ts = c.deref-t-items.result.now in
    let got = slice_get-get_or ts c.loop-t.t-index _ c.loop-t-test.true in
    let same = c.deref-t-items.ensures.value ∙ ap (λ v. v.threads) c.self.view_is in
    let rising = subst (λ us. AreOrderedBy (λ t u. t.number < u.number) us) (sym c.deref-t-items.ensures.value) c.self.invariant.0.rising in
    lowest_found c.args.self.now (g.W.Words.holds c.args.mem.now) ts c.loop-t.t-index _ same rising c.loop-t.invariant got (sym c.goes.ensures ∙ c.if-goes.true)

pub returns-clause-none : goal.returns-clause-none
returns-clause-none g c = λ _.
    let ts = c.deref-t-items.result.now in
    let same = c.deref-t-items.ensures.value ∙ ap (λ v. v.threads) c.self.view_is in
    none_found c.args.self.now (g.W.Words.holds c.args.mem.now) ts c.loop-t.t-index same c.loop-t.invariant c.loop-t-test.false
