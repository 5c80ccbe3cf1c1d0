use Rattle.m3_tables.specs.Views.{entry_of, entries_of}
use Rattle.m3_roots.proofs.TogetherLemmas.{one_less}
use Rattle.m3_roots.proofs.bases.behind.Goals as goal

pub loop-preserved : goal.loop-preserved
loop-preserved c =
    one_less entry_of c.loop.counter (entries_of c.args.entries) (entries_of c.loop.later) (entries_of c.next.new.self) c.next.result c.loop.invariant c.next.ensures.steps
