use Rattle.std.proofs.Common.{sym}
use Rattle.std.specs.Prelude.{IsTrue}
use Rattle.std.specs.Ordering.{nat_cmp}
use Rattle.std.specs.BTreeSet.{contains}
use Rattle.std.proofs.lemmas.List.Elements.{All-more}
use Rattle.m3_types_subtype.proofs.raises.all_in.Goals as goal

pub loop-e-preserved : goal.loop-e-preserved
loop-e-preserved c = All-more (λ e. IsTrue (contains nat_cmp c.args.set.now e)) c.args.row.now c.loop-e.e-index 0 c.loop-e-test.true c.loop-e.invariant (sym c.if-not-contains.ensures)
