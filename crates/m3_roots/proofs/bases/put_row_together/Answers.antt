use Rattle.std.proofs.Common.{◌++◌, arith}
use Rattle.m3_tables.specs.Views.{entries_of}
use Rattle.m3_tables.specs.Tables.{derived_in}
use Rattle.m3_roots.proofs.TogetherLemmas.{all_of_them}
use Rattle.m3_roots.proofs.StepCounts.{listed_all}
use Rattle.m3_roots.proofs.bases.put_row_together.Goals as goal

pub returns-clause-leaves : goal.returns-clause-leaves
returns-clause-leaves g c =
    all_of_them c.put_many_together.result c.args.first c.count_of.result (entries_of c.derivations.result) (derived_in c.args.row.now) (c.args.r.now ++ c.args.stack.now) (c.put_many_together.new.r ++ c.put_many_together.new.stack) c.derivations.ensures c.count_of.ensures c.put_many_together.ensures.leaves

pub returns-clause-cost : goal.returns-clause-cost
returns-clause-cost g c =
    let all = listed_all c.args.first c.count_of.result (entries_of c.derivations.result) (derived_in c.args.row.now) c.derivations.ensures c.count_of.ensures in
    omega (arith, all, c.put_many_together.ensures.cost)
