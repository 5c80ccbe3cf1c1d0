use Rattle.m3_roots.proofs.StepCounts.{listed_by}
use Rattle.std.proofs.Common.{◌++◌, arith}
use Rattle.m3_tables.specs.Views.{bases_of, entry_of}
use Rattle.m3_roots.proofs.bases.bases_of.Goals as goal

pub returns-clause-cost : goal.returns-clause-cost
returns-clause-cost g c =
    let way = listed_by c.args.first (entry_of c.args.entry.now) (c.args.r.now ++ c.args.stack.now) (bases_of c.in_ok-way.way) c.in_ok-way.ensures in
    omega (arith, way, c.sum_of-added.ensures.cost, c.sum_of-subtracted.ensures.cost)
