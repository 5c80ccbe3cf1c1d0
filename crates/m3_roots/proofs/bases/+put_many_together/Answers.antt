use Rattle.std.proofs.Common.{◌++◌, ◌/◌, arith}
use Rattle.m3_tables.specs.Views.{entries_of}
use Rattle.m3_roots.proofs.TogetherLemmas.{half_stops, both_halves}
use Rattle.m3_roots.proofs.StepCounts.{listed_parts}
use Rattle.m3_roots.proofs.bases.+put_many_together.Goals as goal

pub returns-then-not-put_many_together-clause-leaves : goal.returns-then-not-put_many_together-clause-leaves
returns-then-not-put_many_together-clause-leaves g t c =
    half_stops c.args.first (c.args.count / 2) c.args.count (entries_of c.args.entries) (entries_of c.behind-later.result) (c.args.r.now ++ c.args.stack.now) (omega arith) c.behind-later.ensures c.if-not-put_many_together.ensures.leaves

pub returns-then-not-put_many_together-clause-cost : goal.returns-then-not-put_many_together-clause-cost
returns-then-not-put_many_together-clause-cost g t c =
    let parts = listed_parts c.args.first (c.args.count / 2) c.args.count (entries_of c.args.entries) (entries_of c.behind-later.result) (omega arith) c.behind-later.ensures in
    omega (arith, parts, c.if-not-put_many_together.ensures.cost)

pub returns-clause-cost : goal.returns-clause-cost
returns-clause-cost g t c =
    let parts = listed_parts c.args.first (c.args.count / 2) c.args.count (entries_of c.args.entries) (entries_of c.behind-later.result) (omega arith) c.behind-later.ensures in
    omega (arith, parts, c.if-not-put_many_together.ensures.cost, c.put_many_together-2.ensures.cost)

pub returns-clause-leaves : goal.returns-clause-leaves
returns-clause-leaves g t c =
    let middle = c.put_many_together.new.r ++ c.put_many_together.new.stack in
    let last = c.put_many_together-2.new.r ++ c.put_many_together-2.new.stack in
    both_halves c.put_many_together-2.result c.args.first (c.args.count / 2) c.args.count (entries_of c.args.entries) (entries_of c.behind-later.result) (c.args.r.now ++ c.args.stack.now) middle last (omega arith) c.behind-later.ensures c.if-not-put_many_together.ensures.leaves c.put_many_together-2.ensures.leaves
