use Rattle.std.proofs.Common.{length, ap, arith}
use Rattle.m3_tables.specs.Rows.{Entry}
use Rattle.m3_roots.proofs.TogetherLemmas.{length-entries}
use Rattle.m3_roots.proofs.bases.count_of.Goals as goal

pub overflow_add-count : goal.overflow_add-count
overflow_add-count c =
    let items = c.derivations-entry-items.result in
    let few = length-entries items.count items.bytes.now in
    let all = ap (length {A = Entry}) c.derivations-entry-items.ensures in
    let left = ap (length {A = Entry}) c.in-Some.ensures.steps in
    omega (arith, few, all, left)
