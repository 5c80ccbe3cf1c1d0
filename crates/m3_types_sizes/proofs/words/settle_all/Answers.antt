use Rattle.std.proofs.Common.{length, arith, ⊎_elim}
use Rattle.std.proofs.lemmas.Bool.{cases_lt}
use Rattle.m3_types_sizes.proofs.Measuring.{settled_full, past_settled}
use Rattle.m3_types_sizes.proofs.words.settle_all.Goals as goal

pub returns-clause-full : goal.returns-clause-full
returns-clause-full c = λ g.
    let nodes = c.args.nodes.now in
    let table = c.loop-i.table in
    settled_full nodes table c.loop-i.invariant.right (λ i. ⊎_elim (λ l. c.loop-i.invariant.settled g i (omega arith)) (λ l. past_settled nodes table i l) (cases_lt i (length nodes)))
