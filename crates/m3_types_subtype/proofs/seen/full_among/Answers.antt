use Rattle.std.proofs.Common.{◌≡◌, true, arith}
use Rattle.m3_types_subtype.proofs.Stepping.{reveals_more, reveals_all}
use Rattle.m3_types_subtype.proofs.seen.full_among.Goals as goal

pub loop-reveal-preserved : goal.loop-reveal-preserved
loop-reveal-preserved c =
    reveals_more (λ r. r.view ≡ c.args.view → r.opaque ≡ c.args.t → r.full ≡ true → ⊥) c.args.found.now c.loop-reveal.reveal-index c.loop-reveal-test.true c.loop-reveal.invariant (λ v o f. let e = c.if-reveals_fully.ensures.no v o f in let z : ⊥ = cc in z)

pub returns-clause-none : goal.returns-clause-none
returns-clause-none c = λ r has. c.loop-reveal.invariant r (reveals_all c.args.found.now c.loop-reveal.reveal-index r (omega arith) has)
