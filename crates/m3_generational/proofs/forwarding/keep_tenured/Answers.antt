use Rattle.std.proofs.Common.{sym, ◌∙◌, arith, inl, inr}
use Rattle.m3_generational.proofs.ForwardLemmas.{tenured-stays, not-tenured, outside-tenured, tenured-found}
use Rattle.m3_generational.proofs.forwarding.keep_tenured.Goals as goal

pub returns-then-word-base : goal.returns-then-word-base
returns-then-word-base g c =
    not-tenured c.args.spaces.now c.args.word c.args.steps.now c.requires.minor c.requires.tracing c.requires.keeping c.requires.high c.requires.low
    (outside-tenured c.args.spaces.now c.args.word c.requires.minor c.requires.keeping (inl (omega (arith, c.if-word-base.true, c.base-base.ensures))))

pub returns-then-word-base-2 : goal.returns-then-word-base-2
returns-then-word-base-2 g c =
    not-tenured c.args.spaces.now c.args.word c.args.steps.now c.requires.minor c.requires.tracing c.requires.keeping c.requires.high c.requires.low
    (outside-tenured c.args.spaces.now c.args.word c.requires.minor c.requires.keeping (inr (omega (arith, c.if-word-base.false, c.if-word-base-2.true, c.base-base.ensures))))

pub returns-in-Some : goal.returns-in-Some
returns-in-Some g c =
    tenured-stays c.args.spaces.now c.args.word c.args.steps.now c.requires.minor c.requires.tracing c.requires.keeping c.requires.high c.requires.low
    (omega (arith, c.if-word-base.false, c.if-word-base-2.false, c.base-base.ensures)) (sym c.in-Some.ensures.starts)

pub returns-in-None : goal.returns-in-None
returns-in-None g c =
    not-tenured c.args.spaces.now c.args.word c.args.steps.now c.requires.minor c.requires.tracing c.requires.keeping c.requires.high c.requires.low
    (sym (tenured-found c.args.spaces.now c.args.word c.requires.minor c.requires.tracing c.requires.keeping (omega (arith, c.if-word-base.false, c.if-word-base-2.false, c.base-base.ensures))) ∙ sym c.in-None.ensures.starts)
