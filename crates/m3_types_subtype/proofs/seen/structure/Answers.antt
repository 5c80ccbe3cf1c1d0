use Rattle.std.proofs.Common.{ℕ, sym, ◌∙◌, subst, inl, inr, arith}
use Rattle.std.proofs.lemmas.Bool.{eqb-true}
use Rattle.m3_types_subtype.specs.Views.{Sees, SeesAfter, not_yet, further}
use Rattle.m3_types_subtype.proofs.seen.structure.Goals as goal

pub loop-step-init : goal.loop-step-init
loop-step-init c = not_yet

pub returns-then-eq : goal.returns-then-eq
returns-then-eq c =
    let view = c.args.view in
    let seen = c.loop-step.seen.0 in
    record {
      times = c.loop-step._step;
      sees = c.loop-step.invariant;
      ends = inl (subst (λ (b : ℕ). Sees c.args.graph.now.nodes.items c.args.graph.now.reveals.items view seen b) (eqb-true c.in_ok-behind.behind.0 seen (sym c.eq.ensures ∙ c.if-eq.true)) c.in_ok-behind.ensures);
    }

pub loop-step-preserved : goal.loop-step-preserved
loop-step-preserved c = subst (λ (n : ℕ). SeesAfter c.args.graph.now.nodes.items c.args.graph.now.reveals.items c.args.view n c.args.t.0 c.in_ok-behind.behind.0) (omega arith) (further c.loop-step.invariant c.in_ok-behind.ensures)

pub returns : goal.returns
returns c = record {
  times = c.loop-step._step;
  sees = c.loop-step.invariant;
  ends = inr (omega (arith, c.len-step-end.ensures, c.loop-step-test.false));
}
