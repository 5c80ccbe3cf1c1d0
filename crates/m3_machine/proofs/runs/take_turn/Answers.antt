use Rattle.std.specs.Prelude.{◌≡◌, ◌++◌}
use Rattle.std.proofs.Common.{ap, subst, ◌∙◌, arith, rules}
use Rattle.m3_run_meaning.specs.declared.progress.Progress.{Progress as Answer}
use Rattle.m3_run_meaning.specs.declared.progress.Progress.TheVariants.{Goes}
use Rattle.m3_run_state.specs.Seen.{Rest}
use Rattle.m3_machine.specs.Turns.{and_put, Comes_to, Came_to}
use Rattle.m3_machine.proofs.Taking.{known_still, known_put, took_more, came_more, came_so}
use Rattle.m3_machine.proofs.Cutting.{at_any, stops_later}
use Rattle.m3_machine.proofs.runs.take_turn.Goals as goal

pub returns-then-ne-clause-came : goal.returns-then-ne-clause-came
returns-then-ne-clause-came g c = λ p start k others known h.
    let m = c.args.parts.now in
    let a = c.acts.parts in
    let inv = c.acts.invariant in
    let so = inv.came p start k others known h in
    let goes : c.acts.progress ≡ Goes = search rules in
    let between = subst (λ (x : Answer). Came_to p (and_put k so.0) others a c.acts.turn x) goes so.2 in
    let still = known_put p start k a so.0 (known_still p start k m a (ap (λ (r : Rest). r.program) inv.rest) (ap (λ (r : Rest). r.input) inv.rest) (ap (λ (r : Rest). r.stack) inv.rest) known) in
    let comes = c.go_to_act-progress.ensures.comes p start (and_put k so.0) others still between in
    let not : c.go_to_act-progress.result ≡ Goes → ⊥ = search rules in (
      so.0,
      so.1,
      came_so p start (and_put k so.0) others c.go_to_act-progress.new.parts c.go_to_act-progress.new.turn c.go_to_act-progress.result not comes,
    )

pub acts-preserved : goal.acts-preserved
acts-preserved g c =
    let m = c.args.parts.now in
    let a = c.acts.parts in
    let mid = c.go_to_act-progress.new.parts in
    let n = c.act_next-in-acts.new.parts in
    let inv = c.acts.invariant in
    record {
      faults = c.in_ok-progress-2.ensures.kept ∙ inv.faults;
      fewer = omega (arith, c.act_next-in-acts.ensures.fewer, c.go_to_act-progress.ensures.fewer, inv.fewer);
      rest = c.act_next-in-acts.ensures.rest ∙ ap (λ (r : Rest). record r { made = n.made; stuck = n.stuck }) (c.go_to_act-progress.ensures.rest ∙ inv.rest);
      came = λ p start k others known h.
          let so = inv.came p start k others known h in
          let goes : c.acts.progress ≡ Goes = search rules in
          let between = subst (λ (x : Answer). Came_to p (and_put k so.0) others a c.acts.turn x) goes so.2 in
          let still = known_put p start k a so.0 (known_still p start k m a (ap (λ (r : Rest). r.program) inv.rest) (ap (λ (r : Rest). r.input) inv.rest) (ap (λ (r : Rest). r.stack) inv.rest) known) in
          let comes = c.go_to_act-progress.ensures.comes p start (and_put k so.0) others still between in
          let again : c.go_to_act-progress.result ≡ Goes = search rules in
          let next = subst (λ (x : Answer). Comes_to p start (and_put k so.0) others mid c.go_to_act-progress.new.turn x) again comes in
          let rest = c.go_to_act-progress.ensures.rest in
          let last = known_still p start (and_put k so.0) a mid (ap (λ (r : Rest). r.program) rest) (ap (λ (r : Rest). r.input) rest) (ap (λ (r : Rest). r.stack) rest) still in
          let more = c.in_ok-progress-2.ensures.came p start (and_put k so.0) others last next in (
            so.0 ++ more.0,
            took_more _ _ _ so.0 more.0 so.1 more.1,
            came_more p k others n c.act_next-in-acts.new.turn c.in_ok-progress-2.progress so.0 more.0 more.2,
          );
    }

pub returns-in_err-progress-2-clause-cut : goal.returns-in_err-progress-2-clause-cut
returns-in_err-progress-2-clause-cut g c = at_any _ c.from_residual-in_err-progress-2.result (λ p start k others known h.
    let a = c.acts.parts in
    let mid = c.go_to_act-progress.new.parts in
    let inv = c.acts.invariant in
    let so = inv.came p start k others known h in
    let goes : c.acts.progress ≡ Goes = search rules in
    let between = subst (λ (x : Answer). Came_to p (and_put k so.0) others a c.acts.turn x) goes so.2 in
    let still = known_put p start k a so.0 (known_still p start k c.args.parts.now a (ap (λ (r : Rest). r.program) inv.rest) (ap (λ (r : Rest). r.input) inv.rest) (ap (λ (r : Rest). r.stack) inv.rest) known) in
    let comes = c.go_to_act-progress.ensures.comes p start (and_put k so.0) others still between in
    let again : c.go_to_act-progress.result ≡ Goes = search rules in
    let next = subst (λ (x : Answer). Comes_to p start (and_put k so.0) others mid c.go_to_act-progress.new.turn x) again comes in
    let rest = c.go_to_act-progress.ensures.rest in
    let last = known_still p start (and_put k so.0) a mid (ap (λ (r : Rest). r.program) rest) (ap (λ (r : Rest). r.input) rest) (ap (λ (r : Rest). r.stack) rest) still in
    stops_later g.O.Sink p k.input k.allowed k.from k.output so.0 c.args.out.now c.acts.out c.act_next-in-acts.new.out so.1
    (c.in_err-progress-2.ensures.cut p start (and_put k so.0) others last next))
