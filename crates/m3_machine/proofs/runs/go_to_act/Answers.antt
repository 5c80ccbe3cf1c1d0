use Rattle.std.proofs.Common.{sym, ap, subst, ◌∙◌, arith}
use Rattle.m3_run_meaning.specs.declared.progress.Progress.{Progress as Answer}
use Rattle.m3_run_state.specs.Seen.{Rest}
use Rattle.m3_machine.specs.Turns.{Comes_to}
use Rattle.m3_machine.proofs.Taking.{known_still}
use Rattle.m3_machine.proofs.Rolling.{stopped_before}
use Rattle.m3_machine.proofs.runs.go_to_act.Goals as goal

pub returns-in-Trapped-clause-comes : goal.returns-in-Trapped-clause-comes
returns-in-Trapped-clause-comes g c = λ p start k others known h.
    subst (λ (a : Answer). Comes_to p start k others c.go_far.new.parts c.go_far.new.turn a) (sym c.trap.ensures) (c.in-Trapped.ensures.leads p start k others known h, tt)

pub returns-in_default : goal.returns-in_default
returns-in_default g c =
    let m = c.args.parts.now in
    let mid = c.go_far.new.parts in
    record {
      ahead = omega (arith, c.go_far.ensures.ahead, c.settle.ensures.ahead);
      fewer = omega (arith, c.go_far.ensures.fewer, c.settle.ensures.fewer);
      some = c.settle.ensures.some;
      rest = c.settle.ensures.rest ∙ c.go_far.ensures.rest;
      comes = λ p start k others known h.
          let halts = stopped_before p k others mid c.go_far.new.turn c.go_far.result (λ n e. c.in_default.not-Trapped n e) (c.go_far.ensures.leads p start k others known h) in
          c.settle.ensures.comes p start k others (known_still p start k m mid (ap (λ (r : Rest). r.program) c.go_far.ensures.rest) (ap (λ (r : Rest). r.input) c.go_far.ensures.rest) (ap (λ (r : Rest). r.stack) c.go_far.ensures.rest) known) halts;
    }
