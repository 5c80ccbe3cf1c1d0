use Rattle.std.specs.Prelude.{Bool, Some, None}
use Rattle.std.proofs.Common.{sym, subst}
use Rattle.m3_run_meaning.specs.Points.{Collected_if, left, made, stuck}
use Rattle.m3_run_state.specs.Seen.{state_of, program_of}
use Rattle.m3_machine.proofs.points.collect_if.Goals as goal

pub returns-then-asked-clause-good : goal.returns-then-asked-clause-good
returns-then-asked-clause-good g c = λ done going.
    let m = c.args.parts.now in
    let u = state_of c.collect.new.self in
    subst (λ (b : Bool). Collected_if (program_of m) (state_of m) b (Some u)) (sym c.if-asked.true) (made u (c.collect.ensures.good done going))

pub returns-then-asked-clause-bad : goal.returns-then-asked-clause-bad
returns-then-asked-clause-bad g c = λ failed going.
    let m = c.args.parts.now in
    (subst (λ (b : Bool). Collected_if (program_of m) (state_of m) b None) (sym c.if-asked.true) stuck, c.collect.ensures.bad failed going)

pub returns-else-asked-clause-good : goal.returns-else-asked-clause-good
returns-else-asked-clause-good g c = λ done going.
    let m = c.args.parts.now in
    subst (λ (b : Bool). Collected_if (program_of m) (state_of m) b (Some (state_of m))) (sym c.if-asked.false) left
