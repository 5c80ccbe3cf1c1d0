use Rattle.std.specs.Prelude.{ℕ, ◌≡◌, ◌<◌, ◌^◌}
use Rattle.std.proofs.Common.{ap, rules, arith}
use Rattle.m3_run_meaning.specs.State.{State}
use Rattle.m3_run_meaning.specs.Points.{nobody, passed}
use Rattle.m3_run_state.specs.Seen.{Rest, state_of, program_of}
use Rattle.m3_machine.proofs.Passing.{chooses, traps_there, leaves_nobody}
use Rattle.m3_machine.proofs.points.pass_point.Goals as goal

pub returns-then-not-may_go_on-clause-passes : goal.returns-then-not-may_go_on-clause-passes
returns-then-not-may_go_on-clause-passes g c = λ few going. nobody (c.may_go_on.ensures.none few (search rules))

pub returns-then-not-collect_if-clause-passes : goal.returns-then-not-collect_if-clause-passes
returns-then-not-collect_if-clause-passes g c = λ few going.
    let m = c.args.parts.now in
    let s = state_of m in
    let mid : State = record s { points = c.saturating_add-parts.result } in
    let counted : mid ≡ passed s = ap (λ (n : ℕ). record s { points = n }) c.saturating_add-parts.ensures in
    let failed = c.collect_if.ensures.bad (search rules) (record { unstuck = going.unstuck; depth = going.depth }) in
    traps_there (program_of m) c.args.entry s mid (state_of c.collect_if.new.parts) counted (c.may_go_on.ensures.some few (search rules)) failed.0 failed.1

pub returns-in-Some-clause-passes : goal.returns-in-Some-clause-passes
returns-in-Some-clause-passes g c = λ few going.
    let m = c.args.parts.now in
    let s = state_of m in
    let mid : State = record s { points = c.saturating_add-parts.result } in
    let counted : mid ≡ passed s = ap (λ (n : ℕ). record s { points = n }) c.saturating_add-parts.ensures in
    let n = c.collect_if.new.parts in
    let same : program_of n ≡ program_of m = ap (λ (r : Rest). r.program) c.collect_if.ensures.rest in
    let made : n.made ≡ m.made = ap (λ (r : Rest). r.made) c.collect_if.ensures.rest in
    let still : n.made < 2 ^ 63 = omega arith in
    chooses (program_of m) (program_of n) c.args.entry s mid (state_of n) c.in-Some.chosen counted same (c.may_go_on.ensures.some few (search rules))
    (c.collect_if.ensures.good (search rules) (record { unstuck = going.unstuck; depth = going.depth })) (c.in-Some.ensures still)

pub returns-in-None-clause-passes : goal.returns-in-None-clause-passes
returns-in-None-clause-passes g c = λ few going.
    let m = c.args.parts.now in
    let s = state_of m in
    let mid : State = record s { points = c.saturating_add-parts.result } in
    let counted : mid ≡ passed s = ap (λ (n : ℕ). record s { points = n }) c.saturating_add-parts.ensures in
    let n = c.collect_if.new.parts in
    let same : program_of n ≡ program_of m = ap (λ (r : Rest). r.program) c.collect_if.ensures.rest in
    let made : n.made ≡ m.made = ap (λ (r : Rest). r.made) c.collect_if.ensures.rest in
    let still : n.made < 2 ^ 63 = omega arith in
    leaves_nobody (program_of m) (program_of n) c.args.entry s mid (state_of n) counted same (c.may_go_on.ensures.some few (search rules))
    (c.collect_if.ensures.good (search rules) (record { unstuck = going.unstuck; depth = going.depth })) (c.in-None.ensures still)
