use Rattle.std.specs.Prelude.{◌<◌, ◌^◌}
use Rattle.std.proofs.Common.{refl, ap, arith}
use Rattle.m3_run_state.specs.Seen.{Rest, state_of}
use Rattle.m3_run_meaning.specs.Runs.{stands}
use Rattle.m3_machine.proofs.Settling.{comes_to_rest, comes_past, past_is}
use Rattle.m3_machine.proofs.runs.settle_at_point.Goals as goal

pub returns-then-turn-eq0-clause-comes : goal.returns-then-turn-eq0-clause-comes
returns-then-turn-eq0-clause-comes g c = λ p start k others known h next.
    let m = c.args.parts.now in
    let few : m.made < 2 ^ 63 = omega (arith, h.paced.made, h.paced.points, known.course.small) in
    comes_to_rest p k others m c.stand_at.new.self c.args.turn.now c.args.i h next c.requires.point (c.stand_at.ensures.stands few) (ap (λ (r : Rest). r.made) c.stand_at.ensures.rest) (ap (λ (r : Rest). r.stuck) c.stand_at.ensures.rest)

pub returns-clause-comes : goal.returns-clause-comes
returns-clause-comes g c = λ p start k others known h next.
    let m = c.args.parts.now in
    let few : m.made < 2 ^ 63 = omega (arith, h.paced.made, h.paced.points, known.course.small) in
    let stood = state_of c.stand_at.new.self in
    comes_past p start k others m _ c.args.turn.now _ c.args.i known.course h next c.requires.point (c.may_wait.ensures c.if-may_wait.false c.args.i.a c.args.i.b) (omega (arith, c.if-turn-eq0.false))
    (past_is stood (stands c.args.i (state_of m)) c.saturating_add-parts.result (c.stand_at.ensures.stands few) c.saturating_add-parts.ensures)
    (ap (λ (r : Rest). r.made) c.stand_at.ensures.rest) (ap (λ (r : Rest). r.stuck) c.stand_at.ensures.rest) refl refl
