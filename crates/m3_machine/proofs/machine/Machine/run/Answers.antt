use Rattle.std.specs.Prelude.{◌≡◌, ◌<◌, ◌+◌, ◌^◌, ◌++◌, [], Option, None}
use Rattle.std.proofs.Common.{refl, ap, subst, ◌∙◌, arith, rules}
use Rattle.m3_base.specs.declared.outcomes.Outcome.{Outcome}
use Rattle.m3_base.specs.declared.outcomes.Outcome.TheVariants.{Spent}
use Rattle.m3_image_sections.specs.Parts.{Program}
use Rattle.m3_run_meaning.specs.Points.{Says_spent}
use Rattle.m3_run_meaning.specs.Runs.{starting}
use Rattle.m3_run_laws.specs.Courses.{IsOther}
use Rattle.m3_run_state.specs.Seen.{Rest, state_of, program_of}
use Rattle.m3_machine.specs.RunCalls.{Turned}
use Rattle.m3_machine.proofs.Taking.{took_nothing, took_more}
use Rattle.m3_machine.proofs.Cutting.{at_any, stops_later}
use Rattle.m3_machine.proofs.Turning.{followed, known_so, at_first, at_next, ran_over, ran_out, ready_again}
use Rattle.m3_machine.proofs.machine.Machine.run.Goals as goal

pub turns-init : goal.turns-init
turns-init g c = record {
  faults = refl;
  rest = refl;
  came = λ ready small. ([], took_nothing _, at_first c.args.self.now.parts c.args.schedule.now c.args.points ready);
}

pub returns-in-Some-clause-ran : goal.returns-in-Some-clause-ran
returns-in-Some-clause-ran g c = λ ready small.
    let m = c.args.self.now.parts in
    let a = c.turns.self.parts in
    let n = c.next_turn.new.parts in
    let s = state_of m in
    let inv = c.turns.invariant in
    let so = inv.came ready small in
    let k = followed m.input.now (s.points + c.args.points) s c.args.schedule.now c.turns.entries.now so.0 in
    let known = known_so m a c.args.schedule.now c.turns.entries.now c.args.points so.0 c.know_image.ensures.begins c.know_image.ensures.short ready small (ap (λ (r : Rest). r.program) inv.rest) (ap (λ (r : Rest). r.input) inv.rest) (ap (λ (r : Rest). r.stack) inv.rest) in
    let told = c.in_ok-outcome.ensures.turned (program_of m) s k known so.2 refl in
    let over = subst (λ (o : Option Outcome). Turned (program_of m) k told.0 c.next_turn.new.left n o) c.in-Some.is told.2 in (
      so.0 ++ told.0,
      took_more _ _ _ so.0 told.0 so.1 told.1,
      ran_over (program_of m) m.input.now c.args.points s c.args.schedule.now c.turns.entries.now so.0 told.0 c.next_turn.new.left n c.in-Some.outcome known.course over,
    )

pub returns-in-Some-clause-ready : goal.returns-in-Some-clause-ready
returns-in-Some-clause-ready g c = λ spent ready small.
    let m = c.args.self.now.parts in
    let a = c.turns.self.parts in
    let n = c.next_turn.new.parts in
    let s = state_of m in
    let inv = c.turns.invariant in
    let so = inv.came ready small in
    let k = followed m.input.now (s.points + c.args.points) s c.args.schedule.now c.turns.entries.now so.0 in
    let known = known_so m a c.args.schedule.now c.turns.entries.now c.args.points so.0 c.know_image.ensures.begins c.know_image.ensures.short ready small (ap (λ (r : Rest). r.program) inv.rest) (ap (λ (r : Rest). r.input) inv.rest) (ap (λ (r : Rest). r.stack) inv.rest) in
    let told = c.in_ok-outcome.ensures.turned (program_of m) s k known so.2 refl in
    let over = subst (λ (o : Option Outcome). Turned (program_of m) k told.0 c.next_turn.new.left n o) c.in-Some.is told.2 in
    let same : c.in-Some.outcome ≡ Spent = cc in
    absurd (subst (λ (o : Outcome). IsOther o) same over.2)

pub turns-preserved : goal.turns-preserved
turns-preserved g c =
    let m = c.args.self.now.parts in
    let a = c.turns.self.parts in
    let n = c.next_turn.new.parts in
    let s = state_of m in
    let inv = c.turns.invariant in
    record {
      faults = c.in_ok-outcome.ensures.kept ∙ inv.faults;
      rest = c.next_turn.ensures.rest ∙ ap (λ (r : Rest). record r { made = n.made; stuck = n.stuck }) inv.rest;
      came = λ ready small.
          let so = inv.came ready small in
          let k = followed m.input.now (s.points + c.args.points) s c.args.schedule.now c.turns.entries.now so.0 in
          let known = known_so m a c.args.schedule.now c.turns.entries.now c.args.points so.0 c.know_image.ensures.begins c.know_image.ensures.short ready small (ap (λ (r : Rest). r.program) inv.rest) (ap (λ (r : Rest). r.input) inv.rest) (ap (λ (r : Rest). r.stack) inv.rest) in
          let told = c.in_ok-outcome.ensures.turned (program_of m) s k known so.2 refl in
          let none : c.in_ok-outcome.field-0 ≡ None = search rules in
          let next = subst (λ (o : Option Outcome). Turned (program_of m) k told.0 c.next_turn.new.left n o) none told.2 in (
            so.0 ++ told.0,
            took_more _ _ _ so.0 told.0 so.1 told.1,
            at_next (program_of m) m.input.now (s.points + c.args.points) s c.args.schedule.now c.turns.entries.now c.later_entries-entries.result.now so.0 told.0 c.next_turn.new.left n c.later_entries-entries.ensures next,
          );
    }

pub returns-clause-ran : goal.returns-clause-ran
returns-clause-ran g c = λ ready small.
    let m = c.args.self.now.parts in
    let a = c.turns.self.parts in
    let s = state_of m in
    let inv = c.turns.invariant in
    let so = inv.came ready small in
    let known = known_so m a c.args.schedule.now c.turns.entries.now c.args.points so.0 c.know_image.ensures.begins c.know_image.ensures.short ready small (ap (λ (r : Rest). r.program) inv.rest) (ap (λ (r : Rest). r.input) inv.rest) (ap (λ (r : Rest). r.stack) inv.rest) in
    let few : a.made < 2 ^ 63 = omega (arith, so.2.made, so.2.points, small) in
    let none : c.turns.left ≡ 0 = omega (arith, c.turns-test.false) in
    let says = subst (λ (q : Program). Says_spent q (state_of a) c.spent.result) (ap (λ (r : Rest). r.program) inv.rest) (c.spent.ensures few) in (
      so.0 ++ [],
      took_more _ _ _ so.0 [] so.1 (took_nothing _),
      ran_out (program_of m) m.input.now c.args.points s c.args.schedule.now c.turns.entries.now so.0 c.turns.left a c.spent.result known.course none so.2 says,
    )

pub returns-clause-ready : goal.returns-clause-ready
returns-clause-ready g c = λ spent ready small.
    let m = c.args.self.now.parts in
    let a = c.turns.self.parts in
    let inv = c.turns.invariant in
    let so = inv.came ready small in
    let known = known_so m a c.args.schedule.now c.turns.entries.now c.args.points so.0 c.know_image.ensures.begins c.know_image.ensures.short ready small (ap (λ (r : Rest). r.program) inv.rest) (ap (λ (r : Rest). r.input) inv.rest) (ap (λ (r : Rest). r.stack) inv.rest) in
    ready_again m a c.args.schedule.now c.turns.entries.now c.args.points c.turns.left so.0 known so.2

pub returns-in_err-outcome-clause-cut : goal.returns-in_err-outcome-clause-cut
returns-in_err-outcome-clause-cut g c = at_any _ c.from_residual.result (λ ready small.
    let m = c.args.self.now.parts in
    let a = c.turns.self.parts in
    let s = state_of m in
    let inv = c.turns.invariant in
    let so = inv.came ready small in
    let k = followed m.input.now (s.points + c.args.points) s c.args.schedule.now c.turns.entries.now so.0 in
    let known = known_so m a c.args.schedule.now c.turns.entries.now c.args.points so.0 c.know_image.ensures.begins c.know_image.ensures.short ready small (ap (λ (r : Rest). r.program) inv.rest) (ap (λ (r : Rest). r.input) inv.rest) (ap (λ (r : Rest). r.stack) inv.rest) in
    stops_later g.O.Sink (program_of m) m.input.now (s.points + c.args.points) (starting s c.args.schedule.now) [] so.0 c.args.out.now c.turns.out c.next_turn.new.out so.1
    (c.in_err-outcome.ensures.cut (program_of m) s k known so.2 refl))
