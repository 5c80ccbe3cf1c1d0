use Rattle.std.specs.Prelude.{◌≡◌, ◌≤◌, ◌+◌, ◌-◌, []}
use Rattle.std.proofs.Common.{sym, ap, subst, ◌∙◌, arith}
use Rattle.std.proofs.Math.Logic.{∥∥₁_elim, ∥∥₁_prop}
use Rattle.m3_image_sections.specs.Parts.{Program}
use Rattle.m3_run_meaning.specs.State.{State}
use Rattle.m3_run_meaning.specs.Runs.{turn_limit}
use Rattle.m3_run_loop.specs.declared.halts.Halt.TheVariants.{Left, Other}
use Rattle.m3_machine.specs.declared.runs.Turn.{Turn}
use Rattle.m3_run_state.specs.Seen.{Rest, state_of, program_of}
use Rattle.m3_machine.specs.Turns.{Between, IsCourse}
use Rattle.m3_machine.proofs.Rolling.{track, after, after_is, after_points, after_depth, far_from, far_bounded, far_to, past_code, at_regs, with_counts, NextIs, halted_by}
use Rattle.m3_machine.proofs.runs.go_far.Goals as goal

pub invariant_of-parts : goal.invariant_of-parts
invariant_of-parts g c =
    let m = c.args.parts.now in
    let kept = c.stride-halt.ensures.keeps in record {
      small = m.small;
      counted = omega (arith, m.counted, kept.forks, kept.waits);
      words = kept.words ∙ m.words;
      loaded = kept.constants ∙ m.loaded;
      roomy = m.roomy;
      sized = m.sized;
      fitting = λ e. ∥∥₁_elim (m.fitting e) ∥∥₁_prop (λ f. ∣ kept.fitting _ f ∣₁);
    }

pub returns-clause-leads : goal.returns-clause-leads
returns-clause-leads g c = λ p start k others known h.
    let m = c.args.parts.now in
    let turn = c.args.turn.now in
    let memory = c.stride-halt.new.memory in
    let pace = c.stride-halt.new.pace in
    let r = c.stride-halt.new.r in
    let at = c.stride-halt.new.at in
    let halt = c.stride-halt.result.0 in
    let count = c.stride-halt.result.1 in
    let points = c.free_points-points.result in
    let limit = c.turn_limit-limit.result in
    let d = points - pace.points in
    let kept = c.stride-halt.ensures.keeps in
    let stood = state_of c.set_regs.new.self in
    let rest = c.set_regs.ensures.rest in
    let course = subst (λ (q : Program). IsCourse q start k) (sym known.program) known.course in
    let b = subst (λ (q : Program). Between q k others m turn) (sym known.program) h in
    let t = b.thread in
    let p' = program_of m in
    let limited : limit ≡ turn_limit p' (state_of m) = c.turn_limit-limit.ensures.limit t b.running in
    let regs = at_regs c.regs-regs.result c.of-at.result t c.of-at.ensures (c.regs-regs.ensures t b.running) in
    let stands = far_from k others m turn limit points c.stack-stack.result c.regs-regs.result.r c.of-at.result b course.small limited c.if-turn-limit.false (c.stack-stack.ensures t b.running) regs
    c.free_points-points.ensures.few (λ some. c.free_points-points.ensures.ready some t b.running) in
    let halts = c.stride-halt.ensures.strides (track k m t) stands in
    let bounded = after_points k m memory r at d count (far_bounded start k m t d count pace.limit pace.left pace.points c.stack-stack.result r at memory halt kept.constants course halts) in
    let one : stood.points ≡ m.points = ap (λ (s : State). s.points) c.set_regs.ensures.set in
    let two : stood.instructions ≡ m.instructions = ap (λ (s : State). s.instructions) c.set_regs.ensures.set in
    let more : c.saturating_add-parts.result ≡ m.points + d = omega (arith, c.saturating_add-parts.ensures, one, bounded.0, course.small) in
    let executed : c.saturating_add-parts-2.result ≡ m.instructions + count = omega (arith, c.saturating_add-parts-2.ensures, c.from.ensures, two, bounded.0, bounded.1, course.small) in
    let last : State = with_counts stood c.saturating_add-parts.result c.saturating_add-parts-2.result in
    let is : last ≡ after m d count r at memory = after_is m memory r at d count c.saturating_add-parts.result c.saturating_add-parts-2.result stood c.set_regs.ensures.set more executed in
    let new : Turn = record { done = c.saturating_sub-turn.result; points = turn.points - d } in
    let done : c.saturating_sub-turn.result ≡ pace.limit - pace.left = omega (arith, c.saturating_sub-turn.ensures, c.stride-halt.ensures.limit) in
    let long : turn_limit p' last ≡ turn_limit p' (state_of m) = after_depth p' m memory r at d count last is kept.depth in
    let few : d ≤ turn.points = omega (arith, c.free_points-points.ensures.few) in
    let left : c.saturating_add-parts.result + (turn.points - d + others) ≡ k.allowed = omega (arith, more, b.paced.points, few) in
    let free : 1 ≤ turn.points - d → k.entries ≡ [] = λ some. b.paced.free (omega (arith, some)) in
    let same : c.set_regs.new.self.made ≡ m.made = ap (λ (x : Rest). x.made) rest in
    let made : c.set_regs.new.self.made ≤ c.saturating_add-parts.result = omega (arith, more, same, b.paced.made) in
    let gone : halt ≡ Left → NextIs p' at.pc new last = λ e i next within. absurd (past_code p'.code at.pc i (c.stride-halt.ensures.past e) next) in
    let next : halt ≡ Other → NextIs p' at.pc new last = λ e i found within.
    let some : 1 ≤ pace.left = omega (arith, done, long, limited, within, c.stride-halt.ensures.limit) in
    c.stride-halt.ensures.other e some i found in
    halted_by k others _ new halt p' p known.program
    (far_to k others m _ new t d count pace.limit pace.left pace.points c.stack-stack.result r at memory halt kept.constants is done (record { points = left; free = free; made = made; unstuck = ap (λ (x : Rest). x.stuck) rest ∙ b.paced.unstuck }) c.stride-halt.ensures.ends gone next halts)
