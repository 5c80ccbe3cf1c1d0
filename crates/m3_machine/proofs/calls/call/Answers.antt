use Rattle.std.specs.Prelude.{ℕ, ◌≡◌, Result, Ok}
use Rattle.std.proofs.Common.{refl, ◌∙◌, sym, ap, subst}
use Rattle.std.proofs.Math.Logic.{∥∥₁_elim, ∥∥₁_prop}
use Rattle.m3_base.specs.declared.outcomes.Outcome.{Outcome}
use Rattle.m3_threads.specs.Spaces.{held}
use Rattle.m3_run_meaning.specs.declared.near.Stack.{Stack}
use Rattle.m3_run_meaning.specs.declared.near.Place.{Place}
use Rattle.m3_run_memory.specs.Addresses.{outside_of}
use Rattle.m3_run_meaning.specs.State.{State, HasOtherWords, memory_of, can_set}
use Rattle.m3_run_meaning.specs.Progress.{Follows, became}
use Rattle.m3_run_meaning.specs.Calls.{stack_of, place_of, entering, framed, calls}
use Rattle.m3_run_state.specs.Seen.{state_of, program_of}
use Rattle.m3_run_memory.proofs.Keeping.{still-counted, still_found}
use Rattle.m3_machine.proofs.Acting.{called}
use Rattle.m3_machine.proofs.calls.call.Goals as goal

pub invariant_of-parts : goal.invariant_of-parts
invariant_of-parts g c =
    let m = c.args.parts.now in
    let kept = c.enter.ensures.keeps in record {
      small = m.small;
      counted = still-counted m.memory.threads c.enter.new.memory.threads m.made kept.0.stacks m.counted;
      words = kept.0.outside.count ∙ m.words;
      loaded = kept.0.outside.same_constants ∙ m.loaded;
      roomy = m.roomy;
      sized = m.sized;
      fitting = λ e. ∥∥₁_elim (m.fitting e) ∥∥₁_prop (λ f. ∣ kept.1 _ f ∣₁);
    }

pub returns-in-Ok-enter-clause-calls : goal.returns-in-Ok-enter-clause-calls
returns-in-Ok-enter-clause-calls g c = λ t running stands.
    let m = c.args.parts.now in
    let p = program_of m in
    let s = state_of m in
    let n = c.enter.new.memory in
    let heap = g.S.Store.heap n.outside.heap.store in
    let mid : State = record s { all = n.threads; globals = n.outside.globals.items; heap = heap } in
    let kept = c.enter.ensures.keeps.0 in
    let to = c.in-Ok-enter.to in
    let stack = stack_of m.memory.threads t in
    let progress = became c.come_to.result (state_of c.come_to.new.self) in
    let found : entering p c.in-Ok.number stack (place_of t.regs) ≡ Ok to =
    subst (λ (at : Place). entering p c.in-Ok.number stack at ≡ Ok to) stands
    (subst (λ (k : Stack). entering p c.in-Ok.number k c.args.at ≡ Ok to) (c.stack-stack.ensures t running) (sym c.in-Ok-enter.ensures.place)) in
    let others : HasOtherWords s mid = record { all = kept.stacks; globals = kept.outside.count; heap = kept.outside.rest; rest = refl } in
    let words : (x : ℕ) → memory_of p mid x ≡ framed to (place_of t.regs) (memory_of p s) (can_set s) x =
    λ x. ap (λ constants. held n.threads (outside_of n.outside.globals.items constants heap.cells) x) (sym kept.outside.same_constants)
    ∙ c.in-Ok-enter.ensures.framed x ∙ ap (λ (at : Place). framed to at (memory_of p s) (can_set s) x) stands in
    subst (λ (callee : Result ℕ Outcome). Follows p (calls p callee stack t.regs (memory_of p s) (can_set s)) s progress) (sym c.in-Ok.is)
    (called p s mid t c.in-Ok.number stack to progress found others words
    (c.come_to.ensures.goes t (still_found m.memory.threads n.threads m.running t kept.stacks running)))
