use Rattle.std.specs.Prelude.{ℕ, List, length}
use Rattle.std.proofs.Common.{◌∙◌, arith, refl, subst}
use Rattle.std.proofs.Math.Logic.{∥∥₁_elim, ∥∥₁_prop}
use Rattle.m3_run_memory.specs.Addresses.{outside_of, settable_of}
use Rattle.m3_run_meaning.specs.OnThreads.{Acts_on_threads}
use Rattle.m3_machine.proofs.threading.end_with_threads.Goals as goal

pub invariant_of-parts : goal.invariant_of-parts
invariant_of-parts g c =
    let m = c.args.parts.now in record {
      small = m.small;
      counted = omega (arith, m.counted, c.end_of.ensures.counts);
      words = c.end_of.ensures.keeps.count ∙ m.words;
      loaded = c.end_of.ensures.keeps.same_constants ∙ m.loaded;
      roomy = m.roomy;
      sized = m.sized;
      fitting = λ e. ∥∥₁_elim (m.fitting e) ∥∥₁_prop (λ f. ∣ c.end_of.ensures.fitting _ f ∣₁);
    }

pub returns-clause-acts : goal.returns-clause-acts
returns-clause-acts g c = λ few t running awake.
    let m = c.args.parts.now in
    let n = c.end_of.new in
    let old = g.S.Store.heap m.memory.outside.heap.store in
    let heap = g.S.Store.heap n.outside.heap.store in
    subst (λ (constants : List ℕ). Acts_on_threads c.args.i.op t c.args.i m.memory.threads
    (outside_of m.memory.outside.globals.items m.memory.outside.constants.items old.cells) (settable_of (length m.memory.outside.globals.items) old.cells)
    c.end_of.result n.threads (outside_of n.outside.globals.items constants heap.cells))
    c.end_of.ensures.keeps.same_constants (c.end_of.ensures.acts t running)

pub returns-clause-others : goal.returns-clause-others
returns-clause-others g c =
    let kept = c.end_of.ensures.keeps in
    record { all = record { same_depths = refl; rest = refl }; globals = kept.count; heap = kept.rest; rest = refl }
