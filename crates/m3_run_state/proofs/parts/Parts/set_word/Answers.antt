use Rattle.std.proofs.Common.{◌∙◌}
use Rattle.std.proofs.Math.Logic.{∥∥₁_elim, ∥∥₁_prop}
use Rattle.m3_run_memory.proofs.Keeping.{still-counted}
use Rattle.m3_run_state.proofs.parts.Parts.set_word.Goals as goal

pub invariant_of-self : goal.invariant_of-self
invariant_of-self g c =
    let m = c.args.self.now in
    let kept = c.store-is_set.ensures.keeps in record {
      small = m.small;
      counted = still-counted m.memory.threads c.store-is_set.new.self.threads m.made kept.0.stacks m.counted;
      words = kept.0.outside.count ∙ m.words;
      loaded = kept.0.outside.same_constants ∙ m.loaded;
      roomy = m.roomy;
      sized = m.sized;
      fitting = λ e. ∥∥₁_elim (m.fitting e) ∥∥₁_prop (λ f. ∣ kept.1 _ f ∣₁);
    }
