use Rattle.std.proofs.Common.{◌≡◌, length, subst}
use Rattle.m3_types_sizes.specs.Sizes.{IsRight, AreSized, IsFull}
use Rattle.m3_types_sizes.proofs.Measuring.{shallow_if}
use Rattle.m3_types_sizes.proofs.sized.SizedTypes.measure.Goals as goal

pub invariant_of-result : goal.invariant_of-result
invariant_of-result c =
    let table = c.in_ok-words.words.items in
    let e = c.deref.ensures.value in
    record {
      alike = subst (λ nodes. length table ≡ length nodes) e c.in_ok-words.ensures.alike;
      right = subst (λ nodes. IsRight nodes table) e c.in_ok-words.ensures.right;
      sound = subst (λ nodes. AreSized nodes table) e c.in_ok-words.ensures.sound;
      full = subst (λ nodes. IsFull nodes table) e c.in_ok-words.ensures.full;
      shallow = λ i h. ∣ shallow_if c.args.graph.nodes.items table i _ (subst (λ nodes. AreSized nodes table) e c.in_ok-words.ensures.sound) (subst (λ nodes. IsFull nodes table) e c.in_ok-words.ensures.full) (subst (λ nodes. length table ≡ length nodes) e c.in_ok-words.ensures.alike) h ∣₁;
    }
