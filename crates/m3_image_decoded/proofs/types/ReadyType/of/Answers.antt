use Rattle.std.proofs.Common.{◌≡◌, ◌<◌, ◌≢◌, ℕ, false, length, get_or, set, arith, get_or-set_other, get_or-set_same, below_more, length-set}
use Rattle.m3_heap.specs.Shapes.{is_listed}
use Rattle.m3_image_sections.specs.PartViews.{type_of}
use Rattle.m3_image_decoded.proofs.types.ReadyType.of.Goals as goal

pub loop-k-preserved : goal.loop-k-preserved
loop-k-preserved c =
    let long = c.loop-k.invariant.1 in
    let within = c.loop-k-test.true in
    let lt : c.loop-k.k < length c.loop-k.low = omega (arith, long, within) in
    let pointers = (type_of c.args.view).pointers in
    let after = set c.loop-k.low c.loop-k.k c.points_at.result in (
      below_more (λ (j : ℕ). get_or after j false ≡ is_listed pointers j) c.loop-k.k
          (λ k h. let ne : k ≢ c.loop-k.k = omega arith in rw get_or-set_other (c.loop-k.invariant.0 k h))
          (rw get_or-set_same c.points_at.ensures),
      rw length-set long,
    )
