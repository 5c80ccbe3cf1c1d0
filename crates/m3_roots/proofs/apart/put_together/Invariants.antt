use Rattle.std.specs.Prelude.{◌≡◌, ◌≤◌, ◌+◌, ◌++◌, length, drop, Some}
use Rattle.m3_image_decoded.specs.Ready.{image_of}
use Rattle.m3_roots.specs.RowMeaning.{HaveRows, derived_words}
use Rattle.m3_roots.specs.TakingApart.{together}
use Rattle.m3_roots.specs.Steps.{derived_listed}
use Rattle.m3_roots.proofs.apart.put_together.Given as goal

abbrev pub invariant-loop-k : goal.invariant-loop-k
invariant-loop-k g l =
    let p = (image_of l.image).program in
    (l.k ≤ length l.frames) × (HaveRows p l.frames → together (derived_words p (drop l.k l.frames)) (l.initial.r ++ l.initial.stack) ≡ Some (l.r ++ l.stack))
    × (HaveRows p l.frames → l.steps ≤ l.initial.steps + derived_listed (derived_words p (drop l.k l.frames)))

abbrev pub decreases-loop-k : goal.decreases-loop-k
decreases-loop-k g l = l.k
