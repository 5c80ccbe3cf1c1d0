use Rattle.std.specs.Prelude.{◌≡◌, ◌≤◌, ◌+◌, ◌++◌, drop}
use Rattle.m3_image_decoded.specs.Ready.{image_of}
use Rattle.m3_roots.specs.RowMeaning.{HaveRows, derived_words}
use Rattle.m3_roots.specs.TakingApart.{apart}
use Rattle.m3_roots.specs.Steps.{derived_listed}
use Rattle.m3_roots.proofs.apart.take_apart.Given as goal

abbrev pub invariant-loop-frame : goal.invariant-loop-frame
invariant-loop-frame g l =
    let p = (image_of l.image).program in
    (HaveRows p l.frames → apart (derived_words p (drop l.frame-index l.frames)) (l.r ++ l.stack) ≡ apart (derived_words p l.frames) (l.initial.r ++ l.initial.stack))
    × (HaveRows p l.frames → l.steps + derived_listed (derived_words p (drop l.frame-index l.frames)) ≤ l.initial.steps + derived_listed (derived_words p l.frames))
