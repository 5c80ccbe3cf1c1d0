use Rattle.std.specs.Prelude.{ℕ, ◌+◌, ◌≤◌, ◌<◌, ◌^◌, take}
use Rattle.std.specs.List.{AllByRecursion}
use Rattle.m3_run_frames.specs.declared.frame.Frame.{Frame}
use Rattle.m3_roots.proofs.lists.end_of.Given as goal

abbrev pub invariant-loop-frame : goal.invariant-loop-frame
invariant-loop-frame l =
    (n : ℕ) → n < 2 ^ 64 → AllByRecursion (λ (f : Frame). f.first + f.words ≤ n) l.frames → (l.end ≤ n) × AllByRecursion (λ (f : Frame). f.first + f.words ≤ l.end) (take l.frame-index l.frames)
