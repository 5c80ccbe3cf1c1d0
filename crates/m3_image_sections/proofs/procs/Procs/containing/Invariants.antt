use Rattle.std.proofs.Common.{ℕ, ◌-◌, ◌<◌, ◌≤◌}
use Rattle.m3_image_sections.specs.PartViews.{procs_of}
use Rattle.m3_image_sections.proofs.ProcLemmas.{end_at}
use Rattle.m3_image_sections.proofs.procs.Procs.containing.Given as goal

-- the procedures before low end at the instruction or before it, and those from high on behind it
abbrev pub invariant-loop-low : goal.invariant-loop-low
invariant-loop-low l =
    (l.low ≤ l.high) × (l.high ≤ l.self.count) × ((k : ℕ) → k < l.low → end_at (procs_of l.self) k ≤ l.instr)
    × ((k : ℕ) → l.high ≤ k → k < l.self.count → l.instr < end_at (procs_of l.self) k)

abbrev pub decreases-loop-low : goal.decreases-loop-low
decreases-loop-low l = l.high - l.low
