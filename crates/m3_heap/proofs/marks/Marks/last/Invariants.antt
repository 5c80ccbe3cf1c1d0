use Rattle.std.proofs.Common.{◌≡◌, ℕ, ◌<◌, ◌≤◌, false, get_or}
use Rattle.m3_heap.specs.CollectorMarks.{marks_in}
use Rattle.m3_heap.proofs.marks.Marks.last.Given as goal

abbrev pub invariant-loop-self : goal.invariant-loop-self
invariant-loop-self l = record {
  high : l.at ≤ l.from;
  between : (k : ℕ) → l.at < k → k ≤ l.from → get_or (marks_in l.self-inside.bits.items l.self-inside.count) k false ≡ false;
}

abbrev pub decreases-loop-self : goal.decreases-loop-self
decreases-loop-self l = l.at
