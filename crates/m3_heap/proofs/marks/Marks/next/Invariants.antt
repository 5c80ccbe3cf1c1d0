use Rattle.std.proofs.Common.{◌≡◌, ℕ, ◌-◌, ◌<◌, ◌≤◌, false, get_or}
use Rattle.m3_heap.specs.CollectorMarks.{marks_in}
use Rattle.m3_heap.proofs.marks.Marks.next.Given as goal

abbrev pub invariant-loop-at : goal.invariant-loop-at
invariant-loop-at l = record {
  low : l.from ≤ l.at;
  high : l.at ≤ l.self-inside.count;
  between : (k : ℕ) → l.from ≤ k → k < l.at → get_or (marks_in l.self-inside.bits.items l.self-inside.count) k false ≡ false;
}

abbrev pub decreases-loop-at : goal.decreases-loop-at
decreases-loop-at l = l.self-inside.count - l.at
