use Rattle.std.proofs.Common.{◌≡◌, ℕ, ◌<◌, ◌≤◌, length, get_or}
use Rattle.m3_heap.proofs.marks.Marks.clear.Given as goal

abbrev pub invariant-loop-place : goal.invariant-loop-place
invariant-loop-place l = record {
  same_length : length l.self-inside.bits.items ≡ length l.initial.self-inside.bits.items;
  same_count : l.self-inside.count ≡ l.initial.self-inside.count;
  clear : (j : ℕ) → j < l.place → get_or l.self-inside.bits.items j 0 ≡ 0;
  kept : (j : ℕ) → l.place ≤ j → get_or l.self-inside.bits.items j 0 ≡ get_or l.initial.self-inside.bits.items j 0;
}
