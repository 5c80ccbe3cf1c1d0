use Rattle.std.proofs.Common.{◌≡◌, ℕ, ◌+◌, ◌-◌, ◌<◌, ◌≤◌, true, is_some}
use Rattle.m3_isa.specs.LowCopies.{copied_low}
use Rattle.m3_isa.proofs.blocks.copy_falling.Given as goal

abbrev pub invariant-loop-k : goal.invariant-loop-k
invariant-loop-k g l = record {
  within : l.k ≤ l.n;
  there : (j : ℕ) → l.k ≤ j → j < l.n → is_some (g.W.Words.holds l.initial.mem (l.from + j)) ≡ true;
  can : (j : ℕ) → l.k ≤ j → j < l.n → g.W.Words.writable l.initial.mem (l.to + j) ≡ true;
  copied : (x : ℕ) → g.W.Words.holds l.mem x ≡ copied_low (g.W.Words.holds l.initial.mem) (l.n - l.k) (l.from + l.k) (l.to + l.k) x;
  writable : (x : ℕ) → g.W.Words.writable l.mem x ≡ g.W.Words.writable l.initial.mem x;
  keeps : g.W.Words.keeps l.initial.mem l.mem;
}

abbrev pub decreases-loop-k : goal.decreases-loop-k
decreases-loop-k g l = l.k
