use Rattle.std.proofs.Common.{◌≡◌, ℕ, false}
use Rattle.m3_isa.specs.Effects.{filled, IsMemory, is_among}
use Rattle.m3_isa.proofs.blocks.fill_words.Given as goal

abbrev pub invariant-loop-k : goal.invariant-loop-k
invariant-loop-k g l = record {
  filled : IsMemory (filled (g.W.Words.holds l.initial.mem) (g.W.Words.writable l.initial.mem) l.from l.distance l.k) (g.W.Words.holds l.mem);
  outside : (x : ℕ) → is_among x l.to l.n ≡ false → g.W.Words.holds l.mem x ≡ g.W.Words.holds l.initial.mem x;
  writable : (x : ℕ) → g.W.Words.writable l.mem x ≡ g.W.Words.writable l.initial.mem x;
  keeps : g.W.Words.keeps l.initial.mem l.mem;
}
