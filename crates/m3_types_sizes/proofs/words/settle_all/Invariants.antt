use Rattle.std.proofs.Common.{◌≡◌, ℕ, ◌<◌, true, false, length}
use Rattle.m3_types_sizes.specs.Sizes.{IsRight, IsLow, AreSized, IsTold, lacking}
use Rattle.m3_types_sizes.proofs.words.settle_all.Given as goal

-- as long as the table hasn't grown, each type so far is settled
abbrev pub invariant-loop-i : goal.invariant-loop-i
invariant-loop-i l = record {
  right : IsRight l.nodes l.table;
  low : IsLow l.table;
  sound : AreSized l.nodes l.table;
  alike : length l.table ≡ length l.nodes;
  fewer : l.grew ≡ true → lacking l.table < lacking l.fn.table;
  same : l.grew ≡ false → l.table ≡ l.fn.table;
  settled : l.grew ≡ false → (j : ℕ) → j < l.i → IsTold l.nodes l.table j;
}
