use Rattle.std.proofs.Common.{◌≡◌, length}
use Rattle.m3_types_sizes.specs.Sizes.{IsRight, IsLow, AreSized}
use Rattle.m3_types_sizes.proofs.words.settle_each.Given as goal

abbrev pub invariant-loop-place : goal.invariant-loop-place
invariant-loop-place l = record {
  alike : length l.table ≡ length l.nodes;
  right : IsRight l.nodes l.table;
  low : IsLow l.table;
  sound : AreSized l.nodes l.table;
}
