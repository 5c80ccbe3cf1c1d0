use Rattle.std.proofs.Common.{◌≡◌, length}
use Rattle.m3_types_sizes.specs.Sizes.{IsRight, IsLow, AreSized, lacking}
use Rattle.m3_types_sizes.proofs.words.table_of_words.Given as goal

abbrev pub invariant-loop : goal.invariant-loop
invariant-loop l = record {
  alike : length l.table.items ≡ length l.nodes;
  right : IsRight l.nodes l.table.items;
  low : IsLow l.table.items;
  sound : AreSized l.nodes l.table.items;
}

abbrev pub decreases-loop : goal.decreases-loop
decreases-loop l = lacking l.table.items
