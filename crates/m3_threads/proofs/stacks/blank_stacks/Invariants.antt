use Rattle.std.proofs.Common.{◌≡◌, ◌≤◌, [], vec_len, vec_capacity}
use Rattle.std.specs.Prelude.{replicate}
use Rattle.m3_threads.specs.PlacesInside.{HaveRoom, contents}
use Rattle.m3_threads.proofs.stacks.blank_stacks.Given as goal

abbrev pub invariant-loop-slot : goal.invariant-loop-slot
invariant-loop-slot l = record {
  blank : contents l.stacks.items ≡ replicate l._slot [];
  count : vec_len l.stacks ≡ l._slot;
  room : l.slots ≤ vec_capacity l.stacks;
  rooms : HaveRoom l.words l.stacks.items;
}
