use Rattle.std.proofs.Common.{◌≡◌, replicate, vec_len, vec_capacity}
use Rattle.m3_threads.proofs.stacks.lay_out.Given as goal

abbrev pub invariant-loop-word : goal.invariant-loop-word
invariant-loop-word l = record {
  blank : l.words.items ≡ replicate l._word 0;
  count : vec_len l.words ≡ l._word;
  capacity : vec_capacity l.words ≡ vec_capacity l.initial.words;
}
