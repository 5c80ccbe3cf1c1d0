use Rattle.std.proofs.Common.{◌≡◌, vec_len, vec_capacity}
use Rattle.m3_threads.specs.Actions.{woken_on}
use Rattle.m3_threads.proofs.Places.{mixed}
use Rattle.m3_threads.proofs.list.wake_sleepers.Given as goal

abbrev pub invariant-loop-k : goal.invariant-loop-k
invariant-loop-k l = record {
  threads : l.threads.items ≡ mixed (woken_on l.condition) l.k l.initial.threads.items;
  length : vec_len l.threads ≡ vec_len l.initial.threads;
  capacity : vec_capacity l.threads ≡ vec_capacity l.initial.threads;
}
