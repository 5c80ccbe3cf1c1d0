use Rattle.std.proofs.Common.{◌≡◌, vec_len}
use Rattle.m3_heap_bench.proofs.of_row.Given as goal

abbrev pub invariant-loop-round : goal.invariant-loop-round
invariant-loop-round l = vec_len l.here ≡ vec_len l.there
