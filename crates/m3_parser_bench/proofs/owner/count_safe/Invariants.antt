use Rattle.std.proofs.Common.{◌≤◌, length}
use Rattle.m3_parser_bench.proofs.owner.count_safe.Given as goal

abbrev pub invariant-loop-unit : goal.invariant-loop-unit
invariant-loop-unit l = length l.safe.items ≤ l.unit-index
