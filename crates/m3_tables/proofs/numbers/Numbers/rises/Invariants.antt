use Rattle.std.proofs.Common.{ℕ, suc, ◌<◌, get_or}
use Rattle.m3_tables.specs.Views.{numbers_of}
use Rattle.m3_tables.proofs.numbers.Numbers.rises.Given as goal

abbrev pub invariant-loop-place : goal.invariant-loop-place
invariant-loop-place l = (k : ℕ) → suc k < l.place → get_or (numbers_of l.self) k 0 < get_or (numbers_of l.self) (suc k) 0
