use Rattle.std.proofs.Common.{◌≡◌, ◌++◌, length, not}
use Rattle.std.specs.Prelude.{filter}
use Rattle.m3_tables.specs.Numbers.{has}
use Rattle.m3_tables.specs.Views.{numbers_of}
use Rattle.m3_tables.proofs.tidy.changed.Given as goal

abbrev pub invariant-loop-rest : goal.invariant-loop-rest
invariant-loop-rest l =
    l.found.items ++ filter (λ p. not (has (numbers_of l.fn.removed) p)) l.rest ≡ numbers_of l.fn.added ++ filter (λ p. not (has (numbers_of l.fn.removed) p)) l.before

abbrev pub decreases-loop-rest : goal.decreases-loop-rest
decreases-loop-rest l = length l.rest
