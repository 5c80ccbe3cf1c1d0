use Rattle.std.proofs.Common.{ℕ, ◌-◌, ◌<◌, ◌≤◌, get_or}
use Rattle.m3_tables.specs.Views.{numbers_of}
use Rattle.m3_tables.proofs.numbers.Numbers.has.Given as goal

-- the numbers before low are below the one looked for, and those from high on are above
abbrev pub invariant-loop-low : goal.invariant-loop-low
invariant-loop-low l =
    (l.high ≤ l.self.count) × ((k : ℕ) → k < l.low → get_or (numbers_of l.self) k 0 < l.number)
    × ((k : ℕ) → l.high ≤ k → k < l.self.count → l.number < get_or (numbers_of l.self) k 0)

abbrev pub decreases-loop-low : goal.decreases-loop-low
decreases-loop-low l = l.high - l.low
