use Rattle.std.proofs.Common.{ℕ, ◌-◌, ◌<◌, ◌≤◌, length, get_or}
use Rattle.m3_tables_writer.specs.Plain.{place_numbers}
use Rattle.m3_tables_writer.proofs.comparing.has_number.Given as goal

-- the places before low are below the one looked for, and those from high on are above
abbrev pub invariant-loop-low : goal.invariant-loop-low
invariant-loop-low l =
    (l.high ≤ length l.places) × ((k : ℕ) → k < l.low → get_or (place_numbers l.places) k 0 < l.wanted)
    × ((k : ℕ) → l.high ≤ k → k < length l.places → l.wanted < get_or (place_numbers l.places) k 0)

abbrev pub decreases-loop-low : goal.decreases-loop-low
decreases-loop-low l = l.high - l.low
