-- Counts of what happened outside, which only rise, and stand still at the last number of 64 bits.
use Rattle.std.specs.Prelude.{◌≡◌, ℕ, ◌+◌, ◌-◌, ◌^◌, ◌<◌, ◌⊎◌, min}

-- a count rose in a call: it is greater afterwards, or stands at its last value
abbrev pub Rose : ℕ → ℕ → Type 0
Rose before after = (before < after) ⊎ (after ≡ 2 ^ 64 - 1)

-- a count that was raised once
abbrev pub raised : ℕ → ℕ
raised n = min (n + 1) (2 ^ 64 - 1)

-- the four counts of a shelf
pub record ShelfCounts : Type 0 where
  pub faults : ℕ
  pub store_faults : ℕ
  pub absences : ℕ
  pub excesses : ℕ
