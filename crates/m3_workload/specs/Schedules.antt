-- The schedule of a number.
use Rattle.std.specs.Prelude.{ℕ, zero, suc, ◌+◌, ◌*◌, ◌/◌, ◌%◌, ◌^◌, ◌==◌, List, [], ◌∷◌, Some}
use Rattle.m3_base.specs.declared.outcomes.Entry.{Entry}

-- the linear congruential generator of Knuth's MMIX
abbrev pub next : ℕ → ℕ
next x = (6364136223846793005 * x + 1442695040888963407) % 2 ^ 64

-- an entry names a thread of 0 to 4, and one of eight collects
abbrev pub entry_at : ℕ → Entry
entry_at x = record { to = Some ((x / 2 ^ 33) % 5); collect = (x / 2 ^ 40) % 8 == 0 }

-- so many entries, behind a state of the generator
unfoldable pub entries_behind : ℕ → ℕ → List Entry
entries_behind zero x = []
entries_behind (suc n) x = entry_at (next x) ∷ entries_behind n (next x)

abbrev pub schedule_of : ℕ → List Entry
schedule_of number = entries_behind 20000 number
