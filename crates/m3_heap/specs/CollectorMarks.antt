-- For the collector alone: one bit for each word, packed into words of 64 bits.
use Rattle.std.specs.Prelude.{ℕ, ◌/◌, ◌%◌, Bool, ◌==◌, List, map, slice_index}
use Rattle.std.specs.List.{range_with_len}
use Rattle.std.specs.Int.{bit_at}

-- bit number i, counted from the lowest of the first word
abbrev pub is_marked : List ℕ → ℕ → Bool
is_marked bits i = bit_at (slice_index bits (i / 64)) (i % 64) == 1

-- the first bits
abbrev pub marks_in : List ℕ → ℕ → List Bool
marks_in bits count = map (is_marked bits) (range_with_len 0 count)
