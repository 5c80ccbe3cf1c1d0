-- Copies whose addresses don't wrap, for the two loops that make them.
use Rattle.std.specs.Prelude.{ℕ, ◌+◌, ◌-◌, ◌&&◌, nat_le, nat_lt, if◌then◌else◌}
use Rattle.m3_isa.specs.Memory.{Memory}

-- the memory after n words were copied as if all were read first
abbrev pub copied_low : Memory → ℕ → ℕ → ℕ → Memory
copied_low memory n from to at = if nat_le to at && nat_lt at (to + n) then memory (from + (at - to)) else memory at
