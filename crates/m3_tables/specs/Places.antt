-- Where a word of a frame is, and the number that stands for it: 0 to 15 for the registers, and from 16
-- on the slots.
use Rattle.std.specs.Prelude.{ℕ, ◌+◌, ◌-◌, ◌^◌, nat_lt, if◌then◌else◌, Option, Some, None}
use Rattle.m3_tables.specs.declared.place.Location.{Location}
use Rattle.m3_tables.specs.declared.place.Location.TheVariants.{Register, Slot}

-- the place that a number stands for
abbrev pub location_of : ℕ → Location
location_of n = if nat_lt n 16 then Register n else Slot (n - 16)

-- the number that stands for a place: none for a register that isn't there, and for a slot past the
-- last that a number of 32 bits names
abbrev pub number_of : Location → Option ℕ
number_of (Register r) = if nat_lt r 16 then Some r else None
number_of (Slot s) = if nat_lt (s + 16) (2 ^ 32) then Some (s + 16) else None
