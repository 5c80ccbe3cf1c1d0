-- The addresses outside the stacks: globals, constants and the cells of the heap.
use Rattle.std.specs.Prelude.{ℕ, ◌+◌, ◌-◌, ◌^◌, ◌&&◌, ◌==◌, not, nat_le, nat_lt, Bool, if◌then◌else◌, List, length, slice_get}
use Rattle.m3_isa.specs.Memory.{Memory}
use Rattle.m3_heap.specs.Cells.{Cell, cell_word_at, is_writable}

abbrev pub globals_base : ℕ
globals_base = 2 ^ 32

abbrev pub constants_base : ℕ
constants_base = 2 ^ 50

-- an address is that of one of so many words from another address on
abbrev pub is_from : ℕ → ℕ → ℕ → Bool
is_from base words at = nat_le base at && nat_lt at (base + words)

-- what each address outside the stacks holds: globals, constants and cells
abbrev pub outside_of : List ℕ → List ℕ → List Cell → Memory
outside_of globals constants cells at =
    if is_from globals_base (length globals) at then slice_get globals (at - globals_base)
    else if is_from constants_base (length constants) at then slice_get constants (at - constants_base)
    else cell_word_at cells at

-- which of them can be set: no constant, no header, and not the first global, which is the header of the
-- main thread's cell
abbrev pub settable_of : ℕ → List Cell → ℕ → Bool
settable_of globals cells at =
    if is_from globals_base globals at then not (at == globals_base) else is_writable cells at
