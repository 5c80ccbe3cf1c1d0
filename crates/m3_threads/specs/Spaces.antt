-- The memory that an instruction on threads sees: the stacks, and the words outside them.
use Rattle.std.specs.Prelude.{ℕ, ◌-◌, ◌/◌, ◌%◌, ◌^◌, Bool, true, ◌&&◌, nat_le, nat_lt, length, if◌then◌else◌, Some, slice_index, slice_set}
use Rattle.m3_isa.specs.Memory.{Memory, put}
use Rattle.m3_threads.specs.All.{Everyone, stack_in, with_stack}

-- the slot and the place in its stack that an address names: word k of slot s is at 2 ^ 40 * (s + 1) + k
abbrev pub slot_at : ℕ → ℕ
slot_at at = at / 2 ^ 40 - 1

abbrev pub place_at : ℕ → ℕ
place_at at = at % 2 ^ 40

-- an address is in a stack: it names one of 64 slots, and there is a word at its place
abbrev pub is_in_stack : Everyone → ℕ → Bool
is_in_stack all at = nat_le (2 ^ 40) at && (nat_lt (slot_at at) 64 && nat_lt (place_at at) (length (stack_in all (slot_at at))))

-- what an address holds, of a stack and of the memory outside
abbrev pub held : Everyone → Memory → Memory
held all memory at =
    if is_in_stack all at then Some (slice_index (stack_in all (slot_at at)) (place_at at)) else memory at

-- whether the word at an address can be replaced
abbrev pub replaceable : Everyone → (ℕ → Bool) → ℕ → Bool
replaceable all can at = if is_in_stack all at then true else can at

-- the stacks and the memory outside after a word was put
abbrev pub put_inside : Everyone → ℕ → ℕ → Everyone
put_inside all at word =
    if is_in_stack all at then with_stack all (slot_at at) (slice_set (stack_in all (slot_at at)) (place_at at) word) else all

abbrev pub put_outside : Everyone → Memory → ℕ → ℕ → Memory
put_outside all memory at word = if is_in_stack all at then memory else put memory at word
