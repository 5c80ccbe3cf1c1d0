-- A memory is what each address holds: a word, or nothing.
use Rattle.std.specs.Prelude.{ℕ, Option, Some, if◌then◌else◌, ◌==◌}

abbrev pub Memory : Type 0
Memory = ℕ → Option ℕ

-- the memory with this word at this address
abbrev pub put : Memory → ℕ → ℕ → Memory
put memory at word x = if x == at then Some word else memory x
