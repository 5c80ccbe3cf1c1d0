use Rattle.std.specs.Prelude.{ℕ, ◌≡◌, ◌+◌, ◌<◌, length, slice_index}
use Rattle.m3_isa.specs.Memory.{Memory}
use Rattle.m3_run_meaning.specs.State.{memory_of}
use Rattle.m3_run_state.specs.Blanks.{WasBlank, both_bytes}
use Rattle.m3_run_state.specs.Seen.{state_of, program_of}
use Rattle.m3_run_state.proofs.parts.Parts.word_before.Given as goal

-- the bytes so far
abbrev pub invariant-bytes : goal.invariant-bytes
invariant-bytes g l =
    (length l.bytes ≡ 8)
    × ((before : Memory) → WasBlank l.blank.start l.blank.words before (memory_of (program_of l.self) (state_of l.self))
    → (j : ℕ) → j < l.k → slice_index l.bytes j ≡ slice_index (both_bytes before l.left l.right) (l.from + j))
