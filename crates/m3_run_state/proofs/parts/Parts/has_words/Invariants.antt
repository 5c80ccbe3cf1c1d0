use Rattle.std.specs.Prelude.{◌≡◌, ◌+◌, true, is_some}
use Rattle.m3_base.specs.Words.{add_words}
use Rattle.m3_isa.specs.Effects.{every}
use Rattle.m3_run_meaning.specs.State.{memory_of}
use Rattle.m3_run_state.specs.Seen.{state_of, program_of}
use Rattle.m3_run_state.proofs.parts.Parts.has_words.Given as goal

-- the words so far are there
abbrev pub invariant-words : goal.invariant-words
invariant-words g l = every (λ k. is_some (memory_of (program_of l.self) (state_of l.self) (add_words l.text (2 + (l.first + k))))) l.k ≡ true
