use Rattle.std.specs.Prelude.{ℕ, ◌≡◌, ◌+◌, take}
use Rattle.m3_run_meaning.specs.State.{memory_of, can_set, HasOtherWords}
use Rattle.m3_run_meaning.specs.Texts.{text_rest}
use Rattle.m3_run_meaning.specs.NewTexts.{with_words}
use Rattle.m3_run_state.specs.Blanks.{both_bytes}
use Rattle.m3_run_state.specs.Seen.{state_of, program_of, rest_of}
use Rattle.m3_run_state.proofs.parts.Parts.fill_text.Given as goal

-- the words so far stand behind the header, and nothing else is other than before
abbrev pub invariant-words : goal.invariant-words
invariant-words g l = record {
  rest : rest_of l.self ≡ rest_of l.fn.self;
  others : HasOtherWords (state_of l.fn.self) (state_of l.self);
  settable : (x : ℕ) → can_set (state_of l.self) x ≡ can_set (state_of l.fn.self) x;
  words : (x : ℕ) → memory_of (program_of l.fn.self) (state_of l.self) x
      ≡ with_words (l.blank.start + 1) (take l.k (text_rest (both_bytes (memory_of (program_of l.fn.self) (state_of l.fn.self)) l.left l.right))) (memory_of (program_of l.fn.self) (state_of l.fn.self)) x;
}
