use Rattle.std.specs.Prelude.{ℕ, ◌≡◌, ◌+◌, take}
use Rattle.m3_run_meaning.specs.State.{memory_of, can_set, HasOtherWords}
use Rattle.m3_run_meaning.specs.NewTexts.{with_words}
use Rattle.m3_run_state.specs.Seen.{state_of, program_of, rest_of}
use Rattle.m3_run_state.proofs.parts.Parts.write_sizes.Given as goal

-- the sizes so far stand behind the header, and nothing else is other than before
abbrev pub invariant-sizes : goal.invariant-sizes
invariant-sizes g l = record {
  rest : rest_of l.self ≡ rest_of l.fn.self;
  sizes : l.self.sizes.items ≡ l.fn.self.sizes.items;
  others : HasOtherWords (state_of l.fn.self) (state_of l.self);
  settable : (x : ℕ) → can_set (state_of l.self) x ≡ can_set (state_of l.fn.self) x;
  words : (x : ℕ) → memory_of (program_of l.fn.self) (state_of l.self) x
      ≡ with_words (l.cell + 1) (take l.n l.fn.self.sizes.items) (memory_of (program_of l.fn.self) (state_of l.fn.self)) x;
}
