use Rattle.std.specs.Prelude.{◌≡◌, ◌≤◌, ◌-◌, ◌^◌, min, length, vec_capacity}
use Rattle.m3_run_meaning.specs.State.{memory_of}
use Rattle.m3_run_meaning.specs.NewTexts.{Sizes, product}
use Rattle.m3_run_state.specs.Seen.{state_of, program_of, rest_of}
use Rattle.m3_run_state.proofs.parts.Parts.read_sizes.Given as goal

-- nothing but the sizes is other than before, and where there is room, those so far were read
abbrev pub invariant-sizes : goal.invariant-sizes
invariant-sizes g l = record {
  rest : rest_of l.self ≡ rest_of l.fn.self;
  room : vec_capacity l.self.sizes ≡ vec_capacity l.fn.self.sizes;
  same : state_of l.self ≡ state_of l.fn.self;
  few : length l.self.sizes.items ≤ l.n;
  read : l.dims ≤ vec_capacity l.fn.self.sizes
      → Sizes (memory_of (program_of l.fn.self) (state_of l.fn.self)) l.at l.n l.self.sizes.items
      × (length l.self.sizes.items ≡ l.n) × (l.product ≡ min (product l.self.sizes.items) (2 ^ 64 - 1));
}
