-- A machine that goes on.
use Rattle.std.specs.Prelude.{◌≡◌}
use Rattle.std.proofs.Common.{sym, ap, ◌∙◌}
use Rattle.m3_heap.specs.declared.store.Store.{Ghosts}
use Rattle.m3_run_state.specs.declared.parts.Parts.{Parts}
use Rattle.m3_run_state.specs.Seen.{Rest, rest_of, IsGoing}

pub still_going : {S L : Type 0} {g : Ghosts S} (m n : Parts S L g) → rest_of n ≡ rest_of m → n.memory.threads.stack ≡ m.memory.threads.stack → IsGoing m → IsGoing n
still_going m n rest depth going = record {
  unstuck = ap (λ (r : Rest). r.stuck) rest ∙ going.unstuck;
  depth = depth ∙ going.depth ∙ sym (ap (λ (r : Rest). r.stack) rest);
}
