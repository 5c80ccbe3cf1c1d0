use Rattle.std.specs.Prelude.{ℕ, ◌≡◌, ◌≤◌, List}
use Rattle.m3_image_sections.specs.Parts.{Program}
use Rattle.m3_run_meaning.specs.State.{State}
use Rattle.m3_run_loop.specs.Leading.{Track}
use Rattle.m3_run_state.specs.Seen.{rest_of, Took}
use Rattle.m3_machine.specs.Turns.{to_come, and_put, Known, Acts_next, Came_to}
use Rattle.m3_machine.proofs.runs.take_turn.Given as goal

-- so far the turn has led the run on, and it has put some bytes
abbrev pub invariant-acts : goal.invariant-acts
invariant-acts g l = record {
  faults : g.O.Sink.faults l.out ≡ g.O.Sink.faults l.fn.out;
  fewer : l.turn.points ≤ l.fn.turn.points;
  rest : rest_of l.parts ≡ record (rest_of l.fn.parts) { made = l.parts.made; stuck = l.parts.stuck };
  came : (p : Program) (start : State) (k : Track) (others : ℕ) → Known p start k l.fn.parts → Acts_next p start k others l.fn.parts l.fn.turn
      → (bytes : List ℕ) × Took (g.O.Sink.taken l.fn.out) (g.O.Sink.taken l.out) bytes × Came_to p (and_put k bytes) others l.parts l.turn l.progress;
}

abbrev pub decreases-acts : goal.decreases-acts
decreases-acts g l = to_come l.turn
