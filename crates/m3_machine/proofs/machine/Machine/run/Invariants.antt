use Rattle.std.specs.Prelude.{ℕ, ◌≡◌, ◌+◌, ◌<◌, ◌^◌, List}
use Rattle.m3_run_state.specs.Seen.{state_of, program_of, rest_of, Took}
use Rattle.m3_machine.specs.RunCalls.{At_turn, IsReady}
use Rattle.m3_machine.proofs.Turning.{followed}
use Rattle.m3_machine.proofs.machine.Machine.run.Given as goal

-- so far the run has come to a point, and has put some bytes
abbrev pub invariant-turns : goal.invariant-turns
invariant-turns g l =
    let m = l.fn.self.parts in
    let s = state_of m in
    record {
      faults : g.O.Sink.faults l.out ≡ g.O.Sink.faults l.initial.out;
      rest : rest_of l.self.parts ≡ record (rest_of m) { made = l.self.parts.made; stuck = l.self.parts.stuck };
      came : IsReady m → s.points + l.points < 2 ^ 63 → (bytes : List ℕ) × Took (g.O.Sink.taken l.fn.out) (g.O.Sink.taken l.out) bytes
          × At_turn (program_of m) (followed m.input.now (s.points + l.points) s l.schedule l.entries bytes) l.left l.self.parts;
    }

abbrev pub decreases-turns : goal.decreases-turns
decreases-turns g l = l.left
