-- Output that was cut off by a put that failed.
use Rattle.std.specs.Prelude.{ℕ, ◌≡◌, ◌++◌, List, Some, IfSome}
use Rattle.m3_ports.specs.Files.{IsFront, LeavesAtFault}
use Rattle.m3_ports.specs.declared.sinks.Sink.{Ghosts as SinkGhosts}
use Rattle.m3_run_state.specs.Seen.{Took}

-- A sink took some bytes and then, of these others, a front in some pieces; the put of the piece behind them failed, and the
-- sink is as it left it. `at` is the sink before this put.
pub record CutsOff {O : Type 0} (g : SinkGhosts O) (before after : O) (earlier bytes : List ℕ) : Type 0 where
  pub at : O
  pub part : List ℕ
  pub piece : List ℕ
  pub took : Took (g.taken before) (g.taken at) (earlier ++ part)
  pub next : IsFront (part ++ piece) bytes
  pub left : IfSome (g.taken at) (λ taken. (all : List ℕ) × LeavesAtFault (g.waiting at) taken piece all × (g.taken after ≡ Some all))
