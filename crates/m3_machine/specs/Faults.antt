-- A put that fails: what its instruction and its run put, and what of it the sink has.
use Rattle.std.specs.Prelude.{ℕ, ◌≡◌, ◌+◌, ◌++◌, List, []}
use Rattle.m3_base.specs.declared.outcomes.Entry.{Entry}
use Rattle.m3_ports.specs.declared.sinks.Sink.{Ghosts as SinkGhosts}
use Rattle.m3_isa.specs.declared.instructions.Instr.{Instr}
use Rattle.m3_threads.specs.declared.status.Thread.{Thread}
use Rattle.m3_image_sections.specs.Parts.{Program}
use Rattle.m3_run_meaning.specs.State.{State}
use Rattle.m3_run_meaning.specs.Progress.{Goes}
use Rattle.m3_run_meaning.specs.Steps.{Does}
use Rattle.m3_run_meaning.specs.Runs.{Config, Moves, Leads, starting}
use Rattle.m3_run_state.specs.Cuts.{CutsOff}

-- an instruction puts bytes by the definitions, and a put of them failed
pub record PutsToFault {O : Type 0} (g : SinkGhosts O) (p : Program) (input : List ℕ) (t : Thread) (i : Instr) (s : State) (before after : O) : Type 0 where
  pub bytes : List ℕ
  pub left : State
  pub does : Does p input t i s bytes (Goes left)
  pub cut : CutsOff g before after [] bytes

-- A put of a run failed. The run, which had put some output when the sink was as before, put `earlier` bytes more, and its
-- next move puts `bytes`; the sink took all of the former and a front of the latter, and then the put of a piece of these
-- failed.
pub record StopsAtFault {O : Type 0} (g : SinkGhosts O) (p : Program) (input : List ℕ) (allowed : ℕ) (from : Config) (output : List ℕ) (before after : O) : Type 0 where
  pub last : Config
  pub next : Config
  pub earlier : List ℕ
  pub bytes : List ℕ
  pub leads : Leads p input allowed from last
  pub puts : Moves p input allowed last next
  pub so_far : last.output ≡ output ++ earlier
  pub with_it : next.output ≡ last.output ++ bytes
  pub cut : CutsOff g before after earlier bytes

-- A run from a state on, by a schedule and with so many points more, came to a move of which a put failed. The sink has a
-- front of what it had with the output behind, that of this move included: all that was put before the piece that failed,
-- but for what waited.
abbrev pub RanToFault : {O : Type 0} → SinkGhosts O → Program → List ℕ → State → List Entry → ℕ → O → O → Type 0
RanToFault g p input from schedule points before after = StopsAtFault g p input (from.points + points) (starting from schedule) [] before after
