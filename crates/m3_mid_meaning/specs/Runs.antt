-- The run of a procedure for a list of answers: the events at its points, and its end.
use Rattle.std.specs.Prelude.{◌≡◌, ◌≢◌, ℕ, ◌&&◌, nat_lt, nat_le, List, length, Bool, false, Some, if◌then◌else◌}
use Rattle.m3_base.specs.Words.{sub_words}
use Rattle.m3_mid.specs.declared.procs.Proc.{Proc}
use Rattle.m3_mid_meaning.specs.Words.{number, Place, InCell, Outside}
use Rattle.m3_mid_meaning.specs.Memory.{Memory, Around, environment_address, slot_address, seen}
use Rattle.m3_mid_meaning.specs.States.{State, Undefined}
use Rattle.m3_mid_meaning.specs.Points.{Answer, Outcome}
use Rattle.m3_mid_meaning.specs.Stops.{Code, Stop}
use Rattle.m3_mid_meaning.specs.Machinery.{run_ops, run_blocks, find_ops, find_blocks}

-- from this code on, in this state and with these answers, the run is so
pub record Runs (p : Proc) (around : Around) (code : Code)
    (s : State) (answers : List Answer) (o : Outcome) : Type 0 where
  pub blocks : ℕ
  pub is : run_ops p around code.ops code.end s answers (run_blocks blocks p around) ≡ Some o

-- the same from a block on
pub record RunsFrom (p : Proc) (around : Around) (b : ℕ)
    (s : State) (answers : List Answer) (o : Outcome) : Type 0 where
  pub blocks : ℕ
  pub is : run_blocks blocks p around b s answers ≡ Some o

-- a slot that holds no formal
abbrev pub holds_no_formal : Proc → ℕ → Bool
holds_no_formal p slot = nat_le p.formals slot && nat_lt slot (length p.slots.now)

abbrev pub is_clear : Proc → Around → Place → Bool
is_clear p around (InCell c n) = false
is_clear p around (Outside address) =
    holds_no_formal p (sub_words address (slot_address around 0))

-- memory when the slots that hold no formal are 0
abbrev pub cleared : Proc → Around → Memory → Memory
cleared p around memory =
    record memory { words = λ p'. if is_clear p around p' then Some (number 0) else memory.words p' }

-- The state at the start of a procedure, whose formals and environment are in memory.
abbrev pub start_of : Proc → Around → Memory → State
start_of p around memory = record {
  temps = λ t. number 0;
  own = λ n.
      if holds_no_formal p n then Some (number 0)
      else memory.words (Outside (slot_address around n));
  environment = memory.words (Outside (environment_address around));
  memory = seen p.slots.now around (cleared p around memory);
}

-- THE SYMBOLIC RUN of a procedure
abbrev pub IsRun : Proc → Around → Memory → List Answer → Outcome → Type 0
IsRun p around memory answers o = RunsFrom p around p.start (start_of p around memory) answers o

-- Each defined run of one procedure is a run of another: the same events, with the actuals, the
-- shown variables and memory, and the same end. Where the one does what isn't defined, nothing is
-- said of the other.
abbrev pub FollowsRun : Proc → Proc → Type 0
FollowsRun p q =
    (around : Around) (memory : Memory) (answers : List Answer) (o : Outcome) →
    o.ending ≢ Undefined → IsRun p around memory answers o → IsRun q around memory answers o

-- ---- stops

-- an activation stands so in a state, before this code, until it stops
pub record IsStop (p : Proc) (around : Around) (code : Code) (s : State) (stop : Stop) : Type 0 where
  pub blocks : ℕ
  pub is : find_ops p around code.ops code.end s (find_blocks blocks p around) ≡ Some stop
