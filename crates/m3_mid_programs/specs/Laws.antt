-- Laws of programs of middle code.
use Rattle.std.specs.Prelude.{Option, ◌≡◌, List, [], ◌∷◌, ◌++◌, map, Some, ℕ, length}
use Rattle.m3_mid.specs.declared.procs.Proc.{Proc}
use Rattle.m3_mid.specs.declared.ops.MidOp.{MidOp}
use Rattle.m3_runs.specs.Laws as law
use Rattle.m3_runs.specs.States.{Given}
use Rattle.m3_mid_meaning.specs.Words.{Word}
use Rattle.m3_mid_meaning.specs.Memory as words
use Rattle.m3_mid_meaning.specs.Memory.{Around}
use Rattle.m3_mid_meaning.specs.States.{State, Ending, Waiting, Next}
use Rattle.m3_mid_meaning.specs.Points.{Event, Answer, Acts, Outcome}
use Rattle.m3_mid_meaning.specs.Meaning.{effect_of}
use Rattle.m3_mid_meaning.specs.Stops.{Code, Stop, AtPoint, AtEnd}
use Rattle.m3_mid_meaning.specs.Runs.{IsRun, IsStop}
use Rattle.m3_mid_programs.specs.Linked.{Linked}
use Rattle.m3_mid_programs.specs.Values.{Value, Words}
use Rattle.m3_mid_programs.specs.Activations.{Memory, with_words, Frame, Activation, Activity, Came, Stands, Ended, Comes}
use Rattle.m3_mid_programs.specs.Actions.{action_of, told_as}
use Rattle.m3_mid_programs.specs.Moves.{Moves, result_in, left, acts, Callee, callee, entered_memory, with_frame}
use Rattle.m3_mid_programs.specs.Programs.{mid_language}
use Rattle.m3_mid_programs.specs.Histories.{Call, Told, MovesTo}

-- ---- one run

-- Each activation has one next move.
abbrev pub AreDetermined : Type 0
AreDetermined = (linked : Linked) → law.IsDetermined (mid_language linked)

-- So a program has one run under each schedule.
abbrev pub HasOneRun : Type 0
HasOneRun = (linked : Linked) (given : Given) → law.HasOneRun (mid_language linked) given

-- ---- where an activation comes, and its stop

pub data IsStopOf (p : Proc) (around : Around) : Came → Stop → Type 0 where
  at_point : (s : State) (op : MidOp) (event : Event) (reply : Answer → Next) (rest : Code)
      → effect_of p.slots.now around s op ≡ Acts event reply
      → IsStopOf p around (Stands s op event rest) (AtPoint event reply rest)
  at_end : (ending : Ending) → IsStopOf p around (Ended ending) (AtEnd ending)

-- An activation comes where its next stop is.
pub record ComesToStop (p : Proc) (around : Around) (code : Code) (s : State) : Type 0 where
  pub stop : (came : Came) → Comes p around code.ops code.end s came
      → (stop : Stop) × IsStop p around code s stop × IsStopOf p around came stop
  pub came : (stop : Stop) → IsStop p around code s stop
      → (came : Came) × Comes p around code.ops code.end s came × IsStopOf p around came stop

abbrev pub ComesToStops : Type 0
ComesToStops = (p : Proc) (around : Around) (code : Code) (s : State) → ComesToStop p around code s

-- ---- the moves of an activation are its run

-- What a run says of the next move: behind its last event the activation waits for an answer, or the
-- run has ended.
pub data Says (linked : Linked) (f : Frame) (m : Memory) : Outcome → Moves → Type 0 where
  waits : (events : List Event) (event : Event) (a : Activation) → a.frame ≡ f
      → Says linked f m (record { events = events ++ event ∷ []; ending = Waiting })
      (acts linked a (with_words m event.memory) (action_of linked event.action))
  ends : (events : List Event) (ending : Ending)
      → Says linked f m (record { events = events; ending = ending }) (left f m ending)

-- memory as it was told last, or when the procedure began
abbrev pub last_memory : Memory → List (Told Value Memory) → Memory
last_memory m [] = m
last_memory m (t ∷ told) = last_memory t.memory told

abbrev pub answers_of : List (Told Value Memory) → List Answer
answers_of told = map (λ (t : Told Value Memory). told_as t.answer t.memory.words) told

-- The move behind so many answers is what the run of the procedure says for them.
pub record RunsSo (linked : Linked) (e : Callee) (c : Call Activity Value Memory)
    (told : List (Told Value Memory)) (move : Moves) : Type 0 where
  pub outcome : Outcome
  pub run : IsRun e.frame.procedure.code e.frame.around (entered_memory e c.memory)
      (answers_of told) outcome
  pub says : Says linked e.frame (last_memory (with_frame e.frame c.memory) told) outcome move

-- AN ACTIVATION'S RUN IS THE CHAIN OF ITS MOVES, wherever its call can be entered.
abbrev pub MovesAsItRuns : Type 0
MovesAsItRuns =
    (linked : Linked) (c : Call Activity Value Memory) (e : Callee)
    (told : List (Told Value Memory)) (move : Moves) →
    callee linked c.stack c.procedure c.environment c.formals c.memory ≡ Some e →
    MovesTo (mid_language linked) c told move → RunsSo linked e c told move

-- ---- results

-- What a caller is told has as many words as the result of the procedure.
abbrev pub ResultsHaveWords : Type 0
ResultsHaveWords =
    (f : Frame) (memory : words.Memory) (n : ℕ) (v : Option Word) (ws : List Word) →
    result_in f memory (Some n) v ≡ Some (Some (Words ws)) → length ws ≡ n
