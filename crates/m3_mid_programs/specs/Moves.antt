-- How an activation of middle code begins, goes on and is left.
use Rattle.std.specs.Prelude.{◌≡◌, ℕ, zero, suc, ◌+◌, ◌==◌, nat_lt, nat_le, Bool, true, false, List, [], ◌∷◌, ◌++◌, length, Option, Some, None, slice_get, slice_set, if◌then◌else◌}
use Rattle.std.specs.Option.{option_or}
use Rattle.m3_base.specs.Words.{add_words, sub_words}
use Rattle.m3_mid.specs.declared.procs.End.TheVariants as block_ends
use Rattle.m3_runs.specs.Languages.{Action, Calls, Gives, Raises, Move, Acts, Leaves, Faults, Breaks, Entered, Begins, Overflows}
use Rattle.m3_runs.specs.Languages as run
use Rattle.m3_mid_meaning.specs.Words.{Word, ◌>>=◌, Place, InCell, Outside}
use Rattle.m3_mid_meaning.specs.Memory as words
use Rattle.m3_mid_meaning.specs.Memory.{Around, environment_address, slot_address, row_at}
use Rattle.m3_mid_meaning.specs.States.{State, Ending, Returned, Escaped, Faulted, Waiting, Undefined, Next, Goes, Ends}
use Rattle.m3_mid_meaning.specs.Points as point
use Rattle.m3_mid_meaning.specs.Points.{Event, Answer}
use Rattle.m3_mid_meaning.specs.Meaning.{effect_of}
use Rattle.m3_mid_meaning.specs.Runs.{start_of}
use Rattle.m3_mid_programs.specs.Linked.{Procedure, Linked, procedure_at, around_at}
use Rattle.m3_mid_programs.specs.Values.{Value, Words, Beside, word}
use Rattle.m3_mid_programs.specs.Activations.{Memory, with_words, Frame, Activation, Activity, Bodies, Applying, Within, Came, Stands, Ended, Comes}
use Rattle.m3_mid_programs.specs.Actions.{is_wide, action_of, told_as}

abbrev pub Moves : Type 0
Moves = Move Activity Value Memory

-- ---- what a call puts into memory

-- the words of formals, where these are rows of such lengths
abbrev pub formal_words : (lengths : List ℕ) → List Value → Option (List Word)
formal_words [] [] = Some []
formal_words (n ∷ ns) (Words ws ∷ vs) =
    if length ws == n then (formal_words ns vs >>= λ more. Some (ws ++ more)) else None
formal_words _ _ = None

-- the address for a wide result is passed behind them
abbrev pub address_passed : (is_wide : Bool) → Option Word → Option (List Word)
address_passed true (Some at) = Some (at ∷ [])
address_passed true None = None
address_passed false at = Some []

-- in the callee's frame: the environment, where the call passes one, and the words of the formals
abbrev pub passed_at : Around → (environment : Option Word) → List Word → Place → Option Word
passed_at around environment passed (InCell c n) = None
passed_at around environment passed (Outside address) =
    if address == environment_address around then environment
    else slice_get passed (sub_words address (slot_address around 0))

abbrev pub with_passed : Around → (environment : Option Word) → List Word → words.Memory
    → words.Memory
with_passed around environment passed memory = record memory {
  words = λ place. option_or (passed_at around environment passed place) (memory.words place);
}

-- ---- what leaves an activation

-- Memory without the words of a frame. What is called next lies there, and finds nothing of it.
abbrev pub is_in_frame : Frame → Place → Bool
is_in_frame f (InCell c n) = false
is_in_frame f (Outside address) =
    nat_lt (sub_words address f.around.frame) (3 + length f.procedure.code.slots.now)

abbrev pub without_frame : Frame → words.Memory → words.Memory
without_frame f memory =
    record memory { words = λ place. if is_in_frame f place then None else memory.words place }

abbrev pub with_frame : Frame → Memory → Memory
with_frame f m = record m { frames = m.frames ++ Some f.around.frame ∷ [] }

abbrev pub frame_left : Frame → Memory → Memory
frame_left f m = record m { frames = slice_set m.frames f.number None }

-- The result as the caller is told it. A wide one is what stands at the caller's address.
abbrev pub result_in : Frame → words.Memory → (result : Option ℕ) → Option Word
    → Option (Option Value)
result_in f memory None None = Some None
result_in f memory (Some zero) None = Some (Some (Words []))
result_in f memory (Some (suc zero)) (Some w) = Some (Some (word w))
result_in f memory (Some (suc (suc n))) None =
    f.result_at >>= row_at f.around memory (suc (suc n)) >>= λ ws. Some (Some (Words ws))
result_in f memory _ _ = None

abbrev pub leaves_with : Memory → words.Memory → Option (Option Value) → Moves
leaves_with m memory None = Breaks
leaves_with m memory (Some v) = Leaves (Gives v) (with_words m memory)

-- exceptions have numbers from 1 on in middle code, and from 0 on in a run
abbrev pub leaves_by : Memory → (exception : ℕ) → Word → Word → words.Memory → Moves
leaves_by m zero n tidy memory = Breaks
leaves_by m (suc exception) n tidy memory =
    Leaves (Raises exception (word n) (word tidy)) (with_words m memory)

-- An activation that is left takes its frame with it.
abbrev pub left : Frame → Memory → Ending → Moves
left f m (Returned value memory) =
    let after = without_frame f memory in
    leaves_with (frame_left f m) after (result_in f after f.procedure.result value)
left f m (Escaped exception n tidy memory) =
    leaves_by (frame_left f m) exception n tidy (without_frame f memory)
left f m (Faulted kind at) = Faults kind at.file at.line
left f m Waiting = Breaks
left f m Undefined = Breaks

-- ---- the lowest activations

-- the call of a procedure of the outermost scope
abbrev pub call_of : ℕ → List Value → Action Value
call_of procedure formals = Calls procedure (Beside None None) formals

-- the bodies run one after the other
abbrev pub next_body : (stack : ℕ) → List ℕ → run.Answer Value → Memory → Moves
next_body stack [] (Gives v) m = Leaves (Gives None) m
next_body stack (q ∷ order) (Gives v) m = Acts (call_of q []) (Bodies stack order) m
next_body stack order answer m = Leaves answer m

-- ---- entering

-- where a frame lies: in the stack that begins at this address, at that one
pub record Spot : Type 0 where
  pub stack : ℕ
  pub frame : ℕ

-- a call that can be entered: the callee's frame, and what is passed
pub record Callee : Type 0 where
  pub frame : Frame
  pub environment : Option Word
  pub passed : List Word

-- memory, and the state of the callee, when it begins
abbrev pub entered_memory : Callee → Memory → words.Memory
entered_memory c m = with_passed c.frame.around c.environment c.passed m.words

abbrev pub entered_state : Callee → Memory → State
entered_state c m = start_of c.frame.procedure.code c.frame.around (entered_memory c m)

module _ (linked : Linked) where
  -- where an activation came, when the rest of memory is this
  abbrev pub acts : Activation → Memory → Option (Action Value) → Moves
  acts a m None = Breaks
  acts a m (Some action) = Acts action (Within a) m

  abbrev pub move_of : Frame → Memory → Came → Moves
  move_of f m (Stands s op event rest) =
      acts (record { frame = f; state = s; op = op; rest = rest }) (with_words m event.memory)
      (action_of linked event.action)
  move_of f m (Ended ending) = left f m ending

  -- ---- the frame of a callee

  abbrev pub above_lowest : (stack : ℕ) → Spot
  above_lowest stack = record { stack = stack; frame = add_words stack linked.lowest }

  -- above the newest of these activations
  abbrev pub spot_above : List Activity → Option Spot
  spot_above [] = None
  spot_above (Bodies stack order ∷ rest) = Some (above_lowest stack)
  spot_above (Applying stack ∷ rest) = Some (above_lowest stack)
  spot_above (Within a ∷ rest) = Some (record {
    stack = a.frame.stack;
    frame = add_words a.frame.around.frame a.frame.procedure.body;
  })

  abbrev pub callee_at : (number : ℕ) → Procedure → Spot → (environment result_at : Option Word)
      → List Word → Callee
  callee_at number q spot environment result_at passed = record {
    frame = record {
      number = number;
      procedure = q;
      stack = spot.stack;
      around = around_at linked spot.frame;
      result_at = result_at;
    };
    environment = environment;
    passed = passed;
  }

  -- above these activations; none where there is no such procedure, or it takes something else
  abbrev pub callee : List Activity → (procedure : ℕ) → Value → List Value → Memory → Option Callee
  callee stack procedure (Words ws) formals m = None
  callee stack procedure (Beside environment result_at) formals m =
      procedure_at linked procedure >>= λ q. spot_above stack >>= λ spot.
      formal_words q.formals formals >>= λ ws. address_passed (is_wide q.result) result_at >>= λ at.
      Some (callee_at (length m.frames) q spot environment result_at (ws ++ at))

  -- the stack has the words of the frame there
  abbrev pub has_room : Frame → Bool
  has_room f =
      nat_le (sub_words f.around.frame f.stack + f.procedure.frame) linked.stack_words

  -- A PROCEDURE IS CALLED, as if behind a jump to its first block.
  pub data Enters (called : Option Callee) (m : Memory)
      : Entered Activity Value Memory → Type 0 where
    breaks : called ≡ None → Enters called m (Begins Breaks)
    overflows : (c : Callee) → called ≡ Some c → has_room c.frame ≡ false
        → Enters called m Overflows
    begins : (c : Callee) (came : Came) → called ≡ Some c → has_room c.frame ≡ true
        → Comes c.frame.procedure.code c.frame.around []
        (block_ends.Goto c.frame.procedure.code.start) (entered_state c m) came
        → Enters called m (Begins (move_of c.frame (with_frame c.frame m) came))

  -- AN ACTIVATION GOES ON from the point at which it stands: what it does with the answer leaves it,
  -- or it comes to the next point.
  pub data GoesOn (answer : run.Answer Value) (m : Memory) : Activity → Moves → Type 0 where
    next : (stack : ℕ) (order : List ℕ)
        → GoesOn answer m (Bodies stack order) (next_body stack order answer m)
    applied : (stack : ℕ) → GoesOn answer m (Applying stack) (Leaves answer m)
    over : (a : Activation) (event : Event) (reply : Answer → Next) (ending : Ending)
        → effect_of a.frame.procedure.code.slots.now a.frame.around a.state a.op
        ≡ point.Acts event reply
        → reply (told_as answer m.words) ≡ Ends ending
        → GoesOn answer m (Within a) (left a.frame m ending)
    further : (a : Activation) (event : Event) (reply : Answer → Next) (s : State) (came : Came)
        → effect_of a.frame.procedure.code.slots.now a.frame.around a.state a.op
        ≡ point.Acts event reply
        → reply (told_as answer m.words) ≡ Goes s
        → Comes a.frame.procedure.code a.frame.around a.rest.ops a.rest.end s came
        → GoesOn answer m (Within a) (move_of a.frame m came)
