-- THE LANGUAGE OF MIDDLE CODE, and with it the run of a linked program: how activations begin and go
-- on, how cells are made, and what everybody reads of memory. The rest of a run is that of all
-- languages.
use Rattle.std.specs.Prelude.{◌≡◌, ℕ, List, [], ◌∷◌, map, Option, Some, None}
use Rattle.std.specs.Option.{option_map_or}
use Rattle.m3_base.specs.declared.outcomes.Entry.{Entry}
use Rattle.m3_mid.specs.declared.marks.Shown.{Shown}
use Rattle.m3_mid.specs.declared.ops.MidOp.{MidOp}
use Rattle.m3_mid.specs.declared.ops.MidOp.TheVariants as ops
use Rattle.m3_runs.specs.Languages.{Passes, Begun, Language}
use Rattle.m3_runs.specs.States.{Given, State, start}
use Rattle.m3_runs.specs.Runs.{Result, Runs}
use Rattle.m3_mid_meaning.specs.Words.{Word, ◌>>=◌}
use Rattle.m3_mid_meaning.specs.States.{with_memory}
use Rattle.m3_mid_meaning.specs.Operations.{method_of}
use Rattle.m3_mid_meaning.specs.Actions.{each_of, procedure_of, shown_word}
use Rattle.m3_mid_programs.specs.Linked.{Linked}
use Rattle.m3_mid_programs.specs.Values.{Value, word, number_value, on_word, the_word}
use Rattle.m3_mid_programs.specs.Activations.{Memory, Activation, Activity, Bodies, Applying, Within}
use Rattle.m3_mid_programs.specs.Cells as cells
use Rattle.m3_mid_programs.specs.Moves.{call_of, callee, Enters, GoesOn}

-- ---- what is shown

-- the variables that a point names
abbrev pub named_at : MidOp → List Shown
named_at (ops.Call callee passed result raised shown) = shown.now
named_at (ops.Make to cell sizes shown) = shown.now
named_at (ops.Service service row to raised place shown) = shown.now
named_at (ops.Point shown) = shown.now
named_at _ = []

abbrev pub as_value : (ℕ × Word) → ℕ × Value
as_value v = (v.0, word v.1)

-- with what they hold in memory as it is now
abbrev pub shown_of : Memory → Activation → List (ℕ × Value)
shown_of m a =
    let word_of = shown_word a.frame.procedure.code.slots.now a.frame.around
    (with_memory a.state m.words) in
    option_map_or (map as_value) (each_of word_of (named_at a.op)) []

abbrev pub shown_by : Memory → Activity → List (ℕ × Value)
shown_by m (Within a) = shown_of m a
shown_by m _ = []

-- ---- threads begin

abbrev pub last_slot : List ℕ → Option ℕ
last_slot [] = None
last_slot (slot ∷ []) = Some slot
last_slot (slot ∷ more ∷ slots) = last_slot (more ∷ slots)

abbrev pub MidState : Type 0
MidState = State Activity Value Memory

module _ (linked : Linked) where
  abbrev pub applying : Word → (procedure slot : ℕ) → Begun Activity Value
  applying closure procedure slot = record {
    action = call_of procedure (word closure ∷ []);
    lowest = Applying (linked.stacks slot);
  }

  -- a thread, for which a cell was just made, calls the first method of its closure
  abbrev pub begun : Memory → Word → Option (Begun Activity Value)
  begun m closure =
      method_of linked.around m.words closure 0 >>= procedure_of >>= λ procedure.
      last_slot m.slots >>= λ slot. Some (applying closure procedure slot)

  abbrev pub main_of : List ℕ → Begun Activity Value
  main_of [] = record { action = Passes; lowest = Bodies (linked.stacks 0) [] }
  main_of (q ∷ order) =
      record { action = call_of q []; lowest = Bodies (linked.stacks 0) order }

  abbrev pub first_memory : Memory
  first_memory = record { words = linked.memory; cells = 0; frames = []; slots = 0 ∷ [] }

  -- THE LANGUAGE
  abbrev pub mid_language : Language Activity Value Memory
  mid_language = record {
    enters = λ stack procedure environment formals m entered.
        Enters linked (callee linked stack procedure environment formals m) m entered;
    goes = λ s answer m move. GoesOn linked answer m s move;
    shows = shown_by;
    makes = λ parts n new v after. cells.MakesCell linked parts new v after;
    collects = λ parts after. parts ≡ after;
    number = number_value;
    is_same = cells.is_same;
    bytes = λ m form. on_word (cells.put_bytes linked m form);
    holder = λ m. on_word (cells.holder linked m);
    hold = λ m v n. on_word (cells.hold m n) v;
    number_of = λ m. on_word (cells.number_of_thread linked m);
    life = λ m. on_word (cells.life linked m);
    join = λ m. on_word (cells.join m);
    end_with = λ m v u. the_word u >>= λ result. on_word (cells.end_with m result) v;
    alerted = linked.alerted;
    begins = λ m. on_word (begun m);
    main = main_of linked.order;
    main_cell = number_value linked.around.globals;
    memory = first_memory;
  }

  -- THE RUN of a linked program from its start, under a schedule, after so many turns
  abbrev pub MidRuns : Given → List Entry → (turns : ℕ) → Result Activity Value Memory → Type 0
  MidRuns given schedule turns result =
      Runs mid_language given (start mid_language) schedule turns result
