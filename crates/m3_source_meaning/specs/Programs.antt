-- THE LANGUAGE OF CHECKED PROGRAMS, and with it the run of one: how activations begin and go on,
-- how cells are made, and what everybody reads of the store. The rest of a run is that of all
-- languages.
use Rattle.std.specs.Prelude.{◌≡◌, ◌==◌, ℕ, Bool, true, false, List, [], ◌∷◌, ◌++◌, length, map, take, drop, Option, Some, None}
use Rattle.std.specs.Option.{option_map, option_and_then}
use Rattle.std.specs.Fmt.{signed_decimal}
use Rattle.m3_base.specs.declared.outcomes.Entry.{Entry}
use Rattle.m3_core.specs.declared.program.Core.{Core}
use Rattle.m3_core.specs.declared.program.ProcDef.{ProcDef}
use Rattle.m3_core.specs.declared.program.VarDef.{VarDef}
use Rattle.m3_runs.specs.Languages as run
use Rattle.m3_runs.specs.Languages.{Action, Calls, Passes, New, Answer, Gives, Raises, Fails, Move, Acts, Leaves, Faults, Breaks, Entered, Begins, Form, Life, Alive, Ended, Joined, Begun, Parts, Language}
use Rattle.m3_runs.specs.States.{Given, State, start}
use Rattle.m3_runs.specs.Runs.{Result, Runs}
use Rattle.m3_values.specs.Values.{Value, Ordinal, Nil, Pointer, MainThread, Procedure, number}
use Rattle.m3_values.specs.Integers.{count_of}
use Rattle.m3_values.specs.Programs.{Program, program_of, procedure_at}
use Rattle.m3_values.specs.Constants.{zero_of}
use Rattle.m3_values.specs.Methods.{procedure_of}
use Rattle.m3_values.specs.Places.{Thing, Is, At}
use Rattle.m3_values.specs.Store.{Cell, Made, Bytes, Forked, Store, Memory, cell_at, with_cell, with_new_cell, bytes_of, kind_of_object, holder_of, with_holder}
use Rattle.m3_source_meaning.specs.Meanings as meaning
use Rattle.m3_source_meaning.specs.Meanings.{Told, Standing, End}
use Rattle.m3_source_meaning.specs.Phrases.{Here}
use Rattle.m3_source_meaning.specs.Assignment.{type_of_variable}
use Rattle.m3_source_meaning.specs.Procedures.{Start, ends, start_of}
use Rattle.m3_source_meaning.specs.Showing.{shown_variables}

-- ---- activations

-- AN ACTIVATION is how it began, and what it was told since. Beside that stands what it has at the
-- point where it waits.
pub record Activation : Type 0 where
  pub here : Here
  pub first : Memory
  pub told : List Told
  pub standing : Standing

-- the lowest activation of a thread calls the module bodies that are left, or hands on what the
-- closure's method gives; each other one is that of a procedure
pub data Activity : Type 0 where
  Bodies : List ℕ → Activity
  Applying : Activity
  Within : Activation → Activity

abbrev pub Moves : Type 0
Moves = Move Activity Thing Store

abbrev pub move_of : Activation → End → Moves
move_of a (meaning.Waits action standing store) =
    Acts action (Within (record a { standing = standing })) store
move_of a (meaning.Left answer store) = Leaves answer store
move_of a (meaning.Faulted kind at) = Faults kind at.file at.line
move_of a meaning.Undefined = Breaks

module _ (p : Program) where
  -- an activation by what it was told
  abbrev pub goes_within : Activation → Option ProcDef → Moves
  goes_within a None = Breaks
  goes_within a (Some q) = move_of a (ends p a.here q a.first a.told)

  abbrev pub told_more : Activation → Answer Thing → Store → Activation
  told_more a answer store =
      record a { told = a.told ++ record { answer = answer; store = store } ∷ [] }

  -- ---- entering

  abbrev pub no_standing : Standing
  no_standing = record { own = []; scope = []; held = [] }

  abbrev pub first_activation : Start → Activation
  first_activation s =
      record { here = s.here; first = s.memory; told = []; standing = no_standing }

  abbrev pub begins_with : (procedure : ℕ) → (around : Option ℕ) → List Thing → Store
      → Option ProcDef → Moves
  begins_with procedure around formals store None = Breaks
  begins_with procedure around formals store (Some q) =
      goes_within (first_activation (start_of p procedure q around formals store)) (Some q)

  -- the environment of a call is the procedure value that was called
  abbrev pub begins : (procedure : ℕ) → Thing → List Thing → Store → Moves
  begins procedure (Is (Procedure q around)) formals store =
      begins_with procedure around formals store (procedure_at p procedure)
  begins procedure _ formals store = Breaks

  -- ---- going on

  -- the call of a procedure of the outermost scope
  abbrev pub call_of : ℕ → List Thing → Action Thing
  call_of procedure formals = Calls procedure (Is (Procedure procedure None)) formals

  -- the bodies run one after the other
  abbrev pub next_body : List ℕ → Answer Thing → Store → Moves
  next_body [] (Gives v) store = Leaves (Gives None) store
  next_body (q ∷ order) (Gives v) store = Acts (call_of q []) (Bodies order) store
  next_body order answer store = Leaves answer store

  abbrev pub goes_on : Activity → Answer Thing → Store → Moves
  goes_on (Bodies order) answer store = next_body order answer store
  goes_on Applying answer store = Leaves answer store
  goes_on (Within a) answer store =
      goes_within (told_more a answer store) (procedure_at p a.here.procedure)

  -- ---- cells

  abbrev pub text : Store → Thing → Option (List ℕ)
  text store (Is v) = bytes_of p store v
  text store (At place) = None

  abbrev pub natural : Thing → Option ℕ
  natural (Is (Ordinal z)) = count_of z
  natural _ = None

  -- What is made. A cell is given its defaults by who asked for it, in the same turn.
  abbrev pub new_cell : Store → New Thing → Option Cell
  new_cell store (run.Cell kind sizes) = Some (Made kind Nil 0)
  new_cell store (run.Concatenated t u) =
      option_and_then (λ bytes. option_map (λ more. Bytes (bytes ++ more)) (text store u))
      (text store t)
  new_cell store (run.ByteText v) = option_map (λ n. Bytes (n ∷ [])) (natural v)
  new_cell store (run.Subtext t from count) =
      option_and_then (λ bytes. option_and_then (λ i.
      option_map (λ n. Bytes (take n (drop i bytes)))
      (natural count)) (natural from)) (text store t)
  new_cell store (run.ThreadCell n) = Some (Forked n None false)

  -- there is always room
  pub data Makes (parts : Parts Activity Thing Store) (new : New Thing)
      : Option Thing → Parts Activity Thing Store → Type 0 where
    makes : (cell : Cell) → new_cell parts.memory new ≡ Some cell
        → Makes parts new (Some (Is (Pointer (length parts.memory.cells))))
        (record parts { memory = with_new_cell cell parts.memory })

  -- ---- what everybody reads

  -- references to cells that are the same, as conditions are compared
  abbrev pub is_same : Thing → Thing → Bool
  is_same (Is (Pointer c)) (Is (Pointer d)) = c == d
  is_same _ _ = false

  abbrev pub digits : Value → Option (List ℕ)
  digits (Ordinal z) = Some (signed_decimal z)
  digits _ = None

  abbrev pub byte : Value → Option (List ℕ)
  byte (Ordinal z) = option_map (λ n. n ∷ []) (count_of z)
  byte _ = None

  abbrev pub put_bytes : Store → Form → Value → Option (List ℕ)
  put_bytes store run.Text v = bytes_of p store v
  put_bytes store run.Decimal v = digits v
  put_bytes store run.Byte v = byte v

  -- of a value
  abbrev pub on_value : {A : Type 0} → (Value → Option A) → Thing → Option A
  on_value f (Is v) = f v
  on_value f (At place) = None

  -- ---- threads' cells

  abbrev pub number_in : Cell → Option ℕ
  number_in (Forked n result is_joined) = Some n
  number_in _ = None

  abbrev pub number_of : Store → Value → Option ℕ
  number_of store MainThread = Some 0
  number_of store (Pointer c) = option_and_then number_in (cell_at store c)
  number_of store _ = None

  abbrev pub life_in : Cell → Option (Life Thing)
  life_in (Forked n None is_joined) = Some Alive
  life_in (Forked n (Some v) false) = Some (Ended (Is v))
  life_in (Forked n (Some v) true) = Some Joined
  life_in _ = None

  abbrev pub life_of : Store → Value → Option (Life Thing)
  life_of store MainThread = Some Alive
  life_of store (Pointer c) = option_and_then life_in (cell_at store c)
  life_of store _ = None

  abbrev pub joined_in : Store → ℕ → Option Cell → Option Store
  joined_in store c (Some (Forked n (Some v) false)) =
      Some (with_cell c (Forked n (Some v) true) store)
  joined_in store c _ = None

  abbrev pub joined : Store → Value → Option Store
  joined store (Pointer c) = joined_in store c (cell_at store c)
  joined store _ = None

  abbrev pub ended_in : Store → ℕ → Value → Option Cell → Option Store
  ended_in store c v (Some (Forked n None is_joined)) =
      Some (with_cell c (Forked n (Some v) false) store)
  ended_in store c v _ = None

  abbrev pub ended : Store → (cell result : Thing) → Option Store
  ended store (Is (Pointer c)) (Is v) = ended_in store c v (cell_at store c)
  ended store _ _ = None

  -- ---- threads begin

  abbrev pub applied : Value → ℕ → Begun Activity Thing
  applied closure procedure =
      record { action = call_of procedure (Is closure ∷ []); lowest = Applying }

  -- a thread calls the method `apply` of its closure, the first of its type
  abbrev pub begun : Store → Value → Option (Begun Activity Thing)
  begun store closure =
      option_map (applied closure)
      (option_and_then (λ kind. procedure_of p kind 0) (kind_of_object p store closure))

  abbrev pub main_of : List ℕ → Begun Activity Thing
  main_of [] = record { action = Passes; lowest = Bodies [] }
  main_of (q ∷ order) = record { action = call_of q []; lowest = Bodies order }

  abbrev pub first_store : Store
  first_store = record {
    cells = [];
    globals = map (λ (v : VarDef). zero_of p (type_of_variable v.kind)) p.globals;
    activations = [];
  }

  abbrev pub shown_by : Store → Activity → List (ℕ × Thing)
  shown_by store (Within a) = shown_variables p a.here a.standing store
  shown_by store _ = []

  -- THE LANGUAGE
  abbrev pub language : Language Activity Thing Store
  language = record {
    enters = λ stack procedure environment formals store entered.
        Begins (begins procedure environment formals store) ≡ entered;
    goes = λ s answer store move. goes_on s answer store ≡ move;
    shows = shown_by;
    makes = λ parts n new v after. Makes parts new v after;
    collects = λ parts after. parts ≡ after;
    number = λ n. Is (number n);
    is_same = is_same;
    bytes = λ store form v. on_value (put_bytes store form) v;
    holder = λ store v. on_value (holder_of p store) v;
    hold = λ store v holder. on_value (λ v. with_holder p v holder store) v;
    number_of = λ store v. on_value (number_of store) v;
    life = λ store v. on_value (life_of store) v;
    join = λ store v. on_value (joined store) v;
    end_with = ended;
    alerted = p.alerted;
    begins = λ store v. on_value (begun store) v;
    main = main_of p.order;
    main_cell = Is MainThread;
    memory = first_store;
  }

-- ---- THE SOURCE RUN

abbrev pub core_language : Core → Language Activity Thing Store
core_language core = language (program_of core)

abbrev pub SourceState : Type 0
SourceState = State Activity Thing Store

-- the run of a program from its start, under a schedule, after so many turns
abbrev pub SourceRuns : Core → Given → List Entry → (turns : ℕ) → Result Activity Thing Store
    → Type 0
SourceRuns core given schedule turns result =
    Runs (core_language core) given (start (core_language core)) schedule turns result
