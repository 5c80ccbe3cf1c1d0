-- WHAT LOWERING HAS TO SHOW, procedure by procedure and for all lists of answers, so that a linked
-- program of middle code follows the checked program.
use Rattle.std.specs.Prelude.{◌≡◌, ◌≤◌, ◌+◌, ℕ, List, [], ◌∷◌, ◌++◌, length, Option, Some, None, slice_get}
use Rattle.m3_base.specs.declared.outcomes.FaultKind.{FaultKind}
use Rattle.m3_base.specs.declared.places.Pos.{Pos}
use Rattle.m3_core.specs.declared.program.ProcDef.{ProcDef}
use Rattle.m3_runs.specs.Languages.{Action, Calls, Serves, Put, Gives, New, Answer, Acts, Leaves, Faults, Overflows, Form, Thread}
use Rattle.m3_runs.specs.States.{thread_at}
use Rattle.m3_runs.specs.Follows.{Each, IsOne, Invariant, AsDefined, Standing, SameAction, SameAnswer, SameShown, SameNew, SameLife, SameBegun, ReadsSo, IsActing, Needs, Room, Follows}
use Rattle.m3_values.specs.Values.{Procedure, Pointer}
use Rattle.m3_values.specs.Programs.{Program, procedure_at}
use Rattle.m3_values.specs.Places.{Thing, Is}
use Rattle.m3_values.specs.Store.{Cell, Store, with_new_cell}
use Rattle.m3_source_meaning.specs.Meanings as meaning
use Rattle.m3_source_meaning.specs.Meanings.{End, Waits, Left, Faulted, Undefined}
use Rattle.m3_source_meaning.specs.Procedures.{Start, ends, start_of}
use Rattle.m3_source_meaning.specs.Showing.{shown_variables}
use Rattle.m3_source_meaning.specs.Programs as source
use Rattle.m3_source_meaning.specs.Programs.{language, SourceState}
use Rattle.m3_mid_meaning.specs.Words.{pointer}
use Rattle.m3_mid_programs.specs.Linked.{Linked}
use Rattle.m3_mid_programs.specs.Values.{Value, Beside, word}
use Rattle.m3_mid_programs.specs.Activations.{Memory, Activity, Bodies, Applying}
use Rattle.m3_mid_programs.specs.Cells as cells
use Rattle.m3_mid_programs.specs.Cells.{NewCell}
use Rattle.m3_mid_programs.specs.Moves.{Moves}
use Rattle.m3_mid_programs.specs.Programs.{shown_by, MidState, mid_language}
use Rattle.m3_mid_programs.specs.Histories.{Call, Told, told_more, MovesTo}

-- a call of a procedure that the program has: its environment names a procedure, with the activation
-- around it
pub record SourceCall : Type 0 where
  pub procedure : ℕ
  pub definition : ProcDef
  pub named : ℕ
  pub around : Option ℕ
  pub formals : List Thing
  pub store : Store

module _ (p : Program) where
  abbrev pub start_at : SourceCall → Start
  start_at c = start_of p c.procedure c.definition c.around c.formals c.store

  -- where a procedure leads that was told these answers
  abbrev pub end_at : SourceCall → List meaning.Told → End
  end_at c told = ends p (start_at c).here c.definition (start_at c).memory told

-- Over any relation of values, and of stores with memories, at a moment; of which moment comes later
-- than which; and with what holds wherever runs of the source and of middle code come: that values
-- are of their types, say, and that frames of activations that live lie apart.
module _ {W : Type 0} (p : Program) (linked : Linked) (same_value : W → Thing → Value → Type 0)
    (same_memory : W → Store → Memory → Type 0) (later : W → W → Type 0)
    (I : Invariant source.Activity Thing Store) (J : Invariant Activity Value Memory) where
  -- what stands for what, where nothing is said of activations
  abbrev pub bare : Standing W source.Activity Thing Store Activity Value Memory
  bare = record {
    value = same_value;
    stack = λ w ss ss'. Unit {0};
    memory = same_memory;
    later = later;
  }

  -- ---- calls, and what they are told

  -- a thread comes to the call in states that runs may come to
  pub record CalledThere (c : SourceCall) (c' : Call Activity Value Memory) : Type 0 where
    pub state : SourceState
    pub state' : MidState
    pub number : ℕ
    pub thread : Thread source.Activity Thing
    pub thread' : Thread Activity Value
    pub good : I.acting state number
    pub good' : J.acting state' number
    pub there : thread_at state.parts.threads number ≡ Some thread
    pub there' : thread_at state'.parts.threads number ≡ Some thread'
    pub action : thread.action ≡ Calls c.procedure (Is (Procedure c.named c.around)) c.formals
    pub store : state.parts.memory ≡ c.store
    pub memory : state'.parts.memory ≡ c'.memory
    pub stack : thread'.stack ≡ c'.stack

  pub record SameCall (w : W) (c : SourceCall) (c' : Call Activity Value Memory) : Type 0 where
    pub there : procedure_at p c.procedure ≡ Some c.definition
    pub procedure : c.procedure ≡ c'.procedure
    pub environment : same_value w (Is (Procedure c.named c.around)) c'.environment
    pub formals : Each (same_value w) c.formals c'.formals
    pub store : same_memory w c.store c'.memory
    pub found : CalledThere c c'

  abbrev pub Answers : Type 0
  Answers = List (Told Value Memory)

  -- an activation of the call, told so much before, is told this in states that runs may come to
  pub record ToldThere (c : SourceCall) (told : List meaning.Told) (a : Answer Thing)
      (a' : Answer Value) (s : Store) (m : Memory) : Type 0 where
    pub state : SourceState
    pub state' : MidState
    pub number : ℕ
    pub activation : source.Activation
    pub activation' : Activity
    pub rest : List source.Activity
    pub rest' : List Activity
    pub here : activation.here ≡ (start_at p c).here
    pub before : activation.told ≡ told
    pub known : I.within state number (source.Within activation ∷ rest) (Leaves a s)
    pub known' : J.within state' number (activation' ∷ rest') (Leaves a' m)

  -- they are told the same, one answer after the other, each at a later moment
  pub data Chain (c : SourceCall) (first : W) : List meaning.Told → Answers → W → Type 0 where
    nothing : Chain c first [] [] first
    more : (w w' : W) (told : List meaning.Told) (told' : Answers) (a : Answer Thing)
        (a' : Answer Value) (s : Store) (m : Memory)
        → Chain c first told told' w → later w w' → SameAnswer bare w' a a' → same_memory w' s m
        → ToldThere c told a a' s m
        → Chain c first (told ++ record { answer = a; store = s } ∷ []) (told_more told' a' m) w'

  -- ---- where they lead

  -- Wherever a run comes while they wait, the variables that are shown hold the same.
  abbrev pub ShowSo : W → source.Activation → Activity → Type 0
  ShowSo w a s' =
      (w' : W) (u : SourceState) (u' : MidState) (n : ℕ) (t : Thread source.Activity Thing) (t' : Thread Activity Value) (place : ℕ) →
      later w w' → I.between u → J.between u' →
      same_memory w' u.parts.memory u'.parts.memory →
      thread_at u.parts.threads n ≡ Some t → thread_at u'.parts.threads n ≡ Some t' →
      slice_get t.stack place ≡ Some (source.Within a) → slice_get t'.stack place ≡ Some s' →
      Each (SameShown bare w') (shown_variables p a.here a.standing u.parts.memory)
      (shown_by u'.parts.memory s')

  -- of an activation that was told so much
  pub data SameEnd (w : W) (a : source.Activation) : End → Moves → Type 0 where
    waits : (action : Action Thing) (action' : Action Value) (standing : meaning.Standing)
        (s' : Activity) (s : Store) (m : Memory)
        → SameAction bare w action action' → same_memory w s m
        → ShowSo w (record a { standing = standing }) s'
        → SameEnd w a (Waits action standing s) (Acts action' s' m)
    left : (answer : Answer Thing) (answer' : Answer Value) (s : Store) (m : Memory)
        → SameAnswer bare w answer answer' → same_memory w s m
        → SameEnd w a (Left answer s) (Leaves answer' m)
    faulted : (kind : FaultKind) (at : Pos)
        → SameEnd w a (Faulted kind at) (Faults kind at.file at.line)
    undefined : (move' : Moves) → SameEnd w a Undefined move'

  pub record EndsSo (w : W) (c : SourceCall) (a : source.Activation) (move' : Moves)
      : Type 0 where
    pub moment : W
    pub since : later w moment
    pub same : SameEnd moment a (end_at p c a.told) move'

  -- EACH PROCEDURE FOLLOWS: called with the same and told the same, it leads to where its code moves.
  abbrev pub ProceduresFollow : Type 0
  ProceduresFollow =
      (first w : W) (c : SourceCall) (c' : Call Activity Value Memory) (a : source.Activation)
      (told' : Answers) (move' : Moves) →
      a.here ≡ (start_at p c).here → SameCall first c c' → Chain c first a.told told' w →
      MovesTo (mid_language linked) c' told' move' → EndsSo w c a move'

  -- ---- activations

  -- an activation that waits at a point: it was called with the same and told the same
  pub record IsToldSo (w : W) (a : source.Activation) (s' : Activity) : Type 0 where
    pub first : W
    pub last : W
    pub since : later last w
    pub call : SourceCall
    pub call' : Call Activity Value Memory
    pub called : SameCall first call call'
    pub here : a.here ≡ (start_at p call).here
    pub began : a.first ≡ (start_at p call).memory
    pub told' : Answers
    pub chain : Chain call first a.told told' last
    pub action' : Action Value
    pub before : Memory
    pub moves : MovesTo (mid_language linked) call' told' (Acts action' s' before)
    pub shows : ShowSo w a s'

  pub data SameActivity (w : W) : source.Activity → Activity → Type 0 where
    bodies : (order : List ℕ) (stack : ℕ)
        → SameActivity w (source.Bodies order) (Bodies stack order)
    applying : (stack : ℕ) → SameActivity w source.Applying (Applying stack)
    within : (a : source.Activation) (s' : Activity) → IsToldSo w a s'
        → SameActivity w (source.Within a) s'

  -- WHAT STANDS FOR WHAT
  abbrev pub standing : Standing W source.Activity Thing Store Activity Value Memory
  standing = record {
    value = same_value;
    stack = λ w ss ss'. Each (SameActivity w) ss ss';
    memory = same_memory;
    later = later;
  }

  -- ---- values and cells

  -- A cell that middle code makes is one that the source makes.
  pub record MadeSo (w : W) (s : Store) (new : New Thing) (v' : Value) (after' : Memory)
      : Type 0 where
    pub moment : W
    pub since : later w moment
    pub made : Cell
    pub is : source.new_cell p s new ≡ Some made
    pub named : same_value moment (Is (Pointer (length s.cells))) v'
    pub store : same_memory moment (with_new_cell made s) after'

  -- WHAT HAS TO BE SHOWN OF VALUES AND CELLS, once for the program
  pub record ValuesFollow (room : Room standing) : Type 0 where
    -- a moment is no later than itself, and what stands for a value stays so
    pub same_moment : (w : W) → later w w
    pub later_still : (w w' w2 : W) → later w w' → later w' w2 → later w w2
    pub value_stays : (w w' : W) (v : Thing) (v' : Value) → later w w' → same_value w v v'
        → same_value w' v v'
    -- an outermost procedure is called without an environment
    pub outermost : (w : W) (q : ℕ) → same_value w (Is (Procedure q None)) (Beside None None)
    -- where a frame passes the stack, so do those of the source's thread
    pub frames : (w : W) (s : SourceState) (m : MidState) (n : ℕ) (t : Thread source.Activity Thing)
        (t' : Thread Activity Value) (q : ℕ) (v : Thing) (v' : Value) (formals : List Thing)
        (others : List Value)
        → I.acting s n → J.acting m n
        → IsActing standing w s.parts m.parts n t t' → t.action ≡ Calls q v formals
        → (mid_language linked).enters t'.stack q v' others m.parts.memory Overflows
        → room.no_frame s.parts n
    pub made : (w : W) (s : SourceState) (m : MidState) (n : ℕ) (t : Thread source.Activity Thing)
        (t' : Thread Activity Value) (new : New Thing) (new' : New Value) (made' : NewCell)
        → I.acting s n → J.acting m n
        → IsActing standing w s.parts m.parts n t t' → Needs t.action new
        → SameNew standing w new new' → cells.new_cell linked m.parts.memory new' ≡ Some made'
        → MadeSo w s.parts.memory new (word (pointer m.parts.memory.cells))
        (cells.with_new_cell m.parts new' made')
    pub number : (w : W) (n : ℕ)
        → same_value w ((language p).number n) ((mid_language linked).number n)
    pub is_same : (w : W) (s : Store) (m : Memory) (v u : Thing) (v' u' : Value)
        → same_memory w s m → same_value w v v' → same_value w u u'
        → (language p).is_same v u ≡ (mid_language linked).is_same v' u'
    pub bytes : (w : W) (s : SourceState) (m : MidState) (n : ℕ) (t : Thread source.Activity Thing)
        (t' : Thread Activity Value) (form : Form) (v : Thing) (v' : Value)
        → I.acting s n → J.acting m n → IsActing standing w s.parts m.parts n t t'
        → t.action ≡ Serves (Put form v) → same_value w v v'
        → AsDefined IsOne ((language p).bytes s.parts.memory form v)
        ((mid_language linked).bytes m.parts.memory form v')
    pub holder : ReadsSo standing (λ w. IsOne) (language p).holder (mid_language linked).holder
    pub hold : (w : W) (s : SourceState) (m : MidState) (n holder : ℕ) (v : Thing) (v' : Value)
        → I.acting s n → J.acting m n → same_memory w s.parts.memory m.parts.memory
        → same_value w v v' → holder ≤ n + 1
        → AsDefined (same_memory w) ((language p).hold s.parts.memory v holder)
        ((mid_language linked).hold m.parts.memory v' holder)
    pub number_of : ReadsSo standing (λ w. IsOne) (language p).number_of
        (mid_language linked).number_of
    pub life : ReadsSo standing (SameLife standing) (language p).life (mid_language linked).life
    pub join : ReadsSo standing same_memory (language p).join (mid_language linked).join
    pub end_with : (w : W) (s : SourceState) (m : MidState) (n : ℕ) (store : Store)
        (memory : Memory) (v u : Thing) (v' u' : Value)
        → I.within s n [] (Leaves (Gives (Some u)) store)
        → J.within m n [] (Leaves (Gives (Some u')) memory)
        → same_memory w store memory → same_value w v v' → same_value w u u'
        → AsDefined (same_memory w) ((language p).end_with store v u)
        ((mid_language linked).end_with memory v' u')
    pub begins : ReadsSo standing (SameBegun standing) (language p).begins
        (mid_language linked).begins
    pub alerted : p.alerted ≡ linked.alerted

  -- THE THEOREM: then the linked program follows the checked one, step by step, so that each of its
  -- runs is answered by a run of the source (m3_runs).
  abbrev pub ProgramFollows : Room standing → Type 0
  ProgramFollows room =
      ProceduresFollow → ValuesFollow room → Follows standing (language p) (mid_language linked) I J room
