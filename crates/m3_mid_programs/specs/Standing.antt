-- What rows of words stand for which values, and what stands in the cells of middle code for what the
-- source has there: each cell has the same name in both.
use Rattle.std.specs.Prelude.{◌≡◌, ◌<◌, ℕ, ℤ, pos, ◌+◌, ◌*◌, ◌^◌, ◌+ℤ◌, Bool, true, false, List, [], ◌∷◌, ◌++◌, length, map, sum_by, Option, Some, None, slice_get, if◌then◌else◌}
use Rattle.std.specs.List.{list_any, range_with_len}
use Rattle.m3_base.specs.Words.{word_of}
use Rattle.m3_runs.specs.Languages as run
use Rattle.m3_runs.specs.Follows.{IsOne, AsDefined}
use Rattle.m3_runs.specs.Languages.{Life, Alive, Ended, Joined}
use Rattle.m3_values.specs.Values as value
use Rattle.m3_values.specs.Values.{Values, Ordinal, Nil, Pointer, Text, MainThread, Procedure, Members, Record, Array, End, More, same_integer}
use Rattle.m3_values.specs.Constants.{texts_of}
use Rattle.m3_values.specs.Programs.{Program}
use Rattle.m3_values.specs.Places.{Place, Thing, Is, At}
use Rattle.m3_values.specs.Store.{Cell, Made, Bytes, Forked, Store, cell_at, is_mutex}
use Rattle.m3_source_meaning.specs.Programs.{language}
use Rattle.m3_mid_meaning.specs.Words.{Word, number, pointer}
use Rattle.m3_mid_programs.specs.Linked.{Linked}
use Rattle.m3_mid_programs.specs.Values.{Value, Words, Beside, word}
use Rattle.m3_mid_programs.specs.Activations.{Memory}
use Rattle.m3_mid_programs.specs.Cells.{word_at, number_at, bytes_of}
use Rattle.m3_mid_programs.specs.Programs.{mid_language}

-- ---- sets: a bit for each number from the first one on, 64 in a word, the first one lowest

abbrev pub bit_at : List ℤ → (first : ℤ) → (place : ℕ) → ℕ
bit_at members first place =
    if list_any (same_integer (first +ℤ pos place)) members then 2 ^ place else 0

abbrev pub member_word : List ℤ → (first : ℤ) → (n : ℕ) → Word
member_word members first n =
    number (sum_by (bit_at members (first +ℤ pos (64 * n))) (range_with_len 0 64))

abbrev pub member_words : List ℤ → (first : ℤ) → (count : ℕ) → List Word
member_words members first count = map (member_word members first) (range_with_len 0 count)

-- ---- threads

-- what the cell of a thread that has ended tells
abbrev pub state_of : (is_joined : Bool) → ℕ
state_of false = 1
state_of true = 2

-- The addresses of frames, by the numbers of their activations, are given.
module _ (p : Program) (linked : Linked) (frames : ℕ → Option ℕ) where
  -- ---- values

  -- A ROW OF WORDS STANDS FOR A VALUE: an ordinal is one word, a reference is the pointer to the
  -- cell of the same name, the address of a text of the program or that of the main thread's cell;
  -- a procedure is its number and 3, with the frame of the activation around it; what is made of
  -- parts has the words of its parts. NIL is 0 in each of its words.
  mutual
    pub data IsRow : value.Value → List Word → Type 0 where
      ordinal : (z : ℤ) → IsRow (Ordinal z) (number (word_of z) ∷ [])
      no_reference : IsRow Nil (number 0 ∷ [])
      no_procedure : IsRow Nil (number 0 ∷ number 0 ∷ [])
      reference : (c : ℕ) → IsRow (Pointer c) (pointer c ∷ [])
      text : (t : ℕ) → IsRow (Text t) (number (linked.around.texts t) ∷ [])
      main_thread : IsRow MainThread (number linked.around.globals ∷ [])
      outermost : (q : ℕ) → IsRow (Procedure q None) (number (q + 3) ∷ number 0 ∷ [])
      inner : (q a frame : ℕ) → frames a ≡ Some frame
          → IsRow (Procedure q (Some a)) (number (q + 3) ∷ number frame ∷ [])
      members : (ms : List ℤ) (first : ℤ) (count : ℕ)
          → IsRow (Members ms) (member_words ms first count)
      record_of : (vs : Values) (ws : List Word) → AreRows vs ws → IsRow (Record vs) ws
      array : (below : List ℕ) (vs : Values) (ws : List Word) → AreRows vs ws
          → IsRow (Array below vs) ws

    pub data AreRows : Values → List Word → Type 0 where
      end : AreRows End []
      more : (v : value.Value) (vs : Values) (ws us : List Word) → IsRow v ws → AreRows vs us
          → AreRows (More v vs) (ws ++ us)

  -- what a call passes as the environment of a procedure
  pub data IsEnvironment : (around : Option ℕ) → Option Word → Type 0 where
    left_open : IsEnvironment None None
    zero_word : IsEnvironment None (Some (number 0))
    frame_of : (a frame : ℕ) → frames a ≡ Some frame
        → IsEnvironment (Some a) (Some (number frame))

  -- WHAT TRAVELS between activations stands for one another, by a relation that says so of places,
  -- which are passed by reference.
  pub data SameValue (same_place : Place → List Word → Type 0) : Thing → Value → Type 0 where
    is : (v : value.Value) (ws : List Word) → IsRow v ws → SameValue same_place (Is v) (Words ws)
    at : (place : Place) (ws : List Word) → same_place place ws
        → SameValue same_place (At place) (Words ws)
    beside : (q : ℕ) (around : Option ℕ) (environment result_at : Option Word)
        → IsEnvironment around environment
        → SameValue same_place (Is (Procedure q around)) (Beside environment result_at)

  -- ---- cells

  -- the content of a cell that was made is no business of what everybody reads
  pub data CellStands (m : Memory) (c : ℕ) : Cell → Type 0 where
    made : (kind : ℕ) (content : value.Value) (holder : ℕ)
        → (is_mutex p kind ≡ true → number_at linked m (pointer c) 1 ≡ Some holder)
        → CellStands m c (Made kind content holder)
    text_made : (bytes : List ℕ) → bytes_of linked m (pointer c) ≡ Some bytes
        → CellStands m c (Bytes bytes)
    alive : (n : ℕ) (is_joined : Bool) (w : Word) → number_at linked m (pointer c) 1 ≡ Some n
        → number_at linked m (pointer c) 2 ≡ Some 0 → word_at linked m (pointer c) 3 ≡ Some w
        → CellStands m c (Forked n None is_joined)
    ended : (n : ℕ) (v : value.Value) (is_joined : Bool) (w : Word)
        → number_at linked m (pointer c) 1 ≡ Some n
        → number_at linked m (pointer c) 2 ≡ Some (state_of is_joined)
        → word_at linked m (pointer c) 3 ≡ Some w → IsRow v (w ∷ [])
        → CellStands m c (Forked n (Some v) is_joined)

  -- EACH CELL OF THE STORE STANDS IN MEMORY, under its name; so do the main thread's cell and the
  -- texts of the program, at their addresses.
  pub record CellsStand (s : Store) (m : Memory) : Type 0 where
    pub count : length s.cells ≡ m.cells
    pub each : (c : ℕ) (cell : Cell) → cell_at s c ≡ Some cell → CellStands m c cell
    pub texts : (t : ℕ) (bytes : List ℕ) → slice_get (texts_of p.texts) t ≡ Some bytes
        → bytes_of linked m (number (linked.around.texts t)) ≡ Some bytes
    pub main_number : number_at linked m (number linked.around.globals) 1 ≡ Some 0
    pub main_state : number_at linked m (number linked.around.globals) 2 ≡ Some 0
    pub main_word : Word
    pub main_result : word_at linked m (number linked.around.globals) 3 ≡ Some main_word

  -- the cell of a thread tells the same
  pub data SameLife : Life Thing → Life Value → Type 0 where
    still_alive : SameLife Alive Alive
    has_ended : (v : value.Value) (ws : List Word) → IsRow v ws
        → SameLife (Ended (Is v)) (Ended (Words ws))
    was_joined : SameLife Joined Joined

  -- WHAT EVERYBODY READS of cells that stand so is the same: who holds a mutex, the number and the
  -- life of a thread, and the bytes of a text.
  pub record ReadTheSame (s : Store) (m : Memory) (v : Thing) (v' : Value) : Type 0 where
    pub holder : AsDefined IsOne ((language p).holder s v) ((mid_language linked).holder m v')
    pub number : AsDefined IsOne ((language p).number_of s v)
        ((mid_language linked).number_of m v')
    pub life : AsDefined SameLife ((language p).life s v) ((mid_language linked).life m v')
    pub bytes : AsDefined IsOne ((language p).bytes s run.Text v)
        ((mid_language linked).bytes m run.Text v')

abbrev pub CellsReadTheSame : Type 0
CellsReadTheSame =
    (p : Program) (linked : Linked) (frames : ℕ → Option ℕ) (s : Store) (m : Memory)
    (v : value.Value) (ws : List Word) →
    CellsStand p linked frames s m → IsRow p linked frames v ws →
    ReadTheSame p linked frames s m (Is v) (Words ws)

-- What stands for a value does so for ever: activations are only added.
abbrev pub RowsStay : Type 0
RowsStay =
    (p : Program) (linked : Linked) (frames later : ℕ → Option ℕ) →
    ((a frame : ℕ) → frames a ≡ Some frame → later a ≡ Some frame) →
    (v : value.Value) (ws : List Word) → IsRow p linked frames v ws → IsRow p linked later v ws

-- WHAT EVERYBODY WRITES into such cells is the same: where the source defines it, middle code does, and
-- all cells stand so again. A holder is a number of 64 bits, and a result has one word.
pub record WriteTheSame (p : Program) (linked : Linked) (frames : ℕ → Option ℕ) (s : Store)
    (m : Memory) (v : Thing) (v' : Value) : Type 0 where
  pub hold : (n : ℕ) → n < 2 ^ 64
      → AsDefined (CellsStand p linked frames) ((language p).hold s v n)
      ((mid_language linked).hold m v' n)
  pub join : AsDefined (CellsStand p linked frames) ((language p).join s v)
      ((mid_language linked).join m v')
  pub end_with : (u : value.Value) (w : Word) → IsRow p linked frames u (w ∷ [])
      → AsDefined (CellsStand p linked frames) ((language p).end_with s v (Is u))
      ((mid_language linked).end_with m v' (word w))

abbrev pub CellsWriteTheSame : Type 0
CellsWriteTheSame =
    (p : Program) (linked : Linked) (frames : ℕ → Option ℕ) (s : Store) (m : Memory)
    (v : value.Value) (ws : List Word) →
    CellsStand p linked frames s m → IsRow p linked frames v ws →
    WriteTheSame p linked frames s m (Is v) (Words ws)
