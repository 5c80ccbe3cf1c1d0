-- Cells of middle code: how they are made, and what everybody reads of texts, mutexes and threads.
use Rattle.std.specs.Prelude.{◌≡◌, ℕ, zero, suc, ◌+◌, ◌-◌, ◌*◌, ◌==◌, nat_lt, Bool, true, false, List, [], ◌∷◌, ◌++◌, length, map, take, drop, replicate, slice_get, Option, Some, None, if◌then◌else◌}
use Rattle.std.specs.Option.{option_map}
use Rattle.std.specs.List.{list_any, range_with_len}
use Rattle.std.specs.Int.{div_ceil}
use Rattle.std.specs.Fmt.{signed_decimal}
use Rattle.m3_base.specs.Words.{signed_of}
use Rattle.m3_runs.specs.Languages as run
use Rattle.m3_runs.specs.Languages.{New, Form, Life, Alive, Ended, Joined, Thread, Parts}
use Rattle.m3_mid_meaning.specs.Words.{Word, number, pointer, further, number_of, place_of, ◌>>=◌, Place, InCell, Outside}
use Rattle.m3_mid_meaning.specs.Memory as words
use Rattle.m3_mid_meaning.specs.Memory.{load, store, text_at}
use Rattle.m3_mid_meaning.specs.Actions.{each_of}
use Rattle.m3_mid_programs.specs.Linked.{CellType, Linked}
use Rattle.m3_mid_programs.specs.Values.{Value, Words, word, on_word}
use Rattle.m3_mid_programs.specs.Activations.{Memory, with_words, Activity}

-- ---- the words of new cells, behind their headers, to which no address leads

-- the number of its type, and its words
pub record NewCell : Type 0 where
  pub cell : ℕ
  pub words : List Word

-- of a text: how many bytes there are, and the bytes, eight in a word, the first one lowest
abbrev pub packed : List ℕ → ℕ
packed [] = 0
packed (byte ∷ bytes) = byte + 256 * packed bytes

abbrev pub packed_word : List ℕ → ℕ → Word
packed_word bytes n = number (packed (take 8 (drop (8 * n) bytes)))

abbrev pub text_words : List ℕ → List Word
text_words bytes =
    number (length bytes)
    ∷ map (packed_word bytes) (range_with_len 0 (div_ceil (length bytes) 8))

-- of a cell of a type, which has so many words in all: its sizes, and 0 behind them
abbrev pub sized_words : (all : ℕ) → List ℕ → List Word
sized_words all sizes = map number sizes ++ replicate (all - 1 - length sizes) (number 0)

abbrev pub cell_of : CellType → List ℕ → NewCell
cell_of t sizes = record { cell = t.number; words = sized_words (t.words sizes) sizes }

-- of the cell of a thread: its number, and 0, since it lives and has no result
abbrev pub thread_words : ℕ → List Word
thread_words n = number n ∷ number 0 ∷ number 0 ∷ []

-- ---- memory with a new cell

abbrev pub word_behind : List Word → (distance : ℕ) → Option Word
word_behind ws zero = None
word_behind ws (suc n) = slice_get ws n

abbrev pub if_new : {A : Type 0} → Bool → A → A → A
if_new true made old = made
if_new false made old = old

abbrev pub word_with : (name : ℕ) → NewCell → words.Memory → Place → Option Word
word_with name made memory (InCell c n) =
    if_new (c == name) (word_behind made.words n) (memory.words (InCell c n))
word_with name made memory (Outside address) = memory.words (Outside address)

abbrev pub type_with : (name : ℕ) → NewCell → words.Memory → Place → Option ℕ
type_with name made memory (InCell c zero) =
    if_new (c == name) (Some made.cell) (memory.types (InCell c zero))
type_with name made memory place = memory.types place

abbrev pub with_cell : (name : ℕ) → NewCell → words.Memory → words.Memory
with_cell name made memory =
    record { words = word_with name made memory; types = type_with name made memory }

-- ---- slots of stacks

-- those in which the stacks of threads that have not ended lie
abbrev pub used : List (Option (Thread Activity Value)) → List ℕ → List ℕ
used (None ∷ threads) (slot ∷ slots) = used threads slots
used (Some t ∷ threads) (slot ∷ slots) = slot ∷ used threads slots
used _ _ = []

-- the lowest one from a slot on that isn't used, of which one is no more than so many further
abbrev pub free_from : (more : ℕ) → ℕ → List ℕ → ℕ
free_from zero slot taken = slot
free_from (suc more) slot taken =
    if list_any (λ s. s == slot) taken then free_from more (suc slot) taken else slot

abbrev pub free_slot : List ℕ → ℕ
free_slot taken = free_from (length taken) 0 taken

-- a new thread gets the lowest free slot
abbrev pub slots_with : Parts Activity Value Memory → New Value → List ℕ
slots_with parts (run.ThreadCell n) =
    parts.memory.slots ++ free_slot (used parts.threads parts.memory.slots) ∷ []
slots_with parts _ = parts.memory.slots

abbrev pub with_new_cell : Parts Activity Value Memory → New Value → NewCell → Memory
with_new_cell parts new made = record parts.memory {
  words = with_cell parts.memory.cells made parts.memory.words;
  cells = suc parts.memory.cells;
  slots = slots_with parts new;
}

-- ---- words, bytes and references

abbrev pub natural : Value → Option ℕ
natural = on_word number_of

abbrev pub byte_in : ℕ → Option ℕ
byte_in n = if nat_lt n 256 then Some n else None

-- references to cells that are the same
abbrev pub is_same_cell : Option Place → Option Place → Bool
is_same_cell (Some (InCell c zero)) (Some (InCell d zero)) = c == d
is_same_cell _ _ = false

abbrev pub is_same : Value → Value → Bool
is_same (Words (v ∷ [])) (Words (w ∷ [])) = is_same_cell (place_of v) (place_of w)
is_same _ _ = false

-- a word of a cell is another one
abbrev pub with_word : Memory → Word → (distance : ℕ) → Word → Option Memory
with_word m at distance w = option_map (with_words m) (store m.words (further at distance) w)

-- ---- mutexes: word 1 is the holder's number and 1, or 0

abbrev pub hold : Memory → ℕ → Word → Option Memory
hold m n mutex = with_word m mutex 1 (number n)

-- ---- threads' cells: word 1 is the number; word 2 is 0 while the thread lives, 1 once it has ended
-- and 2 once it was joined; word 3 is its result

abbrev pub life_at : ℕ → Word → Option (Life Value)
life_at zero result = Some Alive
life_at (suc zero) result = Some (Ended (word result))
life_at (suc (suc zero)) result = Some Joined
life_at (suc (suc (suc n))) result = None

abbrev pub join : Memory → Word → Option Memory
join m cell = with_word m cell 2 (number 2)

abbrev pub end_with : Memory → (result cell : Word) → Option Memory
end_with m result cell =
    with_word m cell 3 result >>= λ after. with_word after cell 2 (number 1)

module _ (linked : Linked) where
  -- ---- what is read

  abbrev pub word_at : Memory → Word → (distance : ℕ) → Option Word
  word_at m at distance = load linked.around m.words (further at distance)

  abbrev pub number_at : Memory → Word → (distance : ℕ) → Option ℕ
  number_at m at distance = word_at m at distance >>= number_of

  abbrev pub bytes_of : Memory → Word → Option (List ℕ)
  bytes_of m text = text_at linked.around m.words text

  abbrev pub holder : Memory → Word → Option ℕ
  holder m mutex = number_at m mutex 1

  abbrev pub number_of_thread : Memory → Word → Option ℕ
  number_of_thread m cell = number_at m cell 1

  abbrev pub life : Memory → Word → Option (Life Value)
  life m cell = number_at m cell 2 >>= λ state. word_at m cell 3 >>= λ result. life_at state result

  -- ---- what is put

  abbrev pub put_bytes : Memory → Form → Word → Option (List ℕ)
  put_bytes m run.Text w = bytes_of m w
  put_bytes m run.Decimal w = option_map (λ n. signed_decimal (signed_of n)) (number_of w)
  put_bytes m run.Byte w = number_of w >>= byte_in >>= λ byte. Some (byte ∷ [])

  -- ---- what is made

  abbrev pub text_of : Memory → Value → Option (List ℕ)
  text_of m = on_word (bytes_of m)

  abbrev pub text_cell : List ℕ → NewCell
  text_cell bytes = record { cell = linked.text_cell; words = text_words bytes }

  abbrev pub new_cell : Memory → New Value → Option NewCell
  new_cell m (run.Cell kind sizes) =
      linked.cells kind >>= λ t. each_of natural sizes >>= λ ns. Some (cell_of t ns)
  new_cell m (run.Concatenated t u) =
      text_of m t >>= λ bytes. text_of m u >>= λ more. Some (text_cell (bytes ++ more))
  new_cell m (run.ByteText v) =
      natural v >>= byte_in >>= λ byte. Some (text_cell (byte ∷ []))
  new_cell m (run.Subtext t start count) =
      text_of m t >>= λ bytes. natural start >>= λ from. natural count >>= λ n.
      Some (text_cell (take n (drop from bytes)))
  new_cell m (run.ThreadCell n) =
      Some (record { cell = linked.thread_cell; words = thread_words n })

  -- There is always room: a cell lies nowhere yet.
  pub data MakesCell (parts : Parts Activity Value Memory) (new : New Value)
      : Option Value → Parts Activity Value Memory → Type 0 where
    makes : (made : NewCell) → new_cell parts.memory new ≡ Some made
        → MakesCell parts new (Some (word (pointer parts.memory.cells)))
        (record parts { memory = with_new_cell parts new made })
