-- Memory: the words of cells, globals, frames and constants, each seen by its address.
use Rattle.std.specs.Prelude.{ℕ, zero, suc, ◌+◌, ◌/◌, ◌%◌, ◌==◌, List, [], ◌∷◌, ◌++◌, Bool, true, false, not, Option, Some, None, if◌then◌else◌, slice_get}
use Rattle.std.specs.Option.{option_map, option_or}
use Rattle.m3_base.specs.Words.{add_words, sub_words}
use Rattle.m3_isa.specs.Arithmetic.{byte_in}
use Rattle.m3_mid.specs.declared.procs.Slot.{Slot}
use Rattle.m3_mid_meaning.specs.Words.{Word, number, further, ◌>>=◌, Place, InCell, Outside, place_of, number_of, is_same_place}

-- The word at each place where one is, and the number of the type of the cell that begins at a
-- place.
pub record Memory : Type 0 where
  pub words : Place → Option Word
  pub types : Place → Option ℕ

-- What stands around an activation and stays as it is: the addresses of its frame, of the first
-- global word, and of the texts and other constants of the program; the words of all constants;
-- which types of cells are a type or have it among their parents; what each method of a type is;
-- how many open dimensions a type has.
pub record Around : Type 0 where
  pub frame : ℕ
  pub globals : ℕ
  pub texts : ℕ → ℕ
  pub constants : ℕ → ℕ
  pub constant_words : ℕ → Option ℕ
  pub is_below : ℕ → ℕ → Bool
  pub methods : ℕ → ℕ → Option ℕ
  pub dimensions : ℕ → ℕ

-- the addresses in the own frame: of the environment, and of a slot
abbrev pub environment_address : Around → ℕ
environment_address around = add_words around.frame 2

abbrev pub slot_address : Around → ℕ → ℕ
slot_address around slot = add_words around.frame (3 + slot)

-- ---- the words of the own frame that no address leads to: the environment, and the slots that
-- aren't shared

abbrev pub is_unshared : Option Slot → Bool
is_unshared None = false
is_unshared (Some slot) = not slot.is_shared

abbrev pub is_own : List Slot → Around → Place → Bool
is_own slots around (InCell c n) = false
is_own slots around (Outside address) =
    if address == environment_address around then true
    else is_unshared (slice_get slots (sub_words address (slot_address around 0)))

-- memory without them
abbrev pub seen : List Slot → Around → Memory → Memory
seen slots around memory =
    record memory { words = λ p. if is_own slots around p then None else memory.words p }

-- ---- words at addresses

abbrev pub constant_at : Around → Place → Option Word
constant_at around (Outside address) = option_map number (around.constant_words address)
constant_at around (InCell c n) = None

-- the word at an address
abbrev pub load : Around → Memory → Word → Option Word
load around memory at =
    place_of at >>= λ place. option_or (memory.words place) (constant_at around place)

abbrev pub memory_with : Memory → Place → Word → Memory
memory_with memory place w =
    record memory { words = λ p. if is_same_place p place then Some w else memory.words p }

-- the memory with another word at an address at which one is; a constant stays
abbrev pub store : Memory → Word → Word → Option Memory
store memory at w =
    place_of at >>= λ place. option_map (λ old. memory_with memory place w) (memory.words place)

-- so many words from an address on
abbrev pub row_at : Around → Memory → ℕ → Word → Option (List Word)
row_at around memory zero at = Some []
row_at around memory (suc n) at =
    load around memory at >>= λ w. option_map (λ ws. w ∷ ws) (row_at around memory n (further at 1))

-- the memory with other words from an address on
abbrev pub store_row : Memory → Word → List Word → Option Memory
store_row memory at [] = Some memory
store_row memory at (w ∷ ws) = store memory at w >>= λ after. store_row after (further at 1) ws

-- so many words from an address on are put one after the other a distance above
abbrev pub fill : Around → ℕ → ℕ → Word → Memory → Option Memory
fill around zero distance at memory = Some memory
fill around (suc n) distance at memory =
    load around memory at >>= λ w.
    store memory (further at distance) w >>= λ after.
    fill around n distance (further at 1) after

-- the type of the cell to which a word points
abbrev pub type_at : Memory → Word → Option ℕ
type_at memory cell = place_of cell >>= memory.types

-- ---- texts: word 1 is how many bytes there are, and eight of them stand in each word behind it

abbrev pub byte_at : Around → Memory → Word → ℕ → Option ℕ
byte_at around memory text n =
    load around memory (further text (2 + n / 8)) >>= number_of >>= λ bytes.
    Some (byte_in bytes (n % 8))

abbrev pub bytes_below : Around → Memory → Word → ℕ → Option (List ℕ)
bytes_below around memory text zero = Some []
bytes_below around memory text (suc n) =
    bytes_below around memory text n >>= λ front.
    option_map (λ byte. front ++ byte ∷ []) (byte_at around memory text n)

-- the bytes of the text to which a word points
abbrev pub text_at : Around → Memory → Word → Option (List ℕ)
text_at around memory text =
    load around memory (further text 1) >>= number_of >>= bytes_below around memory text
