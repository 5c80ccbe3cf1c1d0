-- The state of an activation, and how it changes.
use Rattle.std.specs.Prelude.{ℕ, zero, suc, ◌==◌, List, [], ◌∷◌, Bool, true, false, Option, Some, None, Result, Ok, Err, if◌then◌else◌, slice_get}
use Rattle.std.specs.Option.{option_map}
use Rattle.m3_base.specs.Words.{word_of, add_words}
use Rattle.m3_base.specs.declared.outcomes.FaultKind.{FaultKind}
use Rattle.m3_base.specs.declared.places.Pos.{Pos}
use Rattle.m3_mid.specs.declared.procs.Slot.{Slot}
use Rattle.m3_mid.specs.declared.ops.Operand.{Operand}
use Rattle.m3_mid.specs.declared.ops.Operand.TheVariants as operands
use Rattle.m3_mid.specs.declared.ops.MemoryWord.{MemoryWord}
use Rattle.m3_mid.specs.declared.ops.MemoryWord.TheVariants as places
use Rattle.m3_mid_meaning.specs.Words.{Word, number, normal, further, ◌>>=◌}
use Rattle.m3_mid_meaning.specs.Memory.{Memory, Around, slot_address, is_unshared, load, store}

-- What an activation holds: the words of the temporaries, of the slots that aren't shared, and the
-- environment, where it was given one; and memory, in which the shared slots are. No address leads
-- to the others, so they aren't in memory.
pub record State : Type 0 where
  pub temps : ℕ → Word
  pub own : ℕ → Option Word
  pub environment : Option Word
  pub memory : Memory

-- How an activation ends: it returns, or is left by an exception with its argument, and memory is
-- then so; the run ends by a fault; it waits for an answer that isn't there; or it does what isn't
-- defined.
pub data Ending : Type 0 where
  Returned : (value : Option Word) (memory : Memory) → Ending
  Escaped : (exception : ℕ) (number tidy : Word) (memory : Memory) → Ending
  Faulted : FaultKind → Pos → Ending
  Waiting : Ending
  Undefined : Ending

-- what comes next: it goes on in a state, or has ended
pub data Next : Type 0 where
  Goes : State → Next
  Ends : Ending → Next

-- a temporary is set; its word is in normal form
abbrev pub state_with : State → ℕ → Word → State
state_with s to w = record s { temps = λ t. if t == to then normal w else s.temps t }

-- an operand's word
abbrev pub operand : State → Operand → Word
operand s (operands.Temp t) = s.temps t
operand s (operands.Number n) = number (word_of n)

-- the addresses of a global word, and of a word behind the one in a temporary
abbrev pub global_address : Around → ℕ → Word
global_address around word = number (add_words around.globals word)

abbrev pub address_behind : State → ℕ → ℕ → Word
address_behind s base distance = further (s.temps base) distance

-- ---- words of memory

-- the word of a slot
abbrev pub slot_word : List Slot → Around → State → ℕ → Option Word
slot_word slots around s n =
    if is_unshared (slice_get slots n) then s.own n
    else load around s.memory (number (slot_address around n))

-- the words of so many slots from one on
abbrev pub slot_words : List Slot → Around → State → ℕ → ℕ → Option (List Word)
slot_words slots around s first zero = Some []
slot_words slots around s first (suc n) =
    slot_word slots around s first >>= λ w.
    option_map (λ ws. w ∷ ws) (slot_words slots around s (suc first) n)

abbrev pub loaded : List Slot → Around → State → MemoryWord → Option Word
loaded slots around s (places.Slot slot) = slot_word slots around s slot
loaded slots around s places.Environment = s.environment
loaded slots around s (places.Global word) = load around s.memory (global_address around word)
loaded slots around s (places.At base offset) =
    load around s.memory (address_behind s base (word_of offset))

-- it has another memory
abbrev pub with_memory : State → Memory → State
with_memory s memory = record s { memory = memory }

abbrev pub stored_at : State → Word → Word → Option State
stored_at s at w = option_map (with_memory s) (store s.memory at w)

-- an own slot gets a word, where it has one
abbrev pub with_own : State → ℕ → Word → State
with_own s n w = record s { own = λ m. if m == n then Some w else s.own m }

abbrev pub stored_own : State → ℕ → Word → Option State
stored_own s n w = option_map (λ old. with_own s n w) (s.own n)

-- the environment stays
abbrev pub stored : List Slot → Around → State → MemoryWord → Word → Option State
stored slots around s (places.Slot slot) w =
    if is_unshared (slice_get slots slot) then stored_own s slot w
    else stored_at s (number (slot_address around slot)) w
stored slots around s places.Environment w = None
stored slots around s (places.Global word) w = stored_at s (global_address around word) w
stored slots around s (places.At base offset) w =
    stored_at s (address_behind s base (word_of offset)) w

-- ---- what comes next

-- it goes on with a word in a temporary, where the word is defined
abbrev pub sets : State → ℕ → Option Word → Next
sets s to None = Ends Undefined
sets s to (Some w) = Goes (state_with s to w)

-- it goes on in another state, where that is defined
abbrev pub goes_to : Option State → Next
goes_to None = Ends Undefined
goes_to (Some s) = Goes s

-- it goes on where a test holds, and else the run ends by a fault
abbrev pub goes_or_faults : State → FaultKind → Pos → Option Bool → Next
goes_or_faults s kind place None = Ends Undefined
goes_or_faults s kind place (Some true) = Goes s
goes_or_faults s kind place (Some false) = Ends (Faulted kind place)

-- it goes on with a number in a temporary, or the run ends by a fault
abbrev pub sets_or_faults : State → ℕ → Pos → Option (Result ℕ FaultKind) → Next
sets_or_faults s to place None = Ends Undefined
sets_or_faults s to place (Some (Ok n)) = Goes (state_with s to (number n))
sets_or_faults s to place (Some (Err kind)) = Ends (Faulted kind place)
