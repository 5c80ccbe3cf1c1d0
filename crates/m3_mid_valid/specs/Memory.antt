-- What may be loaded and stored where.
use Rattle.std.specs.Prelude.{◌≡◌, ◌<◌, ◌≤◌, ◌+◌, ◌⊎◌, ℕ, List, length, slice_get, IsSomeAnd, IsTrue}
use Rattle.m3_mid.specs.declared.procs.Kind.{Kind}
use Rattle.m3_mid.specs.declared.procs.Kind.TheVariants as kinds
use Rattle.m3_mid.specs.declared.procs.Slot.{Slot}
use Rattle.m3_mid.specs.declared.procs.Proc.{Proc}
use Rattle.m3_mid.specs.declared.ops.Operand.{Operand}
use Rattle.m3_mid.specs.declared.ops.MemoryWord.{MemoryWord}
use Rattle.m3_mid.specs.declared.ops.MemoryWord.TheVariants as words
use Rattle.m3_mid_valid.specs.Kinds.{IsTemp, HasKind, IsUntidy, IsTidy, IsWord, IsOperand}

-- the slot is there and of the kind
abbrev pub HasSlotKind : List Slot → ℕ → Kind → Type 0
HasSlotKind slots s kind = IsSomeAnd (slice_get slots s) (λ slot. slot.kind ≡ kind)

-- the slot is there, and its address is taken or an inner procedure reaches it
abbrev pub IsSharedSlot : List Slot → ℕ → Type 0
IsSharedSlot slots s = IsSomeAnd (slice_get slots s) (λ slot. IsTrue slot.is_shared)

-- so many slots from one on are there
abbrev pub AreSlots : List Slot → ℕ → ℕ → Type 0
AreSlots slots first count = first + count ≤ length slots

-- A word of a kind is loaded into a temporary of that kind, or into one for addresses. The words of records
-- are copied through temporaries for tidy pointers, whatever they are.
abbrev pub LoadsSlot : Proc → ℕ → ℕ → Type 0
LoadsSlot p to s =
    (HasSlotKind p.slots.now s kinds.Number × IsTemp p.temps.now to)
    ⊎ ((HasSlotKind p.slots.now s kinds.Tidy × HasKind p.temps.now to kinds.Tidy)
    ⊎ ((s < length p.slots.now) × HasKind p.temps.now to kinds.Address))

-- a word of memory is loaded into a temporary; there are so many global words
abbrev pub FitsLoad : Proc → ℕ → ℕ → MemoryWord → Type 0
FitsLoad p globals to (words.Slot s) = LoadsSlot p to s
FitsLoad p globals to words.Environment = IsUntidy p.temps.now to
FitsLoad p globals to (words.Global word) = IsTemp p.temps.now to × (word < globals)
FitsLoad p globals to (words.At base offset) = IsTemp p.temps.now to × IsTemp p.temps.now base

-- A slot for tidy pointers gets no number but 0. The address of a formal by reference stays.
abbrev pub StoresSlot : Proc → ℕ → Operand → Type 0
StoresSlot p s from =
    (HasSlotKind p.slots.now s kinds.Number × IsWord p.temps.now from)
    ⊎ (HasSlotKind p.slots.now s kinds.Tidy × IsTidy p.temps.now from)

-- a word is stored in memory; a derived pointer never is
abbrev pub FitsStore : Proc → ℕ → MemoryWord → Operand → Type 0
FitsStore p globals (words.Slot s) from = StoresSlot p s from
FitsStore p globals words.Environment from = ⊥
FitsStore p globals (words.Global word) from = IsWord p.temps.now from × (word < globals)
FitsStore p globals (words.At base offset) from = IsWord p.temps.now from × IsTemp p.temps.now base

-- words in a row at two addresses
abbrev pub FitsRow : Proc → ℕ → ℕ → Operand → Type 0
FitsRow p first second count =
    IsTemp p.temps.now first × (IsTemp p.temps.now second × IsOperand p.temps.now count)

-- words in a row at an address, from a distance on
abbrev pub FitsFill : Proc → ℕ → Operand → Operand → Type 0
FitsFill p at count distance =
    IsTemp p.temps.now at × (IsOperand p.temps.now count × IsOperand p.temps.now distance)
