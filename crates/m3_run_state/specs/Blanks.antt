-- New cells while they are filled: what their memory was before, which bytes come into a text, and the sizes of an
-- open cell.
use Rattle.std.specs.Prelude.{ℕ, ◌≡◌, ◌+◌, ◌-◌, ◌<◌, ◌^◌, min, true, false, List, ◌++◌, Some, Result, Ok, Err}
use Rattle.m3_base.specs.declared.outcomes.Outcome.{Outcome}
use Rattle.m3_isa.specs.Memory.{Memory}
use Rattle.m3_run_memory.specs.Addresses.{is_from}
use Rattle.m3_run_meaning.specs.Texts.{text_bytes}
use Rattle.m3_run_meaning.specs.NewTexts.{Sizes, Fails_at_size, product}
use Rattle.m3_run_state.specs.declared.texts.Part.{Part}

-- a memory as it was before the words of a new cell behind its header were put: they were 0
pub record WasBlank (start words : ℕ) (before now : Memory) : Type 0 where
  pub blank : (at : ℕ) → is_from (start + 1) (words - 1) at ≡ true → before at ≡ Some 0
  pub same : (at : ℕ) → is_from (start + 1) (words - 1) at ≡ false → now at ≡ before at

-- a part lies below the end of all numbers
abbrev pub IsWithin : Part → Type 0
IsWithin part = part.from + part.count < 2 ^ 64

-- the bytes of a part of a text, and of one part and then another
abbrev pub part_bytes : Memory → Part → List ℕ
part_bytes memory part = text_bytes memory part.text part.from part.count

abbrev pub both_bytes : Memory → Part → Part → List ℕ
both_bytes memory left right = part_bytes memory left ++ part_bytes memory right

-- the sizes at an address were read, and their product as far as a word can say it; or one failed
abbrev pub Reads : Memory → ℕ → ℕ → List ℕ → Result ℕ Outcome → Type 0
Reads memory at dims sizes (Ok found) = Sizes memory at dims sizes × (found ≡ min (product sizes) (2 ^ 64 - 1))
Reads memory at dims sizes (Err outcome) = Fails_at_size memory at dims outcome
