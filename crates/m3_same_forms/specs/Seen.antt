-- What an operation does, by forms.
use Rattle.std.specs.Prelude.{ℕ, ◌+◌, List, [], if◌then◌else◌, slice_get}
use Rattle.m3_base.specs.Words.{word_of}
use Rattle.m3_mid.specs.declared.procs.Slot.{Slot}
use Rattle.m3_mid.specs.declared.ops.Operand.{Operand}
use Rattle.m3_mid.specs.declared.ops.Operand.TheVariants as operands
use Rattle.m3_mid.specs.declared.ops.MemoryWord.{MemoryWord}
use Rattle.m3_mid.specs.declared.ops.MemoryWord.TheVariants as places
use Rattle.m3_mid.specs.declared.ops.WordOperator.{WordOperator}
use Rattle.m3_mid.specs.declared.ops.WordOperator.TheVariants as words
use Rattle.m3_mid.specs.declared.ops.MidOp.{MidOp}
use Rattle.m3_mid.specs.declared.ops.MidOp.TheVariants as ops
use Rattle.m3_mid_meaning.specs.Memory.{is_unshared}
use Rattle.m3_same_forms.specs.declared.forms.Symbol.TheVariants as symbols
use Rattle.m3_same_forms.specs.declared.forms.Tag.{Tag}
use Rattle.m3_same_forms.specs.declared.forms.Tag.TheVariants as tags
use Rattle.m3_same_forms.specs.declared.seen.Deed.TheVariants as deeds
use Rattle.m3_same_forms.specs.declared.seen.Seen.{Seen}
use Rattle.m3_same_forms.specs.declared.seen.Seen.TheVariants.{Sets, Computes, Tries, Checks, Keeps, Changes, Points}
use Rattle.m3_same_forms.specs.Forms.{Form, Query, merge, scaled, opposite, of_number, of_symbol, behind}

abbrev pub asks : Tag → Form → Form → Form → Query
asks tag a b c = record { tag = tag; first = a; second = b; third = c }

abbrev pub slot_form : ℕ → Form
slot_form n = behind symbols.Frame (3 + n)

abbrev pub global_form : ℕ → Form
global_form n = behind symbols.Globals n

abbrev pub operand_form : (ℕ → Form) → Operand → Form
operand_form f (operands.Temp t) = f t
operand_form f (operands.Number n) = of_number (word_of n)

abbrev pub seen_arith : ℕ → WordOperator → Form → Form → Seen
seen_arith to words.Add a b = Sets to (merge a b)
seen_arith to words.Subtract a b = Sets to (merge a (opposite b))
seen_arith to operator a b = Computes to (asks (tags.Operator operator) a b [])

abbrev pub computes_one : ℕ → Tag → Form → Seen
computes_one to tag a = Computes to (asks tag a [] [])

abbrev pub computes_two : (ℕ → Form) → ℕ → Tag → Operand → Operand → Seen
computes_two f to tag left right =
    Computes to (asks tag (operand_form f left) (operand_form f right) [])

abbrev pub computes_three : (ℕ → Form) → ℕ → ℕ → ℕ → Operand → Seen
computes_three f to left right count =
    Computes to (asks tags.EqualWords (f left) (f right) (operand_form f count))

abbrev pub copies : (ℕ → Form) → ℕ → ℕ → Operand → Seen
copies f to from count = Changes deeds.Copy (f to) (f from) (operand_form f count)

abbrev pub fills : (ℕ → Form) → ℕ → Operand → Operand → Seen
fills f at count distance =
    Changes deeds.Fill (f at) (operand_form f count) (operand_form f distance)

abbrev pub sums : ℕ → Form → Seen
sums to value = Sets to value

abbrev pub stores : Form → Form → Seen
stores at value = Changes deeds.Store at value []

abbrev pub element_form : (ℕ → Form) → ℕ → Operand → ℕ → ℕ → Form
element_form f array index count offset =
    merge (merge (f array) (scaled count (operand_form f index))) (of_number offset)

-- in a frame with these slots, where temporaries hold these forms
module _ (slots : List Slot) (f : ℕ → Form) where
  abbrev pub seen_load : ℕ → MemoryWord → Seen
  seen_load to (places.Slot n) =
      if is_unshared (slice_get slots n) then Computes to (asks (tags.OwnSlot n) [] [] [])
      else Computes to (asks tags.Loaded (slot_form n) [] [])
  seen_load to places.Environment = Computes to (asks tags.Environment [] [] [])
  seen_load to (places.Global n) = Computes to (asks tags.Loaded (global_form n) [] [])
  seen_load to (places.At base offset) =
      Computes to (asks tags.Loaded (merge (f base) (of_number (word_of offset))) [] [])

  abbrev pub seen_store : MemoryWord → Form → Seen
  seen_store (places.Slot n) a =
      if is_unshared (slice_get slots n) then Keeps n a else Changes deeds.Store (slot_form n) a []
  seen_store places.Environment a = Points
  seen_store (places.Global n) a = Changes deeds.Store (global_form n) a []
  seen_store (places.At base offset) a =
      Changes deeds.Store (merge (f base) (of_number (word_of offset))) a []

  abbrev pub seen : MidOp → Seen
  seen (ops.Number to value) = Sets to (of_number (word_of value))
  seen (ops.Move to from) = Sets to (f from)
  seen (ops.Arith to operator left right) =
      seen_arith to operator (operand_form f left) (operand_form f right)
  seen (ops.Checked to operator left right place) =
      Tries to operator (operand_form f left) (operand_form f right) place
  seen (ops.Compare to relation left right) =
      Computes to (asks (tags.Compared relation) (operand_form f left) (operand_form f right) [])
  seen (ops.Load to from) = seen_load to from
  seen (ops.Store at from) = seen_store at (operand_form f from)
  seen (ops.SlotAddress to n) = Sets to (slot_form n)
  seen (ops.FrameAddress to) = Sets to (of_symbol symbols.Frame)
  seen (ops.GlobalAddress to n) = Sets to (global_form n)
  seen (ops.TextCell to n) = Sets to (of_symbol (symbols.Text n))
  seen (ops.ConstantAddress to n) = Sets to (of_symbol (symbols.Constant n))
  seen (ops.Index to array index count offset) =
      let start = merge (f array) (scaled count (operand_form f index)) in
      Sets to (merge start (of_number (word_of offset)))
  seen (ops.Copy to from count) = Changes deeds.Copy (f to) (f from) (operand_form f count)
  seen (ops.Fill at count distance) =
      Changes deeds.Fill (f at) (operand_form f count) (operand_form f distance)
  seen (ops.EqualWords to left right count) =
      Computes to (asks tags.EqualWords (f left) (f right) (operand_form f count))
  seen (ops.Check relation left right fault place) =
      Checks relation (operand_form f left) (operand_form f right) fault place
  seen (ops.TypeTest to cell tested) = Computes to (asks (tags.TypeTest tested) (f cell) [] [])
  seen (ops.MethodOf to object method) = Computes to (asks (tags.MethodOf method) (f object) [] [])
  seen (ops.TextByte to text index) =
      Computes to (asks tags.TextByte (f text) (operand_form f index) [])
  seen (ops.EqualTexts to left right) = Computes to (asks tags.EqualTexts (f left) (f right) [])
  seen (ops.Call callee passed result raised shown) = Points
  seen (ops.Make to cell sizes shown) = Points
  seen (ops.Service service row to raised place shown) = Points
  seen (ops.Point shown) = Points
