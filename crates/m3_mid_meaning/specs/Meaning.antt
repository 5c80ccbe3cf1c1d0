-- THE MEANING OF MIDDLE CODE: what each operation does to the state of an activation, and where
-- each end of a block leads. Lowering is to be proved against it backward, with the run of the code
-- that follows as a continuation (Runs); passes over middle code, derivations, places and emission
-- forward.
use Rattle.std.specs.Prelude.{ℕ, zero, suc, List, Bool, true, false, Option, Some, None}
use Rattle.std.specs.Option.{option_map}
use Rattle.m3_base.specs.Words.{word_of, add_words}
use Rattle.m3_mid.specs.declared.procs.Slot.{Slot}
use Rattle.m3_mid.specs.declared.procs.End.{End}
use Rattle.m3_mid.specs.declared.procs.End.TheVariants as ends
use Rattle.m3_mid.specs.declared.ops.MidOp.{MidOp}
use Rattle.m3_mid.specs.declared.ops.MidOp.TheVariants as ops
use Rattle.m3_mid_meaning.specs.Numbers.{checked_value}
use Rattle.m3_mid_meaning.specs.Words.{Word, number, number_of, of_numbers}
use Rattle.m3_mid_meaning.specs.Memory.{Memory, Around, slot_address}
use Rattle.m3_mid_meaning.specs.States.{State, Ending, Returned, Escaped, Faulted, Undefined, operand, loaded, stored, with_memory, sets, goes_to, goes_or_faults, sets_or_faults}
use Rattle.m3_mid_meaning.specs.Operations.{operated, is_true, flag_word, copied, filled, are_equal, element_address, is_of_type, method_of, text_byte, are_equal_texts}
use Rattle.m3_mid_meaning.specs.Actions.{Passes, call_action, make_action, serve_action}
use Rattle.m3_mid_meaning.specs.Points.{Effect, Plain, passes, after_call, after_make, after_service, after_nothing}

-- an operation, in a frame with these slots
abbrev pub effect_of : List Slot → Around → State → MidOp → Effect
effect_of slots around s (ops.Number to value) = Plain (sets s to (Some (number (word_of value))))
effect_of slots around s (ops.Move to from) = Plain (sets s to (Some (s.temps from)))
effect_of slots around s (ops.Arith to operator left right) =
    Plain (sets s to (operated operator (operand s left) (operand s right)))
effect_of slots around s (ops.Checked to operator left right place) =
    let answer = of_numbers (checked_value operator) (operand s left) (operand s right) in
    Plain (sets_or_faults s to place answer)
effect_of slots around s (ops.Compare to relation left right) =
    Plain (sets s to (flag_word (is_true relation (operand s left) (operand s right))))
effect_of slots around s (ops.Load to from) =
    Plain (sets s to (loaded slots around s from))
effect_of slots around s (ops.Store at from) =
    Plain (goes_to (stored slots around s at (operand s from)))
effect_of slots around s (ops.SlotAddress to slot) =
    Plain (sets s to (Some (number (slot_address around slot))))
effect_of slots around s (ops.FrameAddress to) = Plain (sets s to (Some (number around.frame)))
effect_of slots around s (ops.GlobalAddress to word) =
    Plain (sets s to (Some (number (add_words around.globals word))))
effect_of slots around s (ops.TextCell to text) =
    Plain (sets s to (Some (number (around.texts text))))
effect_of slots around s (ops.ConstantAddress to constant) =
    Plain (sets s to (Some (number (around.constants constant))))
effect_of slots around s (ops.Index to array index words offset) =
    let address = element_address (s.temps array) words (operand s index) (word_of offset) in
    Plain (sets s to (Some address))
effect_of slots around s (ops.Copy to from words) =
    let after = copied around s.memory (s.temps to) (s.temps from) (operand s words) in
    Plain (goes_to (option_map (with_memory s) after))
effect_of slots around s (ops.Fill at words distance) =
    let after = filled around s.memory (s.temps at) (operand s words) (operand s distance) in
    Plain (goes_to (option_map (with_memory s) after))
effect_of slots around s (ops.EqualWords to left right words) =
    let test = are_equal around s.memory (s.temps left) (s.temps right) (operand s words) in
    Plain (sets s to (flag_word test))
effect_of slots around s (ops.Check relation left right fault place) =
    Plain (goes_or_faults s fault place (is_true relation (operand s left) (operand s right)))
effect_of slots around s (ops.TypeTest to cell tested) =
    Plain (sets s to (flag_word (is_of_type around s.memory (s.temps cell) tested)))
effect_of slots around s (ops.MethodOf to object method) =
    Plain (sets s to (option_map number (method_of around s.memory (s.temps object) method)))
effect_of slots around s (ops.TextByte to text index) =
    let byte = text_byte around s.memory (s.temps text) (operand s index) in
    Plain (sets s to (option_map number byte))
effect_of slots around s (ops.EqualTexts to left right) =
    Plain (sets s to (flag_word (are_equal_texts around s.memory (s.temps left) (s.temps right))))
effect_of slots around s (ops.Call callee passed result raised shown) =
    let action = call_action slots around s callee passed.now in
    passes slots around s shown.now action (after_call result raised)
effect_of slots around s (ops.Make to cell sizes shown) =
    let action = make_action slots around s cell sizes in
    passes slots around s shown.now action (after_make to)
effect_of slots around s (ops.Service service row to raised place shown) =
    passes slots around s shown.now (serve_action s service row.now) (after_service to raised place)
effect_of slots around s (ops.Point shown) =
    passes slots around s shown.now (Some Passes) after_nothing

-- where the end of a block leads: to a block, or out of the procedure
pub data Exit : Type 0 where
  To : (block : ℕ) → Exit
  Over : Ending → Exit

abbrev pub arm_of : ℕ → ℕ → Option Bool → Exit
arm_of target other None = Over Undefined
arm_of target other (Some true) = To target
arm_of target other (Some false) = To other

-- exceptions have numbers from 1 on
abbrev pub raised_by : Word → Word → Memory → Option ℕ → Exit
raised_by number tidy memory None = Over Undefined
raised_by number tidy memory (Some zero) = Over Undefined
raised_by number tidy memory (Some (suc n)) = Over (Escaped (suc n) number tidy memory)

abbrev pub exit_of : State → End → Exit
exit_of s (ends.Goto to) = To to
exit_of s (ends.If relation left right target other) =
    arm_of target other (is_true relation (operand s left) (operand s right))
exit_of s (ends.Return value) =
    Over (Returned (option_map (operand s) value) s.memory)
exit_of s (ends.FaultAt kind place) = Over (Faulted kind place)
exit_of s (ends.Raise exception number tidy) =
    raised_by (operand s number) (operand s tidy) s.memory (number_of (operand s exception))
