-- When what two operations name is the same.
use Rattle.std.specs.Prelude.{ℕ, ◌==◌, ◌&&◌, Bool, true, false, List, [], ◌∷◌, Option, Some, None}
use Rattle.m3_base.specs.Faults.{number_of_fault}
use Rattle.m3_base.specs.declared.outcomes.FaultKind.{FaultKind}
use Rattle.m3_base.specs.declared.places.Pos.{Pos}
use Rattle.m3_mid.specs.declared.calls.Actual.{Actual}
use Rattle.m3_mid.specs.declared.calls.Actual.TheVariants as actuals
use Rattle.m3_mid.specs.declared.calls.Callee.{Callee}
use Rattle.m3_mid.specs.declared.calls.Callee.TheVariants as callees
use Rattle.m3_mid.specs.declared.calls.Service.{Service}
use Rattle.m3_mid.specs.declared.calls.Service.TheVariants as services
use Rattle.m3_mid.specs.declared.marks.Held.{Held}
use Rattle.m3_mid.specs.declared.marks.Held.TheVariants as held
use Rattle.m3_mid.specs.declared.marks.Shown.{Shown}
use Rattle.m3_mid.specs.declared.procs.Kind.{Kind}
use Rattle.m3_mid.specs.declared.procs.Kind.TheVariants as kinds
use Rattle.m3_mid.specs.declared.procs.Slot.{Slot}
use Rattle.m3_mid.specs.declared.ops.Operand.{Operand}
use Rattle.m3_mid.specs.declared.ops.WordOperator.{WordOperator}
use Rattle.m3_mid.specs.declared.ops.WordOperator.TheVariants as words
use Rattle.m3_mid.specs.declared.ops.CheckedOperator.{CheckedOperator}
use Rattle.m3_mid.specs.declared.ops.CheckedOperator.TheVariants as checks
use Rattle.m3_mid.specs.declared.ops.Relation.{Relation}
use Rattle.m3_mid.specs.declared.ops.Relation.TheVariants as relations
use Rattle.m3_mid.specs.declared.ops.MidOp.{MidOp}
use Rattle.m3_mid.specs.declared.ops.MidOp.TheVariants as ops
use Rattle.m3_same_forms.specs.declared.forms.Tag.{Tag}
use Rattle.m3_same_forms.specs.declared.forms.Tag.TheVariants as tags
use Rattle.m3_same_forms.specs.declared.seen.Deed.{Deed}
use Rattle.m3_same_forms.specs.declared.seen.Deed.TheVariants as deeds
use Rattle.m3_same_forms.specs.Forms.{Form, same_form}
use Rattle.m3_same_forms.specs.Seen.{operand_form}

-- ---- places in the lists of variants

abbrev pub place_of_operator : WordOperator → ℕ
place_of_operator words.Add = 0
place_of_operator words.Subtract = 1
place_of_operator words.Multiply = 2
place_of_operator words.And = 3
place_of_operator words.Or = 4
place_of_operator words.Xor = 5
place_of_operator words.Shift = 6
place_of_operator words.Rotate = 7

abbrev pub place_of_checked : CheckedOperator → ℕ
place_of_checked checks.Add = 0
place_of_checked checks.Subtract = 1
place_of_checked checks.Multiply = 2
place_of_checked checks.Div = 3
place_of_checked checks.Mod = 4
place_of_checked checks.DivUnsigned = 5
place_of_checked checks.ModUnsigned = 6

abbrev pub place_of_relation : Relation → ℕ
place_of_relation relations.Equal = 0
place_of_relation relations.NotEqual = 1
place_of_relation relations.Less = 2
place_of_relation relations.LessEqual = 3
place_of_relation relations.LessUnsigned = 4
place_of_relation relations.LessEqualUnsigned = 5

abbrev pub place_of_service : Service → ℕ
place_of_service services.Put = 0
place_of_service services.PutNumber = 1
place_of_service services.PutByte = 2
place_of_service services.GetByte = 3
place_of_service services.EndOfInput = 4
place_of_service services.Concatenate = 5
place_of_service services.ByteText = 6
place_of_service services.Subtext = 7
place_of_service services.Fork = 8
place_of_service services.Join = 9
place_of_service services.Acquire = 10
place_of_service services.Release = 11
place_of_service services.Wait = 12
place_of_service services.Signal = 13
place_of_service services.Broadcast = 14
place_of_service services.MySelf = 15
place_of_service services.Alert = 16
place_of_service services.TestAlert = 17
place_of_service services.AlertWait = 18
place_of_service services.AlertJoin = 19

abbrev pub place_of_deed : Deed → ℕ
place_of_deed deeds.Store = 0
place_of_deed deeds.Copy = 1
place_of_deed deeds.Fill = 2

abbrev pub place_of_kind : Kind → ℕ
place_of_kind kinds.Number = 0
place_of_kind kinds.Tidy = 1
place_of_kind kinds.Address = 2

abbrev pub place_of_tag : Tag → ℕ
place_of_tag (tags.Operator operator) = 0
place_of_tag (tags.Checked operator) = 1
place_of_tag (tags.Compared relation) = 2
place_of_tag tags.Environment = 3
place_of_tag (tags.OwnSlot n) = 4
place_of_tag (tags.TypeTest n) = 5
place_of_tag (tags.MethodOf n) = 6
place_of_tag tags.Loaded = 7
place_of_tag tags.EqualWords = 8
place_of_tag tags.TextByte = 9
place_of_tag tags.EqualTexts = 10

-- what a tag names besides
abbrev pub detail_of_tag : Tag → ℕ
detail_of_tag (tags.Operator operator) = place_of_operator operator
detail_of_tag (tags.Checked operator) = place_of_checked operator
detail_of_tag (tags.Compared relation) = place_of_relation relation
detail_of_tag (tags.OwnSlot n) = n
detail_of_tag (tags.TypeTest n) = n
detail_of_tag (tags.MethodOf n) = n
detail_of_tag _ = 0

-- ---- the same

abbrev pub same_checked : CheckedOperator → CheckedOperator → Bool
same_checked a b = place_of_checked a == place_of_checked b

abbrev pub same_relation : Relation → Relation → Bool
same_relation a b = place_of_relation a == place_of_relation b

abbrev pub same_service : Service → Service → Bool
same_service a b = place_of_service a == place_of_service b

abbrev pub same_deed : Deed → Deed → Bool
same_deed a b = place_of_deed a == place_of_deed b

abbrev pub same_tag : Tag → Tag → Bool
same_tag a b = place_of_tag a == place_of_tag b && detail_of_tag a == detail_of_tag b

abbrev pub same_fault : FaultKind → FaultKind → Bool
same_fault a b = number_of_fault a == number_of_fault b

abbrev pub same_place : Pos → Pos → Bool
same_place a b = a.file == b.file && a.line == b.line && a.col == b.col

abbrev pub same_flag : Bool → Bool → Bool
same_flag true true = true
same_flag false false = true
same_flag _ _ = false

abbrev pub same_slot : Slot → Slot → Bool
same_slot a b = place_of_kind a.kind == place_of_kind b.kind && same_flag a.is_shared b.is_shared

abbrev pub same_slots : List Slot → List Slot → Bool
same_slots [] [] = true
same_slots (a ∷ as') (b ∷ bs) = same_slot a b && same_slots as' bs
same_slots _ _ = false

abbrev pub same_choice : Option ℕ → Option ℕ → Bool
same_choice None None = true
same_choice (Some a) (Some b) = a == b
same_choice _ _ = false

-- ---- points, where the temporaries of the two hold these forms

module _ (f f' : ℕ → Form) where
  abbrev pub same_temps : ℕ → ℕ → Bool
  same_temps t t' = same_form (f t) (f' t')

  abbrev pub same_operand : Operand → Operand → Bool
  same_operand a b = same_form (operand_form f a) (operand_form f' b)

  abbrev pub same_operands : List Operand → List Operand → Bool
  same_operands [] [] = true
  same_operands (a ∷ as') (b ∷ bs) = same_operand a b && same_operands as' bs
  same_operands _ _ = false

  abbrev pub same_actual : Actual → Actual → Bool
  same_actual (actuals.Word a) (actuals.Word b) = same_operand a b
  same_actual (actuals.Slots first count) (actuals.Slots first' count') =
      first == first' && count == count'
  same_actual (actuals.Reference address base) (actuals.Reference address' base') =
      same_temps address address' && same_operand base base'
  same_actual _ _ = false

  abbrev pub same_actuals : List Actual → List Actual → Bool
  same_actuals [] [] = true
  same_actuals (a ∷ as') (b ∷ bs) = same_actual a b && same_actuals as' bs
  same_actuals _ _ = false

  abbrev pub same_callee : Callee → Callee → Bool
  same_callee (callees.Outermost n) (callees.Outermost n') = n == n'
  same_callee (callees.Inner n environment) (callees.Inner n' environment') =
      n == n' && same_temps environment environment'
  same_callee (callees.Value code environment) (callees.Value code' environment') =
      same_temps code code' && same_temps environment environment'
  same_callee (callees.Method n) (callees.Method n') = n == n'
  same_callee _ _ = false

  abbrev pub same_held : Held → Held → Bool
  same_held (held.Temp t) (held.Temp t') = same_temps t t'
  same_held (held.Slot n) (held.Slot n') = n == n'
  same_held _ _ = false

  abbrev pub same_shown : Shown → Shown → Bool
  same_shown a b = a.var == b.var && same_held a.at b.at

  abbrev pub same_showns : List Shown → List Shown → Bool
  same_showns [] [] = true
  same_showns (a ∷ as') (b ∷ bs) = same_shown a b && same_showns as' bs
  same_showns _ _ = false

  -- the two pass points with the same events, and may end by the same faults
  abbrev pub same_point : MidOp → MidOp → Bool
  same_point (ops.Call callee passed result raised shown) (ops.Call callee' passed' result' raised' shown') =
      same_callee callee callee' && same_actuals passed.now passed'.now
      && same_showns shown.now shown'.now
  same_point (ops.Make to cell sizes shown) (ops.Make to' cell' sizes' shown') =
      cell == cell' && same_choice sizes sizes' && same_showns shown.now shown'.now
  same_point (ops.Service service row to raised place shown) (ops.Service service' row' to' raised' place' shown') =
      same_service service service' && same_operands row.now row'.now && same_place place place'
      && same_showns shown.now shown'.now
  same_point (ops.Point shown) (ops.Point shown') = same_showns shown.now shown'.now
  same_point _ _ = false
