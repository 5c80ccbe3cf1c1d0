-- What calls, services and points pass, get and show.
use Rattle.std.specs.Prelude.{◌≡◌, ◌⊎◌, ⊤, ℕ, List, length, IsSomeAnd, All, sum_by, slice_get, Option, Some, None, Bool, true, false}
use Rattle.m3_mid.specs.declared.procs.Kind.{Kind}
use Rattle.m3_mid.specs.declared.procs.Kind.TheVariants as kinds
use Rattle.m3_mid.specs.declared.procs.Proc.{Proc}
use Rattle.m3_mid.specs.declared.ops.Operand.{Operand}
use Rattle.m3_mid.specs.declared.calls.Actual.{Actual}
use Rattle.m3_mid.specs.declared.calls.Actual.TheVariants as actuals
use Rattle.m3_mid.specs.declared.calls.Callee.{Callee}
use Rattle.m3_mid.specs.declared.calls.Callee.TheVariants as callees
use Rattle.m3_mid.specs.declared.calls.Raised.{Raised}
use Rattle.m3_mid.specs.declared.calls.Service.{Service}
use Rattle.m3_mid.specs.declared.calls.Service.TheVariants as services
use Rattle.m3_mid.specs.declared.marks.Held.{Held}
use Rattle.m3_mid.specs.declared.marks.Held.TheVariants as places
use Rattle.m3_mid.specs.declared.marks.Shown.{Shown}
use Rattle.m3_mid_valid.specs.Kinds.{IsTemp, HasKind, IsPlain, IsNumber, IsTidy, IsWord}
use Rattle.m3_mid_valid.specs.Memory.{HasSlotKind, AreSlots}

-- the words of the callee's frame that an actual becomes
abbrev pub words_of : Actual → ℕ
words_of (actuals.Word operand) = 1
words_of (actuals.Slots first count) = count
words_of (actuals.Reference address base) = 2

-- an actual is a number, a tidy pointer, slots, or an address with its base
abbrev pub IsActual : Proc → Actual → Type 0
IsActual p (actuals.Word operand) = IsWord p.temps.now operand
IsActual p (actuals.Slots first count) = AreSlots p.slots.now first count
IsActual p (actuals.Reference address base) = IsTemp p.temps.now address × IsTidy p.temps.now base

-- an object is passed as one word
abbrev pub IsObject : Proc → Actual → Type 0
IsObject p (actuals.Word object) = IsTidy p.temps.now object
IsObject p _ = ⊥

-- What is called is there, and a procedure that is named gets as many words as its formals have.
abbrev pub FitsCallee : Proc → List ℕ → Callee → List Actual → Type 0
FitsCallee p formals (callees.Outermost procedure) passed =
    slice_get formals procedure ≡ Some (sum_by words_of passed)
FitsCallee p formals (callees.Inner procedure environment) passed =
    HasKind p.temps.now environment kinds.Number × (slice_get formals procedure ≡ Some (sum_by words_of passed))
FitsCallee p formals (callees.Value code environment) passed =
    HasKind p.temps.now code kinds.Number × HasKind p.temps.now environment kinds.Number
FitsCallee p formals (callees.Method place) passed = IsSomeAnd (slice_get passed 0) (IsObject p)

-- a result of one word, where one is wanted
abbrev pub FitsResult : Proc → Option ℕ → Type 0
FitsResult p None = ⊤
FitsResult p (Some to) = IsPlain p.temps.now to

-- the temporaries in which an exception travels, where a call can be left by one
abbrev pub FitsRaised : Proc → Option Raised → Type 0
FitsRaised p None = ⊤
FitsRaised p (Some raised) =
    HasKind p.temps.now raised.exception kinds.Number
    × (HasKind p.temps.now raised.number kinds.Number × HasKind p.temps.now raised.tidy kinds.Tidy)

-- a variable that is shown is a number or a tidy pointer
abbrev pub IsHeld : Proc → Held → Type 0
IsHeld p (places.Temp t) = IsPlain p.temps.now t
IsHeld p (places.Slot s) = HasSlotKind p.slots.now s kinds.Number ⊎ HasSlotKind p.slots.now s kinds.Tidy

abbrev pub AreShown : Proc → List Shown → Type 0
AreShown p shown = All (λ s. IsHeld p s.at) shown

-- an operand of a kind
abbrev pub IsOf : List Kind → Operand → Kind → Type 0
IsOf temps operand kinds.Number = IsNumber temps operand
IsOf temps operand kinds.Tidy = IsTidy temps operand
IsOf temps operand kinds.Address = ⊥

-- the operand at a place is of a kind
abbrev pub HasOperand : List Kind → List Operand → ℕ → Kind → Type 0
HasOperand temps row place kind = IsSomeAnd (slice_get row place) (λ operand. IsOf temps operand kind)

-- no operands, one of a kind, two of two kinds
abbrev pub TakesNone : List Operand → Type 0
TakesNone row = length row ≡ 0

abbrev pub TakesOne : List Kind → List Operand → Kind → Type 0
TakesOne temps row kind = (length row ≡ 1) × HasOperand temps row 0 kind

abbrev pub TakesTwo : List Kind → List Operand → Kind → Kind → Type 0
TakesTwo temps row first second =
    (length row ≡ 2) × (HasOperand temps row 0 first × HasOperand temps row 1 second)

-- what services take: texts, cells and numbers
abbrev pub FitsOperands : List Kind → Service → List Operand → Type 0
FitsOperands temps services.Put row = TakesOne temps row kinds.Tidy
FitsOperands temps services.PutNumber row = TakesOne temps row kinds.Number
FitsOperands temps services.PutByte row = TakesOne temps row kinds.Number
FitsOperands temps services.GetByte row = TakesNone row
FitsOperands temps services.EndOfInput row = TakesNone row
FitsOperands temps services.Concatenate row = TakesTwo temps row kinds.Tidy kinds.Tidy
FitsOperands temps services.ByteText row = TakesOne temps row kinds.Number
FitsOperands temps services.Subtext row =
    (length row ≡ 3)
    × (HasOperand temps row 0 kinds.Tidy × (HasOperand temps row 1 kinds.Number × HasOperand temps row 2 kinds.Number))
FitsOperands temps services.Fork row = TakesOne temps row kinds.Tidy
FitsOperands temps services.Join row = TakesOne temps row kinds.Tidy
FitsOperands temps services.Acquire row = TakesOne temps row kinds.Tidy
FitsOperands temps services.Release row = TakesOne temps row kinds.Tidy
FitsOperands temps services.Wait row = TakesTwo temps row kinds.Tidy kinds.Tidy
FitsOperands temps services.Signal row = TakesOne temps row kinds.Tidy
FitsOperands temps services.Broadcast row = TakesOne temps row kinds.Tidy
FitsOperands temps services.MySelf row = TakesNone row
FitsOperands temps services.Alert row = TakesOne temps row kinds.Tidy
FitsOperands temps services.TestAlert row = TakesNone row
FitsOperands temps services.AlertWait row = TakesTwo temps row kinds.Tidy kinds.Tidy
FitsOperands temps services.AlertJoin row = TakesOne temps row kinds.Tidy

-- what services give
abbrev pub given : Service → Option Kind
given services.GetByte = Some kinds.Number
given services.EndOfInput = Some kinds.Number
given services.TestAlert = Some kinds.Number
given services.Concatenate = Some kinds.Tidy
given services.ByteText = Some kinds.Tidy
given services.Subtext = Some kinds.Tidy
given services.Fork = Some kinds.Tidy
given services.Join = Some kinds.Tidy
given services.AlertJoin = Some kinds.Tidy
given services.MySelf = Some kinds.Tidy
given _ = None

-- a result is wanted only where it is given
abbrev pub FitsGiven : List Kind → Option ℕ → Option Kind → Type 0
FitsGiven temps None gives = ⊤
FitsGiven temps (Some to) None = ⊥
FitsGiven temps (Some to) (Some kind) = HasKind temps to kind

-- whether a service may raise Thread.Alerted
abbrev pub may_alert : Service → Bool
may_alert services.AlertWait = true
may_alert services.AlertJoin = true
may_alert _ = false

-- it is told exactly where it may be raised
abbrev pub FitsAlert : List Kind → Option ℕ → Bool → Type 0
FitsAlert temps None alerts = alerts ≡ false
FitsAlert temps (Some t) alerts = (alerts ≡ true) × HasKind temps t kinds.Number

abbrev pub FitsService : List Kind → Service → List Operand → Option ℕ → Option ℕ → Type 0
FitsService temps service row to raised =
    FitsOperands temps service row
    × (FitsGiven temps to (given service) × FitsAlert temps raised (may_alert service))
