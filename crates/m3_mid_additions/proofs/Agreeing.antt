-- States that agree but for temporaries that a procedure hasn't: an operation that reads none of these
-- does the same in both.
use Rattle.std.proofs.Common.{◌≡◌, ℕ, zero, suc, ◌<◌, Bool, true, false, List, [], ◌∷◌, map, Option, Some, None, Result, Ok, Err, refl, sym, ap, ◌∙◌, subst}
use Rattle.std.specs.Prelude.{◌==◌, not, if◌then◌else◌, slice_get}
use Rattle.std.specs.Option.{option_map}
use Rattle.m3_isa.specs.Arithmetic.{flag}
use Rattle.m3_base.specs.Words.{word_of}
use Rattle.m3_base.specs.declared.outcomes.FaultKind.{FaultKind}
use Rattle.m3_base.specs.declared.places.Pos.{Pos}
use Rattle.m3_mid.specs.declared.procs.Slot.{Slot}
use Rattle.m3_mid.specs.declared.procs.End.{End}
use Rattle.m3_mid.specs.declared.procs.End.TheVariants as ends
use Rattle.m3_mid.specs.declared.calls.Actual.{Actual}
use Rattle.m3_mid.specs.declared.calls.Actual.TheVariants as actuals
use Rattle.m3_mid.specs.declared.calls.Callee.{Callee}
use Rattle.m3_mid.specs.declared.calls.Callee.TheVariants as callees
use Rattle.m3_mid.specs.declared.calls.Raised.{Raised}
use Rattle.m3_mid.specs.declared.marks.Held.{Held}
use Rattle.m3_mid.specs.declared.marks.Held.TheVariants as held
use Rattle.m3_mid.specs.declared.marks.Shown.{Shown}
use Rattle.m3_mid.specs.declared.ops.MidOp.{MidOp}
use Rattle.m3_mid.specs.declared.ops.MidOp.TheVariants as ops
use Rattle.m3_mid.specs.declared.ops.Operand.{Operand}
use Rattle.m3_mid.specs.declared.ops.Operand.TheVariants as operands
use Rattle.m3_mid.specs.declared.ops.MemoryWord.{MemoryWord}
use Rattle.m3_mid.specs.declared.ops.MemoryWord.TheVariants as places
use Rattle.m3_mid_meaning.specs.Numbers.{checked_value}
use Rattle.m3_mid_meaning.specs.Words.{Word, number, normal, ◌>>=◌, of_numbers}
use Rattle.m3_mid_meaning.specs.Memory.{Memory, Around, slot_address, is_unshared, load, store}
use Rattle.m3_mid_meaning.specs.Operations.{operated, is_true, flag_word, copied, filled, are_equal, element_address, is_of_type, method_of, text_byte, are_equal_texts}
use Rattle.m3_mid_meaning.specs.States.{State, Next, Goes, Ends, Undefined, Returned, state_with, with_memory, with_own, stored_at, stored_own, stored, sets, goes_to, goes_or_faults, sets_or_faults, operand, global_address, address_behind, slot_word, slot_words, loaded}
use Rattle.m3_mid_meaning.specs.Actions.{Action, Passes, Makes, Serves, each_of, joined, actual_words, formal_words, called, call_action, make_action, are_sizes, serve_action, held_word, shown_word}
use Rattle.m3_mid_meaning.specs.Points.{Event, Answer, Effect, Plain, Acts, event_of, effect_at, state_after, state_with_any, state_with_raised, served}
use Rattle.m3_mid_meaning.specs.Meaning.{effect_of, Over, exit_of}
use Rattle.m3_mid_additions.specs.Naming.{IsOwn, IsOwnIfAny, AreOwn, IsOwnWord, IsOwnActual, AreOwnActuals, IsOwnCallee, IsOwnHeld, AreOwnShown, ReadsOwn, EndReadsOwn}

abbrev pub with_temps : State → (ℕ → Word) → State
with_temps s f = record s { temps = f }

module _ (temps : ℕ) (slots : List Slot) (around : Around) where
  -- the temporaries of the procedure are the same
  abbrev pub Below : State → (ℕ → Word) → Type 0
  Below s f = (t : ℕ) → t < temps → f t ≡ s.temps t

  abbrev pub StateAgrees : State → State → Type 0
  StateAgrees s r = (f : ℕ → Word) × (r ≡ with_temps s f) × Below s f

  abbrev pub NextAgrees : Next → Next → Type 0
  NextAgrees (Goes s) y = (r : State) × (y ≡ Goes r) × StateAgrees s r
  NextAgrees (Ends ending) y = y ≡ Ends ending

  abbrev pub EffectAgrees : Effect → Effect → Type 0
  EffectAgrees (Plain next) y = (next' : Next) × (y ≡ Plain next') × NextAgrees next next'
  EffectAgrees (Acts event reply) y =
      (reply' : Answer → Next) × (y ≡ Acts event reply')
      × ((answer : Answer) → NextAgrees (reply answer) (reply' answer))

  -- ---- setting temporaries

  abbrev with_set : (ℕ → Word) → ℕ → Word → ℕ → Word
  with_set f to w t = if t == to then normal w else f t

  pub set_at : (s : State) (f : ℕ → Word) (to : ℕ) (w : Word) (t : ℕ) (b : Bool) → f t ≡ s.temps t → (if b then normal w else f t) ≡ (if b then normal w else s.temps t)
  set_at s f to w t true h = refl
  set_at s f to w t false h = h

  pub set_below : (s : State) (f : ℕ → Word) (to : ℕ) (w : Word) → Below s f → Below (state_with s to w) (with_set f to w)
  set_below s f to w h t own = set_at s f to w t (t == to) (h t own)

  pub set_agrees : (s r : State) (to : ℕ) (w : Word) → StateAgrees s r → StateAgrees (state_with s to w) (state_with r to w)
  set_agrees s r to w (f, same, h) = (with_set f to w, ap (λ z. state_with z to w) same, set_below s f to w h)

  goes : (s r : State) → StateAgrees s r → NextAgrees (Goes s) (Goes r)
  goes s r h = (r, refl, h)

  sets_so : (s : State) (f : ℕ → Word) (to : ℕ) (w w' : Option Word) → w' ≡ w → Below s f → NextAgrees (sets s to w) (sets (with_temps s f) to w')
  sets_so s f to None w' e h = ap (λ z. sets (with_temps s f) to z) e
  sets_so s f to (Some w) w' e h =
      (state_with (with_temps s f) to w, ap (λ z. sets (with_temps s f) to z) e, set_agrees s (with_temps s f) to w (f, refl, h))

  word_so : (s : State) (f : ℕ → Word) (to : ℕ) (w : Word) → Below s f → NextAgrees (Goes (state_with s to w)) (Goes (state_with (with_temps s f) to w))
  word_so s f to w h = (state_with (with_temps s f) to w, refl, set_agrees s (with_temps s f) to w (f, refl, h))

  checked_so : (s : State) (f : ℕ → Word) (to : ℕ) (place : Pos) (r r' : Option (Result ℕ FaultKind)) → r' ≡ r → Below s f → NextAgrees (sets_or_faults s to place r) (sets_or_faults (with_temps s f) to place r')
  checked_so s f to place None r' e h = ap (λ z. sets_or_faults (with_temps s f) to place z) e
  checked_so s f to place (Some (Ok n)) r' e h =
      (state_with (with_temps s f) to (number n), ap (λ z. sets_or_faults (with_temps s f) to place z) e, set_agrees s (with_temps s f) to (number n) (f, refl, h))
  checked_so s f to place (Some (Err kind)) r' e h = ap (λ z. sets_or_faults (with_temps s f) to place z) e

  test_so : (s : State) (f : ℕ → Word) (kind : FaultKind) (place : Pos) (t t' : Option Bool) → t' ≡ t → Below s f → NextAgrees (goes_or_faults s kind place t) (goes_or_faults (with_temps s f) kind place t')
  test_so s f kind place None t' e h = ap (λ z. goes_or_faults (with_temps s f) kind place z) e
  test_so s f kind place (Some true) t' e h =
      (with_temps s f, ap (λ z. goes_or_faults (with_temps s f) kind place z) e, (f, refl, h))
  test_so s f kind place (Some false) t' e h = ap (λ z. goes_or_faults (with_temps s f) kind place z) e

  -- ---- memory

  memory_so : (s : State) (f : ℕ → Word) (m m' : Option Memory) → m' ≡ m → Below s f → NextAgrees (goes_to (option_map (with_memory s) m)) (goes_to (option_map (with_memory (with_temps s f)) m'))
  memory_so s f None m' e h = ap (λ z. goes_to (option_map (with_memory (with_temps s f)) z)) e
  memory_so s f (Some m) m' e h =
      (with_memory (with_temps s f) m, ap (λ z. goes_to (option_map (with_memory (with_temps s f)) z)) e, (f, refl, h))

  own_so : (s : State) (f : ℕ → Word) (n : ℕ) (w : Word) (old : Option Word) → Below s f → NextAgrees (goes_to (option_map (λ o. with_own s n w) old)) (goes_to (option_map (λ o. with_own (with_temps s f) n w) old))
  own_so s f n w None h = refl
  own_so s f n w (Some old) h = (with_own (with_temps s f) n w, refl, (f, refl, h))

  slot_so : (s : State) (f : ℕ → Word) (n : ℕ) (w : Word) (b : Bool) → Below s f → NextAgrees (goes_to (if b then stored_own s n w else stored_at s (number (slot_address around n)) w)) (goes_to (if b then stored_own (with_temps s f) n w else stored_at (with_temps s f) (number (slot_address around n)) w))
  slot_so s f n w true h = own_so s f n w (s.own n) h
  slot_so s f n w false h = memory_so s f _ _ refl h

  at_so : (s : State) (f : ℕ → Word) (base distance : ℕ) → Below s f → base < temps → address_behind (with_temps s f) base distance ≡ address_behind s base distance
  at_so s f base distance h own = let e : f base ≡ s.temps base = h base own in cc

  stored_so : (s : State) (f : ℕ → Word) (at : MemoryWord) (w : Word) → Below s f → IsOwnWord temps at → NextAgrees (goes_to (stored slots around s at w)) (goes_to (stored slots around (with_temps s f) at w))
  stored_so s f (places.Slot n) w h own = slot_so s f n w (is_unshared (slice_get slots n)) h
  stored_so s f places.Environment w h own = refl
  stored_so s f (places.Global n) w h own = memory_so s f _ _ refl h
  stored_so s f (places.At base offset) w h own =
      let e = at_so s f base (word_of offset) h own in
      memory_so s f _ _ (ap (λ z. store s.memory z w) e) h

  loaded_so : (s : State) (f : ℕ → Word) (from : MemoryWord) → Below s f → IsOwnWord temps from → loaded slots around (with_temps s f) from ≡ loaded slots around s from
  loaded_so s f (places.Slot n) h own = refl
  loaded_so s f places.Environment h own = refl
  loaded_so s f (places.Global n) h own = refl
  loaded_so s f (places.At base offset) h own =
      ap (λ z. load around s.memory z) (at_so s f base (word_of offset) h own)

  -- ---- operands and rows of them

  pub operand_so : (s : State) (f : ℕ → Word) (o : Operand) → Below s f → IsOwn temps o → operand (with_temps s f) o ≡ operand s o
  operand_so s f (operands.Temp t) h own = h t own
  operand_so s f (operands.Number n) h own = refl

  operands_so : (s : State) (f : ℕ → Word) (os : List Operand) → Below s f → AreOwn temps os → map (operand (with_temps s f)) os ≡ map (operand s) os
  operands_so s f [] h own = refl
  operands_so s f (o ∷ os) h own =
      let a = operand_so s f o h own.0 in
      let b = operands_so s f os h own.1 in cc

  slots_so : (s : State) (f : ℕ → Word) (first n : ℕ) → slot_words slots around (with_temps s f) first n ≡ slot_words slots around s first n
  slots_so s f first zero = refl
  slots_so s f first (suc n) =
      ap (λ z. slot_word slots around s first >>= λ w. option_map (λ ws. w ∷ ws) z) (slots_so s f (suc first) n)

  actual_so : (s : State) (f : ℕ → Word) (a : Actual) → Below s f → IsOwnActual temps a → actual_words slots around (with_temps s f) a ≡ actual_words slots around s a
  actual_so s f (actuals.Word o) h own = ap (λ z. Some (z ∷ [])) (operand_so s f o h own)
  actual_so s f (actuals.Slots first count) h own = slots_so s f first count
  actual_so s f (actuals.Reference address base) h own =
      let a : f address ≡ s.temps address = h address own.0 in
      let b = operand_so s f base h own.1 in cc

  actuals_so : (s : State) (f : ℕ → Word) (row : List Actual) → Below s f → AreOwnActuals temps row → each_of (actual_words slots around (with_temps s f)) row ≡ each_of (actual_words slots around s) row
  actuals_so s f [] h own = refl
  actuals_so s f (a ∷ row) h own =
      let x = actual_so s f a h own.0 in
      let y = actuals_so s f row h own.1 in
      ap (λ z. z >>= λ v. option_map (λ vs. v ∷ vs) (each_of (actual_words slots around (with_temps s f)) row)) x
      ∙ ap (λ z. actual_words slots around s a >>= λ v. option_map (λ vs. v ∷ vs) z) y

  called_so : (s : State) (f : ℕ → Word) (c : Callee) (ws : List Word) → Below s f → IsOwnCallee temps c → called around (with_temps s f) c ws ≡ called around s c ws
  called_so s f (callees.Outermost procedure) ws h own = refl
  called_so s f (callees.Inner procedure environment) ws h own =
      let e : f environment ≡ s.temps environment = h environment own in cc
  called_so s f (callees.Value code environment) ws h own =
      let a : f code ≡ s.temps code = h code own.0 in
      let b : f environment ≡ s.temps environment = h environment own.1 in cc
  called_so s f (callees.Method method) [] h own = refl
  called_so s f (callees.Method method) (object ∷ rest) h own = refl

  passed_so : (s : State) (f : ℕ → Word) (c : Callee) (ws : Option (List Word)) → Below s f → IsOwnCallee temps c → (ws >>= called around (with_temps s f) c) ≡ (ws >>= called around s c)
  passed_so s f c None h own = refl
  passed_so s f c (Some ws) h own = called_so s f c ws h own

  call_so : (s : State) (f : ℕ → Word) (c : Callee) (row : List Actual) → Below s f → IsOwnCallee temps c → AreOwnActuals temps row → call_action slots around (with_temps s f) c row ≡ call_action slots around s c row
  call_so s f c row h own owns =
      ap (λ z. option_map joined z >>= called around (with_temps s f) c) (actuals_so s f row h owns)
      ∙ passed_so s f c (formal_words slots around s row) h own

  make_so : (s : State) (f : ℕ → Word) (cell : ℕ) (sizes : Option ℕ) → make_action slots around (with_temps s f) cell sizes ≡ make_action slots around s cell sizes
  make_so s f cell None = refl
  make_so s f cell (Some first) =
      ap (λ z. z >>= λ ws. if are_sizes ws then Some (Makes cell ws) else None) (slots_so s f first (around.dimensions cell))

  held_so : (s : State) (f : ℕ → Word) (x : Held) → Below s f → IsOwnHeld temps x → held_word slots around (with_temps s f) x ≡ held_word slots around s x
  held_so s f (held.Temp t) h own = ap (λ z. Some z) (h t own)
  held_so s f (held.Slot slot) h own = refl

  shown_so : (s : State) (f : ℕ → Word) (xs : List Shown) → Below s f → AreOwnShown temps xs → each_of (shown_word slots around (with_temps s f)) xs ≡ each_of (shown_word slots around s) xs
  shown_so s f [] h own = refl
  shown_so s f (x ∷ xs) h own =
      let a = held_so s f x.at h own.0 in
      let b = shown_so s f xs h own.1 in
      ap (λ z. option_map (λ w. (x.var, w)) z >>= λ v. option_map (λ vs. v ∷ vs) (each_of (shown_word slots around (with_temps s f)) xs)) a
      ∙ ap (λ z. shown_word slots around s x >>= λ v. option_map (λ vs. v ∷ vs) z) b

  -- ---- points

  abbrev with_shown : State → Option (List (ℕ × Word)) → Action → Option Event
  with_shown s shown a = shown >>= λ values. Some (record { action = a; shown = values; memory = s.memory })

  event_so : (s : State) (f : ℕ → Word) (xs : List Shown) (action action' : Option Action) → action' ≡ action → Below s f → AreOwnShown temps xs → event_of slots around (with_temps s f) xs action' ≡ event_of slots around s xs action
  event_so s f xs None action' e h own = ap (λ z. event_of slots around (with_temps s f) xs z) e
  event_so s f xs (Some a) action' e h own =
      ap (λ z. event_of slots around (with_temps s f) xs z) e
      ∙ ap (λ z. with_shown s z a) (shown_so s f xs h own)

  effect_so : (event event' : Option Event) (go go' : Answer → Next) → event' ≡ event → ((answer : Answer) → NextAgrees (go answer) (go' answer)) → EffectAgrees (effect_at event go) (effect_at event' go')
  effect_so None event' go go' e h = (Ends Undefined, ap (λ z. effect_at z go') e, refl)
  effect_so (Some event) event' go go' e h = (go', ap (λ z. effect_at z go') e, h)

  any_so : (s r : State) (to : Option ℕ) (w : Word) → StateAgrees s r → StateAgrees (state_with_any s to w) (state_with_any r to w)
  any_so s r None w h = h
  any_so s r (Some to) w h = set_agrees s r to w h

  raised_so : (s r : State) (raised : Option Raised) (answer : Answer) → StateAgrees s r → StateAgrees (state_with_raised s raised answer) (state_with_raised r raised answer)
  raised_so s r None answer h = h
  raised_so s r (Some raised) answer h =
      let a = set_agrees s r raised.exception (number answer.exception) h in
      let b = set_agrees (state_with s raised.exception (number answer.exception)) (state_with r raised.exception (number answer.exception)) raised.number answer.number a in
      set_agrees (state_with (state_with s raised.exception (number answer.exception)) raised.number answer.number) (state_with (state_with r raised.exception (number answer.exception)) raised.number answer.number) raised.tidy answer.tidy b

  served_so : (to raised : Option ℕ) (place : Pos) (s r : State) (answer : Answer) (fault : Option FaultKind) → StateAgrees s r → NextAgrees (served to raised place s answer fault) (served to raised place r answer fault)
  served_so to raised place s r answer (Some kind) h = refl
  served_so to raised place s r answer None h =
      let alerted = number (flag (not (answer.exception == 0))) in
      goes _ _ (any_so (state_with_any s to answer.result) (state_with_any r to answer.result) raised alerted (any_so s r to answer.result h))

  after_so : (s : State) (f : ℕ → Word) (answer : Answer) → Below s f → StateAgrees (state_after slots around s answer) (state_after slots around (with_temps s f) answer)
  after_so s f answer h = (f, refl, h)

  -- ---- operations

  pub op_so : (s : State) (f : ℕ → Word) (op : MidOp) → Below s f → ReadsOwn temps op → EffectAgrees (effect_of slots around s op) (effect_of slots around (with_temps s f) op)
  op_so s f (ops.Number to value) h own = (_, refl, word_so s f to (number (word_of value)) h)
  op_so s f (ops.Move to from) h own =
      let e : f from ≡ s.temps from = h from own in
      (_, refl, sets_so s f to (Some (s.temps from)) (Some (f from)) (ap (λ z. Some z) e) h)
  op_so s f (ops.Arith to operator left right) h own =
      let a = operand_so s f left h own.0 in
      let b = operand_so s f right h own.1 in
      (_, refl, sets_so s f to (operated operator (operand s left) (operand s right)) (operated operator (operand (with_temps s f) left) (operand (with_temps s f) right)) (cc) h)
  op_so s f (ops.Checked to operator left right place) h own =
      let a = operand_so s f left h own.0 in
      let b = operand_so s f right h own.1 in
      (_, refl, checked_so s f to place (of_numbers (checked_value operator) (operand s left) (operand s right)) (of_numbers (checked_value operator) (operand (with_temps s f) left) (operand (with_temps s f) right)) (cc) h)
  op_so s f (ops.Compare to relation left right) h own =
      let a = operand_so s f left h own.0 in
      let b = operand_so s f right h own.1 in
      (_, refl, sets_so s f to (flag_word (is_true relation (operand s left) (operand s right))) (flag_word (is_true relation (operand (with_temps s f) left) (operand (with_temps s f) right))) (cc) h)
  op_so s f (ops.Load to from) h own = (_, refl, sets_so s f to (loaded slots around s from) (loaded slots around (with_temps s f) from) (loaded_so s f from h own) h)
  op_so s f (ops.Store at from) h own =
      let e = operand_so s f from h own.1 in
      let there = stored_so s f at (operand s from) h own.0 in
      (_, refl, subst (λ z. NextAgrees (goes_to (stored slots around s at (operand s from))) (goes_to (stored slots around (with_temps s f) at z))) (sym e) there)
  op_so s f (ops.SlotAddress to slot) h own = (_, refl, word_so s f to (number (slot_address around slot)) h)
  op_so s f (ops.FrameAddress to) h own = (_, refl, word_so s f to (number around.frame) h)
  op_so s f (ops.GlobalAddress to word) h own = (_, refl, word_so s f to (global_address around word) h)
  op_so s f (ops.TextCell to text) h own = (_, refl, word_so s f to (number (around.texts text)) h)
  op_so s f (ops.ConstantAddress to constant) h own = (_, refl, word_so s f to (number (around.constants constant)) h)
  op_so s f (ops.Index to array index words offset) h own =
      let a : f array ≡ s.temps array = h array own.0 in
      let b = operand_so s f index h own.1 in
      (_, refl, sets_so s f to (Some (element_address (s.temps array) words (operand s index) (word_of offset))) (Some (element_address (f array) words (operand (with_temps s f) index) (word_of offset))) (cc) h)
  op_so s f (ops.Copy to from words) h own =
      let a : f to ≡ s.temps to = h to own.0 in
      let b : f from ≡ s.temps from = h from own.1 in
      let c = operand_so s f words h own.2 in
      (_, refl, memory_so s f (copied around s.memory (s.temps to) (s.temps from) (operand s words)) (copied around s.memory (f to) (f from) (operand (with_temps s f) words)) (cc) h)
  op_so s f (ops.Fill at words distance) h own =
      let a : f at ≡ s.temps at = h at own.0 in
      let b = operand_so s f words h own.1 in
      let c = operand_so s f distance h own.2 in
      (_, refl, memory_so s f (filled around s.memory (s.temps at) (operand s words) (operand s distance)) (filled around s.memory (f at) (operand (with_temps s f) words) (operand (with_temps s f) distance)) (cc) h)
  op_so s f (ops.EqualWords to left right words) h own =
      let a : f left ≡ s.temps left = h left own.0 in
      let b : f right ≡ s.temps right = h right own.1 in
      let c = operand_so s f words h own.2 in
      (_, refl, sets_so s f to (flag_word (are_equal around s.memory (s.temps left) (s.temps right) (operand s words))) (flag_word (are_equal around s.memory (f left) (f right) (operand (with_temps s f) words))) (cc) h)
  op_so s f (ops.Check relation left right fault place) h own =
      let a = operand_so s f left h own.0 in
      let b = operand_so s f right h own.1 in
      (_, refl, test_so s f fault place (is_true relation (operand s left) (operand s right)) (is_true relation (operand (with_temps s f) left) (operand (with_temps s f) right)) (cc) h)
  op_so s f (ops.TypeTest to cell tested) h own =
      let a : f cell ≡ s.temps cell = h cell own in
      (_, refl, sets_so s f to (flag_word (is_of_type around s.memory (s.temps cell) tested)) (flag_word (is_of_type around s.memory (f cell) tested)) (cc) h)
  op_so s f (ops.MethodOf to object method) h own =
      let a : f object ≡ s.temps object = h object own in
      (_, refl, sets_so s f to (option_map number (method_of around s.memory (s.temps object) method)) (option_map number (method_of around s.memory (f object) method)) (cc) h)
  op_so s f (ops.TextByte to text index) h own =
      let a : f text ≡ s.temps text = h text own.0 in
      let b = operand_so s f index h own.1 in
      (_, refl, sets_so s f to (option_map number (text_byte around s.memory (s.temps text) (operand s index))) (option_map number (text_byte around s.memory (f text) (operand (with_temps s f) index))) (cc) h)
  op_so s f (ops.EqualTexts to left right) h own =
      let a : f left ≡ s.temps left = h left own.0 in
      let b : f right ≡ s.temps right = h right own.1 in
      (_, refl, sets_so s f to (flag_word (are_equal_texts around s.memory (s.temps left) (s.temps right))) (flag_word (are_equal_texts around s.memory (f left) (f right))) (cc) h)
  op_so s f (ops.Call callee passed result raised shown) h own =
      effect_so _ _ _ _ (event_so s f shown.now (call_action slots around s callee passed.now) (call_action slots around (with_temps s f) callee passed.now) (call_so s f callee passed.now h own.0 own.1) h own.2) (λ answer.
      let after = after_so s f answer h in
      let told = any_so (state_after slots around s answer) (state_after slots around (with_temps s f) answer) result answer.result after in
      goes _ _ (raised_so (state_with_any (state_after slots around s answer) result answer.result) (state_with_any (state_after slots around (with_temps s f) answer) result answer.result) raised answer told))
  op_so s f (ops.Make to cell sizes shown) h own =
      effect_so _ _ _ _ (event_so s f shown.now (make_action slots around s cell sizes) (make_action slots around (with_temps s f) cell sizes) (make_so s f cell sizes) h own) (λ answer.
      goes _ _ (set_agrees (state_after slots around s answer) (state_after slots around (with_temps s f) answer) to answer.result (after_so s f answer h)))
  op_so s f (ops.Service service row to raised place shown) h own =
      effect_so _ _ _ _ (event_so s f shown.now (serve_action s service row.now) (serve_action (with_temps s f) service row.now) (ap (λ z. Some (Serves service z)) (operands_so s f row.now h own.0)) h own.1) (λ answer.
      served_so to raised place (state_after slots around s answer) (state_after slots around (with_temps s f) answer) answer answer.fault (after_so s f answer h))
  op_so s f (ops.Point shown) h own =
      effect_so _ _ _ _ (event_so s f shown.now (Some Passes) (Some Passes) refl h own) (λ answer. goes _ _ (after_so s f answer h))

  -- ---- ends of blocks

  value_so : (s : State) (f : ℕ → Word) (value : Option Operand) → Below s f → IsOwnIfAny temps value → option_map (operand (with_temps s f)) value ≡ option_map (operand s) value
  value_so s f None h own = refl
  value_so s f (Some o) h own = ap (λ z. Some z) (operand_so s f o h own)

  pub end_so : (s : State) (f : ℕ → Word) (end : End) → Below s f → EndReadsOwn temps end → exit_of (with_temps s f) end ≡ exit_of s end
  end_so s f (ends.Goto to) h own = refl
  end_so s f (ends.If relation left right target other) h own =
      let a = operand_so s f left h own.0 in
      let b = operand_so s f right h own.1 in cc
  end_so s f (ends.Return value) h own =
      ap (λ z. Over (Returned z s.memory)) (value_so s f value h own)
  end_so s f (ends.FaultAt kind place) h own = refl
  end_so s f (ends.Raise exception n tidy) h own =
      let a = operand_so s f exception h own.0 in
      let b = operand_so s f n h own.1 in
      let c = operand_so s f tidy h own.2 in cc
