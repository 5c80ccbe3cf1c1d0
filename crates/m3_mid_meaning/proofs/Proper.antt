-- Temporaries stay in normal form, and memory has none of the own words.
use Rattle.std.proofs.Common.{◌≡◌, ℕ, zero, suc, Bool, true, false, List, [], ◌∷◌, Option, Some, None, Result, Ok, Err, refl, sym, ◌∙◌, subst, arith}
use Rattle.std.specs.Prelude.{◌==◌, not, if◌then◌else◌}
use Rattle.std.specs.Option.{option_map}
use Rattle.std.proofs.lemmas.Bool.Decides.{nat_tests}
use Rattle.m3_isa.specs.Arithmetic.{flag}
use Rattle.m3_base.specs.Words.{word_of}
use Rattle.m3_base.specs.declared.outcomes.FaultKind.{FaultKind}
use Rattle.m3_base.specs.declared.places.Pos.{Pos}
use Rattle.m3_mid.specs.declared.procs.Slot.{Slot}
use Rattle.m3_mid.specs.declared.procs.Proc.{Proc}
use Rattle.m3_mid.specs.declared.calls.Raised.{Raised}
use Rattle.m3_mid.specs.declared.ops.MidOp.{MidOp}
use Rattle.m3_mid.specs.declared.ops.MidOp.TheVariants as ops
use Rattle.m3_mid.specs.declared.ops.MemoryWord.{MemoryWord}
use Rattle.m3_mid.specs.declared.ops.MemoryWord.TheVariants as places
use Rattle.m3_mid_meaning.specs.Words.{Word, IsNormal, number, normal, further, ◌>>=◌, Place, InCell, Outside, place_of, number_of, is_same_place}
use Rattle.m3_mid_meaning.specs.Memory.{Memory, Around, is_own, seen, memory_with, load, store, store_row, fill, row_at, slot_address, is_unshared}
use Rattle.m3_mid_meaning.specs.Operations.{copied, filled, element_address}
use Rattle.m3_mid_meaning.specs.States.{State, Next, state_with, with_memory, stored_at, stored_own, stored, sets, goes_to, goes_or_faults, sets_or_faults, operand, global_address, address_behind}
use Rattle.m3_mid_meaning.specs.Points.{Event, Answer, effect_at, state_after, state_with_any, state_with_raised, served}
use Rattle.m3_mid_meaning.specs.Meaning.{effect_of}
use Rattle.m3_mid_meaning.specs.Runs.{cleared}
use Rattle.m3_mid_meaning.specs.Laws.{IsProper, GoesProperly, ActsProperly, StaysProper}
use Rattle.m3_mid_meaning.proofs.WordSums.{times_normal, number_normal}
use Rattle.std.specs.Prelude.{slice_get}

-- what a value gave, where one came of it
pub bound : {A B : Type 0} (r : Option A) (f : A → Option B) (b : B) → (r >>= f) ≡ Some b → (a : A) × (r ≡ Some a) × (f a ≡ Some b)
bound None f b e = absurd (let bad : None ≡ Some b = e in cc)
bound (Some a) f b e = (a, refl, e)

pub mapped : {A B : Type 0} (r : Option A) (f : A → B) (b : B) → option_map f r ≡ Some b → (a : A) × (r ≡ Some a) × (f a ≡ b)
mapped None f b e = absurd (let bad : None ≡ Some b = e in cc)
mapped (Some a) f b e = (a, refl, cc)

module _ (slots : List Slot) (around : Around) where
  abbrev Hides : Memory → Type 0
  Hides memory = (place : Place) → is_own slots around place ≡ true → memory.words place ≡ None

  same_place : (p q : Place) → is_same_place p q ≡ true → p ≡ q
  same_place (InCell c m) (InCell d n) e = let a : c ≡ d = grind (arith, nat_tests) in let b : m ≡ n = grind (arith, nat_tests) in cc
  same_place (Outside m) (Outside n) e = let b : m ≡ n = grind (arith, nat_tests) in cc
  same_place (InCell c m) (Outside n) e = absurd (let bad : false ≡ true = e in cc)
  same_place (Outside m) (InCell d n) e = absurd (let bad : false ≡ true = e in cc)

  put_hides : (memory : Memory) (place : Place) (w old : Word) (p : Place) (b : Bool) → is_same_place p place ≡ b → Hides memory → memory.words place ≡ Some old → is_own slots around p ≡ true → (if b then Some w else memory.words p) ≡ None
  put_hides memory place w old p true e h there own =
      let same : p ≡ place = same_place p place e in
      let none : memory.words p ≡ None = h p own in
      let none' : memory.words place ≡ None = subst (λ z. memory.words z ≡ None) same none in
      absurd (let bad : Some old ≡ None = sym there ∙ none' in cc)
  put_hides memory place w old p false e h there own = h p own

  store_hides : (memory after : Memory) (at w : Word) → Hides memory → store memory at w ≡ Some after → Hides after
  store_hides memory after at w h e =
      let b = bound (place_of at) (λ place. option_map (λ old. memory_with memory place w) (memory.words place)) after e in
      let m = mapped (memory.words b.0) (λ old. memory_with memory b.0 w) after b.2 in
      λ p own. subst (λ z. z.words p ≡ None) m.2 (put_hides memory b.0 w m.0 p (is_same_place p b.0) refl h m.1 own)

  row_hides : (ws : List Word) (memory after : Memory) (at : Word) → Hides memory → store_row memory at ws ≡ Some after → Hides after
  row_hides [] memory after at h e = let same : memory ≡ after = cc in subst Hides same h
  row_hides (w ∷ ws) memory after at h e =
      let b = bound (store memory at w) (λ there. store_row there (further at 1) ws) after e in
      row_hides ws b.0 after (further at 1) (store_hides memory b.0 at w h b.1) b.2

  fill_hides : (n distance : ℕ) (at : Word) (memory after : Memory) → Hides memory → fill around n distance at memory ≡ Some after → Hides after
  fill_hides zero distance at memory after h e = let same : memory ≡ after = cc in subst Hides same h
  fill_hides (suc n) distance at memory after h e =
      let a = bound (load around memory at) (λ w. store memory (further at distance) w >>= λ there. fill around n distance (further at 1) there) after e in
      let b = bound (store memory (further at distance) a.0) (λ there. fill around n distance (further at 1) there) after a.2 in
      fill_hides n distance (further at 1) b.0 after (store_hides memory b.0 (further at distance) a.0 h b.1) b.2

  -- ---- states

  abbrev Proper : State → Type 0
  Proper s = IsProper slots around s

  abbrev GoesOn : Next → Type 0
  GoesOn next = GoesProperly slots around next

  set_at : (s : State) (w : Word) (t : ℕ) (b : Bool) → IsNormal (s.temps t) → IsNormal (if b then normal w else s.temps t)
  set_at s w t true h = times_normal 1 w
  set_at s w t false h = h

  set_so : (s : State) (to : ℕ) (w : Word) → Proper s → Proper (state_with s to w)
  set_so s to w h = record { temps = λ t. set_at s w t (t == to) (h.temps t); hidden = h.hidden }

  sets_so : (s : State) (to : ℕ) (w : Option Word) → Proper s → GoesOn (sets s to w)
  sets_so s to None h = tt
  sets_so s to (Some w) h = set_so s to w h

  memory_so : (s : State) (memory : Memory) → Proper s → Hides memory → Proper (with_memory s memory)
  memory_so s memory h hides = record { temps = h.temps; hidden = hides }

  memories_so : (s : State) (memory : Option Memory) → Proper s → ((after : Memory) → memory ≡ Some after → Hides after) → GoesOn (goes_to (option_map (with_memory s) memory))
  memories_so s None h hides = tt
  memories_so s (Some memory) h hides = memory_so s memory h (hides memory refl)

  stored_so : (s : State) (at w : Word) → Proper s → GoesOn (goes_to (stored_at s at w))
  stored_so s at w h = memories_so s (store s.memory at w) h (λ after e. store_hides s.memory after at w h.hidden e)

  own_so : (s : State) (n : ℕ) (w : Word) (old : Option Word) → Proper s → GoesOn (goes_to (option_map (λ o. record s { own = λ m. if m == n then Some w else s.own m }) old))
  own_so s n w None h = tt
  own_so s n w (Some old) h = record { temps = h.temps; hidden = h.hidden }

  slot_so : (s : State) (n : ℕ) (w : Word) (b : Bool) → Proper s → GoesOn (goes_to (if b then stored_own s n w else stored_at s (number (slot_address around n)) w))
  slot_so s n w true h = own_so s n w (s.own n) h
  slot_so s n w false h = stored_so s (number (slot_address around n)) w h

  store_so : (s : State) (at : MemoryWord) (w : Word) → Proper s → GoesOn (goes_to (stored slots around s at w))
  store_so s (places.Slot n) w h = slot_so s n w (is_unshared (slice_get slots n)) h
  store_so s places.Environment w h = tt
  store_so s (places.Global n) w h = stored_so s (global_address around n) w h
  store_so s (places.At base offset) w h = stored_so s (address_behind s base (word_of offset)) w h

  copied_hides : (memory after : Memory) (to from count : Word) → Hides memory → copied around memory to from count ≡ Some after → Hides after
  copied_hides memory after to from count h e =
      let a = bound (number_of count) (λ n. row_at around memory n from >>= λ ws. store_row memory to ws) after e in
      let b = bound (row_at around memory a.0 from) (λ ws. store_row memory to ws) after a.2 in
      row_hides b.0 memory after to h b.2

  filled_hides : (memory after : Memory) (at count distance : Word) → Hides memory → filled around memory at count distance ≡ Some after → Hides after
  filled_hides memory after at count distance h e =
      let b = bound (number_of count) (λ n. number_of distance >>= λ d. fill around n d at memory) after e in
      let a = bound (number_of distance) (λ d. fill around b.0 d at memory) after b.2 in
      fill_hides b.0 a.0 at memory after h a.2

  check_so : (s : State) (kind : FaultKind) (place : Pos) (t : Option Bool) → Proper s → GoesOn (goes_or_faults s kind place t)
  check_so s kind place None h = tt
  check_so s kind place (Some true) h = h
  check_so s kind place (Some false) h = tt

  checked_so : (s : State) (to : ℕ) (place : Pos) (r : Option (Result ℕ FaultKind)) → Proper s → GoesOn (sets_or_faults s to place r)
  checked_so s to place None h = tt
  checked_so s to place (Some (Ok n)) h = set_so s to (number n) h
  checked_so s to place (Some (Err kind)) h = tt

  -- ---- points

  seen_hides_at : (b : Bool) (w : Option Word) → b ≡ true → (if b then None else w) ≡ None
  seen_hides_at true w e = refl
  seen_hides_at false w e = absurd (let bad : false ≡ true = e in cc)

  seen_hides : (memory : Memory) → Hides (seen slots around memory)
  seen_hides memory place own = seen_hides_at (is_own slots around place) (memory.words place) own

  after_so : (s : State) (answer : Answer) → Proper s → Proper (state_after slots around s answer)
  after_so s answer h = memory_so s (seen slots around answer.memory) h (seen_hides answer.memory)

  effect_so : (event : Option Event) (go : Answer → Next) → ((answer : Answer) → GoesOn (go answer)) → ActsProperly slots around (effect_at event go)
  effect_so None go h = tt
  effect_so (Some event) go h = h

  any_so : (s : State) (to : Option ℕ) (w : Word) → Proper s → Proper (state_with_any s to w)
  any_so s None w h = h
  any_so s (Some to) w h = set_so s to w h

  raised_so : (s : State) (raised : Option Raised) (answer : Answer) → Proper s → Proper (state_with_raised s raised answer)
  raised_so s None answer h = h
  raised_so s (Some raised) answer h =
      let told = state_with s raised.exception (number answer.exception) in
      let next = state_with told raised.number answer.number in
      set_so next raised.tidy answer.tidy (set_so told raised.number answer.number (set_so s raised.exception (number answer.exception) h))

  served_so : (to raised : Option ℕ) (place : Pos) (s : State) (answer : Answer) (fault : Option FaultKind) → Proper s → GoesOn (served to raised place s answer fault)
  served_so to raised place s answer (Some kind) h = tt
  served_so to raised place s answer None h =
      any_so (state_with_any s to answer.result) raised (number (flag (not (answer.exception == 0)))) (any_so s to answer.result h)

  -- ---- operations

  op_so : (s : State) (op : MidOp) → Proper s → ActsProperly slots around (effect_of slots around s op)
  op_so s (ops.Number to value) h = set_so s to (number (word_of value)) h
  op_so s (ops.Move to from) h = set_so s to (s.temps from) h
  op_so s (ops.Arith to operator left right) h = sets_so s to _ h
  op_so s (ops.Checked to operator left right place) h = checked_so s to place _ h
  op_so s (ops.Compare to relation left right) h = sets_so s to _ h
  op_so s (ops.Load to from) h = sets_so s to _ h
  op_so s (ops.Store at from) h = store_so s at (operand s from) h
  op_so s (ops.SlotAddress to slot) h = set_so s to (number (slot_address around slot)) h
  op_so s (ops.FrameAddress to) h = set_so s to (number around.frame) h
  op_so s (ops.GlobalAddress to word) h = set_so s to (global_address around word) h
  op_so s (ops.TextCell to text) h = set_so s to (number (around.texts text)) h
  op_so s (ops.ConstantAddress to constant) h = set_so s to (number (around.constants constant)) h
  op_so s (ops.Index to array index words offset) h =
      set_so s to (element_address (s.temps array) words (operand s index) (word_of offset)) h
  op_so s (ops.Copy to from words) h =
      memories_so s (copied around s.memory (s.temps to) (s.temps from) (operand s words)) h
      (λ after e. copied_hides s.memory after (s.temps to) (s.temps from) (operand s words) h.hidden e)
  op_so s (ops.Fill at words distance) h =
      memories_so s (filled around s.memory (s.temps at) (operand s words) (operand s distance)) h
      (λ after e. filled_hides s.memory after (s.temps at) (operand s words) (operand s distance) h.hidden e)
  op_so s (ops.EqualWords to left right words) h = sets_so s to _ h
  op_so s (ops.Check relation left right fault place) h = check_so s fault place _ h
  op_so s (ops.TypeTest to cell tested) h = sets_so s to _ h
  op_so s (ops.MethodOf to object method) h = sets_so s to _ h
  op_so s (ops.TextByte to text index) h = sets_so s to _ h
  op_so s (ops.EqualTexts to left right) h = sets_so s to _ h
  op_so s (ops.Call callee passed result raised shown) h =
      effect_so _ _ (λ answer.
      let after = state_after slots around s answer in
      raised_so (state_with_any after result answer.result) raised answer (any_so after result answer.result (after_so s answer h)))
  op_so s (ops.Make to cell sizes shown) h = effect_so _ _ (λ answer. set_so (state_after slots around s answer) to answer.result (after_so s answer h))
  op_so s (ops.Service service row to raised place shown) h =
      effect_so _ _ (λ answer. served_so to raised place (state_after slots around s answer) answer answer.fault (after_so s answer h))
  op_so s (ops.Point shown) h = effect_so _ _ (λ answer. after_so s answer h)

pub stays : (p : Proc) (around : Around) → StaysProper p around
stays p around = record {
  start = λ memory. record { temps = λ t. number_normal 0; hidden = seen_hides p.slots.now around (cleared p around memory) };
  goes_on = op_so p.slots.now around;
}
