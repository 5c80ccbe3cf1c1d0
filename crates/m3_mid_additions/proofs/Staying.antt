-- A word that is there stays there: the formals of an activation can be loaded wherever it stands.
use Rattle.std.proofs.Common.{◌≡◌, ℕ, zero, suc, ◌<◌, Bool, true, false, List, [], ◌∷◌, Option, Some, None, Result, Ok, Err, refl, subst}
use Rattle.std.specs.Prelude.{◌==◌, not, if◌then◌else◌, slice_get}
use Rattle.std.specs.Option.{option_map, option_or}
use Rattle.m3_isa.specs.Arithmetic.{flag}
use Rattle.m3_base.specs.Words.{word_of}
use Rattle.m3_base.specs.declared.outcomes.FaultKind.{FaultKind}
use Rattle.m3_base.specs.declared.places.Pos.{Pos}
use Rattle.m3_mid.specs.declared.procs.Proc.{Proc}
use Rattle.m3_mid.specs.declared.calls.Raised.{Raised}
use Rattle.m3_mid.specs.declared.ops.MidOp.{MidOp}
use Rattle.m3_mid.specs.declared.ops.MidOp.TheVariants as ops
use Rattle.m3_mid.specs.declared.ops.MemoryWord.{MemoryWord}
use Rattle.m3_mid.specs.declared.ops.MemoryWord.TheVariants as places
use Rattle.m3_mid_meaning.specs.Words.{Word, number, further, ◌>>=◌, Place, place_of, number_of, is_same_place}
use Rattle.m3_mid_meaning.specs.Memory.{Memory, Around, memory_with, constant_at, load, store, store_row, fill, row_at, slot_address, is_unshared}
use Rattle.m3_mid_meaning.specs.Operations.{copied, filled}
use Rattle.m3_mid_meaning.specs.States.{State, Next, Goes, Ends, with_memory, with_own, stored_at, stored_own, stored, sets, goes_to, goes_or_faults, sets_or_faults, operand, global_address, address_behind, slot_word}
use Rattle.m3_mid_meaning.specs.Points.{Event, Answer, Effect, Plain, Acts, effect_at, state_after, state_with_any, state_with_raised, served}
use Rattle.m3_mid_meaning.specs.Meaning.{effect_of}
use Rattle.m3_mid_meaning.proofs.Proper.{bound, mapped}
use Rattle.m3_mid_additions.specs.Laws.{IsThere, LeavesFormals}

module _ (p : Proc) (around : Around) where
  -- whatever could be loaded from the first memory can be from the second
  abbrev Keeps : Memory → Memory → Type 0
  Keeps memory after = (at : Word) → IsThere (load around memory at) → IsThere (load around after at)

  put_there : (b : Bool) (o c : Option Word) (w : Word) → IsThere (option_or o c) → IsThere (option_or (if b then Some w else o) c)
  put_there true o c w h = (w, refl)
  put_there false o c w h = h

  put_at : (memory : Memory) (place : Place) (w : Word) (r : Option Place) → IsThere (r >>= λ at. option_or (memory.words at) (constant_at around at)) → IsThere (r >>= λ at. option_or ((memory_with memory place w).words at) (constant_at around at))
  put_at memory place w None h = h
  put_at memory place w (Some at) h = put_there (is_same_place at place) (memory.words at) (constant_at around at) w h

  store_keeps : (memory after : Memory) (at w : Word) → store memory at w ≡ Some after → Keeps memory after
  store_keeps memory after at w e x h =
      let b = bound (place_of at) (λ place. option_map (λ old. memory_with memory place w) (memory.words place)) after e in
      let m = mapped (memory.words b.0) (λ old. memory_with memory b.0 w) after b.2 in
      subst (λ z. IsThere (load around z x)) m.2 (put_at memory b.0 w (place_of x) h)

  row_keeps : (ws : List Word) (memory after : Memory) (at : Word) → store_row memory at ws ≡ Some after → Keeps memory after
  row_keeps [] memory after at e x h = let same : memory ≡ after = cc in subst (λ z. IsThere (load around z x)) same h
  row_keeps (w ∷ ws) memory after at e x h =
      let b = bound (store memory at w) (λ there. store_row there (further at 1) ws) after e in
      row_keeps ws b.0 after (further at 1) b.2 x (store_keeps memory b.0 at w b.1 x h)

  fill_keeps : (n distance : ℕ) (at : Word) (memory after : Memory) → fill around n distance at memory ≡ Some after → Keeps memory after
  fill_keeps zero distance at memory after e x h = let same : memory ≡ after = cc in subst (λ z. IsThere (load around z x)) same h
  fill_keeps (suc n) distance at memory after e x h =
      let a = bound (load around memory at) (λ w. store memory (further at distance) w >>= λ there. fill around n distance (further at 1) there) after e in
      let b = bound (store memory (further at distance) a.0) (λ there. fill around n distance (further at 1) there) after a.2 in
      fill_keeps n distance (further at 1) b.0 after b.2 x (store_keeps memory b.0 (further at distance) a.0 b.1 x h)

  copied_keeps : (memory after : Memory) (to from count : Word) → copied around memory to from count ≡ Some after → Keeps memory after
  copied_keeps memory after to from count e =
      let a = bound (number_of count) (λ n. row_at around memory n from >>= λ ws. store_row memory to ws) after e in
      let b = bound (row_at around memory a.0 from) (λ ws. store_row memory to ws) after a.2 in
      row_keeps b.0 memory after to b.2

  filled_keeps : (memory after : Memory) (at count distance : Word) → filled around memory at count distance ≡ Some after → Keeps memory after
  filled_keeps memory after at count distance e =
      let b = bound (number_of count) (λ n. number_of distance >>= λ d. fill around n d at memory) after e in
      let a = bound (number_of distance) (λ d. fill around b.0 d at memory) after b.2 in
      fill_keeps b.0 a.0 at memory after a.2

  -- ---- states

  -- the activation finds a word in the slot of each formal
  abbrev pub HasFormals : State → Type 0
  HasFormals s = (n : ℕ) → n < p.formals → IsThere (slot_word p.slots.now around s n)

  abbrev pub GoesWithFormals : Next → Type 0
  GoesWithFormals (Goes s) = HasFormals s
  GoesWithFormals (Ends ending) = Unit {0}

  abbrev pub ActsWithFormals : Effect → Type 0
  ActsWithFormals (Plain next) = GoesWithFormals next
  ActsWithFormals (Acts event reply) =
      (answer : Answer) → LeavesFormals p around answer.memory → GoesWithFormals (reply answer)

  sets_so : (s : State) (to : ℕ) (w : Option Word) → HasFormals s → GoesWithFormals (sets s to w)
  sets_so s to None h = tt
  sets_so s to (Some w) h = h

  checked_so : (s : State) (to : ℕ) (place : Pos) (r : Option (Result ℕ FaultKind)) → HasFormals s → GoesWithFormals (sets_or_faults s to place r)
  checked_so s to place None h = tt
  checked_so s to place (Some (Ok n)) h = h
  checked_so s to place (Some (Err kind)) h = tt

  test_so : (s : State) (kind : FaultKind) (place : Pos) (t : Option Bool) → HasFormals s → GoesWithFormals (goes_or_faults s kind place t)
  test_so s kind place None h = tt
  test_so s kind place (Some true) h = h
  test_so s kind place (Some false) h = tt

  slot_in : (b : Bool) (own x y : Option Word) → (IsThere x → IsThere y) → IsThere (if b then own else x) → IsThere (if b then own else y)
  slot_in true own x y f h = h
  slot_in false own x y f h = f h

  memory_so : (s : State) (memory : Memory) → HasFormals s → Keeps s.memory memory → HasFormals (with_memory s memory)
  memory_so s memory h keeps n below =
      slot_in (is_unshared (slice_get p.slots.now n)) (s.own n) _ _ (keeps (number (slot_address around n))) (h n below)

  memories_so : (s : State) (memory : Option Memory) → HasFormals s → ((after : Memory) → memory ≡ Some after → Keeps s.memory after) → GoesWithFormals (goes_to (option_map (with_memory s) memory))
  memories_so s None h keeps = tt
  memories_so s (Some memory) h keeps = memory_so s memory h (keeps memory refl)

  stored_so : (s : State) (at w : Word) → HasFormals s → GoesWithFormals (goes_to (stored_at s at w))
  stored_so s at w h = memories_so s (store s.memory at w) h (λ after e. store_keeps s.memory after at w e)

  own_in : (b c : Bool) (own x : Option Word) (w : Word) → IsThere (if b then own else x) → IsThere (if b then (if c then Some w else own) else x)
  own_in true true own x w h = (w, refl)
  own_in true false own x w h = h
  own_in false c own x w h = h

  own_so : (s : State) (n : ℕ) (w : Word) (old : Option Word) → HasFormals s → GoesWithFormals (goes_to (option_map (λ o. with_own s n w) old))
  own_so s n w None h = tt
  own_so s n w (Some old) h =
      λ m below. own_in (is_unshared (slice_get p.slots.now m)) (m == n) (s.own m) _ w (h m below)

  in_slot : (s : State) (n : ℕ) (w : Word) (b : Bool) → HasFormals s → GoesWithFormals (goes_to (if b then stored_own s n w else stored_at s (number (slot_address around n)) w))
  in_slot s n w true h = own_so s n w (s.own n) h
  in_slot s n w false h = stored_so s (number (slot_address around n)) w h

  store_so : (s : State) (at : MemoryWord) (w : Word) → HasFormals s → GoesWithFormals (goes_to (stored p.slots.now around s at w))
  store_so s (places.Slot n) w h = in_slot s n w (is_unshared (slice_get p.slots.now n)) h
  store_so s places.Environment w h = tt
  store_so s (places.Global n) w h = stored_so s (global_address around n) w h
  store_so s (places.At base offset) w h = stored_so s (address_behind s base (word_of offset)) w h

  -- ---- points

  after_in : (b : Bool) (own x y : Option Word) → (b ≡ false → IsThere y) → IsThere (if b then own else x) → IsThere (if b then own else y)
  after_in true own x y f h = h
  after_in false own x y f h = f refl

  after_so : (s : State) (answer : Answer) → HasFormals s → LeavesFormals p around answer.memory → HasFormals (state_after p.slots.now around s answer)
  after_so s answer h leaves n below =
      after_in (is_unshared (slice_get p.slots.now n)) (s.own n) _ _ (leaves n below) (h n below)

  effect_so : (event : Option Event) (go : Answer → Next) → ((answer : Answer) → LeavesFormals p around answer.memory → GoesWithFormals (go answer)) → ActsWithFormals (effect_at event go)
  effect_so None go h = tt
  effect_so (Some event) go h = h

  any_so : (s : State) (to : Option ℕ) (w : Word) → HasFormals s → HasFormals (state_with_any s to w)
  any_so s None w h = h
  any_so s (Some to) w h = h

  raised_so : (s : State) (raised : Option Raised) (answer : Answer) → HasFormals s → HasFormals (state_with_raised s raised answer)
  raised_so s None answer h = h
  raised_so s (Some raised) answer h = h

  served_so : (to raised : Option ℕ) (place : Pos) (s : State) (answer : Answer) (fault : Option FaultKind) → HasFormals s → GoesWithFormals (served to raised place s answer fault)
  served_so to raised place s answer (Some kind) h = tt
  served_so to raised place s answer None h =
      any_so (state_with_any s to answer.result) raised (number (flag (not (answer.exception == 0)))) (any_so s to answer.result h)

  -- ---- operations

  pub stay : (s : State) (op : MidOp) → HasFormals s → ActsWithFormals (effect_of p.slots.now around s op)
  stay s (ops.Number to value) h = h
  stay s (ops.Move to from) h = h
  stay s (ops.Arith to operator left right) h = sets_so s to _ h
  stay s (ops.Checked to operator left right place) h = checked_so s to place _ h
  stay s (ops.Compare to relation left right) h = sets_so s to _ h
  stay s (ops.Load to from) h = sets_so s to _ h
  stay s (ops.Store at from) h = store_so s at (operand s from) h
  stay s (ops.SlotAddress to slot) h = h
  stay s (ops.FrameAddress to) h = h
  stay s (ops.GlobalAddress to word) h = h
  stay s (ops.TextCell to text) h = h
  stay s (ops.ConstantAddress to constant) h = h
  stay s (ops.Index to array index words offset) h = h
  stay s (ops.Copy to from words) h =
      memories_so s (copied around s.memory (s.temps to) (s.temps from) (operand s words)) h
      (λ after e. copied_keeps s.memory after (s.temps to) (s.temps from) (operand s words) e)
  stay s (ops.Fill at words distance) h =
      memories_so s (filled around s.memory (s.temps at) (operand s words) (operand s distance)) h
      (λ after e. filled_keeps s.memory after (s.temps at) (operand s words) (operand s distance) e)
  stay s (ops.EqualWords to left right words) h = sets_so s to _ h
  stay s (ops.Check relation left right fault place) h = test_so s fault place _ h
  stay s (ops.TypeTest to cell tested) h = sets_so s to _ h
  stay s (ops.MethodOf to object method) h = sets_so s to _ h
  stay s (ops.TextByte to text index) h = sets_so s to _ h
  stay s (ops.EqualTexts to left right) h = sets_so s to _ h
  stay s (ops.Call callee passed result raised shown) h =
      effect_so _ _ (λ answer leaves.
      let after = state_after p.slots.now around s answer in
      raised_so (state_with_any after result answer.result) raised answer (any_so after result answer.result (after_so s answer h leaves)))
  stay s (ops.Make to cell sizes shown) h = effect_so _ _ (λ answer leaves. after_so s answer h leaves)
  stay s (ops.Service service row to raised place shown) h =
      effect_so _ _ (λ answer leaves. served_so to raised place (state_after p.slots.now around s answer) answer answer.fault (after_so s answer h leaves))
  stay s (ops.Point shown) h = effect_so _ _ (λ answer leaves. after_so s answer h leaves)
