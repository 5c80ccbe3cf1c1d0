-- An operation does what is seen of it.
use Rattle.std.proofs.Common.{◌≡◌, ℕ, ◌+◌, ◌-◌, ◌%◌, ◌^◌, Bool, true, false, List, [], refl, sym, ap, ◌∙◌, arith}
use Rattle.std.specs.Prelude.{if◌then◌else◌, Some, slice_get}
use Rattle.std.specs.Option.{option_map}
use Rattle.m3_base.specs.Words.{word_of, add_words}
use Rattle.m3_mid.specs.declared.procs.Slot.{Slot}
use Rattle.m3_mid.specs.declared.ops.Operand.{Operand}
use Rattle.m3_mid.specs.declared.ops.Operand.TheVariants as operands
use Rattle.m3_mid.specs.declared.ops.MemoryWord.{MemoryWord}
use Rattle.m3_mid.specs.declared.ops.MemoryWord.TheVariants as places
use Rattle.m3_mid.specs.declared.ops.WordOperator.{WordOperator}
use Rattle.m3_mid.specs.declared.ops.WordOperator.TheVariants as words
use Rattle.m3_mid.specs.declared.ops.MidOp.{MidOp}
use Rattle.m3_mid.specs.declared.ops.MidOp.TheVariants as ops
use Rattle.m3_mid_meaning.specs.Numbers.{checked_value}
use Rattle.m3_mid_meaning.specs.Words.{Word, number, sum_of, times_of, of_numbers}
use Rattle.m3_mid_meaning.specs.Memory.{Around, is_unshared, slot_address, load}
use Rattle.m3_mid_meaning.specs.Operations.{operated, is_true, element_address}
use Rattle.m3_mid_meaning.specs.States.{State, with_memory, stored_own, stored_at, stored, loaded, sets, goes_to, goes_or_faults, sets_or_faults, operand, global_address, address_behind}
use Rattle.m3_mid_meaning.specs.Points.{Effect, Plain}
use Rattle.m3_mid_meaning.specs.Meaning.{effect_of}
use Rattle.m3_same_forms.specs.declared.forms.Symbol.{Symbol}
use Rattle.m3_same_forms.specs.declared.forms.Symbol.TheVariants as symbols
use Rattle.m3_same_forms.specs.declared.forms.Tag.{Tag}
use Rattle.m3_same_forms.specs.declared.forms.Tag.TheVariants as tags
use Rattle.m3_same_forms.specs.declared.seen.Deed.{Deed}
use Rattle.m3_same_forms.specs.declared.seen.Deed.TheVariants as deeds
use Rattle.m3_same_forms.specs.declared.seen.Seen.{Seen}
use Rattle.m3_same_forms.specs.declared.seen.Seen.TheVariants.{Sets, Computes, Tries, Checks, Keeps, Changes, Points}
use Rattle.m3_same_forms.specs.Forms.{Form, merge, scaled, opposite, of_symbol, of_number, behind}
use Rattle.m3_same_forms.specs.Seen.{asks, slot_form, global_form, operand_form, seen_arith, seen_load, seen_store, seen}
use Rattle.m3_same_forms.specs.Meaning.{Old, OldQuery, OldSymbol, eval, Means, AllMean, IsWords, given, answer_to, changed}
use Rattle.m3_same_forms.proofs.Sums.{put_old, merge_old, scaled_old, merge_eval, scaled_eval, symbol_eval, number_eval, behind_eval}

abbrev pub OldSeen : ℕ → Seen → Type 0
OldSeen n (Sets to a) = Old n a
OldSeen n (Computes to x) = OldQuery n x
OldSeen n (Tries to o a b place) = Old n a × Old n b
OldSeen n (Checks r a b fault place) = Old n a × Old n b
OldSeen n (Keeps slot a) = Old n a
OldSeen n (Changes deed a b c) = Old n a × Old n b × Old n c
OldSeen n Points = Unit {0}

module _ (slots : List Slot) (around : Around) where
  -- what is seen, carried out
  abbrev pub does : (Symbol → Word) → State → MidOp → Seen → Effect
  does v s op (Sets to a) = Plain (sets s to (Some (eval v a)))
  does v s op (Computes to x) = Plain (sets s to (answer_to around v s.own s.environment s.memory x))
  does v s op (Tries to o a b place) = Plain (sets_or_faults s to place (of_numbers (checked_value o) (eval v a) (eval v b)))
  does v s op (Checks r a b fault place) = Plain (goes_or_faults s fault place (is_true r (eval v a) (eval v b)))
  does v s op (Keeps n a) = Plain (goes_to (stored_own s n (eval v a)))
  does v s op (Changes deed a b c) = Plain (goes_to (option_map (with_memory s) (changed around s.memory deed (eval v a) (eval v b) (eval v c))))
  does v s op Points = effect_of slots around s op

  abbrev Sees : (Symbol → Word) → ℕ → State → MidOp → Effect → Seen → Type 0
  Sees v n s op x y = (x ≡ does v s op y) × OldSeen n y

  module _ (v : Symbol → Word) (n : ℕ) (ws : IsWords around v) where
    sum_means : (a b : Form) (x y : Word) → Means v n a x → Means v n b y → Means v n (merge a b) (sum_of x y)
    sum_means a b x y h i = (merge_old n a b h.0 i.0, ap (λ z. sum_of z y) h.1 ∙ ap (sum_of (eval v a)) i.1 ∙ sym (merge_eval v a b))

    times_means : (m : ℕ) (a : Form) (x : Word) → Means v n a x → Means v n (scaled m a) (times_of m x)
    times_means m a x h = (scaled_old n m a h.0, ap (times_of m) h.1 ∙ sym (scaled_eval v m a))

    number_means : (m : ℕ) → Means v n (of_number m) (number m)
    number_means m = (put_old n symbols.One m [] tt tt, number_eval v ws.one m)

    symbol_means : (s : Symbol) (w : Word) → OldSymbol n s → v s ≡ w → Means v n (of_symbol s) w
    symbol_means s w old e = ((old, tt), sym e ∙ symbol_eval v s (ws.normals s))

    behind_means : (s : Symbol) (m d : ℕ) → OldSymbol n s → v s ≡ number m → Means v n (behind s d) (number (add_words m d))
    behind_means s m d old e =
        (merge_old n (of_number d) (of_symbol s) (put_old n symbols.One d [] tt tt) (old, tt), let all : number ((add_words m d) % 2 ^ 64) ≡ number (add_words m d) = ap (λ z. record { cells = []; offset = z }) (omega arith) in behind_eval v ws.one s m d e)

    slot_means : (slot : ℕ) → Means v n (slot_form slot) (number (slot_address around slot))
    slot_means slot = behind_means symbols.Frame around.frame (3 + slot) tt ws.frame

    global_means : (word : ℕ) → Means v n (global_form word) (global_address around word)
    global_means word = behind_means symbols.Globals around.globals word tt ws.globals

    module _ (f : ℕ → Form) (s : State) (h : AllMean v n f s.temps) where
      pub operand_means : (a : Operand) → Means v n (operand_form f a) (operand s a)
      operand_means (operands.Temp t) = h t
      operand_means (operands.Number m) = number_means (word_of m)

      set_seen : (op : MidOp) (to : ℕ) (a : Form) (w : Word) → Means v n a w → Sees v n s op (Plain (sets s to (Some w))) (Sets to a)
      set_seen op to a w m = (ap (λ z. Plain (sets s to (Some z))) m.1, m.0)

      ask_seen : (op : MidOp) (to : ℕ) (tag : Tag) (a b c : Form) (x y z : Word) → Means v n a x → Means v n b y → Means v n c z →
          Sees v n s op (Plain (sets s to (given around s.own s.environment s.memory tag x y z))) (Computes to (asks tag a b c))
      ask_seen op to tag a b c x y z p q r = (
        ap (λ i. Plain (sets s to (given around s.own s.environment s.memory tag i y z))) p.1
            ∙ ap (λ i. Plain (sets s to (given around s.own s.environment s.memory tag (eval v a) i z))) q.1
            ∙ ap (λ i. Plain (sets s to (given around s.own s.environment s.memory tag (eval v a) (eval v b) i))) r.1,
        (p.0, q.0, r.0),
      )

      none_means : Means v n [] (number 0)
      none_means = (tt, refl)

      change_seen : (op : MidOp) (deed : Deed) (a b c : Form) (x y z : Word) → Means v n a x → Means v n b y → Means v n c z →
          Sees v n s op (Plain (goes_to (option_map (with_memory s) (changed around s.memory deed x y z)))) (Changes deed a b c)
      change_seen op deed a b c x y z p q r = (
        ap (λ i. Plain (goes_to (option_map (with_memory s) (changed around s.memory deed i y z)))) p.1
            ∙ ap (λ i. Plain (goes_to (option_map (with_memory s) (changed around s.memory deed (eval v a) i z)))) q.1
            ∙ ap (λ i. Plain (goes_to (option_map (with_memory s) (changed around s.memory deed (eval v a) (eval v b) i)))) r.1,
        (p.0, q.0, r.0),
      )

      arith_seen : (op : MidOp) (to : ℕ) (o : WordOperator) (a b : Form) (x y : Word) → Means v n a x → Means v n b y → Sees v n s op (Plain (sets s to (operated o x y))) (seen_arith to o a b)
      arith_seen op to words.Add a b x y p q = set_seen op to (merge a b) (sum_of x y) (sum_means a b x y p q)
      arith_seen op to words.Subtract a b x y p q =
          set_seen op to (merge a (opposite b)) (sum_of x (times_of (2 ^ 64 - 1) y)) (sum_means a (opposite b) x (times_of (2 ^ 64 - 1) y) p (times_means (2 ^ 64 - 1) b y q))
      arith_seen op to words.Multiply a b x y p q = ask_seen op to (tags.Operator words.Multiply) a b [] x y (number 0) p q none_means
      arith_seen op to words.And a b x y p q = ask_seen op to (tags.Operator words.And) a b [] x y (number 0) p q none_means
      arith_seen op to words.Or a b x y p q = ask_seen op to (tags.Operator words.Or) a b [] x y (number 0) p q none_means
      arith_seen op to words.Xor a b x y p q = ask_seen op to (tags.Operator words.Xor) a b [] x y (number 0) p q none_means
      arith_seen op to words.Shift a b x y p q = ask_seen op to (tags.Operator words.Shift) a b [] x y (number 0) p q none_means
      arith_seen op to words.Rotate a b x y p q = ask_seen op to (tags.Operator words.Rotate) a b [] x y (number 0) p q none_means

      at_means : (base distance : ℕ) → Means v n (merge (f base) (of_number distance)) (address_behind s base distance)
      at_means base distance = sum_means (f base) (of_number distance) (s.temps base) (number distance) (h base) (number_means distance)

      slot_load : (op : MidOp) (to slot : ℕ) (b : Bool) →
          Sees v n s op (Plain (sets s to (if b then s.own slot else load around s.memory (number (slot_address around slot))))) (if b then Computes to (asks (tags.OwnSlot slot) [] [] []) else Computes to (asks tags.Loaded (slot_form slot) [] []))
      slot_load op to slot true = (refl, (tt, tt, tt))
      slot_load op to slot false = ask_seen op to tags.Loaded (slot_form slot) [] [] (number (slot_address around slot)) (number 0) (number 0) (slot_means slot) none_means none_means

      load_seen : (op : MidOp) (to : ℕ) (from : MemoryWord) → Sees v n s op (Plain (sets s to (loaded slots around s from))) (seen_load slots f to from)
      load_seen op to (places.Slot slot) = slot_load op to slot (is_unshared (slice_get slots slot))
      load_seen op to places.Environment = (refl, (tt, tt, tt))
      load_seen op to (places.Global word) = ask_seen op to tags.Loaded (global_form word) [] [] (global_address around word) (number 0) (number 0) (global_means word) none_means none_means
      load_seen op to (places.At base offset) =
          ask_seen op to tags.Loaded (merge (f base) (of_number (word_of offset))) [] [] (address_behind s base (word_of offset)) (number 0) (number 0) (at_means base (word_of offset)) none_means none_means

      slot_store : (op : MidOp) (slot : ℕ) (a : Form) (x : Word) (b : Bool) → Means v n a x →
          Sees v n s op (Plain (goes_to (if b then stored_own s slot x else stored_at s (number (slot_address around slot)) x))) (if b then Keeps slot a else Changes deeds.Store (slot_form slot) a [])
      slot_store op slot a x true m = (ap (λ z. Plain (goes_to (stored_own s slot z))) m.1, m.0)
      slot_store op slot a x false m = change_seen op deeds.Store (slot_form slot) a [] (number (slot_address around slot)) x (number 0) (slot_means slot) m none_means

      store_seen : (from : Operand) (at : MemoryWord) → Sees v n s (ops.Store at from) (Plain (goes_to (stored slots around s at (operand s from)))) (seen_store slots f at (operand_form f from))
      store_seen from (places.Slot slot) = slot_store (ops.Store (places.Slot slot) from) slot (operand_form f from) (operand s from) (is_unshared (slice_get slots slot)) (operand_means from)
      store_seen from places.Environment = (refl, tt)
      store_seen from (places.Global word) = change_seen (ops.Store (places.Global word) from) deeds.Store (global_form word) (operand_form f from) [] (global_address around word) (operand s from) (number 0) (global_means word) (operand_means from) none_means
      store_seen from (places.At base offset) =
          change_seen (ops.Store (places.At base offset) from) deeds.Store (merge (f base) (of_number (word_of offset))) (operand_form f from) [] (address_behind s base (word_of offset)) (operand s from) (number 0)
          (at_means base (word_of offset)) (operand_means from) none_means

      pub seen_so : (op : MidOp) → Sees v n s op (effect_of slots around s op) (seen slots f op)
      seen_so (ops.Number to value) = set_seen (ops.Number to value) to (of_number (word_of value)) (number (word_of value)) (number_means (word_of value))
      seen_so (ops.Move to from) = set_seen (ops.Move to from) to (f from) (s.temps from) (h from)
      seen_so (ops.Arith to o left right) = arith_seen (ops.Arith to o left right) to o (operand_form f left) (operand_form f right) (operand s left) (operand s right) (operand_means left) (operand_means right)
      seen_so (ops.Checked to o left right place) = (
        ap (λ z. Plain (sets_or_faults s to place (of_numbers (checked_value o) z (operand s right)))) (operand_means left).1
            ∙ ap (λ z. Plain (sets_or_faults s to place (of_numbers (checked_value o) (eval v (operand_form f left)) z))) (operand_means right).1,
        ((operand_means left).0, (operand_means right).0),
      )
      seen_so (ops.Compare to r left right) =
          ask_seen (ops.Compare to r left right) to (tags.Compared r) (operand_form f left) (operand_form f right) [] (operand s left) (operand s right) (number 0) (operand_means left) (operand_means right) none_means
      seen_so (ops.Load to from) = load_seen (ops.Load to from) to from
      seen_so (ops.Store at from) = store_seen from at
      seen_so (ops.SlotAddress to slot) = set_seen (ops.SlotAddress to slot) to (slot_form slot) (number (slot_address around slot)) (slot_means slot)
      seen_so (ops.FrameAddress to) = set_seen (ops.FrameAddress to) to (of_symbol symbols.Frame) (number around.frame) (symbol_means symbols.Frame (number around.frame) tt ws.frame)
      seen_so (ops.GlobalAddress to word) = set_seen (ops.GlobalAddress to word) to (global_form word) (global_address around word) (global_means word)
      seen_so (ops.TextCell to text) = set_seen (ops.TextCell to text) to (of_symbol (symbols.Text text)) (number (around.texts text)) (symbol_means (symbols.Text text) (number (around.texts text)) tt (ws.text text))
      seen_so (ops.ConstantAddress to c) = set_seen (ops.ConstantAddress to c) to (of_symbol (symbols.Constant c)) (number (around.constants c)) (symbol_means (symbols.Constant c) (number (around.constants c)) tt (ws.constant c))
      seen_so (ops.Index to array index count offset) =
          let i = operand_means index in
          let start = sum_means (f array) (scaled count (operand_form f index)) (s.temps array) (times_of count (operand s index)) (h array) (times_means count (operand_form f index) (operand s index) i) in
          set_seen (ops.Index to array index count offset) to (merge (merge (f array) (scaled count (operand_form f index))) (of_number (word_of offset))) (element_address (s.temps array) count (operand s index) (word_of offset))
          (sum_means (merge (f array) (scaled count (operand_form f index))) (of_number (word_of offset)) (sum_of (s.temps array) (times_of count (operand s index))) (number (word_of offset)) start (number_means (word_of offset)))
      seen_so (ops.Copy to from count) = change_seen (ops.Copy to from count) deeds.Copy (f to) (f from) (operand_form f count) (s.temps to) (s.temps from) (operand s count) (h to) (h from) (operand_means count)
      seen_so (ops.Fill at count distance) =
          change_seen (ops.Fill at count distance) deeds.Fill (f at) (operand_form f count) (operand_form f distance) (s.temps at) (operand s count) (operand s distance) (h at) (operand_means count) (operand_means distance)
      seen_so (ops.EqualWords to left right count) =
          ask_seen (ops.EqualWords to left right count) to tags.EqualWords (f left) (f right) (operand_form f count) (s.temps left) (s.temps right) (operand s count) (h left) (h right) (operand_means count)
      seen_so (ops.Check r left right fault place) = (
        ap (λ z. Plain (goes_or_faults s fault place (is_true r z (operand s right)))) (operand_means left).1
            ∙ ap (λ z. Plain (goes_or_faults s fault place (is_true r (eval v (operand_form f left)) z))) (operand_means right).1,
        ((operand_means left).0, (operand_means right).0),
      )
      seen_so (ops.TypeTest to cell tested) = ask_seen (ops.TypeTest to cell tested) to (tags.TypeTest tested) (f cell) [] [] (s.temps cell) (number 0) (number 0) (h cell) none_means none_means
      seen_so (ops.MethodOf to object method) = ask_seen (ops.MethodOf to object method) to (tags.MethodOf method) (f object) [] [] (s.temps object) (number 0) (number 0) (h object) none_means none_means
      seen_so (ops.TextByte to text index) = ask_seen (ops.TextByte to text index) to tags.TextByte (f text) (operand_form f index) [] (s.temps text) (operand s index) (number 0) (h text) (operand_means index) none_means
      seen_so (ops.EqualTexts to left right) = ask_seen (ops.EqualTexts to left right) to tags.EqualTexts (f left) (f right) [] (s.temps left) (s.temps right) (number 0) (h left) (h right) none_means
      seen_so (ops.Call callee passed result raised shown) = (refl, tt)
      seen_so (ops.Make to cell sizes shown) = (refl, tt)
      seen_so (ops.Service service row to raised place shown) = (refl, tt)
      seen_so (ops.Point shown) = (refl, tt)
