-- THE ROUTINES of the built-in interfaces IO, Text, Word and Thread, and the functions MIN, MAX,
-- ORD and VAL.
use Rattle.std.specs.Prelude.{ℕ, ℤ, zero, suc, pos, ◌==◌, Bool, true, false, List, [], ◌∷◌, ◌++◌, length, map, Option, Some, None, slice_get}
use Rattle.std.specs.Option.{option_map, option_map_or}
use Rattle.m3_base.specs.declared.outcomes.FaultKind.TheVariants as fault_kind
use Rattle.m3_base.specs.declared.places.Pos.{Pos}
use Rattle.m3_core.specs.declared.calls.Routine.{Routine}
use Rattle.m3_core.specs.declared.calls.Routine.TheVariants as routine
use Rattle.m3_runs.specs.Languages as asked
use Rattle.m3_runs.specs.Languages.{Action, Makes, Forks, Serves, Passes, Concatenated, ByteText, Subtext, Answer, Gives, Raises, Fails, Decimal, Byte}
use Rattle.m3_values.specs.Values.{Value, Ordinal, Nil, truth, number, same_list}
use Rattle.m3_values.specs.Integers as integers
use Rattle.m3_values.specs.Integers.{count_of}
use Rattle.m3_values.specs.Programs.{Program}
use Rattle.m3_values.specs.Methods.{procedure_of}
use Rattle.m3_values.specs.Places.{Thing, Is}
use Rattle.m3_values.specs.Store.{bytes_of, kind_of_object}
use Rattle.m3_source_meaning.specs.Meanings.{Evaluates, Acts, given, done, fault, undefined, there, seeing, acting, raising, holding_all, ◌>>=◌, ◌>>◌}
use Rattle.m3_source_meaning.specs.Phrases.{Expression}
use Rattle.m3_source_meaning.specs.Operators.{not_nil, in_range}
use Rattle.m3_source_meaning.specs.Constructors.{in_order}
use Rattle.m3_source_meaning.specs.Travelling.{raised_by}

-- ---- checks right behind an actual

abbrev pub is_first : ℕ → Bool
is_first n = n == 0

-- whether an actual may not be NIL
abbrev pub wants_cell : Routine → (actual : ℕ) → Bool
wants_cell routine.Put n = is_first n
wants_cell routine.TextCat n = true
wants_cell routine.TextEqual n = true
wants_cell routine.TextGetChar n = is_first n
wants_cell routine.TextLength n = is_first n
wants_cell routine.TextEmpty n = is_first n
wants_cell routine.TextSub n = is_first n
wants_cell routine.Fork n = is_first n
wants_cell routine.Join n = is_first n
wants_cell routine.Wait n = true
wants_cell routine.Acquire n = is_first n
wants_cell routine.Release n = is_first n
wants_cell routine.Signal n = is_first n
wants_cell routine.Broadcast n = is_first n
wants_cell routine.Alert n = is_first n
wants_cell routine.AlertWait n = true
wants_cell routine.AlertJoin n = is_first n
wants_cell _ n = false

abbrev pub cell_check : Bool → Pos → Value → Acts
cell_check true at v = not_nil at v
cell_check false at v = done

abbrev pub not_zero : Pos → Value → Acts
not_zero at (Ordinal (pos zero)) = fault fault_kind.DivZero at
not_zero at _ = done

-- the second actual of Word.Divide and Word.Mod; the fault is the call's
abbrev pub divisor_check : (call : Pos) → Routine → (actual : ℕ) → Value → Acts
divisor_check at routine.WordDivide (suc n) v = not_zero at v
divisor_check at routine.WordMod (suc n) v = not_zero at v
divisor_check at _ n v = done

module _ (p : Program) where
  -- the closure of Fork has a method `apply`, the first of its type
  abbrev pub bound_method : Pos → Option ℕ → Acts
  bound_method at None = fault fault_kind.Nil at
  bound_method at (Some procedure) = done

  abbrev pub apply_check : Routine → Pos → Value → Acts
  apply_check routine.Fork at v = do
    kind ← seeing (λ m. kind_of_object p m.store v)
    bound_method at (procedure_of p kind 0)
  apply_check _ at v = done

  abbrev pub checked_actual : (call : Pos) → Routine → (actual : ℕ) → Pos → Value → Acts
  checked_actual call r n at v = do
    cell_check (wants_cell r n) at v
    divisor_check call r n v
    apply_check r at v

  abbrev pub one_actual : (call : Pos) → Routine → (actual : ℕ) → Expression → Evaluates (ℕ × Value)
  one_actual call r n e = do
    v ← e.value
    checked_actual call r n e.pos v
    given (n, v)

  -- the actuals in the order of evaluation
  abbrev pub each_operand : (call : Pos) → Routine → List Expression
      → (before : List (ℕ × Value)) → (order : List ℕ) → Evaluates (List (ℕ × Value))
  each_operand call r es before [] = given before
  each_operand call r es before (n ∷ ns) = do
    e ← there (slice_get es n)
    v ← holding_all (map (λ b. Is b.1) before) (one_actual call r n e)
    each_operand call r es (before ++ v ∷ []) ns

  -- ---- what services answer

  abbrev pub answer_of : Pos → Answer Thing → Evaluates Value
  answer_of at (Gives None) = given Nil
  answer_of at (Gives (Some (Is v))) = given v
  answer_of at (Raises exception n t) = raising (raised_by p exception n t)
  answer_of at (Fails kind) = fault kind at
  answer_of at _ = undefined

  abbrev pub asking : Pos → Action Thing → Evaluates Value
  asking at action = acting action >>= answer_of at

  abbrev pub serving : Pos → asked.Service Thing → Evaluates Value
  serving at service = asking at (Serves service)

  -- what is computed behind a point
  abbrev pub behind_point : Pos → Evaluates Value → Evaluates Value
  behind_point at next = asking at Passes >>= (λ v. next)

  -- ---- Text

  abbrev pub text : Value → Evaluates (List ℕ)
  text v = seeing (λ m. bytes_of p m.store v)

  abbrev pub byte_at : List ℕ → Option ℕ → Option Value
  byte_at bytes None = None
  byte_at bytes (Some i) = option_map number (slice_get bytes i)

  abbrev pub byte_of : List ℕ → Value → Option Value
  byte_of bytes (Ordinal z) = byte_at bytes (count_of z)
  byte_of bytes _ = None

  abbrev pub or_fault : Pos → Option Value → Evaluates Value
  or_fault at None = fault fault_kind.Index at
  or_fault at (Some v) = given v

  -- the index is checked before the point
  abbrev pub byte_in : (call index : Pos) → (text index : Value) → Evaluates Value
  byte_in call index t i = do
    bytes ← text t
    v ← or_fault index (byte_of bytes i)
    behind_point call (given v)

  abbrev pub equal_texts : (left right : Value) → Evaluates Value
  equal_texts t u = do
    bytes ← text t
    others ← text u
    given (truth (same_list ◌==◌ bytes others))

  abbrev pub length_of : Value → Evaluates Value
  length_of t = text t >>= (λ bytes. given (number (length bytes)))

  abbrev pub is_empty : Value → Evaluates Value
  is_empty t = text t >>= (λ bytes. given (truth (length bytes == 0)))

  -- ---- Word

  abbrev pub word : (ℤ → ℤ → ℤ) → Pos → Value → Value → Evaluates Value
  word compute at (Ordinal x) (Ordinal y) = behind_point at (given (Ordinal (compute x y)))
  word compute at _ _ = undefined

  abbrev pub word_test : (ℤ → ℤ → Bool) → Pos → Value → Value → Evaluates Value
  word_test test at (Ordinal x) (Ordinal y) = behind_point at (given (truth (test x y)))
  word_test test at _ _ = undefined

  abbrev pub word_complement : Pos → Value → Evaluates Value
  word_complement at (Ordinal x) = behind_point at (given (Ordinal (integers.word_not x)))
  word_complement at _ = undefined

  -- ---- MIN, MAX, ORD and VAL, which pass no point

  abbrev pub chosen : (ℤ → ℤ → ℤ) → Value → Value → Evaluates Value
  chosen choose (Ordinal x) (Ordinal y) = given (Ordinal (choose x y))
  chosen choose _ _ = undefined

  abbrev pub val : Pos → Option ℕ → Value → Evaluates Value
  val at (Some kind) (Ordinal z) = in_range p at kind z
  val at _ _ = undefined

  -- ---- THE TABLE

  abbrev pub second_place : List Expression → Pos → Pos
  second_place es call = option_map_or (λ (e : Expression). e.pos) (slice_get es 1) call

  abbrev pub routine_of : Routine → (call second : Pos) → (kind : Option ℕ) → List Value
      → Evaluates Value
  routine_of routine.Put at i kind (t ∷ []) = serving at (asked.Put asked.Text (Is t))
  routine_of routine.PutInt at i kind (n ∷ []) = serving at (asked.Put asked.Decimal (Is n))
  routine_of routine.PutChar at i kind (c ∷ []) = serving at (asked.Put asked.Byte (Is c))
  routine_of routine.GetChar at i kind [] = serving at asked.GetByte
  routine_of routine.EndOfInput at i kind [] = serving at asked.EndOfInput
  routine_of routine.TextCat at i kind (t ∷ u ∷ []) = asking at (Makes (Concatenated (Is t) (Is u)))
  routine_of routine.TextEqual at i kind (t ∷ u ∷ []) = behind_point at (equal_texts t u)
  routine_of routine.TextGetChar at i kind (t ∷ n ∷ []) = byte_in at i t n
  routine_of routine.TextLength at i kind (t ∷ []) = behind_point at (length_of t)
  routine_of routine.TextEmpty at i kind (t ∷ []) = behind_point at (is_empty t)
  routine_of routine.TextSub at i kind (t ∷ start ∷ n ∷ []) =
      asking at (Makes (Subtext (Is t) (Is start) (Is n)))
  routine_of routine.TextFromChar at i kind (c ∷ []) = asking at (Makes (ByteText (Is c)))
  routine_of routine.WordPlus at i kind (x ∷ y ∷ []) = word integers.word_sum at x y
  routine_of routine.WordTimes at i kind (x ∷ y ∷ []) = word integers.word_product at x y
  routine_of routine.WordMinus at i kind (x ∷ y ∷ []) = word integers.word_difference at x y
  routine_of routine.WordDivide at i kind (x ∷ y ∷ []) = word integers.word_quotient at x y
  routine_of routine.WordMod at i kind (x ∷ y ∷ []) = word integers.word_rest at x y
  routine_of routine.WordLess at i kind (x ∷ y ∷ []) = word_test integers.word_less at x y
  routine_of routine.WordLessEqual at i kind (x ∷ y ∷ []) = word_test integers.word_at_most at x y
  routine_of routine.WordGreater at i kind (x ∷ y ∷ []) = word_test integers.word_less at y x
  routine_of routine.WordGreaterEqual at i kind (x ∷ y ∷ []) =
      word_test integers.word_at_most at y x
  routine_of routine.WordAnd at i kind (x ∷ y ∷ []) = word integers.word_and at x y
  routine_of routine.WordOr at i kind (x ∷ y ∷ []) = word integers.word_or at x y
  routine_of routine.WordXor at i kind (x ∷ y ∷ []) = word integers.word_xor at x y
  routine_of routine.WordNot at i kind (x ∷ []) = word_complement at x
  routine_of routine.WordShift at i kind (x ∷ n ∷ []) = word integers.word_shift at x n
  routine_of routine.WordRotate at i kind (x ∷ n ∷ []) = word integers.word_rotate at x n
  routine_of routine.Fork at i kind (closure ∷ []) = asking at (Forks (Is closure))
  routine_of routine.Join at i kind (t ∷ []) = serving at (asked.Join (Is t) false)
  routine_of routine.Wait at i kind (m ∷ c ∷ []) = serving at (asked.Wait (Is m) (Is c) false)
  routine_of routine.Acquire at i kind (m ∷ []) = serving at (asked.Acquire (Is m))
  routine_of routine.Release at i kind (m ∷ []) = serving at (asked.Release (Is m))
  routine_of routine.Signal at i kind (c ∷ []) = serving at (asked.Signal (Is c))
  routine_of routine.Broadcast at i kind (c ∷ []) = serving at (asked.Broadcast (Is c))
  routine_of routine.MySelf at i kind [] = serving at asked.MySelf
  routine_of routine.Alert at i kind (t ∷ []) = serving at (asked.Alert (Is t))
  routine_of routine.TestAlert at i kind [] = serving at asked.TestAlert
  routine_of routine.AlertWait at i kind (m ∷ c ∷ []) = serving at (asked.Wait (Is m) (Is c) true)
  routine_of routine.AlertJoin at i kind (t ∷ []) = serving at (asked.Join (Is t) true)
  routine_of routine.Min at i kind (x ∷ y ∷ []) = chosen integers.lesser x y
  routine_of routine.Max at i kind (x ∷ y ∷ []) = chosen integers.greater x y
  routine_of routine.Ord at i kind (x ∷ []) = given x
  routine_of routine.Val at i kind (x ∷ []) = val at kind x
  routine_of _ at i kind _ = undefined

  -- the call of a routine
  abbrev pub routine_call : Routine → Pos → List Expression → (order : List ℕ)
      → (kind : Option ℕ) → Evaluates Value
  routine_call r at es order kind = do
    vs ← each_operand at r es [] order
    routine_of r at (second_place es at) kind (in_order vs)
