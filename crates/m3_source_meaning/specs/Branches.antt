-- IF (report, 2.3.8), CASE (2.3.14) and TYPECASE (2.3.16).
use Rattle.std.specs.Prelude.{ℕ, ℤ, pos, ◌||◌, Bool, true, false, List, [], ◌∷◌, Option, Some, None}
use Rattle.m3_base.specs.declared.outcomes.FaultKind.TheVariants as fault_kind
use Rattle.m3_base.specs.declared.places.Pos.{Pos}
use Rattle.m3_core.specs.declared.stmts.LabelRange.{LabelRange}
use Rattle.m3_types.specs.declared.nodes.TypeId.{TypeId}
use Rattle.m3_values.specs.Values.{Value, Ordinal}
use Rattle.m3_values.specs.Integers.{is_between}
use Rattle.m3_values.specs.Programs.{Program}
use Rattle.m3_values.specs.Places.{Is}
use Rattle.m3_values.specs.Store.{has_type}
use Rattle.m3_source_meaning.specs.Meanings.{Evaluates, Acts, given, done, fault, undefined, seeing, in_scope, ◌>>=◌, ◌>>◌}
use Rattle.m3_source_meaning.specs.Phrases.{Here, Expression}
use Rattle.m3_source_meaning.specs.Assignment.{bound}

-- what stands behind ELSE: none where none is written
pub record Otherwise : Type 0 where
  pub is_written : Bool
  pub body : Acts

abbrev pub otherwise_or : Acts → Bool → Acts → Acts
otherwise_or missing true body = body
otherwise_or missing false body = missing

-- ---- IF

abbrev pub if_true : Value → (yes_body no_body : Acts) → Acts
if_true (Ordinal (pos ℕ.zero)) yes_body no_body = no_body
if_true (Ordinal _) yes_body no_body = yes_body
if_true _ yes_body no_body = undefined

-- a condition with its statements
pub record Conditional : Type 0 where
  pub condition : Expression
  pub body : Acts

abbrev pub if_else : List Conditional → Otherwise → Acts
if_else [] otherwise = otherwise_or done otherwise.is_written otherwise.body
if_else (arm ∷ arms) otherwise =
    arm.condition.value >>= (λ v. if_true v arm.body (if_else arms otherwise))

-- ---- CASE

pub record Labelled : Type 0 where
  pub ranges : List LabelRange
  pub body : Acts

abbrev pub is_labelled : List LabelRange → ℤ → Bool
is_labelled [] z = false
is_labelled (r ∷ rs) z = is_between r.first r.last z || is_labelled rs z

abbrev pub chosen : Bool → Acts → Acts → Acts
chosen true branch others = branch
chosen false branch others = others

abbrev pub case_of : Pos → List Labelled → Otherwise → ℤ → Acts
case_of at [] otherwise z =
    otherwise_or (fault fault_kind.NoCase at) otherwise.is_written otherwise.body
case_of at (b ∷ bs) otherwise z = chosen (is_labelled b.ranges z) b.body (case_of at bs otherwise z)

abbrev pub case_value : Pos → List Labelled → Otherwise → Value → Acts
case_value at branches otherwise (Ordinal z) = case_of at branches otherwise z
case_value at branches otherwise _ = undefined

-- ---- TYPECASE

pub record Typed : Type 0 where
  pub types : List TypeId
  pub variable : Option ℕ
  pub body : Acts

module _ (p : Program) (here : Here) where
  -- the value is of one of the types
  abbrev pub is_of_any : List TypeId → Value → Evaluates Bool
  is_of_any [] v = given false
  is_of_any (t ∷ ts) v = do
    is_it ← seeing (λ m. has_type p m.store t.0 v)
    elim is_it [ true ↦ given true | false ↦ is_of_any ts v ]

  -- a variable of a branch or a handler gets a value
  abbrev pub with_variable : Option ℕ → Value → Acts → Acts
  with_variable None v body = body
  with_variable (Some x) v body = bound p here x (Is v) >> in_scope (x ∷ []) body

  -- the first branch with a type of the value: NIL has each
  abbrev pub type_case : Pos → List Typed → Otherwise → Value → Acts
  type_case at [] otherwise v =
      otherwise_or (fault fault_kind.NoTypecase at) otherwise.is_written otherwise.body
  type_case at (b ∷ bs) otherwise v = do
    is_it ← is_of_any b.types v
    chosen is_it (with_variable b.variable v b.body) (type_case at bs otherwise v)
