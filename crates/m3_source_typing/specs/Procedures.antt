-- WELL TYPED PROCEDURES: what is known of an activation at its start.
use Rattle.std.specs.Prelude.{ℕ, Bool, true, false, List, [], ◌∷◌, length, Option, Some, None, slice_get}
use Rattle.std.specs.Option.{option_map, option_and_then}
use Rattle.m3_types.specs.declared.nodes.TypeId.{TypeId}
use Rattle.m3_core.specs.declared.program.ProcDef.{ProcDef}
use Rattle.m3_core.specs.declared.program.VarDef.{VarDef}
use Rattle.m3_core.specs.declared.program.VarKind.{VarKind}
use Rattle.m3_core.specs.declared.program.VarKind.TheVariants as kind
use Rattle.m3_values.specs.Values.{Value, Pointer}
use Rattle.m3_values.specs.Programs.{Program}
use Rattle.m3_values.specs.Types.{is_open}
use Rattle.m3_values.specs.Places.{Referent, Thing, Is, At, whole}
use Rattle.m3_values.specs.Store.{Store}
use Rattle.m3_source_meaning.specs.Assignment.{variables_of}
use Rattle.m3_source_meaning.specs.Procedures.{here_in, is_among}
use Rattle.m3_source_meaning.specs.Sharing.{shared_by}
use Rattle.m3_source_typing.specs.ValueTypes.{HasType}
use Rattle.m3_source_typing.specs.Sound.{Owned, Alias, Scope, IsPlaceOf}
use Rattle.m3_source_typing.specs.Statements.{AreStatements}

-- no own variable is known: what holds of a place whoever looks
abbrev pub nobody : Owned
nobody = record { count = 0; kind = λ x. None }

abbrev pub anywhere : (is_variable : Bool) → ℕ → Alias
anywhere is_variable t = record { known = nobody; is_variable = is_variable; kind = t }

abbrev pub unless_open : Bool → ℕ → Option ℕ
unless_open true t = None
unless_open false t = Some t

abbrev pub if_open : Bool → ℕ → Option Alias
if_open true t = Some (anywhere true t)
if_open false t = None

abbrev pub unless_shared : {A : Type 0} → Bool → Option A → Option A
unless_shared true o = None
unless_shared false o = o

module _ (p : Program) where
  -- ---- formals

  -- A VALUE formal holds a value, and every other one stands for a place, as a VALUE formal does
  -- that is an open array: it stands for the copy.
  abbrev pub kind_of_formal : VarKind → Option ℕ
  kind_of_formal (kind.ByValue t) = unless_open (is_open p t.0) t.0
  kind_of_formal _ = None

  abbrev pub name_of_formal : VarKind → Option Alias
  name_of_formal (kind.ByValue t) = if_open (is_open p t.0) t.0
  name_of_formal (kind.ByVar t) = Some (anywhere true t.0)
  name_of_formal (kind.ByReadonly t) = Some (anywhere false t.0)
  name_of_formal _ = None

  -- what is known at the start: the formals that the activation doesn't share
  abbrev pub scope_at_start : (procedure : ℕ) → ProcDef → Scope
  scope_at_start procedure q = record {
    holds = record {
      count = length (variables_of q);
      kind = λ x. unless_shared (is_among (shared_by p procedure) x)
          (option_and_then (λ (v : VarDef). kind_of_formal v.kind) (slice_get q.formals.now x));
    };
    names = λ x. unless_shared (is_among (shared_by p procedure) x)
        (option_and_then (λ (v : VarDef). name_of_formal v.kind) (slice_get q.formals.now x));
  }

  -- ---- what a procedure is called with

  -- the copy of an array: its cell holds values of the type, and may be written
  abbrev pub IsCopy : Store → Value → ℕ → Type 0
  IsCopy s (Pointer c) t = IsPlaceOf p nobody true s (whole (Referent c)) t
  IsCopy s _ t = ⊥

  abbrev pub IsValueFor : Bool → Store → Value → ℕ → Type 0
  IsValueFor true s v t = IsCopy s v t
  IsValueFor false s v t = HasType p s v t

  abbrev pub IsActualFor : Store → VarKind → Thing → Type 0
  IsActualFor s (kind.ByValue t) (Is v) = IsValueFor (is_open p t.0) s v t.0
  IsActualFor s (kind.ByVar t) (At to) = IsPlaceOf p nobody true s to t.0
  IsActualFor s (kind.ByReadonly t) (At to) = IsPlaceOf p nobody false s to t.0
  IsActualFor s _ _ = ⊥

  abbrev pub AreActualsFor : Store → List VarDef → List Thing → Type 0
  AreActualsFor s [] [] = Unit {0}
  AreActualsFor s (v ∷ vs) (thing ∷ things) =
      IsActualFor s v.kind thing × AreActualsFor s vs things
  AreActualsFor s _ _ = ⊥

  -- ---- bodies

  abbrev pub result_of : ProcDef → Option ℕ
  result_of q = option_map (λ (t : TypeId). t.0) q.result

  -- THE PROCEDURE IS WELL TYPED: its body is, in an activation that begins in a store
  abbrev pub IsProcedure : Store → (procedure : ℕ) → ProcDef → Type 0
  IsProcedure s procedure q = AreStatements p (here_in p s procedure q) (scope_at_start procedure q)
      (record { in_loop = false; result = result_of q }) q.body.now
