-- WHAT IS SHOWN of an activation that stands at a point: its variables in scope that hold a number
-- or a reference, by their places among all such variables of the procedure.
use Rattle.std.specs.Prelude.{ℕ, suc, ◌&&◌, ◌||◌, not, Bool, true, false, List, [], ◌∷◌, Option, Some, None}
use Rattle.std.specs.Option.{option_map_or, option_or}
use Rattle.m3_types.specs.Definitions.{head_at}
use Rattle.m3_types.specs.Kinds.{is_reference}
use Rattle.m3_core.specs.declared.program.ProcDef.{ProcDef}
use Rattle.m3_core.specs.declared.program.Role.{Role}
use Rattle.m3_core.specs.declared.program.Role.TheVariants as role
use Rattle.m3_core.specs.declared.program.VarDef.{VarDef}
use Rattle.m3_core.specs.declared.program.VarKind.{VarKind}
use Rattle.m3_core.specs.declared.program.VarKind.TheVariants as kind
use Rattle.m3_values.specs.Programs.{Program, procedure_at}
use Rattle.m3_values.specs.Types.{bounds, Bounds}
use Rattle.m3_values.specs.Places.{Thing}
use Rattle.m3_values.specs.Store.{Store, thing_in, shared_thing}
use Rattle.m3_source_meaning.specs.Meanings.{Standing}
use Rattle.m3_source_meaning.specs.Phrases.{Here}
use Rattle.m3_source_meaning.specs.Assignment.{variables_of}
use Rattle.m3_source_meaning.specs.Procedures.{is_among}

module _ (p : Program) where
  abbrev pub is_ordinal : ℕ → Bool
  is_ordinal t = option_map_or (λ (b : Bounds). true) (bounds p t) false

  abbrev pub is_simple : ℕ → Bool
  is_simple t = is_ordinal t || is_reference (head_at p.nodes t)

  -- a variable of its own, and no place that a name stands for
  abbrev pub holds_simple : VarKind → Bool
  holds_simple (kind.Variable t) = is_simple t.0
  holds_simple (kind.ByValue t) = is_simple t.0
  holds_simple _ = false

  -- the hidden name of a LOCK is shown to nobody
  abbrev pub is_hidden : Role → Bool
  is_hidden role.Lock = true
  is_hidden _ = false

  abbrev pub is_shown : VarDef → Bool
  is_shown v = holds_simple v.kind && not (is_hidden v.role)

  -- what a variable of the activation holds at the point
  abbrev pub thing_at : Here → Standing → Store → ℕ → Option Thing
  thing_at here standing store x =
      option_or (thing_in standing.own x) (shared_thing store here.activation x)

  abbrev pub beside : ℕ → Option Thing → List (ℕ × Thing) → List (ℕ × Thing)
  beside place None rest = rest
  beside place (Some thing) rest = (place, thing) ∷ rest

  abbrev pub if_in_scope : Bool → Option Thing → Option Thing
  if_in_scope true thing = thing
  if_in_scope false thing = None

  -- the variables from one on, of which so many before it are shown
  abbrev pub shown_from : Here → Standing → Store → (at place : ℕ) → List VarDef → List (ℕ × Thing)
  shown_from here standing store at place [] = []
  shown_from here standing store at place (v ∷ vs) = elim (is_shown v) [
    | true ↦ beside place
        (if_in_scope (is_among standing.scope at) (thing_at here standing store at))
        (shown_from here standing store (suc at) (suc place) vs)
    | false ↦ shown_from here standing store (suc at) place vs
  ]

  abbrev pub shown_variables : Here → Standing → Store → List (ℕ × Thing)
  shown_variables here standing store = option_map_or
      (λ (q : ProcDef). shown_from here standing store 0 0 (variables_of q))
      (procedure_at p here.procedure) []
