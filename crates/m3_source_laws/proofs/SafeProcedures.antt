-- Each procedure keeps an invariant.
use Rattle.std.proofs.Common.{ℕ, suc, Bool, true, false, List, [], ◌∷◌, Option, Some, None}
use Rattle.std.specs.Borrow.{Bor}
use Rattle.std.specs.Option.{option_map, option_map_or}
use Rattle.m3_core.specs.declared.exprs.CoreExpr.{CoreExpr}
use Rattle.m3_core.specs.declared.program.ProcDef.{ProcDef}
use Rattle.m3_core.specs.declared.program.VarDef.{VarDef}
use Rattle.m3_values.specs.Programs.{Program}
use Rattle.m3_values.specs.Places.{Global, whole}
use Rattle.m3_source_meaning.specs.Phrases.{Here}
use Rattle.m3_source_meaning.specs.Sharing.{Uses, in_expression, in_body}
use Rattle.m3_source_meaning.specs.Procedures as procedures
use Rattle.m3_source_laws.specs.Own.{AllOf}
use Rattle.m3_source_laws.proofs.Safe.{Invariant, Within, Safe, safe_done, safe_bind, safe_then, safe_writing}
use Rattle.m3_source_laws.proofs.SafeTrees.{safe_expression}
use Rattle.m3_source_laws.proofs.SafeStatements.{safe_in_turn, safe_statements}

-- the uses in the initial value of a variable
abbrev pub in_initial : VarDef → Uses
in_initial v = option_map_or (λ (e : Bor CoreExpr). in_expression e.now) v.initial []

module _ (inv : Invariant) (p : Program) where
  safe_defaults : (at : ℕ) (vs : List VarDef) → Safe inv (procedures.global_defaults p at vs)
  safe_defaults at [] = safe_done
  safe_defaults at (v ∷ vs) = safe_then (safe_writing (whole (Global at)) _) (safe_defaults (suc at) vs)

  safe_initial : (here : Here) → Within p here inv → (at : ℕ) (e : Option (Bor CoreExpr)) → AllOf inv.may (option_map_or (λ (e : Bor CoreExpr). in_expression e.now) e []) → Safe inv (procedures.initial_value p here at (option_map (λ (e : Bor CoreExpr). e.now) e))
  safe_initial here w at None h = safe_done
  safe_initial here w at (Some e) h = safe_bind (safe_expression inv p here w e.now h).value (λ v. safe_writing (whole (Global at)) v)

  safe_initials : (here : Here) → Within p here inv → (at : ℕ) (vs : List VarDef) → AllOf (λ v. AllOf inv.may (in_initial v)) vs → Safe inv (procedures.initial_values p here at vs)
  safe_initials here w at [] h = safe_done
  safe_initials here w at (v ∷ vs) h = safe_then (safe_initial here w at v.initial h.0) (safe_initials here w (suc at) vs h.1)

  safe_globals : (b : Bool) (here : Here) → Within p here inv → AllOf (λ v. AllOf inv.may (in_initial v)) p.globals → Safe inv (procedures.globals_made p b here)
  safe_globals false here w h = safe_done
  safe_globals true here w h = safe_then (safe_defaults 0 p.globals) (safe_initials here w 0 p.globals h)

  -- THE BODY of a procedure keeps what all its phrases do
  pub safe_body : (here : Here) → Within p here inv → (q : ProcDef) → AllOf (λ v. AllOf inv.may (in_initial v)) p.globals → AllOf inv.may (in_body q) → Safe inv (procedures.body p here q)
  safe_body here w q h g = safe_then (safe_globals (procedures.is_first_body p here.procedure p.order) here w h) (safe_in_turn _ (safe_statements inv p here w q.body.now g))
