-- Where every use of a variable may stand, all trees may.
use Rattle.std.proofs.Common.{List, [], ◌∷◌}
use Rattle.m3_core.specs.declared.program.VarDef.{VarDef}
use Rattle.m3_source_meaning.specs.Sharing.{Use, Uses}
use Rattle.m3_source_laws.specs.Own.{AllOf}
use Rattle.m3_source_laws.proofs.SafeProcedures.{in_initial}

pub all_may : (may : Use → Type 0) → ((u : Use) → may u) → (us : Uses) → AllOf may us
all_may may h [] = tt
all_may may h (u ∷ us) = (h u, all_may may h us)

pub all_may_start : (may : Use → Type 0) → ((u : Use) → may u) → (vs : List VarDef) → AllOf (λ v. AllOf may (in_initial v)) vs
all_may_start may h [] = tt
all_may_start may h (v ∷ vs) = (all_may may h (in_initial v), all_may_start may h vs)
