-- The results of computations, as the definitions have them.
use Rattle.std.specs.Prelude.{ℤ, Result, Ok, Err}
use Rattle.m3_base.specs.declared.outcomes.FaultKind.{FaultKind}
use Rattle.m3_values.specs.Integers as meant
use Rattle.m3_values.specs.Integers.{Computed}

-- a result, or the fault in place of it
abbrev pub computed : Result ℤ FaultKind → Computed ℤ
computed (Ok z) = meant.Result z
computed (Err kind) = meant.Fault kind
