use Rattle.std.proofs.Common.{◌≡◌, map, take}
use Rattle.m3_types.specs.Definitions.{head_of_method}
use Rattle.m3_types.proofs.heads.same_methods.Given as goal

-- the methods so far are equal but for their types
abbrev pub invariant-loop-i : goal.invariant-loop-i
invariant-loop-i l = map head_of_method (take l.i l.xs) ≡ map head_of_method (take l.i l.ys)
