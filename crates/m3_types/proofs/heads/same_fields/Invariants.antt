use Rattle.std.proofs.Common.{◌≡◌, map, take}
use Rattle.m3_types.specs.Definitions.{head_of_field}
use Rattle.m3_types.proofs.heads.same_fields.Given as goal

-- the fields so far are equal but for their types
abbrev pub invariant-loop-i : goal.invariant-loop-i
invariant-loop-i l = map head_of_field (take l.i l.xs) ≡ map head_of_field (take l.i l.ys)
