use Rattle.std.proofs.Common.{◌≡◌, map, take}
use Rattle.m3_types.proofs.heads.same_overrides.Given as goal

-- the names of the overrides so far are equal
abbrev pub invariant-loop-i : goal.invariant-loop-i
invariant-loop-i l = map (λ o. o.name.now) (take l.i l.xs) ≡ map (λ o. o.name.now) (take l.i l.ys)
