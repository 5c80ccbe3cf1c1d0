use Rattle.std.proofs.Common.{◌≡◌, map, take}
use Rattle.m3_types_subtype.proofs.procedures.same_modes.Given as goal

-- the modes so far are equal
abbrev pub invariant-loop-i : goal.invariant-loop-i
invariant-loop-i l = map (λ f. f.mode) (take l.i l.xs) ≡ map (λ f. f.mode) (take l.i l.ys)
