use Rattle.std.proofs.Common.{◌≡◌, map, take}
use Rattle.m3_types.proofs.heads.same_names.Given as goal

-- the names so far are equal
abbrev pub invariant-loop-i : goal.invariant-loop-i
invariant-loop-i l = map (λ n. n.now) (take l.i l.xs) ≡ map (λ n. n.now) (take l.i l.ys)
