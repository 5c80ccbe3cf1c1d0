use Rattle.std.proofs.Common.{◌≡◌, ◌++◌, map, take}
use Rattle.m3_types.proofs.parts.add_overrides.Given as goal

-- the procedures so far were added
abbrev pub invariant-loop-bound : goal.invariant-loop-bound
invariant-loop-bound l = l.out.items ≡ l.fn.out.items ++ map (λ o. o.value.0) (take l.bound-index l.overrides)
