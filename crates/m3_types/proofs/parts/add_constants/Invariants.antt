use Rattle.std.proofs.Common.{◌≡◌, ◌++◌, map, take}
use Rattle.m3_types.proofs.parts.add_constants.Given as goal

-- the constants so far were added
abbrev pub invariant-loop-constant : goal.invariant-loop-constant
invariant-loop-constant l = l.out.items ≡ l.fn.out.items ++ map (λ c. c.0) (take l.constant-index l.constants)
