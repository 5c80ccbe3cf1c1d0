use Rattle.std.proofs.Common.{◌≡◌, ◌++◌, map, take}
use Rattle.m3_types.proofs.parts.add_formals.Given as goal

-- the types of the formals so far were added
abbrev pub invariant-loop-formal : goal.invariant-loop-formal
invariant-loop-formal l = l.out.items ≡ l.fn.out.items ++ map (λ x. x.kind.0) (take l.formal-index l.formals)
