use Rattle.std.proofs.Common.{◌≡◌, ◌++◌, map, take}
use Rattle.m3_types.proofs.parts.add_methods.Given as goal

-- the types of the methods so far were added
abbrev pub invariant-loop-method : goal.invariant-loop-method
invariant-loop-method l = l.out.items ≡ l.fn.out.items ++ map (λ x. x.signature.0) (take l.method-index l.methods)
