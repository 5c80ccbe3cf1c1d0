use Rattle.std.proofs.Common.{◌≡◌, ◌++◌, take}
use Rattle.m3_types.specs.Definitions.{gather, method_default}
use Rattle.m3_types.proofs.parts.add_method_defaults.Given as goal

-- the defaults of the methods so far were added
abbrev pub invariant-loop-method : goal.invariant-loop-method
invariant-loop-method l = l.out.items ≡ l.fn.out.items ++ gather method_default (take l.method-index l.methods)
