use Rattle.std.proofs.Common.{◌≡◌, ◌++◌, take}
use Rattle.m3_types.specs.Definitions.{gather, formal_default}
use Rattle.m3_types.proofs.parts.add_formal_defaults.Given as goal

-- the defaults of the formals so far were added
abbrev pub invariant-loop-formal : goal.invariant-loop-formal
invariant-loop-formal l = l.out.items ≡ l.fn.out.items ++ gather formal_default (take l.formal-index l.formals)
