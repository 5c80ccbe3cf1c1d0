use Rattle.std.proofs.Common.{◌≡◌, ◌++◌, take}
use Rattle.m3_types.specs.Definitions.{gather, field_default}
use Rattle.m3_types.proofs.parts.add_field_defaults.Given as goal

-- the defaults of the fields so far were added
abbrev pub invariant-loop-field : goal.invariant-loop-field
invariant-loop-field l = l.out.items ≡ l.fn.out.items ++ gather field_default (take l.field-index l.fields)
