use Rattle.std.proofs.Common.{◌≡◌, ◌++◌, map, take}
use Rattle.m3_types.proofs.parts.add_fields.Given as goal

-- the types of the fields so far were added
abbrev pub invariant-loop-field : goal.invariant-loop-field
invariant-loop-field l = l.out.items ≡ l.fn.out.items ++ map (λ x. x.kind.0) (take l.field-index l.fields)
