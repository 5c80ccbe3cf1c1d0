use Rattle.std.proofs.Common.{◌+◌, ◌-◌, length}
use Rattle.m3_types_subtype.specs.Subtypes.{FitsBelow}
use Rattle.m3_types_subtype.proofs.arrays.innermost.Given as goal

-- the answer is that for the dimensions that are left
abbrev pub invariant-loop-level : goal.invariant-loop-level
invariant-loop-level l = record {
  down : FitsBelow l.nodes (length l.nodes) l.a l.b → FitsBelow l.nodes (length l.nodes + 1 - l._level) l.x l.y;
  up : FitsBelow l.nodes (length l.nodes + 1 - l._level) l.x l.y → FitsBelow l.nodes (length l.nodes) l.a l.b;
}
