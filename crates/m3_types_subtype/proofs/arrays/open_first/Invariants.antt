use Rattle.std.proofs.Common.{◌-◌, length}
use Rattle.m3_types_subtype.specs.Subtypes.{OpenFirst}
use Rattle.m3_types_subtype.proofs.arrays.open_first.Given as goal

-- the answer is that for the dimensions that are left
abbrev pub invariant-loop-level : goal.invariant-loop-level
invariant-loop-level l = record {
  down : OpenFirst l.nodes (length l.nodes) l.place → OpenFirst l.nodes (length l.nodes - l._level) l.at;
  up : OpenFirst l.nodes (length l.nodes - l._level) l.at → OpenFirst l.nodes (length l.nodes) l.place;
}
