use Rattle.std.proofs.Common.{ℕ, ◌+◌}
use Rattle.m3_types_subtype.specs.Heights.{HasHeight}
use Rattle.m3_types_subtype.proofs.heights.Heights.count.Given as goal

-- the height of the place is that of where the way is, and the steps so far
abbrev pub invariant-loop-steps : goal.invariant-loop-steps
invariant-loop-steps l = (height : ℕ) → HasHeight l.nodes l.at height → HasHeight l.nodes l.place (height + l.steps)
