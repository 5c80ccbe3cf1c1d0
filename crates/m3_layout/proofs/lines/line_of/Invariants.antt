use Rattle.std.proofs.Common.{◌-◌, length}
use Rattle.m3_layout.proofs.Lineage.{LineSoFar}
use Rattle.m3_layout.proofs.lines.line_of.Given as goal

abbrev pub invariant-loop-parent : goal.invariant-loop-parent
invariant-loop-parent l = LineSoFar l.types.graph.nodes.items l.types.graph.reveals.items l.line.items l.top l.fn.t

abbrev pub decreases-loop-parent : goal.decreases-loop-parent
decreases-loop-parent l = length l.types.graph.nodes.items - length l.line.items
