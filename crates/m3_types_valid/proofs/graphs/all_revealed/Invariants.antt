use Rattle.std.proofs.Common.{◌<◌, ℕ}
use Rattle.m3_types_valid.specs.Forms.{IsRevealedAt}
use Rattle.m3_types_valid.proofs.graphs.all_revealed.Given as goal

abbrev pub invariant-loop-place : goal.invariant-loop-place
invariant-loop-place l = (p : ℕ) → p < l.place → IsRevealedAt l.graph.nodes.items l.graph.reveals.items p
