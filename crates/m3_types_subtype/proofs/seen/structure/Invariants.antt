use Rattle.m3_types_subtype.specs.Views.{SeesAfter}
use Rattle.m3_types_subtype.proofs.seen.structure.Given as goal

-- what is seen after so many steps
abbrev pub invariant-loop-step : goal.invariant-loop-step
invariant-loop-step l = SeesAfter l.graph.nodes.items l.graph.reveals.items l.view l._step l.fn.t.0 l.seen.0
