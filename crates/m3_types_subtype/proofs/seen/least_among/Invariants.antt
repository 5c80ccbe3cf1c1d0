use Rattle.std.proofs.Common.{take, IfSome, IfNone}
use Rattle.m3_types_subtype.specs.Views.{NoneApplies, IsLeastOf}
use Rattle.m3_types_subtype.proofs.seen.least_among.Given as goal

-- of the reveals so far none applies, or it is the least
abbrev pub invariant-loop-reveal : goal.invariant-loop-reveal
invariant-loop-reveal l = record {
  none : IfNone l.least (NoneApplies (take l.reveal-index l.found) l.view l.t.0);
  some : IfSome l.least (λ b. IsLeastOf l.graph.nodes.items l.graph.reveals.items (take l.reveal-index l.found) l.view l.t.0 b.0);
}
