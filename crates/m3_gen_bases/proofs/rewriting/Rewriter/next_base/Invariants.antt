use Rattle.std.proofs.Common.{◌≡◌}
use Rattle.m3_gen_bases.proofs.rewriting.Rewriter.next_base.Given as goal

abbrev pub invariant-loop-at : goal.invariant-loop-at
invariant-loop-at l = (l.self.proc ≡ l.fn.self.proc) × (l.self.ops ≡ l.fn.self.ops)
