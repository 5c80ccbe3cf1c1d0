use Rattle.std.proofs.Common.{◌≡◌}
use Rattle.m3_gen_bases.proofs.rewriting.Rewriter.list_setting.Given as goal

abbrev pub invariant-loop-item : goal.invariant-loop-item
invariant-loop-item l = (l.self.proc ≡ l.fn.self.proc) × (l.self.ops ≡ l.fn.self.ops)
