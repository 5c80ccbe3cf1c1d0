use Rattle.std.proofs.Common.{◌≡◌}
use Rattle.m3_gen_bases.specs.Keeping.{OnlyAdds}
use Rattle.m3_gen_bases.proofs.rewriting.Rewriter.keep_listed.Given as goal

abbrev pub invariant-loop-copy : goal.invariant-loop-copy
invariant-loop-copy l =
    (l.self.proc ≡ l.fn.self.proc) × OnlyAdds l.fn.self.proc.now l.fn.self.ops.items l.self.ops.items
