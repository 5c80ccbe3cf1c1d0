use Rattle.std.proofs.Common.{◌≡◌}
use Rattle.m3_gen_bases.specs.Keeping.{OnlyAdds}
use Rattle.m3_gen_bases.proofs.rewriting.Rewriter.keep_way.Given as goal

abbrev pub invariant-loop-at : goal.invariant-loop-at
invariant-loop-at l =
    (l.self.proc ≡ l.fn.self.proc) × OnlyAdds l.fn.self.proc.now l.fn.self.ops.items l.self.ops.items
