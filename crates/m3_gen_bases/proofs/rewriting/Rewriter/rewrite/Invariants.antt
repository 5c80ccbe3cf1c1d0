use Rattle.std.proofs.Common.{◌≡◌, [], take}
use Rattle.m3_gen_bases.specs.Keeping.{HasAdded}
use Rattle.m3_gen_bases.proofs.rewriting.Rewriter.rewrite.Given as goal

abbrev pub invariant-loop-op : goal.invariant-loop-op
invariant-loop-op l =
    (l.self.proc ≡ l.fn.self.proc)
    × (l.fn.self.ops.items ≡ [] → HasAdded l.fn.self.proc.now (take l.op-index l.ops) l.self.ops.items)
