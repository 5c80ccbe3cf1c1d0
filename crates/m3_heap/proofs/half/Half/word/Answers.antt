use Rattle.std.proofs.Common.{sym, arith}
use Rattle.m3_heap.proofs.PlaceLemmas.{word-inside, word-outside}
use Rattle.m3_heap.proofs.half.Half.word.Goals as goal

pub returns-then-place-self : goal.returns-then-place-self
returns-then-place-self c = sym (word-inside c.self.inside c.self.invariant c.args.self.now c.self.view_is c.args.at _ (omega arith) c.if-place-self.true c.index.ensures)

pub returns-else-place-self : goal.returns-else-place-self
returns-else-place-self c = sym (word-outside c.self.inside c.self.invariant c.args.self.now c.self.view_is c.args.at (omega arith) c.if-place-self.false)
