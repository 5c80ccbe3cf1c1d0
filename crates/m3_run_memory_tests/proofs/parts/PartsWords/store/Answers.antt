use Rattle.std.proofs.Common.{◌≡◌, false, true, cond, ap, arith}
use Rattle.std.proofs.lemmas.Bool.Decides.{nat_tests}
use Rattle.m3_heap.specs.CellWords.{words_after, writable_after}
use Rattle.m3_run_memory_tests.specs.Held.{is_global}
use Rattle.m3_run_memory_tests.proofs.Storing.{stored_in}
use Rattle.m3_run_memory_tests.proofs.parts.PartsWords.store.Goals as goal
use Rattle.m3_run_memory_tests.proofs.parts.PartsWords.store.Goals.{else-at-ge-GLOBALS-via-then-at-ge-GLOBALS+else-at, else-at-ge-GLOBALS-via-else-at-ge-GLOBALS}

pub returns-else-at-ge-GLOBALS-clause-stored : goal.returns-else-at-ge-GLOBALS-clause-stored
returns-else-at-ge-GLOBALS-clause-stored g c = λ set x.
    let out : is_global c.args.at ≡ false = elim c.else-at-ge-GLOBALS.branch [
      | else-at-ge-GLOBALS-via-then-at-ge-GLOBALS+else-at w ↦ grind (arith, nat_tests)
      | else-at-ge-GLOBALS-via-else-at-ge-GLOBALS w ↦ grind (arith, nat_tests)
    ] in
    stored_in c.args.self.now.globals (g.S.Store.heap c.args.self.now.heap.store).cells (g.S.Store.heap c.set.new.self.store).cells c.args.at c.args.word x out
    (words_after (g.S.Store.heap c.args.self.now.heap.store).cells (g.S.Store.heap c.set.new.self.store).cells c.args.at c.args.word c.set.result c.set.ensures.value c.set.ensures.cells set)

pub returns-else-at-ge-GLOBALS-clause-writable : goal.returns-else-at-ge-GLOBALS-clause-writable
returns-else-at-ge-GLOBALS-clause-writable g c = λ x.
    ap (λ b. cond (is_global x) true b)
    (writable_after (g.S.Store.heap c.args.self.now.heap.store).cells (g.S.Store.heap c.set.new.self.store).cells c.args.at c.args.word c.set.result c.set.ensures.value c.set.ensures.cells x)
