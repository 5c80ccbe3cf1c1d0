use Rattle.std.proofs.Common.{length, slice_set, sym, ap, ◌∙◌, arith, cond, not}
use Rattle.std.specs.Prelude.{◌==◌}
use Rattle.m3_heap.specs.CellWords.{words_after, writable_after}
use Rattle.m3_run_memory.specs.Addresses.{globals_base, is_from, outside_of}
use Rattle.m3_run_memory.proofs.Placing.{placed, unplaced, not-settable, first-not-settable, global_stored, cell_stored}
use Rattle.m3_run_memory.proofs.outside.OutsideWords.store.Goals as goal
use Rattle.m3_run_memory.proofs.outside.OutsideWords.store.Goals.{then-place-eq0-via-then-place-eq0, then-place-eq0-via-else-place-eq0+then-place-len}

pub returns-then-at-ge-HEAP-clause-stored : goal.returns-then-at-ge-HEAP-clause-stored
returns-then-at-ge-HEAP-clause-stored g c = λ set x.
    let m = c.args.self.now in
    let cells = (g.S.Store.heap m.heap.store).cells in
    let new = (g.S.Store.heap c.set.new.self.store).cells in
    cell_stored m.globals.items m.constants.items cells new c.args.at c.args.word x m.few m.small (omega arith)
    (words_after cells new c.args.at c.args.word c.set.result c.set.ensures.value c.set.ensures.cells set)

pub returns-then-at-ge-HEAP-clause-writable : goal.returns-then-at-ge-HEAP-clause-writable
returns-then-at-ge-HEAP-clause-writable g c = λ x.
    let m = c.args.self.now in
    ap (λ b. cond (is_from globals_base (length m.globals.items) x) (not (x == globals_base)) b)
    (writable_after (g.S.Store.heap m.heap.store).cells (g.S.Store.heap c.set.new.self.store).cells c.args.at c.args.word c.set.result c.set.ensures.value c.set.ensures.cells x)

pub returns-then-place-eq0-clause-answer : goal.returns-then-place-eq0-clause-answer
returns-then-place-eq0-clause-answer g c =
    let m = c.args.self.now in
    let cells = (g.S.Store.heap m.heap.store).cells in
    let h = (g.met.S.Store.sound m.heap.store).cells.in_heap in
    sym (elim c.then-place-eq0.branch [
      | then-place-eq0-via-then-place-eq0 w ↦ first-not-settable (length m.globals.items) cells c.args.at h (omega arith)
      | then-place-eq0-via-else-place-eq0+then-place-len w ↦ not-settable (length m.globals.items) cells c.args.at h (omega arith) (unplaced c.args.at (length m.globals.items) c.ranges.at.fits m.few (omega arith))
    ])

pub returns-clause-stored : goal.returns-clause-stored
returns-clause-stored g c = λ set x.
    let m = c.args.self.now in
    let cells = (g.S.Store.heap m.heap.store).cells in
    let here = placed c.args.at (length m.globals.items) c.ranges.at.fits m.few (omega arith) in
    ap (λ i. outside_of (slice_set m.globals.items i c.args.word) m.constants.items cells x) here.1
    ∙ global_stored m.globals.items m.constants.items cells c.args.at c.args.word x here.0
