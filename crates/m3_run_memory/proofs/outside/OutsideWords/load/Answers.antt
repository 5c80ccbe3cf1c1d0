use Rattle.std.specs.Prelude.{length, slice_get, ◌-◌}
use Rattle.std.proofs.Common.{sym, ap, ◌∙◌, arith, Some}
use Rattle.std.proofs.lemmas.Option.{slice_get-get_or, slice_get_past}
use Rattle.m3_run_memory.specs.OutsideLaws.{at_constant, at_global, at_nothing}
use Rattle.m3_run_memory.proofs.Placing.{placed, unplaced}
use Rattle.m3_run_memory.proofs.outside.OutsideWords.load.Goals as goal

pub returns-then-place-len : goal.returns-then-place-len
returns-then-place-len g c =
    let m = c.args.self.now in
    sym (at_constant m.globals.items m.constants.items (g.S.Store.heap m.heap.store).cells c.args.at (g.met.S.Store.sound m.heap.store).cells.in_heap m.few (omega arith) (omega arith)
    ∙ slice_get_past m.constants.items (c.args.at - 1125899906842624) (omega arith))

pub returns-then-at-ge-CONSTANTS : goal.returns-then-at-ge-CONSTANTS
returns-then-at-ge-CONSTANTS g c =
    let m = c.args.self.now in
    sym (at_constant m.globals.items m.constants.items (g.S.Store.heap m.heap.store).cells c.args.at (g.met.S.Store.sound m.heap.store).cells.in_heap m.few (omega arith) (omega arith)
    ∙ slice_get-get_or m.constants.items (c.args.at - 1125899906842624) c.index.result.now (omega arith) ∙ ap Some (sym c.index.ensures))

pub returns-then-place-len-2 : goal.returns-then-place-len-2
returns-then-place-len-2 g c =
    let m = c.args.self.now in
    let here = placed c.args.at (length m.globals.items) c.ranges.at.fits m.few (omega arith) in
    ap Some c.index-then-place-len-2.ensures
    ∙ sym (at_global m.globals.items m.constants.items (g.S.Store.heap m.heap.store).cells c.args.at (g.met.S.Store.sound m.heap.store).cells.in_heap (omega arith) here.0
    ∙ sym (ap (λ i. slice_get m.globals.items i) here.1) ∙ slice_get-get_or m.globals.items _ _ (omega arith))

pub returns-else-place-len-2 : goal.returns-else-place-len-2
returns-else-place-len-2 g c =
    let m = c.args.self.now in
    sym (at_nothing m.globals.items m.constants.items (g.S.Store.heap m.heap.store).cells c.args.at (g.met.S.Store.sound m.heap.store).cells.in_heap (omega arith)
    (unplaced c.args.at (length m.globals.items) c.ranges.at.fits m.few (omega arith)))
