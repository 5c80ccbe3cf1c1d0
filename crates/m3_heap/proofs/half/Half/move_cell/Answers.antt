use Rattle.std.proofs.Common.{◌≡◌, ◌+◌, ◌/◌, ◌<◌, ◌^◌, ℕ, false, Option, None, Some, sym, ap, ◌∙◌, arith}
use Rattle.m3_heap.specs.Cells.{heap_base, header, is_start, words_from}
use Rattle.m3_heap.specs.CollectorSpace.{Space}
use Rattle.m3_heap.specs.CollectorMoving.{MovesCell, no_cell, moved_before, moves_now}
use Rattle.m3_heap.proofs.half.Half.move_cell.Goals as goal

nothing : (left kept : Space) (at n : ℕ) (o : Option ℕ) → o ≡ None → is_start left.cells at ≡ false → MovesCell left kept at n o left kept n
nothing left kept at n None e off = no_cell off
nothing left kept at n (Some to) e off = absurd cc

pub returns-in_err-header : goal.returns-in_err-header
returns-in_err-header g c = nothing c.args.self.now c.args.to.now c.args.at c.args.steps.now c.from_residual.result c.from_residual.ensures (sym c.in_err-header.ensures.starts)

pub returns-then-header-ge-HEAP_BASE : goal.returns-then-header-ge-HEAP_BASE
returns-then-header-ge-HEAP_BASE g c = moved_before c.in_ok-header.header (sym c.in_ok-header.ensures.starts) c.in_ok-header.ensures.value (omega arith)

pub returns : goal.returns
returns g c =
    let left = c.args.self.now in
    let at = c.args.at in
    let on = sym c.in_ok-header.ensures.starts in
    let short : header (words_from left.cells at) < heap_base = omega (arith, c.in_ok-header.ensures.value) in
    let words = (c.requires on short).0 in
    moves_now c.append_copy-start.result c.add.new.self c.put.new.self c.append_copy-start.new.self on short c.append_copy-start.ensures.start
    c.put.ensures.base c.put.ensures.size c.put.ensures.cells
    c.append_copy-start.ensures.base c.append_copy-start.ensures.size c.append_copy-start.ensures.cells
    (c.add.ensures ∙ ap (λ n. c.args.steps.now + n) (ap (λ n. n / 2 ^ 32) c.in_ok-header.ensures.value ∙ sym words))
