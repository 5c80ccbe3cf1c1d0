use Rattle.std.proofs.Common.{◌≡◌, ◌∙◌, ℕ, true, Some, sym, arith}
use Rattle.m3_heap.specs.Cells.{is_start, header, words_from}
use Rattle.m3_heap.proofs.SpaceLemmas.{half-word_at-start}
use Rattle.m3_heap.proofs.PlaceLemmas.{word-inside, start-inside, start-outside}
use Rattle.m3_heap.proofs.half.Half.header.Goals as goal
use Rattle.m3_heap.proofs.half.Half.header.Goals.{else-place-self-via-then-place-self+else-get, else-place-self-via-else-place-self}

starts : (c : goal.After-row_known-1) → is_start c.args.self.now.cells c.args.at ≡ true
starts c = start-inside c.self.inside c.self.invariant c.args.self.now c.self.view_is c.args.at (omega arith) c.if-place-self.true ∙ sym c.get.ensures ∙ c.if-get.true

pub returns-then-get-clause-starts : goal.returns-then-get-clause-starts
returns-then-get-clause-starts c = sym (starts c)

some_same : (x y : ℕ) → Some x ≡ Some y → x ≡ y
some_same x y e = cc

pub returns-then-get-clause-value : goal.returns-then-get-clause-value
returns-then-get-clause-value c =
    let read = word-inside c.self.inside c.self.invariant c.args.self.now c.self.view_is c.args.at c.index.result.now (omega arith) c.if-place-self.true c.index.ensures in
    let first = half-word_at-start c.self.inside c.self.invariant c.args.self.now c.self.view_is c.args.at (starts c) in
    some_same c.index.result.now (header (words_from c.args.self.now.cells c.args.at)) (sym read ∙ first)

pub returns-else-place-self-clause-starts : goal.returns-else-place-self-clause-starts
returns-else-place-self-clause-starts c =
    elim c.else-place-self.branch [
      | else-place-self-via-then-place-self+else-get w ↦ sym (start-inside c.self.inside c.self.invariant c.args.self.now c.self.view_is c.args.at (omega arith) w.if-place-self.true ∙ sym w.get.ensures ∙ w.if-get.false)
      | else-place-self-via-else-place-self w ↦ sym (start-outside c.self.inside c.self.invariant c.args.self.now c.self.view_is c.args.at (omega arith) w.if-place-self.false)
    ]
