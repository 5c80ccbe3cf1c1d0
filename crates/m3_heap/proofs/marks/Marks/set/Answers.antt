use Rattle.std.proofs.Common.{◌<◌, ◌/◌, length, set, true, arith, ap, ◌∙◌}
use Rattle.std.specs.Int.{bit_at}
use Rattle.std.proofs.lemmas.List.{get_or_read}
use Rattle.std.proofs.lemmas.Bool.{eq-eqb}
use Rattle.m3_heap.proofs.MarksLemmas.{length-marks_in, marks_in-set}
use Rattle.m3_heap.proofs.marks.Marks.set.Goals as goal

pub index-word-requires : goal.index-word-requires
index-word-requires c =
    let count = ap length c.self.view_is in
    omega (arith, length-marks_in c.self.inside.bits.items c.self.inside.count, count, c.self.invariant, c.self.inside.bits.ok.0)

pub index_mut-requires : goal.index_mut-requires
index_mut-requires c =
    let count = ap length c.self.view_is in
    omega (arith, length-marks_in c.self.inside.bits.items c.self.inside.count, count, c.self.invariant, c.self.inside.bits.ok.0)

pub returns : goal.returns
returns c =
    let bits = c.self.inside.bits.items in
    let count = ap length c.self.view_is in
    let below : c.args.i < c.self.inside.count = omega (arith, length-marks_in bits c.self.inside.count, count) in
    let within : c.args.i / 64 < length bits = omega (arith, c.self.invariant) in
    let read = get_or_read bits (c.args.i / 64) _ within c.index-word.ensures 0 in
    marks_in-set bits c.self.inside.count c.args.i c.with_bit.result true below c.self.invariant (eq-eqb _ _ c.with_bit.ensures.here)
    (λ k h differs. c.with_bit.ensures.others k h differs ∙ ap (λ w. bit_at w k) read)
    ∙ ap (λ m. set m c.args.i true) c.self.view_is
