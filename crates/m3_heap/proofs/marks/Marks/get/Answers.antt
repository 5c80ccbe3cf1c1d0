use Rattle.std.proofs.Common.{◌<◌, ◌%◌, ◌/◌, get_or, length, arith, sym, ap, eqb, ◌∙◌, false}
use Rattle.std.specs.Int.{bit_at}
use Rattle.std.proofs.lemmas.List.{get_or_read}
use Rattle.std.proofs.lemmas.Nat.Bits.{shr_and_one}
use Rattle.m3_heap.proofs.MarksLemmas.{length-marks_in, get_or-marks_in}
use Rattle.m3_heap.proofs.marks.Marks.get.Goals as goal

pub index-requires : goal.index-requires
index-requires c =
    let count = ap length c.self.view_is in
    omega (arith, length-marks_in c.self.inside.bits.items c.self.inside.count, count, c.self.invariant, c.self.inside.bits.ok.0)

pub returns : goal.returns
returns c =
    let bits = c.self.inside.bits.items in
    let count = ap length c.self.view_is in
    let below : c.args.i < c.self.inside.count = omega (arith, length-marks_in bits c.self.inside.count, count) in
    let within : c.args.i / 64 < length bits = omega (arith, c.self.invariant) in
    ap (λ b. eqb b 1) (shr_and_one c.index.result.now (c.args.i % 64) ∙ ap (λ w. bit_at w (c.args.i % 64)) (get_or_read bits (c.args.i / 64) _ within c.index.ensures 0))
    ∙ sym (get_or-marks_in bits c.self.inside.count c.args.i false below)
    ∙ ap (λ m. get_or m c.args.i false) c.self.view_is
