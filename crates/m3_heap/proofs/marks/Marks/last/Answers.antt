use Rattle.std.proofs.Common.{◌≡◌, ◌/◌, ◌<◌, ◌≤◌, get_or, length, sym, ap, ◌∙◌, arith, ⊎_elim}
use Rattle.std.proofs.lemmas.Bool.{cases_lt}
use Rattle.std.proofs.lemmas.List.{get_or_read}
use Rattle.m3_heap.proofs.MarksLemmas.{length-marks_in, unmarked-zero}
use Rattle.m3_heap.proofs.marks.Marks.last.Goals as goal

pub index-requires : goal.index-requires
index-requires c =
    let count = ap length c.self.view_is in
    omega (arith, length-marks_in c.self.inside.bits.items c.self.inside.count, count, c.requires.within, c.loop-self.invariant.high, c.self.invariant, c.self.inside.bits.ok.0)

pub loop-self-preserved-then-index-eq0 : goal.loop-self-preserved-then-index-eq0
loop-self-preserved-then-index-eq0 c =
    let bits = c.self.inside.bits.items in
    let at = c.loop-self.at in
    let count = ap length c.self.view_is in
    let within : at / 64 < length bits = omega (arith, length-marks_in bits c.self.inside.count, count, c.requires.within, c.loop-self.invariant.high, c.self.invariant) in
    let zero : get_or bits (at / 64) 0 ≡ 0 = sym (get_or_read bits (at / 64) _ within c.index.ensures 0) ∙ c.if-index-eq0.true in
    record {
      high = omega (arith, c.loop-self.invariant.high);
      between = λ k a b. ⊎_elim
          (λ (behind : at < k). c.loop-self.invariant.between k behind b)
          (λ (before : k ≤ at).
          let same : k / 64 ≡ at / 64 = omega (arith, c.if-at-eq63.true, before, a) in
          unmarked-zero bits c.self.inside.count k (λ _. ap (λ n. get_or bits n 0) same ∙ zero))
          (cases_lt at k);
    }
