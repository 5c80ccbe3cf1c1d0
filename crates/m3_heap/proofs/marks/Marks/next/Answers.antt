use Rattle.std.proofs.Common.{◌≡◌, ◌/◌, ◌<◌, ◌≤◌, get_or, length, sym, ap, ◌∙◌, arith, ⊎_elim}
use Rattle.std.proofs.lemmas.Bool.{cases_lt}
use Rattle.std.proofs.lemmas.List.{get_or_read}
use Rattle.m3_heap.proofs.MarksLemmas.{length-marks_in, unmarked-zero}
use Rattle.m3_heap.proofs.marks.Marks.next.Goals as goal

pub loop-at-init : goal.loop-at-init
loop-at-init c =
    let count = ap length c.self.view_is in
    record { low = omega arith; high = omega (arith, length-marks_in c.self.inside.bits.items c.self.inside.count, count, c.requires); between = λ k a b. absurd (omega (arith, a, b)) }

pub loop-at-preserved-then-index-eq0 : goal.loop-at-preserved-then-index-eq0
loop-at-preserved-then-index-eq0 c =
    let bits = c.self.inside.bits.items in
    let at = c.loop-at.at in
    let within : at / 64 < length bits = omega (arith, c.loop-at-test.true, c.self.invariant) in
    let zero : get_or bits (at / 64) 0 ≡ 0 = sym (get_or_read bits (at / 64) _ within c.index.ensures 0) ∙ c.if-index-eq0.true in
    record {
      low = omega (arith, c.loop-at.invariant.low);
      high = omega (arith, c.if-count-at-ge64.true, c.loop-at-test.true);
      between = λ k a b. ⊎_elim
          (λ (before : k < at). c.loop-at.invariant.between k a before)
          (λ (behind : at ≤ k).
          let same : k / 64 ≡ at / 64 = omega (arith, c.if-at-eq0.true, behind, b) in
          unmarked-zero bits c.self.inside.count k (λ _. ap (λ n. get_or bits n 0) same ∙ zero))
          (cases_lt k at);
    }

pub get-requires : goal.get-requires
get-requires c =
    let count = ap length c.self.view_is in
    omega (arith, length-marks_in c.self.inside.bits.items c.self.inside.count, count, c.loop-at-test.true)

pub overflow_add-at-else-get : goal.overflow_add-at-else-get
overflow_add-at-else-get c = omega (arith, c.loop-at-test.true, c.self.invariant, c.self.inside.bits.ok.0, c.self.inside.bits.small)

pub returns-clause-end : goal.returns-clause-end
returns-clause-end c =
    let count = ap length c.self.view_is in
    omega (arith, length-marks_in c.self.inside.bits.items c.self.inside.count, count, c.loop-at.invariant.high)

pub returns-clause-there : goal.returns-clause-there
returns-clause-there c = λ low.
    let count = ap length c.self.view_is in
    absurd (omega (arith, length-marks_in c.self.inside.bits.items c.self.inside.count, count, c.loop-at-test.false, low))
