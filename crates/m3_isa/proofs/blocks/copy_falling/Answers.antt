use Rattle.std.proofs.Common.{◌≡◌, ◌+◌, ◌-◌, inl, inr, Some, None, false, true, is_some, sym, ap, ◌∙◌, arith, rules}
use Rattle.std.proofs.lemmas.Bool.{cases_lt}
use Rattle.std.proofs.lemmas.Grind.{common_steps}
use Rattle.m3_isa.specs.LowCopies.{copied_low}
use Rattle.m3_isa.proofs.Copies.{falling-more, copied_low-outside, not_there, not_writable, all_there}
use Rattle.m3_isa.proofs.blocks.copy_falling.Goals as goal

pub returns-in_default-clause-copied : goal.returns-in_default-clause-copied
returns-in_default-clause-copied g c =
    let m = g.W.Words.holds c.args.mem.now in
    let j = c.loop-k.k in
    let k = j - 1 in
    let from = c.args.from in
    let kept = copied_low-outside m (c.args.n - j) (from + j) (c.args.to + j) (from + k) (inl (omega arith)) in
    let same = c.loop-k.invariant.copied (from + k) in
    let none : g.W.Words.holds c.loop-k.mem (from + k) ≡ None = grind (arith, common_steps) in
    not_there m (g.W.Words.writable c.args.mem.now) from c.args.to k c.args.n (omega arith) (omega arith) (sym kept ∙ sym same ∙ none)

pub returns-then-not-store-clause-copied : goal.returns-then-not-store-clause-copied
returns-then-not-store-clause-copied g c =
    let j = c.loop-k.k in
    let k = j - 1 in
    let same = c.loop-k.invariant.writable (c.args.to + k) in
    let refused : g.W.Words.writable c.loop-k.mem (c.args.to + k) ≡ false = grind (arith, common_steps) in
    not_writable (g.W.Words.holds c.args.mem.now) (g.W.Words.writable c.args.mem.now) c.args.from c.args.to k c.args.n (omega arith) (omega arith) (sym same ∙ refused)

pub loop-k-preserved : goal.loop-k-preserved
loop-k-preserved g c =
    let m = g.W.Words.holds c.args.mem.now in
    let now = g.W.Words.holds c.loop-k.mem in
    let can = g.W.Words.writable c.args.mem.now in
    let j = c.loop-k.k in
    let k = j - 1 in
    let from = c.args.from in
    let to = c.args.to in
    let kept = copied_low-outside m (c.args.n - j) (from + j) (to + j) (from + k) (inl (omega arith)) in
    let same = c.loop-k.invariant.copied (from + k) in
    let word : now (from + k) ≡ Some c.in-Some.word = grind (arith, common_steps) in
    let old : m (from + k) ≡ Some c.in-Some.word = sym kept ∙ sym same ∙ word in
    let able = c.loop-k.invariant.writable (to + k) in
    let replaced : can (to + k) ≡ true = grind (arith, common_steps) in
    record {
      within = omega arith;
      there = λ i a h. elim (cases_lt k i) [ inl up ↦ c.loop-k.invariant.there i (omega arith) h | inr low ↦ let e : i ≡ k = omega arith in ap (λ v. is_some (m (from + v))) e ∙ ap is_some old ];
      can = λ i a h. elim (cases_lt k i) [ inl up ↦ c.loop-k.invariant.can i (omega arith) h | inr low ↦ let e : i ≡ k = omega arith in ap (λ v. can (to + v)) e ∙ replaced ];
      copied = λ x. c.store.ensures.stored (search rules) x ∙ falling-more m now c.in-Some.word j k c.args.n from to x (omega arith) (omega arith) (c.loop-k.invariant.copied x) old;
      writable = λ x. c.store.ensures.writable x ∙ c.loop-k.invariant.writable x;
      keeps = g.met.W.Words.keeps_on c.args.mem.now c.loop-k.mem c.store.new.self c.loop-k.invariant.keeps c.store.ensures.keeps;
    }

pub returns-clause-copied : goal.returns-clause-copied
returns-clause-copied g c =
    let e : c.loop-k.k ≡ 0 = omega arith in
    let n : c.args.n - c.loop-k.k ≡ c.args.n = omega arith in
    let f : c.args.from + c.loop-k.k ≡ c.args.from = omega arith in
    let t : c.args.to + c.loop-k.k ≡ c.args.to = omega arith in
    let m = g.W.Words.holds c.args.mem.now in (
      all_there m (g.W.Words.writable c.args.mem.now) c.args.from c.args.to c.args.n (omega arith) (omega arith)
          (λ j h. c.loop-k.invariant.there j (omega arith) h) (λ j h. c.loop-k.invariant.can j (omega arith) h),
      λ x. c.loop-k.invariant.copied x ∙ ap (λ v. copied_low m v (c.args.from + c.loop-k.k) (c.args.to + c.loop-k.k) x) n
          ∙ ap (λ v. copied_low m c.args.n v (c.args.to + c.loop-k.k) x) f ∙ ap (λ v. copied_low m c.args.n c.args.from v x) t,
    )
