use Rattle.std.proofs.Common.{◌≡◌, ◌+◌, inl, inr, Some, None, false, true, is_some, sym, ap, ◌∙◌, arith, rules}
use Rattle.std.proofs.lemmas.Bool.{cases_lt}
use Rattle.std.proofs.lemmas.Grind.{common_steps}
use Rattle.m3_isa.specs.LowCopies.{copied_low}
use Rattle.m3_isa.proofs.Copies.{rising-more, copied_low-outside, not_there, not_writable, all_there}
use Rattle.m3_isa.proofs.blocks.copy_rising.Goals as goal

pub returns-in_default-clause-copied : goal.returns-in_default-clause-copied
returns-in_default-clause-copied g c =
    let m = g.W.Words.holds c.args.mem.now in
    let k = c.loop-k.k in
    let from = c.args.from in
    let kept = copied_low-outside m k from c.args.to (from + k) (inr (omega arith)) in
    let same = c.loop-k.invariant.copied (from + k) in
    let none : g.W.Words.holds c.loop-k.mem (from + k) ≡ None = grind (arith, common_steps) in
    not_there m (g.W.Words.writable c.args.mem.now) from c.args.to k c.args.n (omega arith) (omega arith) (sym kept ∙ sym same ∙ none)

pub returns-then-not-store-clause-copied : goal.returns-then-not-store-clause-copied
returns-then-not-store-clause-copied g c =
    let k = c.loop-k.k in
    let same = c.loop-k.invariant.writable (c.args.to + k) in
    let refused : g.W.Words.writable c.loop-k.mem (c.args.to + k) ≡ false = grind (arith, common_steps) in
    not_writable (g.W.Words.holds c.args.mem.now) (g.W.Words.writable c.args.mem.now) c.args.from c.args.to k c.args.n (omega arith) (omega arith) (sym same ∙ refused)

pub loop-k-preserved : goal.loop-k-preserved
loop-k-preserved g c =
    let m = g.W.Words.holds c.args.mem.now in
    let now = g.W.Words.holds c.loop-k.mem in
    let can = g.W.Words.writable c.args.mem.now in
    let k = c.loop-k.k in
    let from = c.args.from in
    let to = c.args.to in
    let kept = copied_low-outside m k from to (from + k) (inr (omega arith)) in
    let same = c.loop-k.invariant.copied (from + k) in
    let word : now (from + k) ≡ Some c.in-Some.word = grind (arith, common_steps) in
    let old : m (from + k) ≡ Some c.in-Some.word = sym kept ∙ sym same ∙ word in
    let able = c.loop-k.invariant.writable (to + k) in
    let replaced : can (to + k) ≡ true = grind (arith, common_steps) in
    record {
      there = λ j h. elim (cases_lt j k) [ inl low ↦ c.loop-k.invariant.there j low | inr high ↦ let e : j ≡ k = omega arith in ap (λ i. is_some (m (from + i))) e ∙ ap is_some old ];
      can = λ j h. elim (cases_lt j k) [ inl low ↦ c.loop-k.invariant.can j low | inr high ↦ let e : j ≡ k = omega arith in ap (λ i. can (to + i)) e ∙ replaced ];
      copied = λ x. c.store.ensures.stored (search rules) x ∙ rising-more m now c.in-Some.word k from to x (c.loop-k.invariant.copied x) old;
      writable = λ x. c.store.ensures.writable x ∙ c.loop-k.invariant.writable x;
      keeps = g.met.W.Words.keeps_on c.args.mem.now c.loop-k.mem c.store.new.self c.loop-k.invariant.keeps c.store.ensures.keeps;
    }

pub returns-clause-copied : goal.returns-clause-copied
returns-clause-copied g c =
    let e : c.loop-k.k ≡ c.args.n = omega arith in
    let m = g.W.Words.holds c.args.mem.now in (
      all_there m (g.W.Words.writable c.args.mem.now) c.args.from c.args.to c.args.n (omega arith) (omega arith)
          (λ j h. c.loop-k.invariant.there j (omega arith)) (λ j h. c.loop-k.invariant.can j (omega arith)),
      λ x. c.loop-k.invariant.copied x ∙ ap (λ n. copied_low m n c.args.from c.args.to x) e,
    )
