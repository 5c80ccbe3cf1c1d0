use Rattle.std.proofs.Common.{◌≡◌, ℕ, true, refl, sym, ap, subst, ◌∙◌}
use Rattle.m3_base.specs.Words.{add_words}
use Rattle.m3_isa.specs.Effects.{reg}
use Rattle.m3_threads.specs.declared.answers.Done.TheVariants.{Went}
use Rattle.m3_threads.specs.declared.status.Thread.{Thread}
use Rattle.m3_threads.specs.All.{Everyone}
use Rattle.m3_isa.specs.Memory.{Memory}
use Rattle.m3_threads.specs.Spaces.{held, replaceable, put_inside, put_outside}
use Rattle.m3_threads.specs.Actions.{After, IsAfter, ends, ended, putting}
use Rattle.m3_threads.proofs.Steps.{loading-done, putting-done, put_outside-same, replaceable-same}
use Rattle.m3_threads.proofs.threads.Threads.end.Goals as goal

abbrev after : Thread → Everyone → Memory → After
after x all memory = record { answer = Went; all = ended x all; memory = memory }

pub returns-clause-after : goal.returns-clause-after
returns-clause-after g c = λ t e.
    let all = c.args.self.now in
    let m = g.W.Words.holds c.args.mem.now in
    let can = g.W.Words.writable c.args.mem.now in
    let i = c.args.i in
    let x = c.thread-t.result in
    let same : x ≡ t = cc in
    let cell = c.in-Some.cell in
    let a = add_words cell 3 in
    let b = add_words cell 2 in
    let r = reg x.regs i.a in
    let one = put_inside all a r in
    let m1 = put_outside all m a r in
    let last = λ (v : Everyone) (n : Memory). after x v n in
    let then = λ (v : Everyone) (n : Memory). putting v n can b 1 last in
    let word = c.register.ensures in
    let first = c.store.ensures.inside c.if-not-store.false ∙ ap (put_inside all a) word in
    let second = c.store-2.ensures.inside c.if-not-store-2.false ∙ ap (λ v. put_inside v b 1) first in
    let can-one : replaceable all can a ≡ true = sym c.store.ensures.answer ∙ c.if-not-store.false in
    let can-two : replaceable one can b ≡ true = replaceable-same one can (g.W.Words.writable c.store.new.mem) b (sym (c.store.ensures.writable b)) ∙ ap (λ v. replaceable v (g.W.Words.writable c.store.new.mem) b) (sym first) ∙ sym c.store-2.ensures.answer ∙ c.if-not-store-2.false in
    let loaded = sym c.load.ensures ∙ c.in-Some.is in
    let effect : ends x i all m can ≡ last (put_inside one b 1) (put_outside one m1 b 1) =
    loading-done all m (held all m (add_words x.regs.fp 2)) cell (λ (cell : ℕ). putting all m can (add_words cell 3) r (λ (v : Everyone) (n : Memory). putting v n can (add_words cell 2) 1 last)) loaded
    ∙ putting-done all m can a r then can-one ∙ putting-done one m1 can b 1 last can-two in
    let held-one = λ (y : ℕ). c.store.ensures.outside c.if-not-store.false y ∙ ap (λ n. put_outside all m a n y) word in
    let done : IsAfter (last (put_inside one b 1) (put_outside one m1 b 1)) Went c.remove.new.self (g.W.Words.holds c.store-2.new.mem) = record {
      answered = refl;
      threads = c.remove.ensures ∙ ap (ended x) second;
      outside = λ y. c.store-2.ensures.outside c.if-not-store-2.false y ∙ ap (λ v. put_outside v (g.W.Words.holds c.store.new.mem) b 1 y) first
          ∙ put_outside-same one (g.W.Words.holds c.store.new.mem) m1 b 1 y (held-one y);
    } in
    subst (λ u. IsAfter (ends u i all m can) Went c.remove.new.self (g.W.Words.holds c.store-2.new.mem)) same
    (subst (λ f. IsAfter f Went c.remove.new.self (g.W.Words.holds c.store-2.new.mem)) (sym effect) done)
