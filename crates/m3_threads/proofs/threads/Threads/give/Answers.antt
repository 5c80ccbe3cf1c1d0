use Rattle.std.proofs.Common.{Some, refl, sym, ap, ◌∙◌}
use Rattle.m3_threads.specs.All.{thread_named, updated}
use Rattle.m3_threads.specs.Actions.{given, with_threads}
use Rattle.m3_threads.proofs.Places.{find-updated}
use Rattle.m3_threads.proofs.threads.Threads.give.Goals as goal

pub returns-clause-named : goal.returns-clause-named
returns-clause-named c =
    let t = c.args.t in
    let all = c.args.self.now in
    let f = given c.args.a c.args.word in
    let e = c.set.ensures.set f t c.requires.there (sym c.given-given.ensures) in
    let h = find-updated f t.number t all.threads (λ u. refl) c.requires.there in
    let number = ap (λ u. u.number) c.given-given.ensures in
    ap (λ v. thread_named v c.given-given.result.number) e
    ∙ ap (λ n. thread_named (with_threads all (updated f t.number all.threads)) n) number ∙ h ∙ ap Some (sym c.given-given.ensures)
