use Rattle.std.proofs.Common.{sym, arith}
use Rattle.m3_tables.specs.Numbers.{word_in}
use Rattle.m3_tables.proofs.SectionLemmas.{first_bad-some, first_bad-none}
use Rattle.m3_tables.proofs.table.TableView.front.Goals as goal

pub invariant_of-front : goal.invariant_of-front
invariant_of-front c =
    let section = c.args.bytes.now in
    let found = first_bad-some section (word_in section) c.in-Some.row (sym c.in-Some.ensures) in
    record { within = omega (arith, found.0); good = first_bad-none section c.in-Some.row found.1 }

pub invariant_of-front-in-None : goal.invariant_of-front-in-None
invariant_of-front-in-None c =
    let section = c.args.bytes.now in
    record { within = omega (arith, c.word-count.ensures); good = λ k lt. first_bad-none section (word_in section) (sym c.in-None.ensures) k (omega (arith, c.word-count.ensures)) }
