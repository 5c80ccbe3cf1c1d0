use Rattle.std.proofs.Common.{Some, sym, ap, ◌∙◌, arith}
use Rattle.std.proofs.lemmas.Option.{slice_get-get_or, slice_get_past}
use Rattle.m3_tables.specs.Views.{numbers_of}
use Rattle.m3_tables.proofs.NumberLemmas.{length-numbers}
use Rattle.m3_tables.proofs.numbers.Numbers.get.Goals as goal

pub returns-then-place-self : goal.returns-then-place-self
returns-then-place-self c =
    let ln = length-numbers c.args.self.now.count c.args.self.now.bytes.now in
    ap Some c.at.ensures ∙ sym (slice_get-get_or (numbers_of c.args.self.now) c.args.place 0 (omega arith))

pub returns-else-place-self : goal.returns-else-place-self
returns-else-place-self c =
    let ln = length-numbers c.args.self.now.count c.args.self.now.bytes.now in
    sym (slice_get_past (numbers_of c.args.self.now) c.args.place (omega arith))
