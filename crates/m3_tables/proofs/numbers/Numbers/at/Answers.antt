use Rattle.std.proofs.Common.{ap, sym, ◌∙◌, ◌*◌}
use Rattle.std.proofs.lemmas.List.{take_rest}
use Rattle.m3_tables.specs.Numbers.{word_in}
use Rattle.m3_tables.proofs.NumberLemmas.{number_at}
use Rattle.m3_tables.proofs.numbers.Numbers.at.Goals as goal

pub returns : goal.returns
returns c =
    c.word.ensures ∙ ap word_in (take_rest c.args.self.now.bytes.now (4 * c.args.place)) ∙ sym (number_at c.args.self.now.count c.args.self.now.bytes.now c.args.place c.requires)
