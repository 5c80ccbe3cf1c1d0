use Rattle.std.proofs.Common.{arith}
use Rattle.m3_image_writer.proofs.Lengths.{list_count}
use Rattle.m3_image_writer.proofs.Again.{all_small, list_again}
use Rattle.m3_image_writer.proofs.Joined.{holds_on_ok}
use Rattle.m3_image_writer.proofs.fields.put_list.Goals as goal

pub overflow_cast-words : goal.overflow_cast-words
overflow_cast-words c = omega (arith, c.requires, list_count c.args.words.now)

pub returns-clause-again : goal.returns-clause-again
returns-clause-again c =
    let count = list_count c.args.words.now in
    holds_on_ok c.put_words.result _ (list_again c.args.words.now (all_small c.args.words.now (λ i. omega (arith, c.type_inv.words i))) (omega (arith, c.requires)))
