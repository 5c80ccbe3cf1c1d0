use Rattle.std.proofs.Common.{rules, refl}
use Rattle.std.proofs.lemmas.List.{take_rest}
use Rattle.m3_read_cursor.proofs.Rests.{stepped}
use Rattle.m3_read_cursor.proofs.reader.Reader.step.Goals as goal

pub returns-in-len1-up-clause-follows : goal.returns-in-len1-up-clause-follows
returns-in-len1-up-clause-follows c = record {
  onward = search rules;
  still = stepped c.args.self.now _ refl refl c.in-len1-up.len_at_least (take_rest c.args.self.now.rest.now 1);
}
