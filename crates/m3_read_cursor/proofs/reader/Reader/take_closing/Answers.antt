use Rattle.std.proofs.Common.{refl, length}
use Rattle.m3_read_cursor.proofs.Rests.{misnamed, one_fault}
use Rattle.m3_read_cursor.proofs.reader.Reader.take_closing.Goals as goal

pub returns-then-is_none-clause-follows : goal.returns-then-is_none-clause-follows
returns-then-is_none-clause-follows c =
    let follows = c.take_name-closing.ensures.follows in
    let named = c.take_name-closing.new.self in
    record {
      onward = follows.onward;
      still = λ what h. misnamed named _ refl (one_fault named.wrong_closing (length c.args.self.now.rest.now)) refl what (follows.still what h);
    }
