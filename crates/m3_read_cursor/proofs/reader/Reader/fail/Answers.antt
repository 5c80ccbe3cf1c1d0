use Rattle.std.proofs.Common.{rules}
use Rattle.m3_read_cursor.proofs.Rests.{failed}
use Rattle.m3_read_cursor.proofs.reader.Reader.fail.Goals as goal
use Rattle.m3_read_cursor.proofs.reader.Reader.fail.Goals.{then-is_none, else-is_none}

pub returns-clause-follows : goal.returns-clause-follows
returns-clause-follows c = record {
  onward = search rules;
  still =
      failed c.args.self.now _
      (elim c.if-is_none.branch [ then-is_none w ↦ search rules | else-is_none w ↦ search rules ])
      (elim c.if-is_none.branch [ then-is_none w ↦ search rules | else-is_none w ↦ search rules ])
      (search rules);
}
