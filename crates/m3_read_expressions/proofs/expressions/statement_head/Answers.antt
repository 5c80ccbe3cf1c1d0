use Rattle.std.proofs.Common.{◌≡◌, true, is_some, subst, rules}
use Rattle.m3_read_grammar.specs.Ranks.{whole}
use Rattle.m3_read_cursor.proofs.Rests.{still}
use Rattle.m3_read_expressions.proofs.Spelling.{stopped, same_rest, kept_spells}
use Rattle.m3_read_expressions.specs.Spelled.{FoundSpells}
use Rattle.m3_read_expressions.proofs.expressions.statement_head.Goals as goal

pub returns-in_default-clause-reads : goal.returns-in_default-clause-reads
returns-in_default-clause-reads c = record {
  spelled = λ h.
      let some : is_some c.inside_expression.new.reader.stop ≡ true = search rules in
      stopped some h;
}

pub returns-clause-reads : goal.returns-clause-reads
returns-clause-reads c = record {
  spelled = λ h.
      let kept = c.kept_value.ensures in
      let same : c.inside_expression.new.reader ≡ c.args.reader.now = search rules in
      let spelled = subst (λ x. FoundSpells whole x c.operations-found.new.reader.rest.now c.operations-found.result) (same_rest same) (c.operations-found.ensures.reads.spelled (still kept.follows h)) in
      kept_spells {rank = whole} spelled (kept.value h) (kept.stays h);
}
