use Rattle.std.proofs.Common.{sym, ◌∙◌}
use Rattle.m3c_words.proofs.Readings.{number_read, plus_is_none}
use Rattle.m3c_words.proofs.ranges.number_in.Goals as goal

pub returns-then-has_plus : goal.returns-then-has_plus
returns-then-has_plus c = sym (plus_is_none c.args.word.now (sym c.has_plus.ensures ∙ c.if-has_plus.true))

pub returns : goal.returns
returns c = c.ok.ensures.value ∙ number_read c.args.word.now c.parse.result (sym c.has_plus.ensures ∙ c.if-has_plus.false) c.parse.ensures.value.0
