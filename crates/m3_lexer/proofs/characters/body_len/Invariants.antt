use Rattle.std.proofs.Common.{◌≡◌, ◌+◌, length}
use Rattle.m3_lexer.specs.Reading.{body_len, plus}
use Rattle.m3_lexer.proofs.characters.body_len.Given as goal

abbrev pub invariant-loop-rest : goal.invariant-loop-rest
invariant-loop-rest l = record {
  passed : l.len + length l.rest ≡ length l.text;
  rest : plus l.len (body_len l.rest) ≡ body_len l.text;
}

abbrev pub decreases-loop-rest : goal.decreases-loop-rest
decreases-loop-rest l = length l.rest
