use Rattle.std.proofs.Common.{◌+◌, ◌≤◌, length}
use Rattle.m3_syntax.specs.Lexis.{first_place, Reads}
use Rattle.m3_lexer.proofs.tokens.lex.Given as goal

-- the tokens so far lead to this place, and no line or column is past what has been read
abbrev pub invariant-loop-rest : goal.invariant-loop-rest
invariant-loop-rest l = record {
  so_far : Reads (first_place l.file) l.src l.tokens.items l.pos l.rest;
  inside : length l.rest ≤ length l.src;
  line : l.pos.line + length l.rest ≤ 1 + length l.src;
  column : l.pos.col + length l.rest ≤ 1 + length l.src;
}

abbrev pub decreases-loop-rest : goal.decreases-loop-rest
decreases-loop-rest l = length l.rest
