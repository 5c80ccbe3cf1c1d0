use Rattle.std.proofs.Common.{◌≡◌, ◌+◌, ◌≤◌, drop}
use Rattle.m3_syntax.specs.Lexis.{place_after}
use Rattle.m3_lexer.proofs.places.place_after.Given as goal

abbrev pub invariant-loop-byte : goal.invariant-loop-byte
invariant-loop-byte l = record {
  line : l.place.line ≤ l.fn.pos.line + l.byte-index;
  column : l.place.col ≤ l.fn.pos.col + l.byte-index;
  rest : place_after l.place (drop l.byte-index l.front) ≡ place_after l.fn.pos l.front;
}
