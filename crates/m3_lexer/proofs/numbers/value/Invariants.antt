use Rattle.std.proofs.Common.{◌≡◌, ◌<◌, ◌^◌, drop}
use Rattle.m3_syntax.specs.Lexis.{value, value_behind}
use Rattle.m3_lexer.proofs.numbers.value.Given as goal

abbrev pub invariant-loop-digit : goal.invariant-loop-digit
invariant-loop-digit l = record {
  small : l.number < 2 ^ 64;
  rest : value_behind l.base l.number (drop l.digit-index l.digits) ≡ value l.base l.digits;
}
