use Rattle.std.proofs.Common.{◌≡◌, ◌≤◌, ◌+◌, ◌-◌, length, drop, take, []}
use Rattle.m3_plain.specs.Lexing.{lexed}
use Rattle.m3_plain.proofs.lexing.lex.Given as goal

-- what is left, after the word that is open, makes the tokens of the whole text of those so far
abbrev pub invariant-loop-i : goal.invariant-loop-i
invariant-loop-i l = record {
  tokens : lexed l.tokens.items l.line (take (l.i - l.start) (drop l.start l.text)) (drop l.i l.text) ≡ lexed [] 1 [] l.text;
  opened : l.start ≤ l.i;
  within : l.i ≤ length l.text;
  lines : l.line ≤ l.i + 1;
}
