use Rattle.std.proofs.Common.{◌≡◌, ◌+◌, ◌≤◌, length}
use Rattle.m3_lexer.specs.Reading.{closed_len, plus}
use Rattle.m3_lexer.proofs.marks.closed_len.Given as goal

-- what was passed and what is still to come is what comes in all
abbrev pub invariant-loop-depth : goal.invariant-loop-depth
invariant-loop-depth l = record {
  passed : l.len + length l.rest ≡ length l.text;
  few : l.depth ≤ l.len + 1;
  rest : plus l.len (closed_len l.left l.right l.depth l.rest) ≡ closed_len l.left l.right 1 l.text;
}

abbrev pub decreases-loop-depth : goal.decreases-loop-depth
decreases-loop-depth l = length l.rest
