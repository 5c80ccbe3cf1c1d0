use Rattle.std.proofs.Common.{◌≡◌, length}
use Rattle.m3_plain.specs.Terms.{term_of}
use Rattle.m3_plain.specs.Parsing.{sum_on, sum_at, left_of}
use Rattle.m3_plain.proofs.parsing.sum.Given as goal

-- what is left makes the Sum of all the tokens
abbrev pub invariant-loop-op : goal.invariant-loop-op
invariant-loop-op l = sum_on (left_of l.left) (term_of l.product) l.rest ≡ sum_at l.tokens

abbrev pub decreases-loop-op : goal.decreases-loop-op
decreases-loop-op l = length l.rest
