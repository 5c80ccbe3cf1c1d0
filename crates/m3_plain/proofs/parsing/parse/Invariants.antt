use Rattle.std.proofs.Common.{length}
use Rattle.m3_plain.specs.Terms.{terms_of}
use Rattle.m3_plain.proofs.Parsings.{Leaves}
use Rattle.m3_plain.proofs.parsing.parse.Given as goal

abbrev pub invariant-loop-alloc : goal.invariant-loop-alloc
invariant-loop-alloc l = Leaves l.initial.rest (terms_of l.puts.items) l.rest

abbrev pub decreases-loop-alloc : goal.decreases-loop-alloc
decreases-loop-alloc l = length l.rest
