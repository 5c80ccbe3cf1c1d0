use Rattle.std.proofs.Common.{◌≡◌, length}
use Rattle.m3_lexer.specs.Reading.{is_well_escaped}
use Rattle.m3_lexer.proofs.characters.is_well_escaped.Given as goal

abbrev pub invariant-loop-rest : goal.invariant-loop-rest
invariant-loop-rest l = is_well_escaped l.rest ≡ is_well_escaped l.body

abbrev pub decreases-loop-rest : goal.decreases-loop-rest
decreases-loop-rest l = length l.rest
