use Rattle.std.proofs.Common.{List, drop}
use Rattle.m3_plain.specs.declared.tokens.Token.{Token}
use Rattle.m3_plain.specs.Parsing.{After}
use Rattle.m3_plain.proofs.parsing.after.Given as goal

-- the kinds that are left lead from the tokens that are left to the same rests
abbrev pub invariant-loop-kind : goal.invariant-loop-kind
invariant-loop-kind l = record {
  back : (rest : List Token) → After (drop l.kind-index l.kinds) l.left rest → After l.kinds l.tokens rest;
  forth : (rest : List Token) → After l.kinds l.tokens rest → After (drop l.kind-index l.kinds) l.left rest;
}
