-- How loosely a level of operators binds: an operand of a level is of the next tighter one.
use Rattle.std.proofs.Common.{ℕ}
use Rattle.m3_read_grammar.specs.declared.operators.Level.{Level}
use Rattle.m3_read_grammar.specs.declared.operators.Level.TheVariants.{Disjunction, Conjunction, Relation, Sum, Product}

abbrev pub looseness : Level → ℕ
looseness Product = 0
looseness Sum = 1
looseness Relation = 2
looseness Conjunction = 3
looseness Disjunction = 4
