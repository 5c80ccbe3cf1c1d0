-- How loosely expressions bind.
use Rattle.m3_read_grammar.specs.declared.operators.Level.{Level}
use Rattle.m3_read_grammar.specs.declared.operators.Level.TheVariants.{Disjunction, Conjunction, Relation, Sum, Product}

-- The ranks of the report's syntax, the loosest first: whole expressions, operands of OR, of AND, of NOT, of
-- relations, of sums, of products, of signs, of selectors.
pub data Rank : Type 0 where
  whole : Rank
  e1 : Rank
  e2 : Rank
  e3 : Rank
  e4 : Rank
  e5 : Rank
  e6 : Rank
  e7 : Rank
  e8 : Rank

-- the next tighter rank
abbrev pub next : Rank → Rank
next whole = e1
next e1 = e2
next e2 = e3
next e3 = e4
next e4 = e5
next e5 = e6
next e6 = e7
next e7 = e8
next e8 = e8

-- the rank of what has operators of a level
abbrev pub rank_of : Level → Rank
rank_of Disjunction = whole
rank_of Conjunction = e1
rank_of Relation = e3
rank_of Sum = e4
rank_of Product = e5
