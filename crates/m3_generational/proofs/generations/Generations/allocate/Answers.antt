use Rattle.m3_generational.proofs.generations.Generations.allocate.Goals as goal

pub returns-then-words-free_words-clause-allots : goal.returns-then-words-free_words-clause-allots
returns-then-words-free_words-clause-allots c = c.refuse.ensures.allots c.args.kind
