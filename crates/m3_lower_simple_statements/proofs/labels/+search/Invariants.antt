use Rattle.m3_lower_simple_statements.proofs.labels.+search.Given as goal

abbrev pub decreases-search : goal.decreases-search
decreases-search l = l.count
