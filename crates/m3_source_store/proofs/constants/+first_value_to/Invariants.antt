use Rattle.m3_source_store.proofs.constants.+first_value_to.Given as goal

abbrev pub decreases-first_value_to : goal.decreases-first_value_to
decreases-first_value_to l = l.limit
