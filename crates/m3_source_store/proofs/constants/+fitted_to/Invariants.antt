use Rattle.m3_source_store.proofs.constants.+fitted_to.Given as goal

abbrev pub decreases-fitted_to : goal.decreases-fitted_to
decreases-fitted_to l = l.limit
