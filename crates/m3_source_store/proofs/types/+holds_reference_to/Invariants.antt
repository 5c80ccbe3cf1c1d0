use Rattle.m3_source_store.proofs.types.+holds_reference_to.Given as goal

abbrev pub decreases-holds_reference_to : goal.decreases-holds_reference_to
decreases-holds_reference_to l = l.limit
