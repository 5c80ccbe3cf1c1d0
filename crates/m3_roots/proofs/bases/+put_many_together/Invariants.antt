use Rattle.m3_roots.proofs.bases.+put_many_together.Given as goal

abbrev pub decreases-put_many_together : goal.decreases-put_many_together
decreases-put_many_together g l = l.count
