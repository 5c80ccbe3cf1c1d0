use Rattle.m3_roots.proofs.listing.bar_path.Goals as goal

pub returns-in-Some : goal.returns-in-Some
returns-in-Some c = rw (← c.in-Some.ensures) c.bar.ensures
