use Rattle.m3_heap_bench.proofs.tests.collected.Given as goal

abbrev pub ghosts-collect_with : goal.ghosts-collect_with
ghosts-collect_with a = record { name = a.blank.name; parts = a.blank.parts }
