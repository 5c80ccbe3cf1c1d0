use Rattle.m3c_image_commands.proofs.running.run_view.Given as goal

abbrev pub ghosts-run_by : goal.ghosts-run_by
ghosts-run_by g a = record { name = a.blank.name; parts = a.blank.parts }

abbrev pub ghosts-run_by-2 : goal.ghosts-run_by-2
ghosts-run_by-2 g a = record { name = a.blank.name; parts = a.blank.parts }
