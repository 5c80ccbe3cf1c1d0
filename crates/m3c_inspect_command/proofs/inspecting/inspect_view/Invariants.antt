use Rattle.m3c_inspect_command.proofs.inspecting.inspect_view.Given as goal

abbrev pub ghosts-inspect_by : goal.ghosts-inspect_by
ghosts-inspect_by g a = record { name = a.blank.name; parts = a.blank.parts }

abbrev pub ghosts-inspect_by-2 : goal.ghosts-inspect_by-2
ghosts-inspect_by-2 g a = record { name = a.blank.name; parts = a.blank.parts }
