use Rattle.std.specs.Prelude.{◌≡◌, ◌<◌, ◌^◌}
use Rattle.m3_image_sections.specs.PartViews.{names_of}
use Rattle.m3c_image_commands.specs.Reports.{longest}
use Rattle.m3c_image_commands.proofs.line.longest_of.Given as goal

abbrev pub invariant-names : goal.invariant-names
invariant-names l = (longest l.longest (names_of l.name-iterator) ≡ longest l.fn.least (names_of l.fn.names)) × (l.longest < 2 ^ 63)
