use Rattle.std.proofs.Common.{◌≡◌}
use Rattle.std.specs.List.{list_all}
use Rattle.m3_tables.specs.Sections.{was_tidy}
use Rattle.m3_tables.specs.Views.{numbers_of}
use Rattle.m3_tables.proofs.section.Section.were_tidy.Given as goal

abbrev pub invariant-loop-place : goal.invariant-loop-place
invariant-loop-place l =
    list_all (was_tidy l.self.bytes.now l.row) (numbers_of l.place-iterator) ≡ list_all (was_tidy l.self.bytes.now l.row) (numbers_of l.fn.places)
