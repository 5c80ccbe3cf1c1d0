use Rattle.std.proofs.Common.{◌≡◌, ◌≤◌}
use Rattle.m3_tables.specs.Sections.{is_tidy}
use Rattle.m3_tables.proofs.section.Section.is_tidy.Given as goal

abbrev pub invariant-loop-listing : goal.invariant-loop-listing
invariant-loop-listing l = (l.row ≤ l.fn.row) × (is_tidy l.self.bytes.now l.row l.place ≡ is_tidy l.self.bytes.now l.fn.row l.place)

abbrev pub decreases-loop-listing : goal.decreases-loop-listing
decreases-loop-listing l = l.row
