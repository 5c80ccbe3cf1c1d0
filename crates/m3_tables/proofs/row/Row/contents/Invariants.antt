use Rattle.std.proofs.Common.{◌≡◌, ◌≤◌}
use Rattle.m3_tables.specs.Sections.{contents_in}
use Rattle.m3_tables.proofs.row.Row.contents.Given as goal

abbrev pub invariant-loop-listing : goal.invariant-loop-listing
invariant-loop-listing l = (l.row ≤ l.self.number) × (contents_in l.self.section.bytes.now l.row ≡ contents_in l.self.section.bytes.now l.self.number)

abbrev pub decreases-loop-listing : goal.decreases-loop-listing
decreases-loop-listing l = l.row
