use Rattle.std.proofs.Common.{◌≡◌, None, length}
use Rattle.m3_tables.specs.Sections.{first_bad, start_of}
use Rattle.m3_tables.specs.Windows.{AreClear}
use Rattle.m3_tables.proofs.section.Section.first_bad.Given as goal

abbrev pub invariant-loop-row : goal.invariant-loop-row
invariant-loop-row l = record {
  good : first_bad l.self.bytes.now l.row ≡ None;
  start : l.start ≡ start_of l.self.bytes.now l.row;
  clear : AreClear l.marks;
  length : length l.marks ≡ 65536;
}
