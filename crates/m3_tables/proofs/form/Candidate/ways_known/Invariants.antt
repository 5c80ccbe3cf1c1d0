use Rattle.std.proofs.Common.{◌≡◌, List, not, ◌||◌}
use Rattle.std.specs.List.{list_all}
use Rattle.m3_tables.specs.Rows.{Entry}
use Rattle.m3_tables.specs.Sections.{is_tidy, is_listed, bases_known}
use Rattle.m3_tables.specs.Views.{ways_of, entry_of, contents_of}
use Rattle.m3_tables.specs.Windows.{has_mark, MarkThose}
use Rattle.m3_tables.proofs.form.Candidate.ways_known.Given as goal

abbrev pub invariant-loop-way : goal.invariant-loop-way
invariant-loop-way l =
    (later : List Entry) → MarkThose l.marks l.from later →
    (let test = bases_known (λ n. not (has_mark l.marks l.from n) || is_listed (is_tidy l.self.section.bytes.now l.self.row) (contents_of l.self.contents) n) later in
    list_all test (ways_of l.way-iterator) ≡ list_all test (entry_of l.entry).ways)
