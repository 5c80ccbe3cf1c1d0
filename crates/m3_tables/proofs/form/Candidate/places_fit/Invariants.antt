use Rattle.std.proofs.Common.{◌≡◌}
use Rattle.m3_tables.specs.Sections.{is_tidy, is_listed}
use Rattle.m3_tables.specs.Views.{entries_of, contents_of}
use Rattle.m3_tables.specs.Windows.{places_fit}
use Rattle.m3_tables.proofs.form.Candidate.places_fit.Given as goal

abbrev pub invariant-loop-entry : goal.invariant-loop-entry
invariant-loop-entry l =
    let test = places_fit (is_listed (is_tidy l.self.section.bytes.now l.self.row) (contents_of l.self.contents)) in
    test (entries_of l.entry-iterator) ≡ test (entries_of l.self.contents.derived)
