use Rattle.std.proofs.Common.{◌≡◌, true, length}
use Rattle.m3_tables.specs.Sections.{is_tidy, is_listed}
use Rattle.m3_tables.specs.Views.{entries_of, contents_of}
use Rattle.m3_tables.specs.Windows.{has_mark, MarkThose, places_apart, bases_come}
use Rattle.m3_tables.proofs.form.Candidate.bases_fit.Given as goal

abbrev pub invariant-loop-entry : goal.invariant-loop-entry
invariant-loop-entry l =
    let has = has_mark l.initial.marks l.from in
    let test = bases_come has (is_listed (is_tidy l.self.section.bytes.now l.self.row) (contents_of l.self.contents)) in
    record {
      fit : test (entries_of l.later) ≡ test (entries_of l.self.contents.derived);
      marked : MarkThose l.marks l.from (entries_of l.later);
      apart : places_apart has (entries_of l.later) ≡ true;
      length : length l.marks ≡ length l.initial.marks;
    }

abbrev pub decreases-loop-entry : goal.decreases-loop-entry
decreases-loop-entry l = length (entries_of l.later)
