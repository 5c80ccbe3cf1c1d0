use Rattle.std.proofs.Common.{◌≡◌, ℕ, not, ◌||◌}
use Rattle.std.specs.List.{list_all}
use Rattle.m3_tables.specs.Sections.{is_tidy, is_listed}
use Rattle.m3_tables.specs.Views.{numbers_of, contents_of}
use Rattle.m3_tables.specs.Windows.{has_mark, mark_at}
use Rattle.m3_tables.proofs.form.Candidate.places_known.Given as goal

abbrev pub invariant-loop-place : goal.invariant-loop-place
invariant-loop-place l =
    let test = λ (n : ℕ). not (has_mark l.marks l.from n) || (mark_at l.marks l.from n || is_listed (is_tidy l.self.section.bytes.now l.self.row) (contents_of l.self.contents) n) in
    list_all test (numbers_of l.place-iterator) ≡ list_all test (numbers_of l.fn.places)
