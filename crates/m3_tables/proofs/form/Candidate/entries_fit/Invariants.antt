use Rattle.std.proofs.Common.{◌≡◌, ◌≤◌, ◌-◌, ◌^◌, true, length}
use Rattle.std.specs.Prelude.{nat_lt}
use Rattle.m3_tables.specs.Sections.{is_tidy, is_listed}
use Rattle.m3_tables.specs.Views.{entries_of, contents_of}
use Rattle.m3_tables.specs.Windows.{AreClear, window_fits}
use Rattle.m3_tables.proofs.form.Candidate.entries_fit.Given as goal

abbrev pub invariant-loop-place : goal.invariant-loop-place
invariant-loop-place l = record {
  fit : window_fits (λ n. nat_lt n l.from) (is_listed (is_tidy l.self.section.bytes.now l.self.row) (contents_of l.self.contents)) (entries_of l.self.contents.derived) ≡ true;
  clear : AreClear l.marks;
  length : length l.marks ≡ 65536;
  below : l.from ≤ 2 ^ 33;
}

abbrev pub decreases-loop-place : goal.decreases-loop-place
decreases-loop-place l = 2 ^ 33 - l.from
