use Rattle.std.proofs.Common.{◌≡◌, ◌≤◌, ℕ}
use Rattle.std.specs.Prelude.{not, ◌||◌, nat_lt}
use Rattle.m3_tables.specs.Sections.{is_tidy, tidy_all}
use Rattle.m3_tables.proofs.section.Section.all_tidy_below.Given as goal

abbrev pub invariant-loop-listing : goal.invariant-loop-listing
invariant-loop-listing l =
    let test = λ (n : ℕ). not (is_tidy l.self.bytes.now l.row n) || nat_lt n l.limit in
    (l.at ≤ l.row) × (tidy_all test l.self.bytes.now l.at ≡ tidy_all test l.self.bytes.now l.row)

abbrev pub decreases-loop-listing : goal.decreases-loop-listing
decreases-loop-listing l = l.at
