use Rattle.std.proofs.Common.{◌≡◌, ℕ}
use Rattle.std.specs.Prelude.{not, ◌||◌, nat_lt}
use Rattle.std.specs.List.{list_all}
use Rattle.m3_tables.specs.Sections.{is_tidy}
use Rattle.m3_tables.specs.Views.{numbers_of}
use Rattle.m3_tables.proofs.section.Section.tidy_below.Given as goal

abbrev pub invariant-loop-place : goal.invariant-loop-place
invariant-loop-place l =
    let test = λ (n : ℕ). not (is_tidy l.self.bytes.now l.row n) || nat_lt n l.limit in
    list_all test (numbers_of l.place-iterator) ≡ list_all test (numbers_of l.fn.places)
