use Rattle.std.proofs.Common.{◌≡◌, ℕ, length}
use Rattle.std.specs.Prelude.{nat_lt}
use Rattle.std.specs.List.{list_all}
use Rattle.m3_image_sections.specs.PartViews.{names_of, pairs_of}
use Rattle.m3_image.proofs.program.Places.fit.Given as goal

abbrev pub invariant-loop-file : goal.invariant-loop-file
invariant-loop-file l =
    let test = λ (place : ℕ × ℕ). nat_lt place.0 (length (names_of l.self.files)) in
    list_all test (pairs_of l.file-iterator) ≡ list_all test (pairs_of l.self.places)
