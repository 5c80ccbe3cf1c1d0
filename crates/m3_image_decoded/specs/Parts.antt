-- Parts of a list of numbers.
use Rattle.std.specs.Prelude.{◌≡◌, ℕ, ◌-◌, ◌≤◌, List, length, take, drop}
use Rattle.m3_image_decoded.specs.declared.span.Span.{Span}

-- the numbers from a place on and before another
abbrev pub part : List ℕ → Span → List ℕ
part numbers s = take (s.to - s.from) (drop s.from numbers)

-- a part of a list
pub record IsSpan (numbers : List ℕ) (s : Span) : Type 0 where
  pub order : s.from ≤ s.to
  pub within : s.to ≤ length numbers

-- a list that grew behind what was there
pub record KeepsParts (old new : List ℕ) : Type 0 where
  pub longer : length old ≤ length new
  pub parts : (s : Span) → IsSpan old s → part new s ≡ part old s
