-- What a text begins with, by the lexis.
use Rattle.std.specs.Prelude.{◌≤◌, ◌<◌, ℕ, List, length, take, Result, Ok, Err}
use Rattle.m3_syntax.specs.Lexis.{IsSkip, Stands, Breaks}
use Rattle.m3_lexer.specs.declared.fronts.Front.{Front}
use Rattle.m3_lexer.specs.declared.fronts.Front.TheVariants.{Skipped, Spelled}

-- so many bytes are skipped, or are a token of this kind; or this rule is broken
abbrev pub IsFront : List ℕ → Result Front ℕ → Type 0
IsFront text (Ok (Skipped n)) = (n ≤ length text) × (0 < n) × IsSkip (take n text)
IsFront text (Ok (Spelled kind n)) = (n ≤ length text) × (0 < n) × Stands text (take n text) kind
IsFront text (Err rule) = Breaks text rule
