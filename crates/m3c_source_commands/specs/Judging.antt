-- What a checker may say of sources.
use Rattle.std.specs.Prelude.{ℕ, Option, Some, List, map}
use Rattle.m3_base.specs.declared.places.Source.{Source}
use Rattle.m3_base.specs.declared.refusals.Refusal.{Refusal as Broken}
use Rattle.m3_base.specs.declared.refusals.Refused.{Refused}
use Rattle.m3_base.specs.declared.refusals.Refused.TheVariants.{Rule, NoMemory}

-- what may be said of files with these names and these texts: that they break this rule at its place, or none
abbrev pub Judgement : Type 1
Judgement = List (List ℕ) → List (List ℕ) → Option Broken → Type 0

-- whatever the checker of the product says
abbrev pub ByChecker : Judgement
ByChecker names texts said = Unit {0}

-- that of some program, whose files have no names in a command
abbrev pub OfSome : Judgement → Judgement
OfSome judges names texts said = (own : List (List ℕ)) × (written : List (List ℕ)) × judges own written said

abbrev pub names_in : List Source → List (List ℕ)
names_in sources = map (λ source. source.name.now) sources

abbrev pub texts_in : List Source → List (List ℕ)
texts_in sources = map (λ source. source.text.now) sources

-- of a rule that is refused it may be said that it is broken
abbrev pub MaySay : (Option Broken → Type 0) → Refused → Type 0
MaySay Says (Rule broken) = Says (Some broken)
MaySay Says NoMemory = Unit {0}
