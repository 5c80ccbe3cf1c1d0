-- What a row says, with places as numbers.
use Rattle.std.specs.Prelude.{ℕ, Bool, if◌then◌else◌, List, [], Option}
use Rattle.std.specs.Option.{option_and_then}
use Rattle.std.specs.List.{slice_get}

-- the bases that are added up to a derived word, and those that are taken away
pub record Bases : Type 0 where
  pub added : List ℕ
  pub subtracted : List ℕ

-- a derived word: where it is, the place of the number that picks its way, and the bases on each way
pub record Entry : Type 0 where
  pub location : ℕ
  pub path : Option ℕ
  pub ways : List Bases

-- a base of a way, of those added or of those subtracted
abbrev pub base_in : Entry → ℕ → Bool → ℕ → Option ℕ
base_in e way is_added n = option_and_then (λ w. slice_get (if is_added then w.added else w.subtracted) n) (slice_get e.ways way)

-- all of a row but its tidy places: the arguments by value, the formals that the caller describes,
-- and the derived words
pub record Contents : Type 0 where
  pub arguments : List ℕ
  pub passed : List ℕ
  pub derived : List Entry

abbrev pub nothing : Contents
nothing = record { arguments = []; passed = []; derived = [] }

-- how a row tells its tidy places: all of them, or those that go and those that come, or that they are
-- those of the row before
pub data Tidies : Type 0 where
  All_of : (places : List ℕ) → Tidies
  Changed : (removed added : List ℕ) → Tidies
  Unchanged : Tidies
