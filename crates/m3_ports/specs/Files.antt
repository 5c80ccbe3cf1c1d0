-- What a shelf tells of its files, and what a call leaves of them and of the bytes that it was given.
use Rattle.std.specs.Prelude.{◌≡◌, ◌≢◌, ℕ, ◌+◌, ◌<◌, ◌≤◌, ◌⊎◌, List, [], ◌++◌, length, take, Option, None, Some, IfSome, IsSomeAnd, MatchOption, Result, OnOk, IsErrOf}
use Rattle.std.specs.Ordering.{nat_cmp}
use Rattle.std.specs.Cmp.Lexicographic.{slice_cmp}
use Rattle.std.specs.FinMap.{FinMap, get, from_entries}
use Rattle.m3_ports.specs.declared.shelves.ShelfFault.{ShelfFault}
use Rattle.m3_ports.specs.declared.shelves.ShelfFault.TheVariants.{Absent, TooLong, Failed, NoMemory}

-- files: bytes under names
abbrev pub Files : Type 0
Files = FinMap (slice_cmp nat_cmp) (List ℕ)

-- one list of bytes is a front of another
abbrev pub IsFront : List ℕ → List ℕ → Type 0
IsFront front bytes = (rest : List ℕ) × (bytes ≡ front ++ rest)

-- what a fault leaves of the bytes that a sink took and a piece behind them: a front, and of the bytes at least those
-- that didn't wait
abbrev pub LeavesAtFault : ℕ → List ℕ → List ℕ → List ℕ → Type 0
LeavesAtFault waiting before piece after = IsFront after (before ++ piece) × (length before ≤ length after + waiting)

-- `after` is `before` and at most `cap` bytes more
abbrev pub GrowsWithin : ℕ → List ℕ → List ℕ → Type 0
GrowsWithin cap before after = (bytes : List ℕ) × (after ≡ before ++ bytes) × (length bytes ≤ cap)

-- `after` is `before` and `cap` bytes more
abbrev pub GrowsBy : ℕ → List ℕ → List ℕ → Type 0
GrowsBy cap before after = (bytes : List ℕ) × (after ≡ before ++ bytes) × (length bytes ≡ cap)

abbrev pub IsNotHeld : Files → List ℕ → Type 0
IsNotHeld files name = get files name ≡ None

-- the name is held, with more bytes than the cap
abbrev pub IsHeldOver : Files → List ℕ → ℕ → Type 0
IsHeldOver files name cap = IsSomeAnd (get files name) (λ bytes. cap < length bytes)

-- `after` is `before` and the bytes of the file, which are at most `cap`
abbrev pub TakesFile : Option Files → List ℕ → ℕ → List ℕ → List ℕ → Type 0
TakesFile told name cap before after =
    (bytes : List ℕ) × (after ≡ before ++ bytes) × (length bytes ≤ cap)
    × IfSome told (λ files. get files name ≡ Some bytes)

-- `after` is `before` and the first `cap` bytes of the file
abbrev pub TakesCap : Option Files → List ℕ → ℕ → List ℕ → List ℕ → Type 0
TakesCap told name cap before after =
    (bytes : List ℕ) × (after ≡ before ++ bytes) × (length bytes ≡ cap)
    × IfSome told (λ files. IsSomeAnd (get files name) (λ all. bytes ≡ take cap all))

-- `after` is `before` and some front of the file, of at most `cap` bytes
abbrev pub TakesFront : Option Files → List ℕ → ℕ → List ℕ → List ℕ → Type 0
TakesFront told name cap before after =
    (bytes : List ℕ) × (after ≡ before ++ bytes) × (length bytes ≤ cap)
    × IfSome told (λ files. MatchOption (get files name) (bytes ≡ []) (IsFront bytes))

-- what a fetch of at most `cap` bytes of the named file answers, and what it adds to the bytes that it
-- was given: the file, or the front of it that it came to
pub record Fetches (told : Option Files) (name : List ℕ) (cap : ℕ) (before after : List ℕ) (answer : Result (Unit {0}) ShelfFault) : Type 0 where
  pub ok : OnOk answer (TakesFile told name cap before after)
  pub absent : IsErrOf answer Absent → (after ≡ before) × IfSome told (λ files. IsNotHeld files name)
  pub not_held : IfSome told (λ files. IsNotHeld files name → IsErrOf answer Absent ⊎ IsErrOf answer NoMemory)
  pub too_long : IsErrOf answer TooLong → TakesCap told name cap before after × IfSome told (λ files. IsHeldOver files name cap)
  pub over : IfSome told (λ files. IsHeldOver files name cap → IsErrOf answer TooLong ⊎ IsErrOf answer NoMemory)
  pub failed : IsErrOf answer Failed → TakesFront told name cap before after
  pub no_memory : IsErrOf answer NoMemory → TakesFront told name cap before after

-- the files after a write that failed: the name holds a front of the bytes, or what it held, and the
-- others stay
pub record LeavesFront (old new : Files) (name bytes : List ℕ) : Type 0 where
  pub written : (get new name ≡ get old name) ⊎ ((part : List ℕ) × IsFront part bytes × (get new name ≡ Some part))
  pub others : (other : List ℕ) → other ≢ name → get new other ≡ get old other

-- the files of a log of what was stored, the newest first
abbrev pub files_of : List (List ℕ × List ℕ) → Files
files_of log = from_entries log

-- a store answers that it is done, that a write failed, or that memory ran out
abbrev pub IsStoreAnswer : {T : Type 0} → Result T ShelfFault → Type 0
IsStoreAnswer answer = (IsErrOf answer Absent → ⊥) × (IsErrOf answer TooLong → ⊥)
