-- The fields of a row as bytes: each with the bytes after it, where the bytes hold it.
use Rattle.std.specs.Prelude.{ℕ, zero, suc, ◌+◌, ◌*◌, ◌-◌, ◌^◌, nat_lt, ◌==◌, if◌then◌else◌, List, [], ◌∷◌, length, drop, Option, Some, None}
use Rattle.std.specs.Option.{option_map_or}
use Rattle.m3_tables.specs.Numbers.{word_in, half_in, numbers}
use Rattle.m3_tables.specs.Rows.{Bases, Entry, Contents, Tidies, All_of, Changed, Unchanged}

infixl 10 ◌>>=◌
abbrev pub ◌>>=◌ : {A B : Type 0} → Option A → (A → Option B) → Option B
(Some x) >>= f = f x
None >>= f = None

-- a number of four bytes
unfoldable pub word_at : List ℕ → Option (ℕ × List ℕ)
word_at bytes = if nat_lt (length bytes) 4 then None else Some (word_in bytes, drop 4 bytes)

-- a number of two bytes
unfoldable pub half_at : List ℕ → Option (ℕ × List ℕ)
half_at bytes = if nat_lt (length bytes) 2 then None else Some (half_in bytes, drop 2 bytes)

-- a list of places: how many, and their numbers
unfoldable pub list_at : List ℕ → Option (List ℕ × List ℕ)
list_at bytes = do
  n ← word_at bytes
  if nat_lt (length n.1) (4 * n.0) then None else Some (numbers n.0 n.1, drop (4 * n.0) n.1)

-- the bases on one way: in a byte each how many are added and how many subtracted, and their places
unfoldable pub bases_at : List ℕ → Option (Bases × List ℕ)
bases_at [] = None
bases_at (a ∷ []) = None
bases_at (a ∷ s ∷ rest) =
    if nat_lt (length rest) (4 * a + 4 * s)
    then None
    else Some (record { added = numbers a rest; subtracted = numbers s (drop (4 * a) rest) }, drop (4 * s) (drop (4 * a) rest))

-- so many ways, as far as the bytes hold them
unfoldable pub ways_in : ℕ → List ℕ → List Bases
ways_in zero bytes = []
ways_in (suc n) bytes = option_map_or (λ way. way.0 ∷ ways_in n way.1) (bases_at bytes) []

-- the bytes after so many ways
unfoldable pub past_ways : ℕ → List ℕ → Option (List ℕ)
past_ways zero bytes = Some bytes
past_ways (suc n) bytes = do
  way ← bases_at bytes
  past_ways n way.1

-- the place of the number that picks a way; the greatest number says that there is none
abbrev pub path_of : ℕ → Option ℕ
path_of n = if n == 2 ^ 32 - 1 then None else Some n

-- a derived word: its place, its path, how many ways, and the ways
unfoldable pub entry_at : List ℕ → Option (Entry × List ℕ)
entry_at bytes = do
  location ← word_at bytes
  path ← word_at location.1
  count ← half_at path.1
  rest ← past_ways count.0 count.1
  Some (record { location = location.0; path = path_of path.0; ways = ways_in count.0 count.1 }, rest)

-- so many derived words, as far as the bytes hold them
unfoldable pub entries_in : ℕ → List ℕ → List Entry
entries_in zero bytes = []
entries_in (suc n) bytes = option_map_or (λ entry. entry.0 ∷ entries_in n entry.1) (entry_at bytes) []

-- the bytes after so many derived words
unfoldable pub past_entries : ℕ → List ℕ → Option (List ℕ)
past_entries zero bytes = Some bytes
past_entries (suc n) bytes = do
  entry ← entry_at bytes
  past_entries n entry.1

-- the arguments, the formals that the caller describes, and the derived words behind their count
unfoldable pub contents_at : List ℕ → Option (Contents × List ℕ)
contents_at bytes = do
  arguments ← list_at bytes
  passed ← list_at arguments.1
  count ← word_at passed.1
  rest ← past_entries count.0 count.1
  Some (record { arguments = arguments.0; passed = passed.0; derived = entries_in count.0 count.1 }, rest)

-- how a row begins: a byte that says how it tells its tidy places, and the lists of them
unfoldable pub tidies_at : List ℕ → Option (Tidies × List ℕ)
tidies_at [] = None
tidies_at (zero ∷ bytes) = do
  places ← list_at bytes
  Some (All_of places.0, places.1)
tidies_at (suc zero ∷ bytes) = do
  removed ← list_at bytes
  added ← list_at removed.1
  Some (Changed removed.0 added.0, added.1)
tidies_at (suc (suc zero) ∷ bytes) = Some (Unchanged, bytes)
tidies_at (suc (suc (suc kind)) ∷ bytes) = None
