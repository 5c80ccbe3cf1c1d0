-- Things one after the other, as bytes: each with the bytes after it, where the bytes hold it.
use Rattle.std.specs.Prelude.{ℕ, zero, suc, ◌*◌, nat_lt, if◌then◌else◌, List, [], ◌∷◌, length, take, drop, Option, Some, None}
use Rattle.std.specs.Option.{option_map_or}
use Rattle.byteorder.specs.Endian.{little_number}
use Rattle.m3_tables.specs.Fields.{◌>>=◌, word_at}

-- the number in the first eight bytes, the lowest byte first
unfoldable pub long_in : List ℕ → ℕ
long_in bytes = little_number 8 bytes

-- one byte
abbrev pub byte_at : List ℕ → Option (ℕ × List ℕ)
byte_at [] = None
byte_at (b ∷ bytes) = Some (b, bytes)

-- bytes behind their count
unfoldable pub text_at : List ℕ → Option (List ℕ × List ℕ)
text_at bytes = do
  n ← word_at bytes
  if nat_lt (length n.1) n.0 then None else Some (take n.0 n.1, drop n.0 n.1)

-- ---- things of one size

-- so many, each read from its first byte
abbrev pub each : {A : Type 0} → ℕ → (List ℕ → A) → ℕ → List ℕ → List A
each size read zero bytes = []
each size read (suc n) bytes = read bytes ∷ each size read n (drop size bytes)

-- as many as their count says, which stands before them
unfoldable pub counted_at : {A : Type 0} → ℕ → (List ℕ → A) → List ℕ → Option (List A × List ℕ)
counted_at size read bytes = do
  n ← word_at bytes
  if nat_lt (length n.1) (size * n.0) then None else Some (each size read n.0 n.1, drop (size * n.0) n.1)

-- ---- things of different sizes

-- so many, each read where the one before ends, as far as the bytes hold them
abbrev pub many_in : {A : Type 0} → (List ℕ → Option (A × List ℕ)) → ℕ → List ℕ → List A
many_in read zero bytes = []
many_in read (suc n) bytes = option_map_or (λ x. x.0 ∷ many_in read n x.1) (read bytes) []

-- the bytes after so many
abbrev pub past_many : {A : Type 0} → (List ℕ → Option (A × List ℕ)) → ℕ → List ℕ → Option (List ℕ)
past_many read zero bytes = Some bytes
past_many read (suc n) bytes = read bytes >>= λ x. past_many read n x.1

-- as many as their count says, which stands before them
unfoldable pub many_at : {A : Type 0} → (List ℕ → Option (A × List ℕ)) → List ℕ → Option (List A × List ℕ)
many_at read bytes = do
  n ← word_at bytes
  rest ← past_many read n.0 n.1
  Some (many_in read n.0 n.1, rest)

-- the bytes after at most so many: those from which none can be read
abbrev pub left_by : {A : Type 0} → (List ℕ → Option (A × List ℕ)) → ℕ → List ℕ → List ℕ
left_by read zero bytes = bytes
left_by read (suc n) bytes = option_map_or (λ x. left_by read n x.1) (read bytes) bytes

-- all that can be read, and the bytes after them; each takes a byte at least
unfoldable pub all_at : {A : Type 0} → (List ℕ → Option (A × List ℕ)) → List ℕ → List A × List ℕ
all_at read bytes = (many_in read (length bytes) bytes, left_by read (length bytes) bytes)
