-- What a reader has read: the tokens that are still to be read, and the faults that it keeps.
use Rattle.std.specs.Prelude.{ℕ, ◌≡◌, ◌≤◌, List, ◌∷◌, length, Option, None, Some}
use Rattle.m3_syntax.specs.declared.tokens.Token.{Token}
use Rattle.m3_read_cursor.specs.declared.reader.Reader.{Reader}

-- how many faults are kept: none or the first
abbrev pub faults : {A : Type 0} → Option A → ℕ
faults None = 0
faults (Some fault) = 1

-- the tokens of a file from one of them on, or none
pub data IsRest (file : List Token) : List Token → Type 0 where
  whole : IsRest file file
  next : (token : Token) {rest : List Token} → IsRest file (token ∷ rest) → IsRest file rest

-- what a reader keeps: how many faults of each sort it had, and the file that it reads
pub data Kept : Type 0 where
  kept : (stops closings : ℕ) (file : List Token) → Kept

-- The reader still has those faults, and stands in that file.
pub data Keeps : Kept → Reader → Type 0 where
  keeps : {stops closings : ℕ} {file : List Token} {reader : Reader} → stops ≤ faults reader.stop → closings ≤ faults reader.wrong_closing
      → IsRest file reader.rest.now → Keeps (kept stops closings file) reader

-- No token has come back, and whatever was kept is still kept. Said of everything that may be kept, it is passed on
-- from call to call without a lemma.
pub record Follows (old new : Reader) : Type 0 where
  pub onward : length new.rest.now ≤ length old.rest.now
  pub still : (what : Kept) → Keeps what old → Keeps what new

-- Unless reading has stopped, the tokens that were read are such a row.
abbrev pub Reads : Reader → Reader → (List Token → List Token → Type 0) → Type 0
Reads old new IsRow = new.stop ≡ None → IsRow old.rest.now new.rest.now
