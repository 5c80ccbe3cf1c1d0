-- The fields of a section as bytes.
use Rattle.std.specs.Prelude.{ℕ, List, ◌++◌, length}
use Rattle.byteorder.specs.Endian.{little_bytes}
use Rattle.m3_tables_writer.specs.Writing.{word_bytes}

-- a number of eight bytes, the lowest first
unfoldable pub long_bytes : ℕ → List ℕ
long_bytes n = little_bytes 8 n

-- how many bytes, and the bytes
unfoldable pub text_bytes : List ℕ → List ℕ
text_bytes text = word_bytes (length text) ++ text

-- a file and a line
unfoldable pub place_bytes : ℕ × ℕ → List ℕ
place_bytes place = word_bytes place.0 ++ word_bytes place.1
