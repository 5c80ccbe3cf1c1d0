-- Texts: the header, the length, and the bytes eight to a word, the lowest first.
use Rattle.std.specs.Prelude.{ℕ, ◌+◌, ◌*◌, ◌/◌, ◌%◌, List, [], ◌∷◌, map, length, take, drop, unwrap_or}
use Rattle.std.specs.List.{range_with_len}
use Rattle.std.specs.Int.{div_ceil}
use Rattle.m3_base.specs.Words.{add_words}
use Rattle.m3_isa.specs.Memory.{Memory}
use Rattle.m3_isa.specs.Arithmetic.{byte_in}

-- the words of a text of so many bytes
abbrev pub text_words : ℕ → ℕ
text_words bytes = 2 + div_ceil bytes 8

-- byte n of the text at an address
abbrev pub text_byte : Memory → ℕ → ℕ → ℕ
text_byte memory text n = byte_in (unwrap_or (memory (add_words text (2 + n / 8))) 0) (n % 8)

-- so many bytes of it from one on
abbrev pub text_bytes : Memory → ℕ → ℕ → ℕ → List ℕ
text_bytes memory text from count = map (text_byte memory text) (range_with_len from count)

-- the word that eight bytes make
abbrev pub packed : List ℕ → ℕ
packed [] = 0
packed (byte ∷ bytes) = byte + 256 * packed bytes

-- the words of a new text behind its header
abbrev pub text_rest : List ℕ → List ℕ
text_rest bytes = length bytes ∷ map (λ k. packed (take 8 (drop (8 * k) bytes))) (range_with_len 0 (div_ceil (length bytes) 8))
