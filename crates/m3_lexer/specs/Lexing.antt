-- What the lexer answers where it gives no tokens, and that its answer is the only one.
use Rattle.std.specs.Prelude.{◌≡◌, ℕ, List, [], ◌∷◌, ⊤}
use Rattle.m3_base.specs.declared.places.Pos.{Pos}
use Rattle.m3_base.specs.declared.refusals.Refusal.{Refusal}
use Rattle.m3_base.specs.declared.refusals.Refused.{Refused}
use Rattle.m3_base.specs.declared.refusals.Refused.TheVariants.{Rule, NoMemory}
use Rattle.m3_syntax.specs.declared.tokens.Token.{Token}
use Rattle.m3_syntax.specs.declared.tokens.TokenKind.{TokenKind}
use Rattle.m3_syntax.specs.Lexis.{AreTokens, IsFirstBroken}

-- the first broken rule of the file, or want of memory
abbrev pub IsRefusal : ℕ → List ℕ → Refused → Type 0
IsRefusal file text (Rule refusal) = IsFirstBroken file text refusal
IsRefusal file text NoMemory = ⊤

-- a token without where its bytes lie in memory
pub record Seen : Type 0 where
  pub kind : TokenKind
  pub text : List ℕ
  pub pos : Pos

abbrev pub seen : Token → Seen
seen t = record { kind = t.kind; text = t.text.now; pos = t.pos }

abbrev pub all_seen : List Token → List Seen
all_seen [] = []
all_seen (t ∷ ts) = seen t ∷ all_seen ts

-- A file has one list of tokens at most, and one place behind its last byte.
abbrev pub OneList : Type 0
OneList = (file : ℕ) (text : List ℕ) (ts us : List Token) (p q : Pos) → AreTokens file text ts p → AreTokens file text us q → (all_seen ts ≡ all_seen us) × (p ≡ q)

-- A file that has tokens breaks no rule.
abbrev pub TokensOrRefusal : Type 0
TokensOrRefusal = (file : ℕ) (text : List ℕ) (ts : List Token) (p : Pos) (r : Refusal) → AreTokens file text ts p → IsFirstBroken file text r → ⊥

-- One broken rule is the first.
abbrev pub OneRefusal : Type 0
OneRefusal = (file : ℕ) (text : List ℕ) (r s : Refusal) → IsFirstBroken file text r → IsFirstBroken file text s → r ≡ s
