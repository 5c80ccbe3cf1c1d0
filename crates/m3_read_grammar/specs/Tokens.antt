-- Single tokens. What a row of tokens spells is said by two rests of a file: `before`, which begins with
-- the row, and `after`, which stands behind it.
use Rattle.std.specs.Prelude.{◌≡◌, ℕ, List, [], ◌∷◌, Option, None, Some}
use Rattle.m3_base.specs.declared.places.Pos.{Pos}
use Rattle.m3_syntax.specs.declared.names.Name.{Name}
use Rattle.m3_syntax.specs.declared.tokens.Token.{Token}
use Rattle.m3_syntax.specs.declared.tokens.TokenKind.{TokenKind}
use Rattle.m3_syntax.specs.declared.tokens.TokenKind.TheVariants.{Ident, Keyword, Symbol}
use Rattle.m3_syntax.specs.declared.tokens.Word.{Word}
use Rattle.m3_syntax.specs.declared.tokens.Sign.{Sign}

abbrev pub Row : Type 0
Row = List Token

-- what the first token is
abbrev pub first_kind : Row → Option TokenKind
first_kind [] = None
first_kind (token ∷ rest) = Some token.kind

-- the place is that of the first token, if there is one
abbrev pub IsAt : Pos → Row → Type 0
IsAt place [] = Unit {0}
IsAt place (token ∷ rest) = place ≡ token.pos

-- the first token, if there is one, is written so
abbrev pub IsWritten : List ℕ → Row → Type 0
IsWritten text [] = Unit {0}
IsWritten text (token ∷ rest) = token.text.now ≡ text

-- a token of this kind
pub record IsToken (kind : TokenKind) (before after : Row) : Type 0 where
  pub token : Token
  pub parts : before ≡ token ∷ after
  pub of_kind : token.kind ≡ kind

abbrev pub IsWord : Word → Row → Row → Type 0
IsWord word before after = IsToken (Keyword word) before after

abbrev pub IsSign : Sign → Row → Row → Type 0
IsSign sign before after = IsToken (Symbol sign) before after

-- an identifier, with its place
pub record IsName (before after : Row) (name : Name) : Type 0 where
  pub token : IsToken Ident before after
  pub written : IsWritten name.text.now before
  pub place : IsAt name.pos before
