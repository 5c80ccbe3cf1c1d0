-- What a file is refused for whose tokens make no unit.
use Rattle.std.specs.Prelude.{ℕ, ◌≡◌, ◌≤◌, ◌<◌, List, [], ◌∷◌, length, drop}
use Rattle.std.specs.List.{Contains}
use Rattle.m3_base.specs.declared.places.Pos.{Pos}
use Rattle.m3_base.specs.declared.refusals.Refusal.{Refusal}
use Rattle.m3_base.specs.declared.refusals.Refused.{Refused}
use Rattle.m3_base.specs.declared.refusals.Refused.TheVariants.{Rule, NoMemory}
use Rattle.m3_syntax.specs.declared.tokens.Token.{Token}
use Rattle.m3_syntax.specs.declared.tokens.TokenKind.TheVariants.{Ident}

-- a rule of the grammar is broken at this place, in the file of this end
abbrev pub broken : ℕ → Pos → Pos → Refusal
broken rule end place = record { phase = 2; unit = end.file; pos = place; rule = rule }

-- the first token breaks this rule, or the file ends too early
abbrev pub refused : ℕ → Pos → List Token → Refusal
refused rule end [] = broken 11 end end
refused rule end (token ∷ rest) = broken rule end token.pos

-- the place of the first token, or the end of the file
abbrev pub place_at : Pos → List Token → Pos
place_at end [] = end
place_at end (token ∷ rest) = token.pos

-- the place of one of these tokens
abbrev pub IsPlaceOfToken : List Token → Pos → Type 0
IsPlaceOfToken tokens place = (token : Token) × Contains tokens token × (token.pos ≡ place)

-- the place of an identifier among these tokens
abbrev pub IsPlaceOfName : List Token → Pos → Type 0
IsPlaceOfName tokens place = (token : Token) × Contains tokens token × (token.pos ≡ place) × (token.kind ≡ Ident)

-- a rule of the grammar, broken in a file of these tokens and this end
pub record IsBroken (end : Pos) (tokens : List Token) (refusal : Refusal) : Type 0 where
  pub phase : refusal.phase ≡ 2
  pub unit : refusal.unit ≡ end.file
  pub first_rule : 10 ≤ refusal.rule
  pub last_rule : refusal.rule ≤ 14
  -- what may not stand there, or lies too deep, is a token of the file
  pub at_token : refusal.rule ≡ 10 → IsPlaceOfToken tokens refusal.pos
  pub too_deep : refusal.rule ≡ 13 → IsPlaceOfToken tokens refusal.pos
  -- a closing name is an identifier of the file
  pub at_name : refusal.rule ≡ 12 → IsPlaceOfName tokens refusal.pos
  -- a file that ends too early is refused at its end
  pub at_end : refusal.rule ≡ 11 → refusal.pos ≡ end
  -- too many tokens are refused at token 500,001
  pub many : refusal.rule ≡ 14 → 500000 < length tokens
  pub at_limit : refusal.rule ≡ 14 → refusal.pos ≡ place_at end (drop 500000 tokens)

-- what a file of these tokens and this end may be refused for: a rule of the grammar, or want of memory
abbrev pub IsRefusal : Pos → List Token → Refused → Type 0
IsRefusal end tokens (Rule refusal) = IsBroken end tokens refusal
IsRefusal end tokens NoMemory = Unit {0}
