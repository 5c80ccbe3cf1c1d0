-- The places of a unit: those of tokens of its file.
use Rattle.std.specs.Prelude.{List}
use Rattle.m3_syntax.specs.declared.tokens.Token.{Token}
use Rattle.m3_syntax.specs.declared.units.Unit as units
use Rattle.m3_read_cursor.specs.Refusals.{IsPlaceOfToken, IsPlaceOfName}

-- its own, that of its name, and that of the name that closes it
pub record HasPlaces (tokens : List Token) (unit : units.Unit) : Type 0 where
  pub first : IsPlaceOfToken tokens unit.pos
  pub named : IsPlaceOfName tokens unit.name.pos
  pub closed : IsPlaceOfName tokens unit.closing.pos
