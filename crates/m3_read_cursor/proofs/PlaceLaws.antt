-- The tokens that a reader takes are those of its file, and so are their places.
use Rattle.std.proofs.Common.{suc, ◌≡◌, ◌≤◌, List, [], ◌∷◌, sym, subst, length, arith}
use Rattle.std.specs.List.{Contains}
use Rattle.m3_base.specs.declared.places.Pos.{Pos}
use Rattle.m3_syntax.specs.declared.names.Name.{Name}
use Rattle.m3_syntax.specs.declared.tokens.Token.{Token}
use Rattle.m3_read_grammar.specs.Tokens.{IsAt, IsName}
use Rattle.m3_read_cursor.specs.Readers.{IsRest, whole, next}
use Rattle.m3_read_cursor.specs.Refusals.{IsPlaceOfToken, IsPlaceOfName}

-- before anything is taken, all of the file is left
pub all_left : (file rest : List Token) → rest ≡ file → IsRest file rest
all_left file rest e = subst (λ x. IsRest file x) (sym e) whole

-- what a rest of a file contains, the file contains
contained : {file rest : List Token} → IsRest file rest → (token : Token) → Contains rest token → Contains file token
contained whole token found = found
contained (next first h) token found = contained h token (suc found.0, omega (arith, found.1), found.2)

first_of_rest : (file : List Token) (token : Token) (rest : List Token) → IsRest file (token ∷ rest) → Contains file token
first_of_rest file token rest h = contained h token (0, omega arith, cc)

-- where a rest of a file begins, where it is not at its end
pub first_place : (file row : List Token) (place : Pos) → IsRest file row → IsAt place row → 1 ≤ length row → IsPlaceOfToken file place
first_place file [] place h at some = absurd (omega (arith, some))
first_place file (token ∷ rest) place h at some = (token, first_of_rest file token rest h, sym at)

-- the place of an identifier that was taken
pub name_place : (file before after : List Token) (name : Name) → IsRest file before → IsName before after name → IsPlaceOfName file name.pos
name_place file [] after name h is = let parts = is.token.parts in absurd (cc)
name_place file (token ∷ rest) after name h is =
    let parts = is.token.parts in let kind = is.token.of_kind in (token, first_of_rest file token rest h, sym is.place, cc)

-- where an identifier was taken, there was a token
pub name_is_there : (before after : List Token) (name : Name) → IsName before after name → 1 ≤ length before
name_is_there [] after name is = let parts = is.token.parts in absurd (cc)
name_is_there (token ∷ rest) after name is = omega arith
