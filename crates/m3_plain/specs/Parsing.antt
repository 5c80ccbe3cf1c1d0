-- How the reader takes tokens apart: what it finds at the front, and the tokens that are left.
use Rattle.std.specs.Prelude.{ℕ, ℤ, ◌≡◌, ◌⊎◌, Option, None, Some, List, [], ◌∷◌}
use Rattle.m3_plain.specs.declared.plain.Arith.{Arith}
use Rattle.m3_plain.specs.declared.plain.Arith.TheVariants.{Add, Sub, Mul}
use Rattle.m3_plain.specs.declared.plain.Plain.{Plain}
use Rattle.m3_plain.specs.declared.tokens.Kind.{Kind}
use Rattle.m3_plain.specs.declared.tokens.Kind.TheVariants.{Module, Main, Import, Io, Begin, End, PutInt, Semicolon, Dot, Open, Close, Operator, Literal}
use Rattle.m3_plain.specs.declared.tokens.Token.{Token}
use Rattle.m3_plain.specs.Terms.{Term, Number, Apply, term_of}

-- the rest follows tokens of these kinds
abbrev pub After : List Kind → List Token → List Token → Type 0
After [] tokens rest = tokens ≡ rest
After (kind ∷ kinds) [] rest = ⊥
After (kind ∷ kinds) (token ∷ tokens) rest = (token.kind ≡ kind) × After kinds tokens rest

abbrev pub literal_of : Kind → Option ℤ
literal_of (Literal n) = Some n
literal_of _ = None

abbrev pub operator_of : Kind → Option Arith
operator_of (Operator op) = Some op
operator_of _ = None

-- a sum that waits for a Product, with the operator between and its line
abbrev pub Left : Type 0
Left = Option (Term × (Arith × ℕ))

abbrev pub joined : Left → Term → Term
joined None product = product
joined (Some left) product = Apply left.1.0 left.1.1 left.0 product

-- one more operator and literal
abbrev pub left_after : Arith → ℕ → Left → Term → Left
left_after Mul line left product = left
left_after Add line left product = Some (joined left product, (Add, line))
left_after Sub line left product = Some (joined left product, (Sub, line))

abbrev pub product_after : Arith → ℕ → Term → ℤ → Term
product_after Mul line product n = Apply Mul line product (Number n)
product_after Add line product n = Number n
product_after Sub line product n = Number n

abbrev pub with_literal : Option ℤ → (ℤ → Option (Term × List Token)) → Option (Term × List Token)
with_literal None next = None
with_literal (Some n) next = next n

-- on where there is an operator, and else done
abbrev pub with_operator : Option Arith → (Arith → Option (Term × List Token)) → Term → List Token → Option (Term × List Token)
with_operator None next sum tokens = Some (sum, tokens)
with_operator (Some op) next sum tokens = next op

-- the Sum that goes on with these tokens, after a sum that waits and a Product
abbrev pub sum_on : Left → Term → List Token → Option (Term × List Token)
sum_on left product [] = Some (joined left product, [])
sum_on left product (token ∷ []) = with_operator (operator_of token.kind) (λ op. None) (joined left product) (token ∷ [])
sum_on left product (token ∷ number ∷ tokens) =
    with_operator (operator_of token.kind)
    (λ op. with_literal (literal_of number.kind) (λ n. sum_on (left_after op token.line left product) (product_after op token.line product n) tokens))
    (joined left product) (token ∷ number ∷ tokens)

-- the Sum at the front, as far as it goes
abbrev pub sum_at : List Token → Option (Term × List Token)
sum_at [] = None
sum_at (token ∷ tokens) = with_literal (literal_of token.kind) (λ n. sum_on None (Number n) tokens)

abbrev pub with_rest : Option ℤ → List Token → Option (ℤ × List Token)
with_rest None tokens = None
with_rest (Some n) tokens = Some (n, tokens)

abbrev pub with_line : Option Arith → ℕ → List Token → Option (Arith × (ℕ × List Token))
with_line None line tokens = None
with_line (Some op) line tokens = Some (op, (line, tokens))

-- the operator at the front, its line, and the rest
abbrev pub operator_at : List Token → Option (Arith × (ℕ × List Token))
operator_at [] = None
operator_at (token ∷ tokens) = with_line (operator_of token.kind) token.line tokens

-- the literal at the front, and the rest
abbrev pub literal_at : List Token → Option (ℤ × List Token)
literal_at [] = None
literal_at (token ∷ tokens) = with_rest (literal_of token.kind) tokens

abbrev pub left_of : Option (Plain × Arith × ℕ) → Left
left_of None = None
left_of (Some left) = Some (term_of left.0, (left.1, left.2))

-- a statement that puts a term, and the tokens after it
pub record PutAt (tokens : List Token) (put : Term) (rest : List Token) : Type 0 where
  pub sum : List Token
  pub close : List Token
  pub call : After (Io ∷ Dot ∷ PutInt ∷ Open ∷ []) tokens sum
  pub term : sum_at sum ≡ Some (put, close)
  pub end : After (Close ∷ []) close rest

-- END Main . and no more
abbrev pub IsEnd : List Token → Type 0
IsEnd tokens = After (End ∷ Main ∷ Dot ∷ []) tokens []

-- these statements, and the end
abbrev pub Statements : List Term → List Token → Type 0
Statements [] tokens = IsEnd tokens
Statements (put ∷ puts) tokens =
    (rest : List Token) × PutAt tokens put rest
    × (((puts ≡ []) × IsEnd rest) ⊎ ((next : List Token) × After (Semicolon ∷ []) rest next × Statements puts next))

-- a whole module of these statements
pub record Parses (tokens : List Token) (puts : List Term) : Type 0 where
  pub rest : List Token
  pub header : After (Module ∷ Main ∷ Semicolon ∷ Import ∷ Io ∷ Semicolon ∷ Begin ∷ []) tokens rest
  pub statements : Statements puts rest
