-- The plain form: modules whose body prints whole numbers. A text is a list of tokens with white
-- space between them; the tokens follow a grammar.
use Rattle.std.specs.Prelude.{ℕ, ℤ, pos, Bool, false, ◌≡◌, ◌+◌, ◌-◌, ◌*◌, ◌<◌, ◌≤◌, ◌^◌, ◌==◌, ◌&&◌, ◌||◌, ◌⊎◌, nat_le, List, [], ◌∷◌, ◌++◌, length, map, codes, fold, count_by, IsTrue}
use Rattle.std.specs.List.{list_all}
use Rattle.std.specs.Char.{is_ascii_digit, is_ascii_alphanumeric}
use Rattle.m3_plain.specs.declared.plain.Arith.TheVariants.{Add, Sub, Mul}
use Rattle.m3_plain.specs.declared.tokens.Kind.{Kind}
use Rattle.m3_plain.specs.declared.tokens.Kind.TheVariants.{Module, Main, Import, Io, Begin, End, PutInt, Semicolon, Dot, Open, Close, Operator, Literal}
use Rattle.m3_plain.specs.declared.tokens.Token.{Token}
use Rattle.m3_plain.specs.Terms.{Term, Number, Apply}

-- bytes 9 to 13 and 32
abbrev pub is_space : ℕ → Bool
is_space b = (nat_le 9 b && nat_le b 13) || b == 32

abbrev pub is_line_feed : ℕ → Bool
is_line_feed b = b == 10

-- the number that decimal digits stand for
abbrev pub number_of : List ℕ → ℕ
number_of digits = fold (λ n digit. 10 * n + (digit - 48)) 0 digits

-- digits that stand for a number of INTEGER
pub record IsLiteral (bytes : List ℕ) (n : ℤ) : Type 0 where
  pub some : 0 < length bytes
  pub digits : IsTrue (list_all is_ascii_digit bytes)
  pub value : n ≡ pos (number_of bytes)
  pub fits : number_of bytes < 2 ^ 63

-- how each token is spelled
abbrev pub IsSpelled : Kind → List ℕ → Type 0
IsSpelled Module bytes = bytes ≡ codes "MODULE"
IsSpelled Main bytes = bytes ≡ codes "Main"
IsSpelled Import bytes = bytes ≡ codes "IMPORT"
IsSpelled Io bytes = bytes ≡ codes "IO"
IsSpelled Begin bytes = bytes ≡ codes "BEGIN"
IsSpelled End bytes = bytes ≡ codes "END"
IsSpelled PutInt bytes = bytes ≡ codes "PutInt"
IsSpelled Semicolon bytes = bytes ≡ codes ";"
IsSpelled Dot bytes = bytes ≡ codes "."
IsSpelled Open bytes = bytes ≡ codes "("
IsSpelled Close bytes = bytes ≡ codes ")"
IsSpelled (Operator Add) bytes = bytes ≡ codes "+"
IsSpelled (Operator Sub) bytes = bytes ≡ codes "-"
IsSpelled (Operator Mul) bytes = bytes ≡ codes "*"
IsSpelled (Literal n) bytes = IsLiteral bytes n

-- whether a letter or a digit comes first
abbrev pub begins_word : List ℕ → Bool
begins_word [] = false
begins_word (b ∷ bytes) = is_ascii_alphanumeric b

-- the text begins with this token, after white space, and the rest follows it; no letter and no digit
-- follows a word or a number
pub record Begins (line : ℕ) (token : Token) (text rest : List ℕ) : Type 0 where
  pub space : List ℕ
  pub bytes : List ℕ
  pub parts : text ≡ space ++ (bytes ++ rest)
  pub white : IsTrue (list_all is_space space)
  pub place : token.line ≡ line + count_by is_line_feed space
  pub spelled : IsSpelled token.kind bytes
  pub apart : begins_word bytes && begins_word rest ≡ false

-- the text, from this line on, is these tokens with white space around them
abbrev pub Spells : ℕ → List Token → List ℕ → Type 0
Spells line [] text = IsTrue (list_all is_space text)
Spells line (token ∷ tokens) text = (rest : List ℕ) × Begins line token text rest × Spells token.line tokens rest

abbrev pub kinds : List Token → List Kind
kinds tokens = map (λ (token : Token). token.kind) tokens

-- a Product is literals joined by `*`, which group to the left
abbrev pub IsProduct : Term → List Token → Type 0
IsProduct (Number n) tokens = kinds tokens ≡ Literal n ∷ []
IsProduct (Apply Mul line a (Number n)) tokens =
    (front back : List Token) × (tokens ≡ front ++ (record { kind = Operator Mul; line = line } ∷ back)) × IsProduct a front × (kinds back ≡ Literal n ∷ [])
IsProduct (Apply Mul line a (Apply op at b c)) tokens = ⊥
IsProduct (Apply Add line a b) tokens = ⊥
IsProduct (Apply Sub line a b) tokens = ⊥

-- a Sum is Products joined by `+` and `-`, which group to the left
abbrev pub IsSum : Term → List Token → Type 0
IsSum (Apply Add line a b) tokens =
    (front back : List Token) × (tokens ≡ front ++ (record { kind = Operator Add; line = line } ∷ back)) × IsSum a front × IsProduct b back
IsSum (Apply Sub line a b) tokens =
    (front back : List Token) × (tokens ≡ front ++ (record { kind = Operator Sub; line = line } ∷ back)) × IsSum a front × IsProduct b back
IsSum (Apply Mul line a b) tokens = IsProduct (Apply Mul line a b) tokens
IsSum (Number n) tokens = IsProduct (Number n) tokens

-- IO . PutInt ( Sum )
pub record IsStatement (put : Term) (tokens : List Token) : Type 0 where
  pub front : List Token
  pub sum : List Token
  pub back : List Token
  pub parts : tokens ≡ front ++ (sum ++ back)
  pub call : kinds front ≡ Io ∷ Dot ∷ PutInt ∷ Open ∷ []
  pub argument : IsSum put sum
  pub close : kinds back ≡ Close ∷ []

-- nothing, or statements separated by `;` with an optional last `;`
abbrev pub IsBody : List Term → List Token → Type 0
IsBody [] tokens = tokens ≡ []
IsBody (put ∷ []) tokens =
    (statement last : List Token) × (tokens ≡ statement ++ last) × IsStatement put statement × ((kinds last ≡ []) ⊎ (kinds last ≡ Semicolon ∷ []))
IsBody (put ∷ next ∷ puts) tokens =
    (statement between rest : List Token) × (tokens ≡ statement ++ (between ++ rest)) × IsStatement put statement × (kinds between ≡ Semicolon ∷ []) × IsBody (next ∷ puts) rest

-- MODULE Main ; IMPORT IO ; BEGIN body END Main .
pub record IsModule (puts : List Term) (tokens : List Token) : Type 0 where
  pub front : List Token
  pub body : List Token
  pub back : List Token
  pub parts : tokens ≡ front ++ (body ++ back)
  pub header : kinds front ≡ Module ∷ Main ∷ Semicolon ∷ Import ∷ Io ∷ Semicolon ∷ Begin ∷ []
  pub statements : IsBody puts body
  pub trailer : kinds back ≡ End ∷ Main ∷ Dot ∷ []

-- the text is in the plain form, and puts these terms: at most 2,000 tokens, in fewer than 2 ^ 32 - 1 bytes
pub record IsPlain (text : List ℕ) (puts : List Term) : Type 0 where
  pub tokens : List Token
  pub spelled : Spells 1 tokens text
  pub grammar : IsModule puts tokens
  pub few : length tokens ≤ 2000
  pub short : length text < 4294967295
