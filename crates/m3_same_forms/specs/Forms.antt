-- Forms, and how they are added.
use Rattle.std.specs.Prelude.{ℕ, ◌+◌, ◌*◌, ◌-◌, ◌%◌, ◌^◌, ◌==◌, Bool, true, false, List, [], ◌∷◌, if◌then◌else◌}
use Rattle.m3_base.specs.Words.{add_words, mul_words}
use Rattle.m3_same_forms.specs.declared.forms.Symbol.{Symbol}
use Rattle.m3_same_forms.specs.declared.forms.Symbol.TheVariants as symbols
use Rattle.m3_same_forms.specs.declared.forms.Term.{Term}
use Rattle.m3_same_forms.specs.declared.forms.Tag.{Tag}

-- a sum of symbols with factors, modulo 2 ^ 64
abbrev pub Form : Type 0
Form = List Term

-- a question to which a word is the answer
pub record Query : Type 0 where
  pub tag : Tag
  pub first : Form
  pub second : Form
  pub third : Form

pub record Known : Type 0 where
  pub query : Query
  pub value : Form

pub record Setting : Type 0 where
  pub temp : ℕ
  pub value : Form

-- What holds where the two procedures come to these blocks.
pub record Pair : Type 0 where
  pub left : ℕ
  pub right : ℕ
  pub left_settings : List Setting
  pub settings : List Setting
  pub knowns : List Known

abbrev pub same_symbol : Symbol → Symbol → Bool
same_symbol symbols.One symbols.One = true
same_symbol symbols.Frame symbols.Frame = true
same_symbol symbols.Globals symbols.Globals = true
same_symbol (symbols.Text n) (symbols.Text m) = n == m
same_symbol (symbols.Constant n) (symbols.Constant m) = n == m
same_symbol (symbols.Left t) (symbols.Left u) = t == u
same_symbol (symbols.Right t) (symbols.Right u) = t == u
same_symbol (symbols.New n) (symbols.New m) = n == m
same_symbol _ _ = false

-- a term in front, where it is any
abbrev pub put : Symbol → ℕ → Form → Form
put s n ys = if n == 0 then ys else record { symbol = s; times = n } ∷ ys

-- a term more
abbrev pub insert : Symbol → ℕ → Form → Form
insert s n [] = put s n []
insert s n (y ∷ ys) =
    if same_symbol s y.symbol then put s ((n + y.times) % 2 ^ 64) ys else y ∷ insert s n ys

abbrev pub merge : Form → Form → Form
merge [] ys = ys
merge (x ∷ xs) ys = merge xs (insert x.symbol x.times ys)

abbrev pub scaled : ℕ → Form → Form
scaled n [] = []
scaled n (x ∷ xs) = put x.symbol ((n * x.times) % 2 ^ 64) (scaled n xs)

abbrev pub opposite : Form → Form
opposite xs = scaled (2 ^ 64 - 1) xs

abbrev pub is_none : Form → Bool
is_none [] = true
is_none (x ∷ xs) = false

-- whether the difference falls away
abbrev pub same_form : Form → Form → Bool
same_form a b = is_none (merge (opposite b) a)

-- ---- a number by which most forms that differ are told apart

abbrev pub weight : Symbol → ℕ
weight symbols.One = 1
weight symbols.Frame = 1000003
weight symbols.Globals = 2000029
weight (symbols.Text n) = n * 2654435761 + 3
weight (symbols.Constant n) = n * 2246822519 + 5
weight (symbols.Left t) = t * 3266489917 + 7
weight (symbols.Right t) = t * 668265263 + 11
weight (symbols.New n) = n * 374761393 + 13

abbrev pub mark_onto : ℕ → Form → ℕ
mark_onto out [] = out
mark_onto out (x ∷ xs) = mark_onto (add_words out (mul_words x.times (weight x.symbol))) xs

abbrev pub mark : Form → ℕ
mark xs = mark_onto 0 xs

abbrev pub of_symbol : Symbol → Form
of_symbol s = record { symbol = s; times = 1 } ∷ []

abbrev pub of_number : ℕ → Form
of_number n = put symbols.One n []

-- a symbol and a number
abbrev pub behind : Symbol → ℕ → Form
behind s n = merge (of_number n) (of_symbol s)
