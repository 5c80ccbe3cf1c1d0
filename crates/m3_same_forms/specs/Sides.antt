-- What the temporaries of one of the two procedures hold.
use Rattle.std.specs.Prelude.{ℕ, ◌==◌, Bool, false, List, [], ◌∷◌, Option, Some, None, if◌then◌else◌, slice_get}
use Rattle.m3_same_forms.specs.declared.forms.Symbol.TheVariants as symbols
use Rattle.m3_same_forms.specs.Forms.{Form, Setting, of_symbol}

abbrev pub value_at : List Setting → ℕ → Form → Form
value_at [] t other = other
value_at (x ∷ xs) t other = if t == x.temp then x.value else value_at xs t other

-- whether a list says it of a number
abbrev pub says : Option Bool → Bool
says None = false
says (Some b) = b

abbrev pub is_common : List Bool → ℕ → Bool
is_common common t = says (slice_get common t)

-- A temporary of the right procedure is the left one's, where both have it in common, and others are
-- their own.
abbrev pub default_form : Option (List Bool) → ℕ → Form
default_form None t = of_symbol (symbols.Left t)
default_form (Some common) t = of_symbol (if is_common common t then symbols.Left t else symbols.Right t)

abbrev pub form_at : Option (List Bool) → List Setting → ℕ → Form
form_at common settings t = value_at settings t (default_form common t)
