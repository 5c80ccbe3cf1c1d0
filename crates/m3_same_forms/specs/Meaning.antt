-- What forms stand for, and when what is known is true.
use Rattle.std.specs.Prelude.{◌≡◌, ℕ, ◌<◌, List, [], ◌∷◌, Option, Some, None, Result, Ok, Err, if◌then◌else◌}
use Rattle.std.specs.Option.{option_map}
use Rattle.m3_base.specs.declared.outcomes.FaultKind.{FaultKind}
use Rattle.m3_mid_meaning.specs.Numbers.{operator_value, checked_value}
use Rattle.m3_mid_meaning.specs.Words.{Word, IsNormal, number, normal, sum_of, times_of, of_numbers}
use Rattle.m3_mid_meaning.specs.Memory.{Memory, Around, load, store}
use Rattle.m3_mid_meaning.specs.Operations.{is_true, flag_word, is_of_type, method_of, text_byte, are_equal, are_equal_texts, copied, filled}
use Rattle.m3_same_forms.specs.declared.forms.Symbol.{Symbol}
use Rattle.m3_same_forms.specs.declared.forms.Symbol.TheVariants as symbols
use Rattle.m3_same_forms.specs.declared.forms.Tag.{Tag}
use Rattle.m3_same_forms.specs.declared.forms.Tag.TheVariants as tags
use Rattle.m3_same_forms.specs.declared.seen.Deed.{Deed}
use Rattle.m3_same_forms.specs.declared.seen.Deed.TheVariants as deeds
use Rattle.m3_same_forms.specs.Forms.{Form, Query, Known, same_symbol}

-- a symbol made before the n-th new one
abbrev pub OldSymbol : ℕ → Symbol → Type 0
OldSymbol n (symbols.New i) = i < n
OldSymbol n _ = Unit {0}

abbrev pub Old : ℕ → Form → Type 0
Old n [] = Unit {0}
Old n (x ∷ xs) = OldSymbol n x.symbol × Old n xs

abbrev pub OldQuery : ℕ → Query → Type 0
OldQuery n x = Old n x.first × Old n x.second × Old n x.third

-- ---- words

abbrev pub eval : (Symbol → Word) → Form → Word
eval v [] = number 0
eval v (x ∷ xs) = sum_of (times_of x.times (v x.symbol)) (eval v xs)

-- the form is of old symbols, and stands for the word
abbrev pub Means : (Symbol → Word) → ℕ → Form → Word → Type 0
Means v n a w = Old n a × (w ≡ eval v a)

abbrev pub AllMean : (Symbol → Word) → ℕ → (ℕ → Form) → (ℕ → Word) → Type 0
AllMean v n f temps = (t : ℕ) → Means v n (f t) (temps t)

abbrev pub with_new : (Symbol → Word) → ℕ → Word → Symbol → Word
with_new v n w s = if same_symbol s (symbols.New n) then w else v s

-- what symbols stand for: words in normal form, and the addresses of what stands around
pub record IsWords (around : Around) (v : Symbol → Word) : Type 0 where
  pub normals : (s : Symbol) → IsNormal (v s)
  pub one : v symbols.One ≡ number 1
  pub frame : v symbols.Frame ≡ number around.frame
  pub globals : v symbols.Globals ≡ number around.globals
  pub text : (n : ℕ) → v (symbols.Text n) ≡ number (around.texts n)
  pub constant : (n : ℕ) → v (symbols.Constant n) ≡ number (around.constants n)

-- ---- answers

abbrev pub checked_word : Option (Result ℕ FaultKind) → Option Word
checked_word None = None
checked_word (Some (Ok n)) = Some (number n)
checked_word (Some (Err kind)) = None

-- the answer to a question about three words, with these own words and this memory
abbrev pub given : Around → (ℕ → Option Word) → Option Word → Memory → Tag → Word → Word → Word → Option Word
given around own environment memory (tags.Operator operator) a b c =
    option_map number (of_numbers (operator_value operator) a b)
given around own environment memory (tags.Checked operator) a b c =
    checked_word (of_numbers (checked_value operator) a b)
given around own environment memory (tags.Compared relation) a b c =
    flag_word (is_true relation a b)
given around own environment memory tags.Environment a b c = environment
given around own environment memory (tags.OwnSlot n) a b c = own n
given around own environment memory (tags.TypeTest tested) a b c =
    flag_word (is_of_type around memory a tested)
given around own environment memory (tags.MethodOf method) a b c =
    option_map number (method_of around memory a method)
given around own environment memory tags.Loaded a b c = load around memory a
given around own environment memory tags.EqualWords a b c =
    flag_word (are_equal around memory a b c)
given around own environment memory tags.TextByte a b c =
    option_map number (text_byte around memory a b)
given around own environment memory tags.EqualTexts a b c =
    flag_word (are_equal_texts around memory a b)

abbrev pub answer_to : Around → (Symbol → Word) → (ℕ → Option Word) → Option Word → Memory → Query → Option Word
answer_to around v own environment memory x =
    given around own environment memory x.tag (eval v x.first) (eval v x.second) (eval v x.third)

-- the known answer is the answer, in normal form
abbrev pub Says : Around → (Symbol → Word) → (ℕ → Option Word) → Option Word → Memory → Query → Form → Type 0
Says around v own environment memory query a =
    option_map normal (answer_to around v own environment memory query) ≡ Some (eval v a)

abbrev pub AllTrue : Around → (Symbol → Word) → ℕ → (ℕ → Option Word) → Option Word → Memory → List Known → Type 0
AllTrue around v n own environment memory [] = Unit {0}
AllTrue around v n own environment memory (x ∷ xs) =
    OldQuery n x.query × Old n x.value × Says around v own environment memory x.query x.value
    × AllTrue around v n own environment memory xs

-- ---- changes of memory

abbrev pub changed : Around → Memory → Deed → Word → Word → Word → Option Memory
changed around memory deeds.Store a b c = store memory a b
changed around memory deeds.Copy a b c = copied around memory a b c
changed around memory deeds.Fill a b c = filled around memory a b c
