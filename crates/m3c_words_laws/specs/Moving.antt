-- Options that change their place or stand twice, and words behind `--`.
use Rattle.std.specs.Prelude.{◌≡◌, ◌≢◌, true, false, None, Some, List, ◌∷◌, [], ◌++◌, codes}
use Rattle.clap.specs.Walk.{Text}
use Rattle.m3c_words.specs.Asked.{asked}
use Rattle.m3c_words.specs.Orders.{Order}
use Rattle.m3c_words.specs.Sentences.{names_asked, with_behind}
use Rattle.m3c_words_laws.specs.Reads.{AreTexts, IsOneOf, is_free, takes_value, with_value}

-- the words of one option of this name, which is one of these: `--name value` or `--name=value`, or `--name` of a flag
pub data IsOption (options : List Text) : List Text → Text → Type 0 where
  in_two : (option value : Text) → IsOneOf option options → takes_value option ≡ true → is_free value ≡ true → IsOption options ((codes "--" ++ option) ∷ value ∷ []) option
  in_one : (option value : Text) → IsOneOf option options → takes_value option ≡ true → IsOption options (with_value option value ∷ []) option
  alone : (option : Text) → IsOneOf option options → takes_value option ≡ false → IsOption options ((codes "--" ++ option) ∷ []) option

-- An option and what stands before it change places, somewhere before `--`: a name, or another option.
pub data Moved (options : List Text) : List Text → List Text → Type 0 where
  over_name : (words : List Text) (option name : Text) (rest : List Text) → IsOption options words option → is_free name ≡ true → Moved options (name ∷ (words ++ rest)) (words ++ (name ∷ rest))
  over_option : (words others : List Text) (option other : Text) (rest : List Text) → IsOption options words option → IsOption options others other → other ≢ option → Moved options (others ++ (words ++ rest)) (words ++ (others ++ rest))
  behind_name : (name : Text) (words words' : List Text) → is_free name ≡ true → Moved options words words' → Moved options (name ∷ words) (name ∷ words')
  behind_option : (others : List Text) (other : Text) (words words' : List Text) → IsOption options others other → Moved options words words' → Moved options (others ++ words) (others ++ words')

-- the command of this name, which has these options, asks for the same
abbrev pub IsSameMoved : List Text → Text → Type 0
IsSameMoved options command = (words words' : List Text) → Moved options words words' → AreTexts (command ∷ words) → AreTexts (command ∷ words') → asked (command ∷ words) ≡ asked (command ∷ words')

-- ---- an option that stands twice

-- an option of this name stands somewhere before `--`
pub data UsedIn (options : List Text) (option : Text) : List Text → Type 0 where
  here : (words rest : List Text) → IsOption options words option → UsedIn options option (words ++ rest)
  past_name : (name : Text) (words : List Text) → is_free name ≡ true → UsedIn options option words → UsedIn options option (name ∷ words)
  past_option : (others : List Text) (other : Text) (words : List Text) → IsOption options others other → UsedIn options option words → UsedIn options option (others ++ words)

-- and another one of it behind
pub data UsedTwice (options : List Text) (option : Text) : List Text → Type 0 where
  first : (words rest : List Text) → IsOption options words option → UsedIn options option rest → UsedTwice options option (words ++ rest)
  past_name : (name : Text) (words : List Text) → is_free name ≡ true → UsedTwice options option words → UsedTwice options option (name ∷ words)
  past_option : (others : List Text) (other : Text) (words : List Text) → IsOption options others other → UsedTwice options option words → UsedTwice options option (others ++ words)

abbrev pub NeverTwice : List Text → Text → Type 0
NeverTwice options command = (option : Text) (words : List Text) → UsedTwice options option words → AreTexts (command ∷ words) → asked (command ∷ words) ≡ None

-- ---- words behind `--`

-- each word behind it is one of the names that are asked for, in its place behind those before it
abbrev pub HasBehind : Text → Type 0
HasBehind command =
    (front back : List Text) (order : Order) → AreTexts (with_behind command front back) → asked (with_behind command front back) ≡ Some order → (before : List Text) × (names_asked order ≡ before ++ back)
