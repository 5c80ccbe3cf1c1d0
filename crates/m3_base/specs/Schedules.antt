-- The lines of a schedule: each is one entry, and a file is refused at its first line that is none.
use Rattle.std.specs.Prelude.{◌≡◌, ℕ, ◌+◌, ◌-◌, ◌*◌, ◌^◌, ◌<◌, ◌≤◌, nat_eq, nat_lt, nat_le, ◌==◌, ◌&&◌, ◌||◌, slice_index, Bool, true, false, if◌then◌else◌, List, [], ◌∷◌, ◌++◌, length, take, map, Option, Some, None, codes}
use Rattle.std.specs.List.{ends_with}
use Rattle.std.specs.Option.{option_map}
use Rattle.std.specs.Str.{bytes_eq}
use Rattle.m3_base.specs.declared.outcomes.Entry.{Entry}

-- ---- the lines of a text

-- a byte before the lines that follow it: the first byte of the first of them
abbrev pub line_with : ℕ → List (List ℕ) → List (List ℕ)
line_with b [] = (b ∷ []) ∷ []
line_with b (line ∷ lines) = (b ∷ line) ∷ lines

-- each line ends with a line feed, which the last may lack; the empty text has no line
unfoldable pub lines_of : List ℕ → List (List ℕ)
lines_of [] = []
lines_of (b ∷ text) = if b == 10 then [] ∷ lines_of text else line_with b (lines_of text)

-- ---- a line

abbrev pub is_digit : ℕ → Bool
is_digit b = nat_le 48 b && nat_le b 57

-- the number that digits say behind those that say n, where it is below 2 ^ 64
unfoldable pub number_after : ℕ → List ℕ → Option ℕ
number_after n [] = if nat_lt n (2 ^ 64) then Some n else None
number_after n (b ∷ digits) = if is_digit b then number_after (10 * n + (b - 48)) digits else None

-- a number in decimal digits, of which the first is 0 only where it is the only one
abbrev pub number_in : List ℕ → Option ℕ
number_in digits = if length digits == 0 || (nat_lt 1 (length digits) && slice_index digits 0 == 48) then None else number_after 0 digits

abbrev pub thread_entry : Bool → List ℕ → Option Entry
thread_entry collects digits = option_map (λ n. record { to = Some n; collect = collects }) (number_in digits)

-- `-` for none, `g` for a collection, the number of a thread, or that and ` g`
abbrev pub entry_in : List ℕ → Option Entry
entry_in line =
    if bytes_eq line (codes "-") then Some (record { to = None; collect = false })
    else (if bytes_eq line (codes "g") then Some (record { to = None; collect = true })
    else (if ends_with nat_eq line (codes " g") then thread_entry true (take (length line - 2) line)
    else thread_entry false line))

-- ---- a schedule

abbrev pub most_entries : ℕ
most_entries = 1000000

-- the lines are these entries
abbrev pub SayEntries : List (List ℕ) → List Entry → Type 0
SayEntries lines entries = map entry_in lines ≡ map (λ e. Some e) entries

-- a text whose lines are these entries, no more than a schedule may have
pub record IsSchedule (text : List ℕ) (entries : List Entry) : Type 0 where
  pub said : SayEntries (lines_of text) entries
  pub few : length entries ≤ most_entries

-- the line of this number, from 1, is no entry, and each before it is one
pub record IsFirstBadLine (text : List ℕ) (number : ℕ) : Type 0 where
  pub good : List (List ℕ)
  pub entries : List Entry
  pub bad : List ℕ
  pub rest : List (List ℕ)
  pub lines : lines_of text ≡ good ++ bad ∷ rest
  pub said : SayEntries good entries
  pub refused : entry_in bad ≡ None
  pub numbered : number ≡ length good + 1
  pub in_time : length good < most_entries

-- as many good lines as a schedule may have, and another line behind them
pub record HasTooMany (text : List ℕ) : Type 0 where
  pub good : List (List ℕ)
  pub entries : List Entry
  pub next : List ℕ
  pub rest : List (List ℕ)
  pub lines : lines_of text ≡ good ++ next ∷ rest
  pub said : SayEntries good entries
  pub full : length good ≡ most_entries
