-- How far a schedule has been read.
use Rattle.std.proofs.Common.{◌≡◌, ℕ, ◌≤◌, ◌+◌, List, [], ◌∷◌, ◌++◌, length, Some, None, refl, sym, ◌∙◌, ap, arith, append_assoc, length-append}
use Rattle.std.proofs.lemmas.List.{append-nil, map-append, length-map}
use Rattle.m3_base.specs.declared.outcomes.Entry.{Entry}
use Rattle.m3_base.specs.Schedules.{lines_of, entry_in, SayEntries, most_entries, IsSchedule, IsFirstBadLine, HasTooMany}

-- the lines before the rest of the text are these entries
pub record IsReadTo (text : List ℕ) (entries : List Entry) (rest : List ℕ) : Type 0 where
  pub good : List (List ℕ)
  pub lines : lines_of text ≡ good ++ lines_of rest
  pub said : SayEntries good entries
  pub few : length entries ≤ most_entries

-- as many lines as entries
pub as_many : (good : List (List ℕ)) (entries : List Entry) → SayEntries good entries → length good ≡ length entries
as_many good entries said =
    sym (length-map good entry_in) ∙ (ap length said ∙ length-map entries (λ e. Some e))

pub read_none : (text : List ℕ) → IsReadTo text [] text
read_none text = record { good = []; lines = refl; said = refl; few = omega arith }

pub read_on : (text : List ℕ) (entries : List Entry) (rest line after : List ℕ) (entry : Entry) → IsReadTo text entries rest → lines_of rest ≡ line ∷ lines_of after → entry_in line ≡ Some entry → (length entries ≡ most_entries → ⊥) → IsReadTo text (entries ++ entry ∷ []) after
read_on text entries rest line after entry read first is_entry not_full = record {
  good = read.good ++ line ∷ [];
  lines = rw (append_assoc, ← first) read.lines;
  said = rw (map-append, map-append, read.said, is_entry) refl;
  few = let grown = length-append entries (entry ∷ []) in let few : length entries ≤ most_entries = read.few in omega arith;
}

pub too_many : (text : List ℕ) (entries : List Entry) (rest line after : List ℕ) → IsReadTo text entries rest → lines_of rest ≡ line ∷ lines_of after → length entries ≡ most_entries → HasTooMany text
too_many text entries rest line after read first full = record {
  good = read.good;
  entries = entries;
  next = line;
  rest = lines_of after;
  lines = rw (← first) read.lines;
  said = read.said;
  full = as_many read.good entries read.said ∙ full;
}

pub bad_line : (text : List ℕ) (entries : List Entry) (rest line after : List ℕ) → IsReadTo text entries rest → lines_of rest ≡ line ∷ lines_of after → entry_in line ≡ None → (length entries ≡ most_entries → ⊥) → IsFirstBadLine text (length entries + 1)
bad_line text entries rest line after read first refused not_full = record {
  good = read.good;
  entries = entries;
  bad = line;
  rest = lines_of after;
  lines = rw (← first) read.lines;
  said = read.said;
  refused = refused;
  numbered = let many = as_many read.good entries read.said in omega arith;
  in_time = let many = as_many read.good entries read.said in let few : length entries ≤ most_entries = read.few in omega arith;
}

pub read_whole : (text : List ℕ) (entries : List Entry) → IsReadTo text entries [] → IsSchedule text entries
unfolding lines_of
read_whole text entries read = record {
  said = let all : lines_of text ≡ read.good = read.lines ∙ append-nil read.good in rw all read.said;
  few = read.few;
}
