-- All words of a command: clap takes them exactly where they are spelled as options and names, and then holds these.
use Rattle.std.proofs.Common.{◌≡◌, ◌∙◌, ◌&&◌, ◌≤◌, ◌+◌, ◌⊎◌, ℕ, Bool, cond, length, List, [], ◌∷◌, ◌++◌, None, Some, Option, true, false, refl, sym, ap, subst, inl, inr, codes, arith, length-append}
use Rattle.std.specs.Prelude.{IfSome, fold, is_some}
use Rattle.std.specs.Str.{IsUtf8, bytes_eq}
use Rattle.std.proofs.lemmas.List.{append_assoc, append-nil}
use Rattle.std.proofs.lemmas.Slice.Eq.{bytes_eq-Decides}
use Rattle.clap.proofs.LexerLemmas.{name_and_value-at, name_and_value-without}
use Rattle.clap.specs.Kinds.{Kinds, or_else}
use Rattle.clap.specs.Lexer.{name_and_value}
use Rattle.clap.specs.Faults.{repeat_fault, settle_fault, turn_fault, use_fault, walk_fault}
use Rattle.clap.specs.Walk.{Held, Row, Rule, Text, Waiting, Walk, all_of, arg_by_id, arg_by_index, has_row, idle, is_multiple, next_position, option, positional, positional_held, reacted, reading_by, settled, used, walked, with_values}
use Rattle.clap.specs.declared.error.kind.ErrorKind.TheVariants as kind
use Rattle.clap.specs.declared.parser.matches.ValueSource.TheVariants.{CommandLine}
use Rattle.m3c_words_laws.specs.Reads.{AreApart, AreTexts, Given, IsOneOf, Spell, ended, behind, name, apart, joined, flag, flag_value, is_free, takes_value, value_of, with_value}
use Rattle.m3c_words_laws.proofs.Words.{Cut, IsFree, View, at_equals, cut, dashes, flags, free, free_word, long, one_of, view, whole}
use Rattle.m3c_words_laws.proofs.Finding.{AreExplicit, apart_before, apart_then, has_row_of, none_again, none_without, other_values, still_explicit, value_last, value_other, values_added, values_there}
use Rattle.m3c_words_laws.proofs.Steps.{IsLong, IsRest, Knows, both_nil, dashes_pass, dashes_taken, first_nil, flag_faults, flag_taken, flags_pass, joined_faults, joined_taken, leaf_of, name_fault, name_faults, name_taken, option_faults, option_taken, optioned, second_nil, state, unknown_option, value_passes, value_taken, valued_flag, waiting_held}

-- ---- what rows hold

abbrev pub as_values : Option Text → Option (List Text)
as_values None = None
as_values (Some v) = Some (v ∷ [])

pub record Rows (options : List Text) (AreNames : List Row → List Text → Type 0) (rows : List Row) (given : Given) (names : List Text) : Type 0 where
  pub apart : AreApart given
  pub known : (o : Text) → IsOneOf o options → all_of o rows ≡ as_values (value_of o given)
  pub named : AreNames rows names
  pub explicit : AreExplicit rows

-- an option leaves names as they are
abbrev pub Keeps : List Text → (List Row → List Text → Type 0) → Type 0
Keeps options AreNames = (o v : Text) (rows : List Row) (names : List Text) → IsOneOf o options → all_of o rows ≡ None → AreNames rows names → AreNames (with_values o (reading_by (optioned o)) CommandLine (v ∷ []) rows) names

conflict : kind.ArgumentConflict ∷ [] ≡ [] → ⊥
conflict e = cc

no_value : (o : Text) (given : Given) (e : Option (List Text)) → e ≡ as_values (value_of o given) → e ≡ None → value_of o given ≡ None
no_value o given e is none = go (value_of o given) (sym is ∙ none)
  where
    go : (v : Option Text) → as_values v ≡ None → v ≡ None
    go None e = refl
    go (Some v) e = cc

module _ (options : List Text) (AreNames : List Row → List Text → Type 0) (keeps : Keeps options AreNames) (o v : Text) (among : IsOneOf o options) (rows : List Row) (given : Given) (names : List Text) (r : Rows options AreNames rows given names) where
  used_rows : all_of o rows ≡ None → used (optioned o) (v ∷ []) rows ≡ with_values o (reading_by (optioned o)) CommandLine (v ∷ []) rows
  used_rows none = ap (λ (rs : List Row). with_values o (reading_by (optioned o)) CommandLine (v ∷ []) rs) (none_without o rows none)

  more_known : all_of o rows ≡ None → (other : Text) → IsOneOf other options → all_of other (with_values o (reading_by (optioned o)) CommandLine (v ∷ []) rows) ≡ as_values (value_of other (given ++ (o, v) ∷ []))
  more_known none other h = go (bytes_eq o other) refl
    where
      last : value_of o (given ++ (o, v) ∷ []) ≡ Some v
      last = value_last o v given (no_value o given (all_of o rows) (r.known o among) none)

      here : all_of o (with_values o (reading_by (optioned o)) CommandLine (v ∷ []) rows) ≡ as_values (value_of o (given ++ (o, v) ∷ []))
      here = values_added o (reading_by (optioned o)) (v ∷ []) rows ∙ ap (λ (e : Option (List Text)). Some (values_there e ++ v ∷ [])) none ∙ sym (ap as_values last)

      go : (b : Bool) → bytes_eq o other ≡ b → all_of other (with_values o (reading_by (optioned o)) CommandLine (v ∷ []) rows) ≡ as_values (value_of other (given ++ (o, v) ∷ []))
      go true e = subst (λ (x : Text). all_of x (with_values o (reading_by (optioned o)) CommandLine (v ∷ []) rows) ≡ as_values (value_of x (given ++ (o, v) ∷ []))) ((bytes_eq-Decides o other).0 e) here
      go false e = other_values o (reading_by (optioned o)) other (v ∷ []) rows e ∙ r.known other h ∙ sym (ap as_values (value_other o v other given e))

  used_holds : all_of o rows ≡ None → Rows options AreNames (used (optioned o) (v ∷ []) rows) (given ++ (o, v) ∷ []) names
  used_holds none = subst (λ (rs : List Row). Rows options AreNames rs (given ++ (o, v) ∷ []) names) (sym (used_rows none)) (record {
    apart = apart_then o v given r.apart (no_value o given (all_of o rows) (r.known o among) none);
    known = more_known none;
    named = keeps o v rows names among none r.named;
    explicit = still_explicit o (reading_by (optioned o)) (v ∷ []) rows r.explicit;
  })

  repeated : repeat_fault false o rows ≡ [] → all_of o rows ≡ None
  repeated e = go (all_of o rows) (has_row_of o rows) e
    where
      go : (found : Option (List Text)) → has_row o rows ≡ is_some found → cond (has_row o rows && true) (kind.ArgumentConflict ∷ []) [] ≡ [] → found ≡ None
      go None is e = refl
      go (Some vs) is e = let bad = rw is at e in absurd (conflict bad)

  pub use_holds : use_fault false (optioned o) (v ∷ []) rows ≡ [] → Rows options AreNames (used (optioned o) (v ∷ []) rows) (given ++ (o, v) ∷ []) names
  use_holds e = used_holds (repeated (first_nil (repeat_fault false o rows) [] e))

  pub use_passes : AreApart (given ++ (o, v) ∷ []) → use_fault false (optioned o) (v ∷ []) rows ≡ []
  use_passes h =
      let none : all_of o rows ≡ None = r.known o among ∙ ap as_values (none_again o v given h) in
      both_nil (repeat_fault false o rows) [] (rw (has_row_of o rows, none) refl) refl

-- ---- between two words

-- What a walk holds where options and names were given, of which one may still be pending. That it has no fault is known
-- once it is settled.
pub record Stands (c : List Rule) (options : List Text) (most : ℕ) (AreNames : List Row → List Text → Type 0) (IsPlace : ℕ → List Text → Type 0) (h : Held) (p : ℕ) (given : Given) (names : List Text) : Type 0 where
  pub skip : h.skip ≡ 0
  pub place : IsPlace p names
  pub full : IfSome h.pending (λ q. q.1 ≡ [] → ⊥)
  pub settles : settle_fault c false h ≡ [] → Rows options AreNames (settled c h).rows given names
  pub fits : AreApart given → length names ≤ most → settle_fault c false h ≡ []

-- a name was taken
pub record Takes (c : List Rule) (options : List Text) (most : ℕ) (AreNames : List Row → List Text → Type 0) (IsPlace : ℕ → List Text → Type 0) (h : Held) (p : ℕ) (given : Given) (names : List Text) (word : Text) : Type 0 where
  pub rule : Rule
  pub found : arg_by_index c p ≡ Some rule
  pub plain : rule.trailing_var_arg ≡ false
  pub stands : Stands c options most AreNames IsPlace (positional_held c rule word h) (next_position rule p) given (names ++ word ∷ [])

-- which names a command takes
pub record TakesNames (title : Text) (c : List Rule) (options : List Text) (most : ℕ) (AreNames : List Row → List Text → Type 0) (IsPlace : ℕ → List Text → Type 0) : Type 0 where
  pub takes : (h : Held) (p : ℕ) (given : Given) (names : List Text) (word : Text) → Stands c options most AreNames IsPlace h p given names → name_fault title c p h ≡ [] → Takes c options most AreNames IsPlace h p given names word
  -- an option that waits for a value is settled before a name
  pub waits : (h : Held) (p : ℕ) (o : Text) (vs : List Text) → IsOneOf o options → h.pending ≡ Some (o, vs) → name_fault title c p h ≡ [] → settle_fault c false h ≡ []
  pub passes : (h : Held) (p : ℕ) (given : Given) (names : List Text) (word : Text) → Stands c options most AreNames IsPlace h p given names → AreApart given → length (names ++ word ∷ []) ≤ most → name_fault title c p h ≡ []

pending_faults : (c : List Rule) (o : Text) (vs : List Text) (rows : List Row) (skip : ℕ) → arg_by_id c o ≡ Some (optioned o)
    → settle_fault c false (record { rows = rows; pending = Some (o, vs); skip = skip }) ≡ use_fault false (optioned o) vs rows
pending_faults c o vs rows skip is = rw is refl

pending_used : (c : List Rule) (o : Text) (vs : List Text) (rows : List Row) (skip : ℕ) → arg_by_id c o ≡ Some (optioned o)
    → (settled c (record { rows = rows; pending = Some (o, vs); skip = skip })).rows ≡ used (optioned o) vs rows
pending_used c o vs rows skip is = rw is refl

is_long : (t o : Text) (v : Option Text) → (t ≡ [] → ⊥) → name_and_value t ≡ (o, v) → IsLong (45 ∷ 45 ∷ t) o v
is_long [] o v some e = absurd (some refl)
is_long (x ∷ xs) o v some e = record { long = ap (λ (q : Text × Option Text). Some q) e; ends = refl }

no_cons : (x : ℕ) (xs : Text) → x ∷ xs ≡ [] → ⊥
no_cons x xs e = cc

no_empty : (o v : Text) → (o ≡ [] → ⊥) → o ++ 61 ∷ v ≡ [] → ⊥
no_empty [] v some e = some refl
no_empty (x ∷ o) v some e = absurd (no_cons x (o ++ 61 ∷ v) e)

value_or_flag : (o : Text) → (takes_value o ≡ true) ⊎ (takes_value o ≡ false)
value_or_flag o = go (takes_value o) refl
  where
    go : (b : Bool) → takes_value o ≡ b → (takes_value o ≡ true) ⊎ (takes_value o ≡ false)
    go true e = inl e
    go false e = inr e

rest_next : (b : Bool) → IsRest (cond b positional idle)
rest_next true = tt
rest_next false = tt

no_value_waits : (o : Text) (rows : List Row) → use_fault false (optioned o) [] rows ≡ [] → ⊥
no_value_waits o rows e = cc

then_more : (names : List Text) (word : Text) (words : List Text) → (names ++ word ∷ []) ++ words ≡ names ++ word ∷ words
then_more names word words = append_assoc names (word ∷ []) words

then_given : (given : Given) (g : Text × Text) (more : Given) → (given ++ g ∷ []) ++ more ≡ given ++ g ∷ more
then_given given g more = append_assoc given (g ∷ []) more

module _ (title : Text) (c : List Rule) (options : List Text) (most : ℕ) (AreNames : List Row → List Text → Type 0) (IsPlace : ℕ → List Text → Type 0) (knows : Knows c options) (keeps : Keeps options AreNames) (names_of : TakesNames title c options most AreNames IsPlace) where
  abbrev Standing : Held → ℕ → Given → List Text → Type 0
  Standing = Stands c options most AreNames IsPlace

  abbrev Held' : List Row → Given → List Text → Type 0
  Held' = Rows options AreNames

  abbrev whole_fault : Walk → List Text → Kinds
  whole_fault w words = or_else (walk_fault (leaf_of title c) [] w words) (settle_fault c false (fold (walked c []) w words).held)

  abbrev end_rows : Walk → List Text → List Row
  end_rows w words = (settled c (fold (walked c []) w words).held).rows

  first_word : (w : Walk) (word : Text) (words : List Text) → whole_fault w (word ∷ words) ≡ [] → (turn_fault (leaf_of title c) [] w word ≡ []) × (whole_fault (walked c [] w word) words ≡ [])
  unfolding walk_fault
  first_word w word words e = go (turn_fault (leaf_of title c) [] w word) e
    where
      go : (t : Kinds) → or_else (or_else t (walk_fault (leaf_of title c) [] (walked c [] w word) words)) (settle_fault c false (fold (walked c []) (walked c [] w word) words).held) ≡ []
          → (t ≡ []) × (whole_fault (walked c [] w word) words ≡ [])
      go [] e = (refl, e)
      go (k ∷ ks) e = cc

  word_passes : (w : Walk) (word : Text) (words : List Text) → turn_fault (leaf_of title c) [] w word ≡ [] → whole_fault (walked c [] w word) words ≡ [] → whole_fault w (word ∷ words) ≡ []
  unfolding walk_fault
  word_passes w word words t e = rw t e

  ended_fault : (w : Walk) → whole_fault w [] ≡ settle_fault c false w.held
  unfolding walk_fault
  ended_fault w = refl

  -- ---- behind `--`

  trailing_name : (waiting : Waiting) (p : ℕ) (h : Held) (word : Text) (rule : Rule) → arg_by_index c p ≡ Some rule
      → walked c [] (state h waiting p true) word ≡ state (positional_held c rule word h) (cond (is_multiple rule) positional idle) (next_position rule p) true
  unfolding walked
  trailing_name waiting p h word rule is = rw is refl

  trailing_fault : (waiting : Waiting) (p : ℕ) (h : Held) (word : Text) → turn_fault (leaf_of title c) [] (state h waiting p true) word ≡ name_fault title c p h
  trailing_fault waiting p h word = refl

  trail_holds : (words : List Text) (h : Held) (waiting : Waiting) (p : ℕ) (given : Given) (names : List Text) → Standing h p given names → whole_fault (state h waiting p true) words ≡ [] → Held' (end_rows (state h waiting p true) words) given (names ++ words)
  trail_holds [] h waiting p given names s e =
      subst (λ (ns : List Text). Held' (settled c h).rows given ns) (sym (append-nil names)) (s.settles (sym (ended_fault (state h waiting p true)) ∙ e))
  trail_holds (word ∷ words) h waiting p given names s e =
      let parts = first_word (state h waiting p true) word words e in
      let t = names_of.takes h p given names word s (sym (trailing_fault waiting p h word) ∙ parts.0) in
      let is = trailing_name waiting p h word t.rule t.found in
      subst (λ (w : Walk). Held' (end_rows w words) given (names ++ word ∷ words)) (sym is)
      (subst (λ (ns : List Text). Held' (end_rows (state (positional_held c t.rule word h) (cond (is_multiple t.rule) positional idle) (next_position t.rule p) true) words) given ns) (then_more names word words)
      (trail_holds words (positional_held c t.rule word h) (cond (is_multiple t.rule) positional idle) (next_position t.rule p) given (names ++ word ∷ []) t.stands
      (subst (λ (w : Walk). whole_fault w words ≡ []) is parts.1)))

  fewer : (names : List Text) (word : Text) (words : List Text) → length (names ++ word ∷ words) ≤ most → length (names ++ word ∷ []) ≤ most
  fewer names word words few =
      let one : length (names ++ word ∷ []) ≡ length names + 1 = length-append names (word ∷ []) in
      let all : length (names ++ word ∷ words) ≡ length names + length (word ∷ words) = length-append names (word ∷ words) in
      omega (arith, few)

  trail_passes : (words : List Text) (h : Held) (waiting : Waiting) (p : ℕ) (given : Given) (names : List Text) → Standing h p given names → AreApart given → length (names ++ words) ≤ most → whole_fault (state h waiting p true) words ≡ []
  trail_passes [] h waiting p given names s once few = ended_fault (state h waiting p true) ∙ s.fits once (subst (λ (ns : List Text). length ns ≤ most) (append-nil names) few)
  trail_passes (word ∷ words) h waiting p given names s once few =
      let none = names_of.passes h p given names word s once (fewer names word words few) in
      let t = names_of.takes h p given names word s none in
      let is = trailing_name waiting p h word t.rule t.found in
      word_passes (state h waiting p true) word words (trailing_fault waiting p h word ∙ none)
      (subst (λ (w : Walk). whole_fault w words ≡ []) (sym is)
      (trail_passes words (positional_held c t.rule word h) (cond (is_multiple t.rule) positional idle) (next_position t.rule p) given (names ++ word ∷ []) t.stands once
      (subst (λ (ns : List Text). length ns ≤ most) (sym (then_more names word words)) few)))

  -- ---- a name before it

  name_walks : (waiting : Waiting) (p : ℕ) (h : Held) (word : Text) (rule : Rule) → IsRest waiting → IsFree word → arg_by_index c p ≡ Some rule → rule.trailing_var_arg ≡ false
      → walked c [] (state h waiting p false) word ≡ state (positional_held c rule word h) (cond (is_multiple rule) positional idle) (next_position rule p) false
  name_walks waiting p h word rule rest w is plain = name_taken title c waiting p h word rest w ∙ rw (is, plain) refl

  -- ---- an option

  option_stands : (h : Held) (p : ℕ) (given : Given) (names : List Text) (o v : Text) → Standing h p given names → IsOneOf o options → takes_value o ≡ true → settle_fault c false h ≡ []
      → Standing (record (settled c h) { pending = Some (o, v ∷ []) }) p (given ++ (o, v) ∷ []) names
  option_stands h p given names o v s among takes none =
      let r = s.settles none in
      record {
        skip = s.skip;
        place = s.place;
        full = λ e. cc;
        settles = λ e. subst (λ (rows : List Row). Held' rows (given ++ (o, v) ∷ []) names) (sym (pending_used c o (v ∷ []) (settled c h).rows h.skip (knows.by_id o among takes)))
            (use_holds options AreNames keeps o v among (settled c h).rows given names r (sym (pending_faults c o (v ∷ []) (settled c h).rows h.skip (knows.by_id o among takes)) ∙ e));
        fits = λ once few. pending_faults c o (v ∷ []) (settled c h).rows h.skip (knows.by_id o among takes) ∙ use_passes options AreNames keeps o v among (settled c h).rows given names r once;
      }

  joined_stands : (h : Held) (p : ℕ) (given : Given) (names : List Text) (o v : Text) → Standing h p given names → IsOneOf o options → settle_fault c false h ≡ [] → use_fault false (optioned o) (v ∷ []) (settled c h).rows ≡ []
      → Standing (reacted c (optioned o) (v ∷ []) h) p (given ++ (o, v) ∷ []) names
  joined_stands h p given names o v s among none passes =
      record {
        skip = s.skip;
        place = s.place;
        full = tt;
        settles = λ e. use_holds options AreNames keeps o v among (settled c h).rows given names (s.settles none) passes;
        fits = λ once few. refl;
      }

  -- ---- all words: what they spell

  pub record Spelled (words : List Text) (w : Walk) (given : Given) (names : List Text) : Type 0 where
    pub more : Given
    pub others : List Text
    pub spell : Spell options words more others
    pub holds : Rows options AreNames (end_rows w words) (given ++ more) (names ++ others)

  abbrev SpelledFrom : List Text → Type 0
  SpelledFrom words =
      (h : Held) (waiting : Waiting) (p : ℕ) (given : Given) (names : List Text) → IsRest waiting → AreTexts words → Standing h p given names → whole_fault (state h waiting p false) words ≡ [] → Spelled words (state h waiting p false) given names

  -- what follows the next word
  abbrev AfterNext : List Text → Type 0
  AfterNext [] = Unit {0}
  AfterNext (v ∷ rest) = SpelledFrom rest

  name_spelled : (word : Text) (words : List Text) → SpelledFrom words → is_free word ≡ true → SpelledFrom (word ∷ words)
  name_spelled word words further is h waiting p given names rest texts s e =
      let w = free_word word is in
      let parts = first_word (state h waiting p false) word words e in
      let t = names_of.takes h p given names word s (sym (name_faults title c waiting p h word rest w) ∙ parts.0) in
      let walks = name_walks waiting p h word t.rule rest w t.found t.plain in
      let after = further (positional_held c t.rule word h) (cond (is_multiple t.rule) positional idle) (next_position t.rule p) given (names ++ word ∷ []) (rest_next (is_multiple t.rule)) texts.1 t.stands
      (subst (λ (v : Walk). whole_fault v words ≡ []) walks parts.1) in
      record {
        more = after.more;
        others = word ∷ after.others;
        spell = name word words after.more after.others is after.spell;
        holds = subst (λ (v : Walk). Held' (end_rows v words) (given ++ after.more) (names ++ word ∷ after.others)) (sym walks)
            (subst (λ (ns : List Text). Held' (end_rows (state (positional_held c t.rule word h) (cond (is_multiple t.rule) positional idle) (next_position t.rule p) false) words) (given ++ after.more) ns) (then_more names word after.others) after.holds);
      }

  dashes_spelled : (words : List Text) → SpelledFrom (codes "--" ∷ words)
  dashes_spelled words h waiting p given names rest texts s e =
      let parts = first_word (state h waiting p false) (codes "--") words e in
      let walks = dashes_taken title c waiting p h in
      let holds = trail_holds words h waiting p given names s (subst (λ (v : Walk). whole_fault v words ≡ []) walks parts.1) in
      record {
        more = [];
        others = words;
        spell = behind words;
        holds = subst (λ (v : Walk). Held' (end_rows v words) (given ++ []) (names ++ words)) (sym walks)
            (subst (λ (g : Given). Held' (end_rows (state h waiting p true) words) g (names ++ words)) (sym (append-nil given)) holds);
      }

  joined_among : (o v : Text) (words : List Text) → SpelledFrom words → IsLong (with_value o v) o (Some v) → IsOneOf o options → takes_value o ≡ true → SpelledFrom (with_value o v ∷ words)
  joined_among o v words further w among takes h waiting p given names rest texts s e =
      let parts = first_word (state h waiting p false) (with_value o v) words e in
      let faults = sym (joined_faults title c waiting p h (with_value o v) o v w (knows.by_long o among takes)) ∙ parts.0 in
      let walks = joined_taken title c waiting p h (with_value o v) o v w (knows.by_long o among takes) in
      let after = further (reacted c (optioned o) (v ∷ []) h) idle p (given ++ (o, v) ∷ []) names tt texts.1
      (joined_stands h p given names o v s among (first_nil _ _ faults) (second_nil (settle_fault c false h) _ faults)) (subst (λ (x : Walk). whole_fault x words ≡ []) walks parts.1) in
      record {
        more = (o, v) ∷ after.more;
        others = after.others;
        spell = joined o v words after.more after.others among takes after.spell;
        holds = subst (λ (x : Walk). Held' (end_rows x words) (given ++ (o, v) ∷ after.more) (names ++ after.others)) (sym walks)
            (subst (λ (g : Given). Held' (end_rows (state (reacted c (optioned o) (v ∷ []) h) idle p false) words) g (names ++ after.others)) (then_given given (o, v) after.more) after.holds);
      }

  flag_spelled : (o : Text) (words : List Text) → SpelledFrom words → IsLong (codes "--" ++ o) o None → IsOneOf o options → takes_value o ≡ false → SpelledFrom ((codes "--" ++ o) ∷ words)
  flag_spelled o words further w among none h waiting p given names rest texts s e =
      let parts = first_word (state h waiting p false) (codes "--" ++ o) words e in
      let faults = sym (flag_faults title c waiting p h (codes "--" ++ o) o w (knows.flags o among none)) ∙ parts.0 in
      let walks = flag_taken title c waiting p h (codes "--" ++ o) o w (knows.flags o among none) in
      let after = further (reacted c (optioned o) (flag_value ∷ []) h) idle p (given ++ (o, flag_value) ∷ []) names tt texts.1
      (joined_stands h p given names o flag_value s among (first_nil _ _ faults) (second_nil (settle_fault c false h) _ faults)) (subst (λ (x : Walk). whole_fault x words ≡ []) walks parts.1) in
      record {
        more = (o, flag_value) ∷ after.more;
        others = after.others;
        spell = flag o words after.more after.others among none after.spell;
        holds = subst (λ (x : Walk). Held' (end_rows x words) (given ++ (o, flag_value) ∷ after.more) (names ++ after.others)) (sym walks)
            (subst (λ (g : Given). Held' (end_rows (state (reacted c (optioned o) (flag_value ∷ []) h) idle p false) words) g (names ++ after.others)) (then_given given (o, flag_value) after.more) after.holds);
      }

  joined_spelled : (o v : Text) (words : List Text) → SpelledFrom words → IsLong (with_value o v) o (Some v) → SpelledFrom (with_value o v ∷ words)
  joined_spelled o v words further w h waiting p given names rest texts s e = go (one_of o options)
    where
      go : IsOneOf o options ⊎ (IsOneOf o options → ⊥) → Spelled (with_value o v ∷ words) (state h waiting p false) given names
      go (inr none) = absurd (unknown_option title c waiting p h (with_value o v) o (Some v) w (knows.none o none) (first_word (state h waiting p false) (with_value o v) words e).0)
      go (inl among) =
          elim (value_or_flag o) [
            | inl takes ↦ joined_among o v words further w among takes h waiting p given names rest texts s e
            | inr none ↦ absurd (valued_flag title c waiting p h (with_value o v) o v w (knows.flags o among none) (first_word (state h waiting p false) (with_value o v) words e).0)
          ]

  -- an option behind which nothing, `--` or an option stands
  long_settles : (t : Text) → (t ≡ [] → ⊥) → (waiting : Waiting) (p : ℕ) (h : Held) → turn_fault (leaf_of title c) [] (state h waiting p false) (45 ∷ 45 ∷ t) ≡ [] → settle_fault c false h ≡ []
  long_settles t some waiting p h e = go t (cut t) some e
    where
      go : (t : Text) → Cut t → (t ≡ [] → ⊥) → turn_fault (leaf_of title c) [] (state h waiting p false) (45 ∷ 45 ∷ t) ≡ [] → settle_fault c false h ≡ []
      go t (whole o lacks) some e =
          let w = is_long o o None some (name_and_value-without o lacks) in
          elim (one_of o options) [
            | inl among ↦ elim (value_or_flag o) [
              | inl takes ↦ sym (option_faults title c waiting p h (45 ∷ 45 ∷ o) o w (knows.by_long o among takes)) ∙ e
              | inr none ↦ first_nil _ _ (sym (flag_faults title c waiting p h (45 ∷ 45 ∷ o) o w (knows.flags o among none)) ∙ e)
            ]
            | inr none ↦ absurd (unknown_option title c waiting p h (45 ∷ 45 ∷ o) o None w (knows.none o none) e)
          ]
      go t (at_equals o v lacks) some e =
          let w = is_long (o ++ 61 ∷ v) o (Some v) some (name_and_value-at o v lacks) in
          elim (one_of o options) [
            | inl among ↦ elim (value_or_flag o) [
              | inl takes ↦ first_nil _ _ (sym (joined_faults title c waiting p h (45 ∷ 45 ∷ (o ++ 61 ∷ v)) o v w (knows.by_long o among takes)) ∙ e)
              | inr none ↦ absurd (valued_flag title c waiting p h (45 ∷ 45 ∷ (o ++ 61 ∷ v)) o v w (knows.flags o among none) e)
            ]
            | inr none ↦ absurd (unknown_option title c waiting p h (45 ∷ 45 ∷ (o ++ 61 ∷ v)) o (Some v) w (knows.none o none) e)
          ]

  unvalued : (o : Text) (h : Held) → IsOneOf o options → takes_value o ≡ true → settle_fault c false (waiting_held title c (settled c h) o) ≡ [] → ⊥
  unvalued o h among takes e = no_value_waits o (settled c h).rows (sym (pending_faults c o [] (settled c h).rows h.skip (knows.by_id o among takes)) ∙ e)

  unvalued_trail : (o : Text) (words : List Text) (h : Held) (waiting : Waiting) (p : ℕ) → IsOneOf o options → takes_value o ≡ true → whole_fault (state (waiting_held title c (settled c h) o) waiting p true) words ≡ [] → ⊥
  unvalued_trail o [] h waiting p among takes e = unvalued o h among takes (sym (ended_fault (state (waiting_held title c (settled c h) o) waiting p true)) ∙ e)
  unvalued_trail o (word ∷ words) h waiting p among takes e =
      let parts = first_word (state (waiting_held title c (settled c h) o) waiting p true) word words e in
      unvalued o h among takes (names_of.waits (waiting_held title c (settled c h) o) p o [] among refl (sym (trailing_fault waiting p (waiting_held title c (settled c h) o) word) ∙ parts.0))

  value_spelled : (o v : Text) (rest : List Text) → SpelledFrom rest → IsLong (codes "--" ++ o) o None → IsOneOf o options → takes_value o ≡ true → is_free v ≡ true → SpelledFrom ((codes "--" ++ o) ∷ v ∷ rest)
  value_spelled o v rest further w among takes is h waiting p given names rests texts s e =
      let word : Text = codes "--" ++ o in
      let first = first_word (state h waiting p false) word (v ∷ rest) e in
      let none : settle_fault c false h ≡ [] = sym (option_faults title c waiting p h word o w (knows.by_long o among takes)) ∙ first.0 in
      let waits = option_taken title c waiting p h word o w (knows.by_long o among takes) in
      let then_value = first_word (state (waiting_held title c (settled c h) o) (option o) p false) v rest (subst (λ (x : Walk). whole_fault x (v ∷ rest) ≡ []) waits first.1) in
      let walks = value_taken title c p (settled c h) o v (free_word v is) (knows.by_id o among takes) in
      let g : Held = record (settled c h) { pending = Some (o, v ∷ []) } in
      let after = further g idle p (given ++ (o, v) ∷ []) names tt texts.1.1 (option_stands h p given names o v s among takes none) (subst (λ (x : Walk). whole_fault x rest ≡ []) walks then_value.1) in
      record {
        more = (o, v) ∷ after.more;
        others = after.others;
        spell = apart o v rest after.more after.others among takes is after.spell;
        holds = subst (λ (x : Walk). Held' (end_rows x (v ∷ rest)) (given ++ (o, v) ∷ after.more) (names ++ after.others)) (sym waits)
            (subst (λ (x : Walk). Held' (end_rows x rest) (given ++ (o, v) ∷ after.more) (names ++ after.others)) (sym walks)
            (subst (λ (k : Given). Held' (end_rows (state g idle p false) rest) k (names ++ after.others)) (then_given given (o, v) after.more) after.holds));
      }

  apart_spelled : (o : Text) (words : List Text) → AfterNext words → IsLong (codes "--" ++ o) o None → IsOneOf o options → takes_value o ≡ true → SpelledFrom ((codes "--" ++ o) ∷ words)
  apart_spelled o [] further w among takes h waiting p given names rest texts s e =
      let first = first_word (state h waiting p false) (codes "--" ++ o) [] e in
      let waits = option_taken title c waiting p h (codes "--" ++ o) o w (knows.by_long o among takes) in
      absurd (unvalued o h among takes (sym (ended_fault (state (waiting_held title c (settled c h) o) (option o) p false)) ∙ subst (λ (x : Walk). whole_fault x [] ≡ []) waits first.1))
  apart_spelled o (v ∷ words) further w among takes h waiting p given names rest texts s e = go v (view v) texts.1.0 refl
    where
      second : (turn_fault (leaf_of title c) [] (state (waiting_held title c (settled c h) o) (option o) p false) v ≡ []) × (whole_fault (walked c [] (state (waiting_held title c (settled c h) o) (option o) p false) v) words ≡ [])
      second =
          let first = first_word (state h waiting p false) (codes "--" ++ o) (v ∷ words) e in
          let waits = option_taken title c waiting p h (codes "--" ++ o) o w (knows.by_long o among takes) in
          first_word (state (waiting_held title c (settled c h) o) (option o) p false) v words (subst (λ (x : Walk). whole_fault x (v ∷ words) ≡ []) waits first.1)

      at : (u : Text) → u ≡ v → (turn_fault (leaf_of title c) [] (state (waiting_held title c (settled c h) o) (option o) p false) u ≡ []) × (whole_fault (walked c [] (state (waiting_held title c (settled c h) o) (option o) p false) u) words ≡ [])
      at u is = subst (λ (x : Text). (turn_fault (leaf_of title c) [] (state (waiting_held title c (settled c h) o) (option o) p false) x ≡ []) × (whole_fault (walked c [] (state (waiting_held title c (settled c h) o) (option o) p false) x) words ≡ [])) (sym is) second

      go : (u : Text) → View u → IsUtf8 u → u ≡ v → Spelled ((codes "--" ++ o) ∷ v ∷ words) (state h waiting p false) given names
      go u (free x is l t d) utf8 same = value_spelled o v words further w among takes (subst (λ (y : Text). is_free y ≡ true) same is) h waiting p given names rest texts s e
      go u dashes utf8 same =
          absurd (unvalued_trail o words h (option o) p among takes (subst (λ (x : Walk). whole_fault x words ≡ []) (dashes_taken title c (option o) p (waiting_held title c (settled c h) o)) (at (codes "--") same).1))
      go u (long x text) utf8 same = absurd (unvalued o h among takes (long_settles (x ∷ text) (λ e. cc) (option o) p (waiting_held title c (settled c h) o) (at (45 ∷ 45 ∷ x ∷ text) same).0))
      go u (flags b bytes n) utf8 same = absurd (flags_pass title c knows.no_short (option o) p (waiting_held title c (settled c h) o) b bytes n utf8 s.skip (at (45 ∷ b ∷ bytes) same).0)

  -- ---- any word

  long_spelled : (t : Text) (words : List Text) → (t ≡ [] → ⊥) → SpelledFrom words → AfterNext words → SpelledFrom ((45 ∷ 45 ∷ t) ∷ words)
  long_spelled t words some further after h waiting p given names rest texts s e = go t (cut t) some texts e
    where
      go : (t : Text) → Cut t → (t ≡ [] → ⊥) → AreTexts ((45 ∷ 45 ∷ t) ∷ words) → whole_fault (state h waiting p false) ((45 ∷ 45 ∷ t) ∷ words) ≡ [] → Spelled ((45 ∷ 45 ∷ t) ∷ words) (state h waiting p false) given names
      go t (whole o lacks) some texts e =
          let w = is_long o o None some (name_and_value-without o lacks) in
          elim (one_of o options) [
            | inl among ↦ elim (value_or_flag o) [
              | inl takes ↦ apart_spelled o words after w among takes h waiting p given names rest texts s e
              | inr none ↦ flag_spelled o words further w among none h waiting p given names rest texts s e
            ]
            | inr none ↦ absurd (unknown_option title c waiting p h (45 ∷ 45 ∷ o) o None w (knows.none o none) (first_word (state h waiting p false) (45 ∷ 45 ∷ o) words e).0)
          ]
      go t (at_equals o v lacks) some texts e =
          joined_spelled o v words further (is_long (o ++ 61 ∷ v) o (Some v) some (name_and_value-at o v lacks)) h waiting p given names rest texts s e

  word_spelled : (word : Text) (words : List Text) → SpelledFrom words → AfterNext words → SpelledFrom (word ∷ words)
  word_spelled word words further after = go word (view word)
    where
      go : (word : Text) → View word → SpelledFrom (word ∷ words)
      go word (free w is l t d) = name_spelled w words further is
      go word dashes = dashes_spelled words
      go word (long x text) = long_spelled (x ∷ text) words (λ e. cc) further after
      go word (flags b bytes n) = λ h waiting p given names rest texts s e.
          absurd (flags_pass title c knows.no_short waiting p h b bytes n texts.0 s.skip (first_word (state h waiting p false) (45 ∷ b ∷ bytes) words e).0)

  none_spelled : SpelledFrom []
  none_spelled h waiting p given names rest texts s e = record {
    more = [];
    others = [];
    spell = ended;
    holds = subst (λ (g : Given). Held' (settled c h).rows g (names ++ [])) (sym (append-nil given)) (subst (λ (ns : List Text). Held' (settled c h).rows given ns) (sym (append-nil names)) (s.settles (sym (ended_fault (state h waiting p false)) ∙ e)));
  }

  pub spelled : (words : List Text) → SpelledFrom words
  spelled [] = none_spelled
  spelled (word ∷ []) = word_spelled word [] none_spelled tt
  spelled (word ∷ next ∷ words) = word_spelled word (next ∷ words) (spelled (next ∷ words)) (spelled words)

  -- ---- all words: what is spelled passes

  abbrev Passes : List Text → Walk → Given → List Text → Type 0
  Passes words w given names = (whole_fault w words ≡ []) × Held' (end_rows w words) given names

  abbrev PassesFrom : List Text → Given → List Text → Type 0
  PassesFrom words more others =
      (h : Held) (waiting : Waiting) (p : ℕ) (given : Given) (names : List Text) → IsRest waiting → Standing h p given names → AreApart (given ++ more) → length (names ++ others) ≤ most
      → Passes words (state h waiting p false) (given ++ more) (names ++ others)

  before_few : (names others : List Text) → length (names ++ others) ≤ most → length names ≤ most
  before_few names others few = let all : length (names ++ others) ≡ length names + length others = length-append names others in omega (arith, few)

  none_passes : PassesFrom [] [] []
  none_passes h waiting p given names rest s once few =
      let none : settle_fault c false h ≡ [] = s.fits (apart_before given [] once) (before_few names [] few) in (
        ended_fault (state h waiting p false) ∙ none,
        subst (λ (g : Given). Held' (settled c h).rows g (names ++ [])) (sym (append-nil given)) (subst (λ (ns : List Text). Held' (settled c h).rows given ns) (sym (append-nil names)) (s.settles none)),
      )

  dashes_pass_all : (others : List Text) → PassesFrom (codes "--" ∷ others) [] others
  dashes_pass_all others h waiting p given names rest s once few =
      let walks = dashes_taken title c waiting p h in
      let none = trail_passes others h waiting p given names s (apart_before given [] once) few in
      let holds = trail_holds others h waiting p given names s none in (
        word_passes (state h waiting p false) (codes "--") others (dashes_pass title c waiting p h) (subst (λ (v : Walk). whole_fault v others ≡ []) (sym walks) none),
        subst (λ (v : Walk). Held' (end_rows v others) (given ++ []) (names ++ others)) (sym walks)
            (subst (λ (g : Given). Held' (end_rows (state h waiting p true) others) g (names ++ others)) (sym (append-nil given)) holds),
      )

  name_passes : (word : Text) (words : List Text) (more : Given) (others : List Text) → is_free word ≡ true → PassesFrom words more others → PassesFrom (word ∷ words) more (word ∷ others)
  name_passes word words more others is further h waiting p given names rest s once few =
      let w = free_word word is in
      let none = names_of.passes h p given names word s (apart_before given more once) (fewer names word others few) in
      let t = names_of.takes h p given names word s none in
      let walks = name_walks waiting p h word t.rule rest w t.found t.plain in
      let after = further (positional_held c t.rule word h) (cond (is_multiple t.rule) positional idle) (next_position t.rule p) given (names ++ word ∷ []) (rest_next (is_multiple t.rule)) t.stands once
      (subst (λ (ns : List Text). length ns ≤ most) (sym (then_more names word others)) few) in (
        word_passes (state h waiting p false) word words (name_faults title c waiting p h word rest w ∙ none) (subst (λ (v : Walk). whole_fault v words ≡ []) (sym walks) after.0),
        subst (λ (v : Walk). Held' (end_rows v words) (given ++ more) (names ++ word ∷ others)) (sym walks)
            (subst (λ (ns : List Text). Held' (end_rows (state (positional_held c t.rule word h) (cond (is_multiple t.rule) positional idle) (next_position t.rule p) false) words) (given ++ more) ns) (then_more names word others) after.1),
      )

  once_more : (given : Given) (g : Text × Text) (more : Given) → AreApart (given ++ g ∷ more) → AreApart ((given ++ g ∷ []) ++ more)
  once_more given g more once = subst AreApart (sym (then_given given g more)) once

  apart_passes : (o v : Text) (words : List Text) (more : Given) (others : List Text) → IsOneOf o options → takes_value o ≡ true → is_free v ≡ true → PassesFrom words more others → PassesFrom ((codes "--" ++ o) ∷ v ∷ words) ((o, v) ∷ more) others
  apart_passes o v words more others among takes is further h waiting p given names rest s once few =
      let word : Text = codes "--" ++ o in
      let w : IsLong word o None = is_long o o None (knows.some o among) (name_and_value-without o (knows.lacks o among)) in
      let none : settle_fault c false h ≡ [] = s.fits (apart_before given ((o, v) ∷ more) once) (before_few names others few) in
      let waits = option_taken title c waiting p h word o w (knows.by_long o among takes) in
      let walks = value_taken title c p (settled c h) o v (free_word v is) (knows.by_id o among takes) in
      let g : Held = record (settled c h) { pending = Some (o, v ∷ []) } in
      let after = further g idle p (given ++ (o, v) ∷ []) names tt (option_stands h p given names o v s among takes none) (once_more given (o, v) more once) few in (
        word_passes (state h waiting p false) word (v ∷ words) (option_faults title c waiting p h word o w (knows.by_long o among takes) ∙ none)
            (subst (λ (x : Walk). whole_fault x (v ∷ words) ≡ []) (sym waits)
            (word_passes (state (waiting_held title c (settled c h) o) (option o) p false) v words (value_passes title c p (waiting_held title c (settled c h) o) o v (free_word v is))
            (subst (λ (x : Walk). whole_fault x words ≡ []) (sym walks) after.0))),
        subst (λ (x : Walk). Held' (end_rows x (v ∷ words)) (given ++ (o, v) ∷ more) (names ++ others)) (sym waits)
            (subst (λ (x : Walk). Held' (end_rows x words) (given ++ (o, v) ∷ more) (names ++ others)) (sym walks)
            (subst (λ (k : Given). Held' (end_rows (state g idle p false) words) k (names ++ others)) (then_given given (o, v) more) after.1)),
      )

  joined_passes : (o v : Text) (words : List Text) (more : Given) (others : List Text) → IsOneOf o options → takes_value o ≡ true → PassesFrom words more others → PassesFrom (with_value o v ∷ words) ((o, v) ∷ more) others
  joined_passes o v words more others among takes further h waiting p given names rest s once few =
      let w : IsLong (with_value o v) o (Some v) = is_long (o ++ 61 ∷ v) o (Some v) (no_empty o v (knows.some o among)) (name_and_value-at o v (knows.lacks o among)) in
      let none : settle_fault c false h ≡ [] = s.fits (apart_before given ((o, v) ∷ more) once) (before_few names others few) in
      let passes = use_passes options AreNames keeps o v among (settled c h).rows given names (s.settles none) (apart_before (given ++ (o, v) ∷ []) more (once_more given (o, v) more once)) in
      let walks = joined_taken title c waiting p h (with_value o v) o v w (knows.by_long o among takes) in
      let after = further (reacted c (optioned o) (v ∷ []) h) idle p (given ++ (o, v) ∷ []) names tt (joined_stands h p given names o v s among none passes) (once_more given (o, v) more once) few in (
        word_passes (state h waiting p false) (with_value o v) words (joined_faults title c waiting p h (with_value o v) o v w (knows.by_long o among takes) ∙ both_nil (settle_fault c false h) (use_fault false (optioned o) (v ∷ []) (settled c h).rows) none passes)
            (subst (λ (x : Walk). whole_fault x words ≡ []) (sym walks) after.0),
        subst (λ (x : Walk). Held' (end_rows x words) (given ++ (o, v) ∷ more) (names ++ others)) (sym walks)
            (subst (λ (g : Given). Held' (end_rows (state (reacted c (optioned o) (v ∷ []) h) idle p false) words) g (names ++ others)) (then_given given (o, v) more) after.1),
      )

  flag_passes : (o : Text) (words : List Text) (more : Given) (others : List Text) → IsOneOf o options → takes_value o ≡ false → PassesFrom words more others → PassesFrom ((codes "--" ++ o) ∷ words) ((o, flag_value) ∷ more) others
  flag_passes o words more others among is further h waiting p given names rest s once few =
      let w : IsLong (codes "--" ++ o) o None = is_long o o None (knows.some o among) (name_and_value-without o (knows.lacks o among)) in
      let none : settle_fault c false h ≡ [] = s.fits (apart_before given ((o, flag_value) ∷ more) once) (before_few names others few) in
      let passes = use_passes options AreNames keeps o flag_value among (settled c h).rows given names (s.settles none) (apart_before (given ++ (o, flag_value) ∷ []) more (once_more given (o, flag_value) more once)) in
      let walks = flag_taken title c waiting p h (codes "--" ++ o) o w (knows.flags o among is) in
      let after = further (reacted c (optioned o) (flag_value ∷ []) h) idle p (given ++ (o, flag_value) ∷ []) names tt (joined_stands h p given names o flag_value s among none passes) (once_more given (o, flag_value) more once) few in (
        word_passes (state h waiting p false) (codes "--" ++ o) words (flag_faults title c waiting p h (codes "--" ++ o) o w (knows.flags o among is) ∙ both_nil (settle_fault c false h) (use_fault false (optioned o) (flag_value ∷ []) (settled c h).rows) none passes)
            (subst (λ (x : Walk). whole_fault x words ≡ []) (sym walks) after.0),
        subst (λ (x : Walk). Held' (end_rows x words) (given ++ (o, flag_value) ∷ more) (names ++ others)) (sym walks)
            (subst (λ (g : Given). Held' (end_rows (state (reacted c (optioned o) (flag_value ∷ []) h) idle p false) words) g (names ++ others)) (then_given given (o, flag_value) more) after.1),
      )

  pub passes_all : (words : List Text) (more : Given) (others : List Text) → Spell options words more others → PassesFrom words more others
  passes_all ws ms os ended = none_passes
  passes_all ws ms os (behind others) = dashes_pass_all others
  passes_all ws ms os (name word words more others is spell) = name_passes word words more others is (passes_all words more others spell)
  passes_all ws ms os (apart o v words more others among takes is spell) = apart_passes o v words more others among takes is (passes_all words more others spell)
  passes_all ws ms os (joined o v words more others among takes spell) = joined_passes o v words more others among takes (passes_all words more others spell)
  passes_all ws ms os (flag o words more others among none spell) = flag_passes o words more others among none (passes_all words more others spell)
