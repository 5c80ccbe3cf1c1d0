-- What clap makes of one word of a command that has no command below it.
use Rattle.std.proofs.Common.{◌≡◌, ◌∙◌, ◌==◌, ℕ, Bool, suc, length, List, [], ◌∷◌, None, Some, Option, true, false, refl, sym, ap, subst, codes}
use Rattle.std.specs.Prelude.{slice_get}
use Rattle.std.specs.Option.{option_map_or}
use Rattle.std.specs.Str.{IsUtf8, bytes_eq, chars, encode_utf8_all}
use Rattle.std.proofs.lemmas.Str.{chars-encodes}
use Rattle.clap.proofs.CutLemmas.{Lacks}
use Rattle.clap.specs.Lexer.{long_of, short_of}
use Rattle.clap.specs.Kinds.{Kinds, or_else}
use Rattle.clap.specs.Faults.{flags_fault, positional_fault, settle_fault, turn_fault, use_fault}
use Rattle.clap.specs.Simple.{Shape, filled, with_index}
use Rattle.clap.specs.Walk.{Held, Rule, Text, Waiting, Walk, arg_by_id, arg_by_index, arg_by_long, arg_by_short, idle, option, positional, reacted, settled, to_positional, walked}
use Rattle.clap.specs.declared.error.kind.ErrorKind.{ErrorKind}
use Rattle.clap.specs.declared.error.kind.ErrorKind.TheVariants as kind
use Rattle.m3c_words.specs.Grammar.{command, flag as flag_rule, option as option_rule}
use Rattle.m3c_words_laws.specs.Reads.{IsOneOf, flag_value, takes_value}
use Rattle.m3c_words_laws.proofs.Words.{IsFree, same_text}

-- an option as clap builds it
abbrev pub optioned : Text → Rule
optioned o = with_index 1 (filled (option_rule o))

abbrev pub flagged : Text → Rule
flagged o = with_index 1 (filled (flag_rule o))

-- a command with these rules as clap builds it
abbrev pub leaf_of : Text → List Rule → Shape
leaf_of name c = record (command name []) { rules = c; no_binary_name = true; disable_help_subcommand = true; is_built = true }

abbrev pub state : Held → Waiting → ℕ → Bool → Walk
state h waiting p is_trailing = record { held = h; waiting = waiting; position = p; is_trailing = is_trailing; stopped = None }

-- ---- no fault

pub nil_behind : (a : Kinds) → or_else a [] ≡ a
nil_behind [] = refl
nil_behind (k ∷ ks) = refl

pub first_nil : (a b : Kinds) → or_else a b ≡ [] → a ≡ []
first_nil [] b e = refl
first_nil (k ∷ ks) b e = e

pub second_nil : (a b : Kinds) → or_else a b ≡ [] → b ≡ []
second_nil [] b e = e
second_nil (k ∷ ks) b e = cc

pub both_nil : (a b : Kinds) → a ≡ [] → b ≡ [] → or_else a b ≡ []
both_nil a b e f = ap (λ (x : Kinds). or_else x b) e ∙ f

some_nil : (k : ErrorKind) (ks : Kinds) → k ∷ ks ≡ [] → ⊥
some_nil k ks e = cc

-- ---- characters

-- behind a hyphen there is a character, where the word is UTF-8
chars_behind : (b : ℕ) (bytes : Text) → chars (45 ∷ b ∷ bytes) ≡ 45 ∷ chars (b ∷ bytes)
unfolding chars
chars_behind b bytes = refl

no_bytes : (b : ℕ) (bytes : Text) → [] ≡ b ∷ bytes → ⊥
no_bytes b bytes e = cc

one_byte : (b : ℕ) (bytes : Text) → 45 ∷ [] ≡ 45 ∷ b ∷ bytes → ⊥
one_byte b bytes e = let rest : [] ≡ b ∷ bytes = cc in no_bytes b bytes rest

first_char : (cs : List ℕ) (b : ℕ) (bytes : Text) → encode_utf8_all (45 ∷ cs) ≡ 45 ∷ b ∷ bytes → (x : ℕ) × (slice_get cs 0 ≡ Some x)
unfolding lib.Utf8.encode
first_char [] b bytes e = absurd (one_byte b bytes e)
first_char (x ∷ cs) b bytes e = (x, refl)

some_char : (b : ℕ) (bytes : Text) → IsUtf8 (45 ∷ b ∷ bytes) → (x : ℕ) × (slice_get (chars (b ∷ bytes)) 0 ≡ Some x)
some_char b bytes u =
    let same : u.0 ≡ 45 ∷ chars (b ∷ bytes) = sym (chars-encodes u.0 u.1.0) ∙ ap chars u.1.1 ∙ chars_behind b bytes in
    first_char (chars (b ∷ bytes)) b bytes (ap encode_utf8_all (sym same) ∙ u.1.1)

-- ---- a word that is `--name` or `--name=value`

pub record IsLong (word option : Text) (value : Option Text) : Type 0 where
  pub long : long_of word ≡ Some (option, value)
  pub ends : bytes_eq word (codes "--") ≡ false

-- a word that is `-abc`
pub record IsFlags (word some : Text) : Type 0 where
  pub long : long_of word ≡ None
  pub short : short_of word ≡ Some some
  pub ends : bytes_eq word (codes "--") ≡ false

is_flags : (b : ℕ) (bytes : Text) → (b == 45) ≡ false → IsFlags (45 ∷ b ∷ bytes) (b ∷ bytes)
is_flags b bytes n = record { long = rw n refl; short = rw n refl; ends = rw n refl }

-- a command's options
pub record Knows (c : List Rule) (options : List Text) : Type 0 where
  pub by_id : (o : Text) → IsOneOf o options → takes_value o ≡ true → arg_by_id c o ≡ Some (optioned o)
  pub by_long : (o : Text) → IsOneOf o options → takes_value o ≡ true → arg_by_long c o ≡ Some (optioned o)
  pub flags : (o : Text) → IsOneOf o options → takes_value o ≡ false → arg_by_long c o ≡ Some (flagged o)
  pub none : (o : Text) → (IsOneOf o options → ⊥) → arg_by_long c o ≡ None
  pub no_short : (x : ℕ) → arg_by_short c x ≡ None
  pub lacks : (o : Text) → IsOneOf o options → Lacks 61 o
  pub some : (o : Text) → IsOneOf o options → o ≡ [] → ⊥

-- a name or an option may come next
abbrev pub IsRest : Waiting → Type 0
IsRest idle = Unit {0}
IsRest (option id) = ⊥
IsRest positional = Unit {0}

module _ (name : Text) (c : List Rule) where
  -- the faults of a word that is a name
  abbrev pub name_fault : ℕ → Held → Kinds
  name_fault p h = option_map_or (λ a. positional_fault c false a h) (arg_by_index c p) (kind.UnknownArgument ∷ [])

  pub name_faults : (waiting : Waiting) (p : ℕ) (h : Held) (word : Text) → IsRest waiting → IsFree word → turn_fault (leaf_of name c) [] (state h waiting p false) word ≡ name_fault p h
  name_faults idle p h word rest w = rw (w.ends, w.long, w.short) refl
  name_faults (option id) p h word rest w = absurd rest
  name_faults positional p h word rest w = rw (w.ends, w.long, w.short) refl

  pub name_taken : (waiting : Waiting) (p : ℕ) (h : Held) (word : Text) → IsRest waiting → IsFree word → walked c [] (state h waiting p false) word ≡ to_positional c (arg_by_index c p) word (state h waiting p false) h
  unfolding walked
  name_taken idle p h word rest w = rw (w.ends, w.long, w.short) refl
  name_taken (option id) p h word rest w = absurd rest
  name_taken positional p h word rest w = rw (w.ends, w.long, w.short) refl

  pub dashes_taken : (waiting : Waiting) (p : ℕ) (h : Held) → walked c [] (state h waiting p false) (codes "--") ≡ state h waiting p true
  unfolding walked
  dashes_taken idle p h = refl
  dashes_taken (option id) p h = refl
  dashes_taken positional p h = refl

  pub dashes_pass : (waiting : Waiting) (p : ℕ) (h : Held) → turn_fault (leaf_of name c) [] (state h waiting p false) (codes "--") ≡ []
  dashes_pass idle p h = refl
  dashes_pass (option id) p h = refl
  dashes_pass positional p h = refl

  -- ---- options

  pub unknown_option : (waiting : Waiting) (p : ℕ) (h : Held) (word o : Text) (v : Option Text) → IsLong word o v → arg_by_long c o ≡ None → turn_fault (leaf_of name c) [] (state h waiting p false) word ≡ [] → ⊥
  unknown_option idle p h word o v w none e = let bad = rw (w.ends, w.long, none) at e in some_nil _ _ bad
  unknown_option (option id) p h word o v w none e = let bad = rw (w.ends, w.long, none) at e in some_nil _ _ bad
  unknown_option positional p h word o v w none e = let bad = rw (w.ends, w.long, none) at e in some_nil _ _ bad

  pub option_faults : (waiting : Waiting) (p : ℕ) (h : Held) (word o : Text) → IsLong word o None → arg_by_long c o ≡ Some (optioned o) → turn_fault (leaf_of name c) [] (state h waiting p false) word ≡ settle_fault c false h
  option_faults idle p h word o w is = rw (w.ends, w.long, is) (nil_behind (settle_fault c false h))
  option_faults (option id) p h word o w is = rw (w.ends, w.long, is) (nil_behind (settle_fault c false h))
  option_faults positional p h word o w is = rw (w.ends, w.long, is) (nil_behind (settle_fault c false h))

  pub option_taken : (waiting : Waiting) (p : ℕ) (h : Held) (word o : Text) → IsLong word o None → arg_by_long c o ≡ Some (optioned o) → walked c [] (state h waiting p false) word ≡ state (record (settled c h) { pending = Some (o, []) }) (option o) p false
  unfolding walked
  option_taken idle p h word o w is = rw (w.ends, w.long, is) refl
  option_taken (option id) p h word o w is = rw (w.ends, w.long, is) refl
  option_taken positional p h word o w is = rw (w.ends, w.long, is) refl

  pub joined_faults : (waiting : Waiting) (p : ℕ) (h : Held) (word o v : Text) → IsLong word o (Some v) → arg_by_long c o ≡ Some (optioned o)
      → turn_fault (leaf_of name c) [] (state h waiting p false) word ≡ or_else (settle_fault c false h) (use_fault false (optioned o) (v ∷ []) (settled c h).rows)
  joined_faults idle p h word o v w is = rw (w.ends, w.long, is) (nil_behind (or_else (settle_fault c false h) (use_fault false (optioned o) (v ∷ []) (settled c h).rows)))
  joined_faults (option id) p h word o v w is = rw (w.ends, w.long, is) (nil_behind (or_else (settle_fault c false h) (use_fault false (optioned o) (v ∷ []) (settled c h).rows)))
  joined_faults positional p h word o v w is = rw (w.ends, w.long, is) (nil_behind (or_else (settle_fault c false h) (use_fault false (optioned o) (v ∷ []) (settled c h).rows)))

  pub joined_taken : (waiting : Waiting) (p : ℕ) (h : Held) (word o v : Text) → IsLong word o (Some v) → arg_by_long c o ≡ Some (optioned o) → walked c [] (state h waiting p false) word ≡ state (reacted c (optioned o) (v ∷ []) h) idle p false
  unfolding walked
  joined_taken idle p h word o v w is = rw (w.ends, w.long, is) refl
  joined_taken (option id) p h word o v w is = rw (w.ends, w.long, is) refl
  joined_taken positional p h word o v w is = rw (w.ends, w.long, is) refl

  -- a flag is an option that was written with its value
  pub flag_faults : (waiting : Waiting) (p : ℕ) (h : Held) (word o : Text) → IsLong word o None → arg_by_long c o ≡ Some (flagged o)
      → turn_fault (leaf_of name c) [] (state h waiting p false) word ≡ or_else (settle_fault c false h) (use_fault false (optioned o) (flag_value ∷ []) (settled c h).rows)
  flag_faults idle p h word o w is = rw (w.ends, w.long, is) (nil_behind (or_else (settle_fault c false h) (use_fault false (optioned o) (flag_value ∷ []) (settled c h).rows)))
  flag_faults (option id) p h word o w is = rw (w.ends, w.long, is) (nil_behind (or_else (settle_fault c false h) (use_fault false (optioned o) (flag_value ∷ []) (settled c h).rows)))
  flag_faults positional p h word o w is = rw (w.ends, w.long, is) (nil_behind (or_else (settle_fault c false h) (use_fault false (optioned o) (flag_value ∷ []) (settled c h).rows)))

  pub flag_taken : (waiting : Waiting) (p : ℕ) (h : Held) (word o : Text) → IsLong word o None → arg_by_long c o ≡ Some (flagged o) → walked c [] (state h waiting p false) word ≡ state (reacted c (optioned o) (flag_value ∷ []) h) idle p false
  unfolding walked
  flag_taken idle p h word o w is = rw (w.ends, w.long, is) refl
  flag_taken (option id) p h word o w is = rw (w.ends, w.long, is) refl
  flag_taken positional p h word o w is = rw (w.ends, w.long, is) refl

  pub valued_flag : (waiting : Waiting) (p : ℕ) (h : Held) (word o v : Text) → IsLong word o (Some v) → arg_by_long c o ≡ Some (flagged o) → turn_fault (leaf_of name c) [] (state h waiting p false) word ≡ [] → ⊥
  valued_flag idle p h word o v w is e = let bad = rw (w.ends, w.long, is) at e in some_nil _ _ bad
  valued_flag (option id) p h word o v w is e = let bad = rw (w.ends, w.long, is) at e in some_nil _ _ bad
  valued_flag positional p h word o v w is e = let bad = rw (w.ends, w.long, is) at e in some_nil _ _ bad

  -- the value of an option that waits for one
  abbrev pub waiting_held : Held → Text → Held
  waiting_held h o = record h { pending = Some (o, []) }

  pub value_passes : (p : ℕ) (h : Held) (o v : Text) → IsFree v → turn_fault (leaf_of name c) [] (state h (option o) p false) v ≡ []
  value_passes p h o v w = rw (w.ends, w.long, w.short) refl

  pub value_taken : (p : ℕ) (h : Held) (o v : Text) → IsFree v → arg_by_id c o ≡ Some (optioned o) → walked c [] (state (waiting_held h o) (option o) p false) v ≡ state (record h { pending = Some (o, v ∷ []) }) idle p false
  unfolding walked
  value_taken p h o v w is = rw (w.ends, w.long, w.short, is, same_text o) refl

  -- ---- a word that is neither

  flags_refused : (k n : ℕ) (flags : Text) (h : Held) (x : ℕ) → n ≡ suc k → slice_get (chars flags) 0 ≡ Some x → arg_by_short c x ≡ None → flags_fault c false n flags 0 h ≡ kind.UnknownArgument ∷ []
  unfolding flags_fault
  flags_refused k n flags h x same e none = rw (same, e, none) refl

  flags_faults : (waiting : Waiting) (p : ℕ) (h : Held) (word some : Text) → IsFlags word some → turn_fault (leaf_of name c) [] (state h waiting p false) word ≡ []
      → flags_fault c false (length some) some h.skip (record h { skip = 0 }) ≡ []
  flags_faults idle p h word some w e = first_nil _ _ (rw (w.ends, w.long, w.short) at e)
  flags_faults (option id) p h word some w e = first_nil _ _ (rw (w.ends, w.long, w.short) at e)
  flags_faults positional p h word some w e = first_nil _ _ (rw (w.ends, w.long, w.short) at e)

  pub flags_pass : ((x : ℕ) → arg_by_short c x ≡ None) → (waiting : Waiting) (p : ℕ) (h : Held) (b : ℕ) (bytes : Text) → (b == 45) ≡ false → IsUtf8 (45 ∷ b ∷ bytes) → h.skip ≡ 0
      → turn_fault (leaf_of name c) [] (state h waiting p false) (45 ∷ b ∷ bytes) ≡ [] → ⊥
  flags_pass none waiting p h b bytes n utf8 skip e =
      let x = some_char b bytes utf8 in
      let bad : flags_fault c false (length (b ∷ bytes)) (b ∷ bytes) 0 (record h { skip = 0 }) ≡ [] = subst (λ (k : ℕ). flags_fault c false (length (b ∷ bytes)) (b ∷ bytes) k (record h { skip = 0 }) ≡ []) skip (flags_faults waiting p h (45 ∷ b ∷ bytes) (b ∷ bytes) (is_flags b bytes n) e) in
      some_nil _ _ (sym (flags_refused (length bytes) (length (b ∷ bytes)) (b ∷ bytes) (record h { skip = 0 }) x.0 refl x.1 (none x.0)) ∙ bad)
