-- Which names a command takes, and what it holds of them.
use Rattle.std.proofs.Common.{◌≡◌, ◌∙◌, ◌==◌, ◌&&◌, ◌≤◌, ◌+◌, ℕ, Bool, cond, length, List, [], ◌∷◌, ◌++◌, None, Some, Option, true, false, refl, sym, ap, subst, codes, arith, length-append, nat_lt}
use Rattle.std.specs.Str.{bytes_eq}
use Rattle.std.proofs.lemmas.Bool.Decides.{nat_tests}
use Rattle.std.proofs.lemmas.List.{append_assoc}
use Rattle.std.proofs.lemmas.Slice.Eq.{bytes_eq-Decides}
use Rattle.clap.specs.Kinds.{Kinds, or_else, range_kinds}
use Rattle.clap.specs.Lexer.{usize_max}
use Rattle.clap.specs.Faults.{positional_fault, repeat_fault, settle_fault, use_fault, values_fault}
use Rattle.clap.specs.Simple.{filled, with_index}
use Rattle.clap.specs.Walk.{Held, Row, Rule, Text, all_of, arg_by_id, arg_by_index, is_pending, next_position, positional_held, pushed, reading_by, settled, used, values_or_missing, with_values, without}
use Rattle.clap.specs.declared.error.kind.ErrorKind.TheVariants as kind
use Rattle.clap.specs.declared.builder.value_parser.Reading.{Reading}
use Rattle.clap.specs.declared.parser.matches.ValueSource.TheVariants.{CommandLine}
use Rattle.m3c_words.specs.Grammar.{file_words, word as word_rule}
use Rattle.m3c_words_laws.specs.Reads.{AreApart, Given, IsOneOf}
use Rattle.m3c_words_laws.proofs.Finding.{AreExplicit, has_row_of, none_without, other_values, still_explicit, turned, values_added, values_there}
use Rattle.m3c_words_laws.proofs.Steps.{name_fault, nil_behind}
use Rattle.m3c_words_laws.proofs.Walking.{Rows, Stands, Takes, TakesNames}

-- the values that a row of some names has
abbrev pub listed : List Text → Option (List Text)
listed [] = None
listed (x ∷ xs) = Some (x ∷ xs)

abbrev pub single : Text → Rule
single id = with_index 1 (filled (word_rule id))

and_false : (b : Bool) (one other : Kinds) → cond (b && false) one other ≡ other
and_false true one other = refl
and_false false one other = refl

held_false : (b : Bool) (one other : Held) → cond (b && false) one other ≡ other
held_false true one other = refl
held_false false one other = refl

unknown : kind.UnknownArgument ∷ [] ≡ [] → ⊥
unknown e = cc

too_many : kind.TooManyValues ∷ [] ≡ [] → ⊥
too_many e = cc

no_list : (x : Text) (xs : List Text) → x ∷ xs ≡ [] → ⊥
no_list x xs e = cc

conflict : kind.ArgumentConflict ∷ [] ≡ [] → ⊥
conflict e = cc

no_row : (id : Text) (rows : List Row) → all_of id rows ≡ None → repeat_fault false id rows ≡ []
no_row id rows none = rw (has_row_of id rows, none) refl

-- ---- commands with one name

-- where the next name goes
abbrev pub place : List Text → ℕ
place [] = 1
place (x ∷ xs) = 2

abbrev pub IsPlaceOf : ℕ → List Text → Type 0
IsPlaceOf p names = p ≡ place names

abbrev pub HasName : Text → List Row → List Text → Type 0
HasName id rows names = (all_of id rows ≡ listed names) × (length names ≤ 1)

module _ (title id : Text) (c : List Rule) (options : List Text) (at : (p : ℕ) → arg_by_index c p ≡ cond (1 == p) (Some (single id)) None) (by_id : arg_by_id c id ≡ Some (single id)) (other : (o : Text) → IsOneOf o options → bytes_eq id o ≡ false) where
  abbrev how : Reading
  how = reading_by (single id)

  settles_first : (h : Held) → positional_fault c false (single id) h ≡ settle_fault c false h
  settles_first h = and_false (is_pending (single id) h.pending) [] (settle_fault c false h)

  one_held : (word : Text) (h : Held) → positional_held c (single id) word h ≡ record (settled c h) { pending = Some (id, word ∷ []) }
  one_held word h = ap (λ (x : Held). pushed id word x) (held_false (is_pending (single id) h.pending) h (settled c h))

  faults_of : (word : Text) (rows : List Row) (skip : ℕ) → settle_fault c false (record { rows = rows; pending = Some (id, word ∷ []); skip = skip }) ≡ repeat_fault false id rows
  faults_of word rows skip = rw by_id (nil_behind (repeat_fault false id rows))

  used_of : (word : Text) (rows : List Row) (skip : ℕ) → (settled c (record { rows = rows; pending = Some (id, word ∷ []); skip = skip })).rows ≡ with_values id how CommandLine (word ∷ []) (without id rows)
  used_of word rows skip = rw by_id refl

  named_rows : (word : Text) (rows : List Row) (given : Given) → Rows options (HasName id) rows given [] → Rows options (HasName id) (with_values id how CommandLine (word ∷ []) (without id rows)) given (word ∷ [])
  named_rows word rows given r =
      subst (λ (rs : List Row). Rows options (HasName id) (with_values id how CommandLine (word ∷ []) rs) given (word ∷ [])) (sym (none_without id rows r.named.0)) (record {
        apart = r.apart;
        known = λ o among. other_values id how o (word ∷ []) rows (other o among) ∙ r.known o among;
        named = (values_added id how (word ∷ []) rows ∙ ap (λ (e : Option (List Text)). Some (values_there e ++ word ∷ [])) r.named.0, omega arith);
        explicit = still_explicit id how (word ∷ []) rows r.explicit;
      })

  Standing : Held → ℕ → Given → List Text → Type 0
  Standing = Stands c options 1 (HasName id) IsPlaceOf

  first_stands : (h : Held) (given : Given) (word : Text) → Standing h 1 given [] → settle_fault c false h ≡ [] → Standing (positional_held c (single id) word h) 2 given (word ∷ [])
  unfolding Standing
  first_stands h given word s none =
      let r = s.settles none in
      subst (λ (x : Held). Stands c options 1 (HasName id) IsPlaceOf x 2 given (word ∷ [])) (sym (one_held word h)) (record {
        skip = s.skip;
        place = refl;
        full = λ e. cc;
        settles = λ e. subst (λ (rows : List Row). Rows options (HasName id) rows given (word ∷ [])) (sym (used_of word (settled c h).rows h.skip)) (named_rows word (settled c h).rows given r);
        fits = λ once few. faults_of word (settled c h).rows h.skip ∙ no_row id (settled c h).rows r.named.0;
      })

  first_fault : (p : ℕ) (h : Held) → p ≡ 1 → name_fault title c p h ≡ settle_fault c false h
  first_fault p h e = rw (at p, e) (settles_first h)

  second_fault : (p : ℕ) (h : Held) → p ≡ 2 → name_fault title c p h ≡ kind.UnknownArgument ∷ []
  second_fault p h e = rw (at p, e) refl

  takes_one : (h : Held) (p : ℕ) (given : Given) (names : List Text) (word : Text) → Stands c options 1 (HasName id) IsPlaceOf h p given names → name_fault title c p h ≡ [] → Takes c options 1 (HasName id) IsPlaceOf h p given names word
  unfolding Standing
  takes_one h p given [] word s e =
      let none : settle_fault c false h ≡ [] = sym (first_fault p h s.place) ∙ e in
      record {
        rule = single id;
        found = at p ∙ ap (λ (n : ℕ). cond (1 == n) (Some (single id)) None) s.place;
        plain = refl;
        stands = subst (λ (n : ℕ). Stands c options 1 (HasName id) IsPlaceOf (positional_held c (single id) word h) (next_position (single id) n) given (word ∷ [])) (sym s.place)
            (first_stands h given word (subst (λ (n : ℕ). Stands c options 1 (HasName id) IsPlaceOf h n given []) s.place s) none);
      }
  takes_one h p given (n ∷ names) word s e = absurd (unknown (sym (second_fault p h s.place) ∙ e))

  passes_one : (h : Held) (p : ℕ) (given : Given) (names : List Text) (word : Text) → Stands c options 1 (HasName id) IsPlaceOf h p given names → AreApart given → length (names ++ word ∷ []) ≤ 1 → name_fault title c p h ≡ []
  passes_one h p given [] word s once few = first_fault p h s.place ∙ s.fits once (omega arith)
  passes_one h p given (n ∷ names) word s once few = let all : length ((n ∷ names) ++ word ∷ []) ≡ length (n ∷ names) + 1 = length-append (n ∷ names) (word ∷ []) in absurd (omega (arith, few))

  waits_one : (h : Held) (p : ℕ) → name_fault title c p h ≡ [] → settle_fault c false h ≡ []
  waits_one h p e = go (1 == p) refl
    where
      go : (b : Bool) → (1 == p) ≡ b → settle_fault c false h ≡ []
      go true is = let f = rw (at p, is) at e in sym (settles_first h) ∙ f
      go false is = let f = rw (at p, is) at e in absurd (unknown f)

  pub one_name : TakesNames title c options 1 (HasName id) IsPlaceOf
  one_name = record {
    takes = takes_one;
    waits = λ h p o vs among pending e. waits_one h p e;
    passes = passes_one;
  }

-- ---- FILEs

abbrev pub file_at : ℕ → Rule
file_at i = with_index i (filled file_words)

abbrev pub file_id : Text
file_id = codes "FILE"

range_passes : (n : ℕ) → 1 ≤ n → n ≤ usize_max → range_kinds 1 usize_max n ≡ []
range_passes n least most =
    let some : (n == 0) ≡ false = grind (arith, nat_tests) in
    let low : nat_lt n 1 ≡ false = grind (arith, nat_tests) in
    let high : nat_lt usize_max n ≡ false = grind (arith, nat_tests) in
    rw (some, low, high) refl

range_most : (n : ℕ) → range_kinds 1 usize_max (n + 1) ≡ [] → n + 1 ≤ usize_max
range_most n e = go (nat_lt usize_max (n + 1)) refl
  where
    some : (n + 1 == 0) ≡ false
    some = grind (arith, nat_tests)

    low : nat_lt (n + 1) 1 ≡ false
    low = grind (arith, nat_tests)

    go : (b : Bool) → nat_lt usize_max (n + 1) ≡ b → n + 1 ≤ usize_max
    go true is = let f = rw (some, low, is) at e in absurd (too_many f)
    go false is = grind (arith, nat_tests)

values_pass : (i : ℕ) (vs : List Text) → values_fault (file_at i) vs ≡ []
values_pass i [] = refl
values_pass i (v ∷ vs) = values_pass i vs

file_values : (i : ℕ) (vs : List Text) → values_or_missing (file_at i) vs ≡ vs
file_values i [] = refl
file_values i (v ∷ vs) = refl

file_faults : (i : ℕ) (vs : List Text) (rows : List Row) → use_fault false (file_at i) vs rows ≡ range_kinds 1 usize_max (length vs)
file_faults i vs rows = ap (λ (k : Kinds). or_else (range_kinds 1 usize_max (length vs)) k) (values_pass i (values_or_missing (file_at i) vs)) ∙ nil_behind (range_kinds 1 usize_max (length vs))

abbrev how_file : Reading
how_file = reading_by (filled file_words)

file_used : (i : ℕ) (vs : List Text) (rows : List Row) → used (file_at i) vs rows ≡ with_values file_id how_file CommandLine vs rows
file_used i vs rows = ap (λ (xs : List Text). with_values file_id how_file CommandLine xs rows) (file_values i vs)

listed_there : (files : List Text) → values_there (listed files) ≡ files
listed_there [] = refl
listed_there (x ∷ xs) = refl

listed_some : (files : List Text) (word : Text) → listed (files ++ word ∷ []) ≡ Some (files ++ word ∷ [])
listed_some [] word = refl
listed_some (x ∷ xs) word = refl

some_same : (x y : List Text) → Some x ≡ Some y → x ≡ y
some_same x y e = cc

listed_of : (files all : List Text) → (all ≡ [] → ⊥) → Some all ≡ listed files → files ≡ all
listed_of [] all some e = cc
listed_of (x ∷ xs) all some e = sym (some_same all (x ∷ xs) e)

-- one more value where some are kept, and where some wait
more_kept : (files : List Text) (word : Text) (rows : List Row) → all_of file_id rows ≡ listed files → all_of file_id (with_values file_id how_file CommandLine (word ∷ []) rows) ≡ listed (files ++ word ∷ [])
more_kept files word rows e = values_added file_id how_file (word ∷ []) rows ∙ ap (λ (o : Option (List Text)). Some (values_there o ++ word ∷ [])) e ∙ ap (λ (xs : List Text). Some (xs ++ word ∷ [])) (listed_there files) ∙ sym (listed_some files word)

some_behind : (xs ws : List Text) → (ws ≡ [] → ⊥) → xs ++ ws ≡ [] → ⊥
some_behind [] ws some e = some e
some_behind (x ∷ xs) ws some e = absurd (no_list x (xs ++ ws) e)

files_wait : (files ws : List Text) (rows : List Row) → (ws ≡ [] → ⊥) → all_of file_id (with_values file_id how_file CommandLine ws rows) ≡ listed files → files ≡ values_there (all_of file_id rows) ++ ws
files_wait files ws rows some e = listed_of files (values_there (all_of file_id rows) ++ ws) (some_behind (values_there (all_of file_id rows)) ws some) (sym (values_added file_id how_file ws rows) ∙ e)

more_waits : (files ws : List Text) (word : Text) (rows : List Row) → (ws ≡ [] → ⊥) → all_of file_id (with_values file_id how_file CommandLine ws rows) ≡ listed files
    → all_of file_id (with_values file_id how_file CommandLine (ws ++ word ∷ []) rows) ≡ listed (files ++ word ∷ [])
more_waits files ws word rows some e =
    values_added file_id how_file (ws ++ word ∷ []) rows
    ∙ ap (λ (xs : List Text). Some xs) (sym (append_assoc (values_there (all_of file_id rows)) ws (word ∷ [])) ∙ ap (λ (xs : List Text). xs ++ word ∷ []) (sym (files_wait files ws rows some e)))
    ∙ sym (listed_some files word)

explicit_as : (vs ws : List Text) (rows : List Row) → AreExplicit (with_values file_id how_file CommandLine vs rows) → AreExplicit (with_values file_id how_file CommandLine ws rows)
explicit_as vs ws [] h = (refl, tt)
explicit_as vs ws (r ∷ rows) h = go (bytes_eq r.id file_id) refl h (explicit_as vs ws rows)
  where
    go : (b : Bool) → bytes_eq r.id file_id ≡ b → AreExplicit (with_values file_id how_file CommandLine vs (r ∷ rows)) → (AreExplicit (with_values file_id how_file CommandLine vs rows) → AreExplicit (with_values file_id how_file CommandLine ws rows))
        → AreExplicit (with_values file_id how_file CommandLine ws (r ∷ rows))
    go true e h further = let k = rw e at h in rw e (k.0, k.1)
    go false e h further = let k = rw e at h in rw e (k.0, further k.1)

-- what a command with FILEs makes of one more
abbrev pub Adds : (List Row → List Text → Type 0) → (ℕ → List Text → Type 0) → ℕ → Type 0
Adds AreNames IsPlace p =
    (rows rows' : List Row) (names : List Text) (word : Text) → ((id : Text) → bytes_eq file_id id ≡ false → all_of id rows' ≡ all_of id rows)
    → ((files : List Text) → all_of file_id rows ≡ listed files → all_of file_id rows' ≡ listed (files ++ word ∷ [])) → IsPlace p names → AreNames rows names → AreNames rows' (names ++ word ∷ [])

abbrev pub Counts : (List Row → List Text → Type 0) → Type 0
Counts AreNames = (rows : List Row) (names : List Text) → AreNames rows names → (files : List Text) × (all_of file_id rows ≡ listed files) × (length files ≤ length names)

module _ (c : List Rule) (options : List Text) (most i : ℕ) (AreNames : List Row → List Text → Type 0) (IsPlace : ℕ → List Text → Type 0) (by_id : arg_by_id c file_id ≡ Some (file_at i)) (other : (o : Text) → IsOneOf o options → bytes_eq file_id o ≡ false) (few : most ≤ 257)
    (p : ℕ) (adds : Adds AreNames IsPlace p) (counts : Counts AreNames) (stays : (names : List Text) (word : Text) → IsPlace p names → IsPlace p (names ++ word ∷ [])) where
  abbrev Standing' : Held → Given → List Text → Type 0
  Standing' h given names = Stands c options most AreNames IsPlace h p given names

  pending_faults : (vs : List Text) (rows : List Row) (skip : ℕ) → settle_fault c false (record { rows = rows; pending = Some (file_id, vs); skip = skip }) ≡ range_kinds 1 usize_max (length vs)
  pending_faults vs rows skip = rw by_id (file_faults i vs rows)

  pending_used : (vs : List Text) (rows : List Row) (skip : ℕ) → (settled c (record { rows = rows; pending = Some (file_id, vs); skip = skip })).rows ≡ with_values file_id how_file CommandLine vs rows
  pending_used vs rows skip = rw by_id (file_used i vs rows)

  kept_rows : (rows : List Row) (given : Given) (names : List Text) (word : Text) → IsPlace p names → Rows options AreNames rows given names
      → Rows options AreNames (with_values file_id how_file CommandLine (word ∷ []) rows) given (names ++ word ∷ [])
  kept_rows rows given names word at r = record {
    apart = r.apart;
    known = λ o among. other_values file_id how_file o (word ∷ []) rows (other o among) ∙ r.known o among;
    named = adds rows (with_values file_id how_file CommandLine (word ∷ []) rows) names word (λ id differs. other_values file_id how_file id (word ∷ []) rows differs) (λ files e. more_kept files word rows e) at r.named;
    explicit = still_explicit file_id how_file (word ∷ []) rows r.explicit;
  }

  -- where none waits
  fresh_stands : (rows : List Row) (skip : ℕ) (given : Given) (names : List Text) (word : Text) → skip ≡ 0 → IsPlace p names → Rows options AreNames rows given names
      → Standing' (record { rows = rows; pending = Some (file_id, word ∷ []); skip = skip }) given (names ++ word ∷ [])
  fresh_stands rows skip given names word none at r = record {
    skip = none;
    place = stays names word at;
    full = λ e. cc;
    settles = λ e. subst (λ (rs : List Row). Rows options AreNames rs given (names ++ word ∷ [])) (sym (pending_used (word ∷ []) rows skip)) (kept_rows rows given names word at r);
    fits = λ once few. pending_faults (word ∷ []) rows skip;
  }

  waiting_rows : (rows : List Row) (given : Given) (names ws : List Text) (word : Text) → (ws ≡ [] → ⊥) → IsPlace p names → Rows options AreNames (with_values file_id how_file CommandLine ws rows) given names
      → Rows options AreNames (with_values file_id how_file CommandLine (ws ++ word ∷ []) rows) given (names ++ word ∷ [])
  waiting_rows rows given names ws word some at r =
      let same = λ (id : Text) (differs : bytes_eq file_id id ≡ false). other_values file_id how_file id (ws ++ word ∷ []) rows differs ∙ sym (other_values file_id how_file id ws rows differs) in
      record {
        apart = r.apart;
        known = λ o among. same o (other o among) ∙ r.known o among;
        named = adds (with_values file_id how_file CommandLine ws rows) (with_values file_id how_file CommandLine (ws ++ word ∷ []) rows) names word same (λ files e. more_waits files ws word rows some e) at r.named;
        explicit = explicit_as ws (ws ++ word ∷ []) rows r.explicit;
      }

  least_one : (ws : List Text) → (ws ≡ [] → ⊥) → 1 ≤ length ws
  least_one [] some = absurd (some refl)
  least_one (x ∷ ws) some = omega arith

  one_more : (ws : List Text) (word : Text) → length (ws ++ word ∷ []) ≡ length ws + 1
  one_more ws word = length-append ws (word ∷ [])

  still_passes : (ws : List Text) (word : Text) (rows : List Row) (skip : ℕ) → (ws ≡ [] → ⊥) → settle_fault c false (record { rows = rows; pending = Some (file_id, ws ++ word ∷ []); skip = skip }) ≡ []
      → settle_fault c false (record { rows = rows; pending = Some (file_id, ws); skip = skip }) ≡ []
  still_passes ws word rows skip some e =
      let range : range_kinds 1 usize_max (length ws + 1) ≡ [] = subst (λ (n : ℕ). range_kinds 1 usize_max n ≡ []) (one_more ws word) (sym (pending_faults (ws ++ word ∷ []) rows skip) ∙ e) in
      let high = range_most (length ws) range in
      pending_faults ws rows skip ∙ range_passes (length ws) (least_one ws some) (omega (arith, high))

  -- where some wait
  waiting_stands : (rows : List Row) (skip : ℕ) (given : Given) (names ws : List Text) (word : Text) → Standing' (record { rows = rows; pending = Some (file_id, ws); skip = skip }) given names
      → Standing' (record { rows = rows; pending = Some (file_id, ws ++ word ∷ []); skip = skip }) given (names ++ word ∷ [])
  waiting_stands rows skip given names ws word s = record {
    skip = s.skip;
    place = stays names word s.place;
    full = some_behind ws (word ∷ []) (λ e. cc);
    settles = λ e. subst (λ (rs : List Row). Rows options AreNames rs given (names ++ word ∷ [])) (sym (pending_used (ws ++ word ∷ []) rows skip))
        (waiting_rows rows given names ws word s.full s.place (subst (λ (rs : List Row). Rows options AreNames rs given names) (pending_used ws rows skip) (s.settles (still_passes ws word rows skip s.full e))));
    fits = λ once most_names.
        let fewer : length names ≤ most = (let n = length-append names (word ∷ []) in omega (arith, most_names)) in
        let r = subst (λ (rs : List Row). Rows options AreNames rs given names) (pending_used ws rows skip) (s.settles (s.fits once fewer)) in
        let k = counts (with_values file_id how_file CommandLine ws rows) names r.named in
        let parts : length k.0 ≡ length (values_there (all_of file_id rows)) + length ws = ap (λ (xs : List Text). length xs) (files_wait k.0 ws rows s.full k.1) ∙ length-append (values_there (all_of file_id rows)) ws in
        let bound = k.2 in
        let one = one_more ws word in
        pending_faults (ws ++ word ∷ []) rows skip ∙ range_passes (length (ws ++ word ∷ [])) (omega arith) (omega (arith, bound, fewer, few));
  }

  -- one more FILE
  abbrev Goes : List Row → ℕ → Given → List Text → Text → Option (Text × List Text) → Type 0
  Goes rows skip given names word o =
      Standing' (record { rows = rows; pending = o; skip = skip }) given names → positional_fault c false (file_at i) (record { rows = rows; pending = o; skip = skip }) ≡ []
      → Standing' (positional_held c (file_at i) word (record { rows = rows; pending = o; skip = skip })) given (names ++ word ∷ [])

  goes_on : (rows : List Row) (skip : ℕ) (given : Given) (names : List Text) (word : Text) (o : Option (Text × List Text)) → Goes rows skip given names word o
  goes_on rows skip given names word None s e = fresh_stands rows skip given names word s.skip s.place (s.settles refl)
  goes_on rows skip given names word (Some q) s e = by (bytes_eq q.0 file_id) refl
    where
      here : (id : Text) → id ≡ file_id → Goes rows skip given names word (Some (id, q.1))
      here id is = subst (λ (x : Text). Goes rows skip given names word (Some (x, q.1))) (sym is) (λ s e. waiting_stands rows skip given names q.1 word s)

      by : (b : Bool) → bytes_eq q.0 file_id ≡ b → Standing' (positional_held c (file_at i) word (record { rows = rows; pending = Some q; skip = skip })) given (names ++ word ∷ [])
      by true is = here q.0 ((bytes_eq-Decides q.0 file_id).0 is) s e
      by false is =
          let none : settle_fault c false (record { rows = rows; pending = Some q; skip = skip }) ≡ [] = rw is at e in
          rw is (fresh_stands (settled c (record { rows = rows; pending = Some q; skip = skip })).rows skip given names word s.skip s.place (s.settles none))

  pub file_stands : (h : Held) (given : Given) (names : List Text) (word : Text) → Standing' h given names → positional_fault c false (file_at i) h ≡ [] → Standing' (positional_held c (file_at i) word h) given (names ++ word ∷ [])
  file_stands h given names word s e = goes_on h.rows h.skip given names word h.pending s e

  -- a FILE passes where what waits is settled, or is a FILE
  pub file_passes : (h : Held) → settle_fault c false h ≡ [] → positional_fault c false (file_at i) h ≡ []
  file_passes h none = go (is_pending (file_at i) h.pending)
    where
      go : (b : Bool) → cond (b && true) [] (settle_fault c false h) ≡ []
      go true = refl
      go false = none

  -- and no option does
  pub option_settles : (h : Held) (o : Text) (vs : List Text) → IsOneOf o options → h.pending ≡ Some (o, vs) → positional_fault c false (file_at i) h ≡ [] → settle_fault c false h ≡ []
  option_settles h o vs among is e =
      let apart : bytes_eq o file_id ≡ false = turned file_id o (other o among) in
      let f : cond (bytes_eq o file_id && true) [] (settle_fault c false h) ≡ [] = subst (λ (x : Option (Text × List Text)). cond (is_pending (file_at i) x && true) [] (settle_fault c false h) ≡ []) is e in
      rw apart at f

-- ---- `exec`: FILEs

abbrev pub HasFiles : List Row → List Text → Type 0
HasFiles rows names = all_of file_id rows ≡ listed names

abbrev pub IsFirst : ℕ → List Text → Type 0
IsFirst p names = p ≡ 1

adds_files : Adds HasFiles IsFirst 1
adds_files rows rows' names word same more at has = more names has

counts_files : Counts HasFiles
counts_files rows names has = (names, has, omega arith)

module _ (title : Text) (c : List Rule) (options : List Text) (at : (p : ℕ) → arg_by_index c p ≡ cond (1 == p) (Some (file_at 1)) None) (by_id : arg_by_id c file_id ≡ Some (file_at 1)) (other : (o : Text) → IsOneOf o options → bytes_eq file_id o ≡ false) where
  abbrev Files : Held → ℕ → Given → List Text → Type 0
  Files = Stands c options 256 HasFiles IsFirst

  file_fault : (p : ℕ) (h : Held) → p ≡ 1 → name_fault title c p h ≡ positional_fault c false (file_at 1) h
  file_fault p h e = rw (at p, e) refl

  takes_files : (h : Held) (p : ℕ) (given : Given) (names : List Text) (word : Text) → Files h p given names → name_fault title c p h ≡ [] → Takes c options 256 HasFiles IsFirst h p given names word
  takes_files h p given names word s e =
      let none = sym (file_fault p h s.place) ∙ e in
      record {
        rule = file_at 1;
        found = at p ∙ ap (λ (n : ℕ). cond (1 == n) (Some (file_at 1)) None) s.place;
        plain = refl;
        stands = subst (λ (n : ℕ). Files (positional_held c (file_at 1) word h) (next_position (file_at 1) n) given (names ++ word ∷ [])) (sym s.place)
            (file_stands c options 256 1 HasFiles IsFirst by_id other (omega arith) 1 adds_files counts_files (λ ns w first. refl) h given names word (subst (λ (n : ℕ). Files h n given names) s.place s) none);
      }

  waits_files : (h : Held) (p : ℕ) (o : Text) (vs : List Text) → IsOneOf o options → h.pending ≡ Some (o, vs) → name_fault title c p h ≡ [] → settle_fault c false h ≡ []
  waits_files h p o vs among is e = go (1 == p) refl
    where
      go : (b : Bool) → (1 == p) ≡ b → settle_fault c false h ≡ []
      go true t = let f = rw (at p, t) at e in option_settles c options 256 1 HasFiles IsFirst by_id other (omega arith) 1 adds_files counts_files (λ ns w first. refl) h o vs among is f
      go false t = let f = rw (at p, t) at e in absurd (unknown f)

  pub some_files : TakesNames title c options 256 HasFiles IsFirst
  some_files = record {
    takes = takes_files;
    waits = waits_files;
    passes = λ h p given names word s once few.
        let n = length-append names (word ∷ []) in
        file_fault p h s.place ∙ file_passes c options 256 1 HasFiles IsFirst by_id other (omega arith) 1 adds_files counts_files (λ ns w first. refl) h (s.fits once (omega (arith, few)));
  }

-- ---- `build`: IMAGE and FILEs

abbrev pub image_id : Text
image_id = codes "IMAGE"

abbrev pub first_of_names : List Text → List Text
first_of_names [] = []
first_of_names (x ∷ xs) = x ∷ []

abbrev pub others_of_names : List Text → List Text
others_of_names [] = []
others_of_names (x ∷ xs) = xs

pub record HasImage (rows : List Row) (names : List Text) : Type 0 where
  pub image : all_of image_id rows ≡ listed (first_of_names names)
  pub files : all_of file_id rows ≡ listed (others_of_names names)

adds_to_image : Adds HasImage IsPlaceOf 2
adds_to_image rows rows' [] word same more at has = absurd (omega (arith, at))
adds_to_image rows rows' (x ∷ xs) word same more at has = record { image = same image_id refl ∙ has.image; files = more xs has.files }

counts_image : Counts HasImage
counts_image rows [] has = ([], has.files, omega arith)
counts_image rows (x ∷ xs) has = (xs, has.files, omega arith)

stays_second : (names : List Text) (word : Text) → IsPlaceOf 2 names → IsPlaceOf 2 (names ++ word ∷ [])
stays_second [] word e = refl
stays_second (x ∷ xs) word e = refl

module _ (title : Text) (c : List Rule) (at : (p : ℕ) → arg_by_index c p ≡ cond (1 == p) (Some (single image_id)) (cond (2 == p) (Some (file_at 2)) None)) (by_image : arg_by_id c image_id ≡ Some (single image_id)) (by_file : arg_by_id c file_id ≡ Some (file_at 2)) where
  abbrev Both : Held → ℕ → Given → List Text → Type 0
  Both = Stands c [] 257 HasImage IsPlaceOf

  image_fault : (p : ℕ) (h : Held) → p ≡ 1 → name_fault title c p h ≡ settle_fault c false h
  image_fault p h e = rw (at p, e) (and_false (is_pending (single image_id) h.pending) [] (settle_fault c false h))

  later_fault : (p : ℕ) (h : Held) → p ≡ 2 → name_fault title c p h ≡ positional_fault c false (file_at 2) h
  later_fault p h e = rw (at p, e) refl

  image_held : (word : Text) (h : Held) → positional_held c (single image_id) word h ≡ record (settled c h) { pending = Some (image_id, word ∷ []) }
  image_held word h = ap (λ (x : Held). pushed image_id word x) (held_false (is_pending (single image_id) h.pending) h (settled c h))

  image_faults : (word : Text) (rows : List Row) (skip : ℕ) → settle_fault c false (record { rows = rows; pending = Some (image_id, word ∷ []); skip = skip }) ≡ repeat_fault false image_id rows
  image_faults word rows skip = rw by_image (nil_behind (repeat_fault false image_id rows))

  image_used : (word : Text) (rows : List Row) (skip : ℕ) → (settled c (record { rows = rows; pending = Some (image_id, word ∷ []); skip = skip })).rows ≡ with_values image_id (reading_by (single image_id)) CommandLine (word ∷ []) (without image_id rows)
  image_used word rows skip = rw by_image refl

  image_rows : (word : Text) (rows : List Row) (given : Given) → Rows [] HasImage rows given [] → Rows [] HasImage (with_values image_id (reading_by (single image_id)) CommandLine (word ∷ []) (without image_id rows)) given (word ∷ [])
  image_rows word rows given r =
      subst (λ (rs : List Row). Rows [] HasImage (with_values image_id (reading_by (single image_id)) CommandLine (word ∷ []) rs) given (word ∷ [])) (sym (none_without image_id rows r.named.image)) (record {
        apart = r.apart;
        known = λ o among. absurd among;
        named = record {
          image = values_added image_id (reading_by (single image_id)) (word ∷ []) rows ∙ ap (λ (e : Option (List Text)). Some (values_there e ++ word ∷ [])) r.named.image;
          files = other_values image_id (reading_by (single image_id)) file_id (word ∷ []) rows refl ∙ r.named.files;
        };
        explicit = still_explicit image_id (reading_by (single image_id)) (word ∷ []) rows r.explicit;
      })

  image_stands : (h : Held) (given : Given) (word : Text) → Both h 1 given [] → settle_fault c false h ≡ [] → Both (positional_held c (single image_id) word h) 2 given (word ∷ [])
  image_stands h given word s none =
      let r = s.settles none in
      subst (λ (x : Held). Both x 2 given (word ∷ [])) (sym (image_held word h)) (record {
        skip = s.skip;
        place = refl;
        full = λ e. cc;
        settles = λ e. subst (λ (rows : List Row). Rows [] HasImage rows given (word ∷ [])) (sym (image_used word (settled c h).rows h.skip)) (image_rows word (settled c h).rows given r);
        fits = λ once few. image_faults word (settled c h).rows h.skip ∙ no_row image_id (settled c h).rows r.named.image;
      })

  takes_both : (h : Held) (p : ℕ) (given : Given) (names : List Text) (word : Text) → Both h p given names → name_fault title c p h ≡ [] → Takes c [] 257 HasImage IsPlaceOf h p given names word
  takes_both h p given [] word s e =
      let none : settle_fault c false h ≡ [] = sym (image_fault p h s.place) ∙ e in
      record {
        rule = single image_id;
        found = at p ∙ ap (λ (n : ℕ). cond (1 == n) (Some (single image_id)) (cond (2 == n) (Some (file_at 2)) None)) s.place;
        plain = refl;
        stands = subst (λ (n : ℕ). Both (positional_held c (single image_id) word h) (next_position (single image_id) n) given (word ∷ [])) (sym s.place)
            (image_stands h given word (subst (λ (n : ℕ). Both h n given []) s.place s) none);
      }
  takes_both h p given (x ∷ names) word s e =
      let none = sym (later_fault p h s.place) ∙ e in
      record {
        rule = file_at 2;
        found = at p ∙ ap (λ (n : ℕ). cond (1 == n) (Some (single image_id)) (cond (2 == n) (Some (file_at 2)) None)) s.place;
        plain = refl;
        stands = subst (λ (n : ℕ). Both (positional_held c (file_at 2) word h) (next_position (file_at 2) n) given ((x ∷ names) ++ word ∷ [])) (sym s.place)
            (file_stands c [] 257 2 HasImage IsPlaceOf by_file (λ o among. absurd among) (omega arith) 2 adds_to_image counts_image stays_second h given (x ∷ names) word (subst (λ (n : ℕ). Both h n given (x ∷ names)) s.place s) none);
      }

  passes_both : (h : Held) (p : ℕ) (given : Given) (names : List Text) (word : Text) → Both h p given names → AreApart given → length (names ++ word ∷ []) ≤ 257 → name_fault title c p h ≡ []
  passes_both h p given [] word s once few = image_fault p h s.place ∙ s.fits once (omega arith)
  passes_both h p given (x ∷ names) word s once few =
      let n = length-append (x ∷ names) (word ∷ []) in
      later_fault p h s.place ∙ file_passes c [] 257 2 HasImage IsPlaceOf by_file (λ o among. absurd among) (omega arith) 2 adds_to_image counts_image stays_second h (s.fits once (omega (arith, few)))

  pub image_and_files : TakesNames title c [] 257 HasImage IsPlaceOf
  image_and_files = record { takes = takes_both; waits = λ h p o vs among is e. absurd among; passes = passes_both }
