-- Each word behind `--` is one more FILE of `exec`.
use Rattle.std.proofs.Common.{◌≡◌, ◌∙◌, ◌==◌, ◌&&◌, ℕ, Bool, cond, length, arith, List, [], ◌∷◌, ◌++◌, None, Some, Option, true, false, refl, sym, ap, subst, codes}
use Rattle.std.proofs.lemmas.Bool.Decides.{nat_tests}
use Rattle.std.specs.Prelude.{fold, option_and_then, unwrap_or, if◌then◌else◌, nat_le}
use Rattle.std.specs.List.{list_all}
use Rattle.std.specs.Option.{option_map, option_map_or}
use Rattle.std.specs.Str.{bytes_eq}
use Rattle.std.proofs.lemmas.List.{append_assoc, append-nil}
use Rattle.std.proofs.lemmas.Slice.Eq.{bytes_eq-Decides}
use Rattle.clap.specs.Lexer.{long_of, short_of}
use Rattle.clap.specs.Kinds.{Kinds, or_else}
use Rattle.clap.specs.Faults.{entered_fault, fault_of, stray_fault, turn_fault, walk_fault, positional_fault}
use Rattle.clap.specs.Walk.{Held, Names, Outcome, Row, Rule, Step, Text, Waiting, Walk, after_flag, after_step, all_of, arg_by_id, arg_by_index, done, is_empty, long_or_other, next, nothing_held, plain, plain_word, positional, idle, option, reading_by, refused, settled, settled_rows, short_or_plain, subcommand, trailing, used_by_id, value, values_or_missing, waits, walk, walk_from, walked, with_values, word_met, positional_held, pushed, stop_after, to_positional, more_values}
use Rattle.clap.specs.Simple.{Shape, built, filled, names_of, subcommand_of, with_index}
use Rattle.clap.specs.declared.parser.matches.ValueSource.{ValueSource}
use Rattle.clap.specs.declared.parser.matches.ValueSource.TheVariants.{CommandLine}
use Rattle.clap.specs.declared.builder.value_parser.Reading.{Reading}
use Rattle.m3c_words.specs.Orders.{Options, Order, exec}
use Rattle.m3c_words.specs.Grammar.{exec_command, file_words, grammar}
use Rattle.m3c_words.specs.Asked.{as_files, asked, is_named, most_files, options_in, parsed}
use Rattle.m3c_words.specs.Sentences.{HasNamesBehind, names_asked}
use Rattle.m3c_words.proofs.Behind.{behind, exec_order, fold_append, leaf, no_defaults, rows_by, state, stops_with}

-- ---- no fault

pub first_none : (a b : Kinds) → or_else a b ≡ [] → a ≡ []
first_none [] b e = refl
first_none (k ∷ ks) b e = e

second_none : (a b : Kinds) → or_else a b ≡ [] → b ≡ []
second_none [] b e = e
second_none (k ∷ ks) b e = cc

none_before : (s : Shape) (names : Names) (w : Walk) (xs ys : List Text) → walk_fault s names w (xs ++ ys) ≡ [] → walk_fault s names (fold (walked s.rules names) w xs) ys ≡ []
unfolding walk_fault
none_before s names w [] ys e = e
none_before s names w (x ∷ xs) ys e = none_before s names (walked s.rules names w x) xs ys (second_none (turn_fault s names w x) (walk_fault s names (walked s.rules names w x) (xs ++ ys)) e)

abbrev exec_leaf : Shape
exec_leaf = leaf exec_command

below_none : (words : List Text) (stop : Option (Text × List Text)) → stop ≡ Some (codes "exec", words) → entered_fault (built grammar) stop ≡ [] → walk_fault exec_leaf [] (walk_from nothing_held) words ≡ []
unfolding grammar
below_none words stop e none = first_none (walk_fault exec_leaf [] (walk_from nothing_held) words) _ (subst (λ (o : Option (Text × List Text)). entered_fault (built grammar) o ≡ []) e none)

exec_walks : (words : List Text) → fault_of grammar (codes "exec" ∷ words) ≡ [] → walk_fault exec_leaf [] (walk_from nothing_held) words ≡ []
unfolding grammar walked
exec_walks words none =
    let stop : Option (Text × List Text) = stop_after (built grammar).top.rules (names_of (built grammar)) (codes "exec" ∷ words) in
    below_none words stop (stops_with nothing_held idle 1 false (codes "exec") [] words)
    (first_none (entered_fault (built grammar) stop) _ (second_none (walk_fault (built grammar).top (names_of (built grammar)) (walk_from nothing_held) (codes "exec" ∷ words)) _ none))

empty_none : (kinds : Kinds) → is_empty kinds ≡ true → kinds ≡ []
empty_none [] e = refl
empty_none (k ∷ kinds) e = grind (arith, nat_tests)

parsed_none : (kinds : Kinds) (found : Option (Text × List Row)) (f : Text × List Row → Option Order) (order : Order) → option_and_then f (cond (is_empty kinds) found None) ≡ Some order → kinds ≡ []
parsed_none kinds found f order e = go (is_empty kinds) refl e
  where
    go : (b : Bool) → is_empty kinds ≡ b → option_and_then f (cond b found None) ≡ Some order → kinds ≡ []
    go true is asks = empty_none kinds is
    go false is asks = cc

pub asked_none : (words : List Text) (order : Order) → asked words ≡ Some order → fault_of grammar words ≡ []
unfolding parsed
asked_none words order e = parsed_none (fault_of grammar words) (subcommand_of grammar words) _ order e

-- ---- a command has no command below it

abbrev Stays : Step → Type 0
Stays (subcommand name) = ⊥
Stays other = Unit

plain_stays : (c : List Rule) (waiting : Waiting) (word : Text) (h : Held) → Stays (plain_word c waiting word h).1
plain_stays c idle word h = tt
plain_stays c (option id) word h = tt
plain_stays c positional word h = tt

flag_stays : (c : List Rule) (waiting : Waiting) (word : Text) (h : Held) (o : Outcome) → Stays (after_flag c waiting word h o).1
flag_stays c waiting word h done = tt
flag_stays c waiting word h (waits id) = tt
flag_stays c waiting word h plain = plain_stays c waiting word h
flag_stays c waiting word h refused = plain_stays c waiting word h

short_stays : (c : List Rule) (waiting : Waiting) (word : Text) (flags : Option Text) (h : Held) → Stays (short_or_plain c waiting word flags h).1
short_stays c waiting word (Some flags) h = flag_stays c waiting word _ _
short_stays c waiting word None h = plain_stays c waiting word h

long_stays : (c : List Rule) (waiting : Waiting) (word : Text) (long : Option (Text × Option Text)) (h : Held) → Stays (long_or_other c waiting word long h).1
long_stays c waiting word (Some p) h = flag_stays c waiting word _ _
long_stays c waiting word None h = short_stays c waiting word (short_of word) h

other_stays : (c : List Rule) (waiting : Waiting) (p : ℕ) (word : Text) (h : Held) (b : Bool) → Stays (cond b (h, trailing p) (long_or_other c waiting word (long_of word) h)).1
other_stays c waiting p word h true = tt
other_stays c waiting p word h false = long_stays c waiting word (long_of word) h

met_stays : (c : List Rule) (t : Bool) (waiting : Waiting) (p : ℕ) (word : Text) (h : Held) → Stays (word_met c [] t waiting p word h).1
met_stays c true waiting p word h = tt
met_stays c false idle p word h = other_stays c idle p word h (bytes_eq word (codes "--"))
met_stays c false (option id) p word h = other_stays c (option id) p word h (bytes_eq word (codes "--"))
met_stays c false positional p word h = other_stays c positional p word h (bytes_eq word (codes "--"))

given_stays : (c : List Rule) (a : Option Rule) (word : Text) (w : Walk) (h : Held) → w.stopped ≡ None → (to_positional c a word w h).stopped ≡ None
given_stays c None word w h e = e
given_stays c (Some a) word w h e = refl

step_stays : (c : List Rule) (word : Text) (w : Walk) (h : Held) (s : Step) → Stays s → w.stopped ≡ None → (after_step c word w h s).stopped ≡ None
step_stays c word w h (next waiting) s e = e
step_stays c word w h (trailing p) s e = e
step_stays c word w h (subcommand name) s e = absurd s
step_stays c word w h value s e = given_stays c (arg_by_index c w.position) word w h e

never_stops : (c : List Rule) (words : List Text) (h : Held) (waiting : Waiting) (p : ℕ) (t : Bool) → (fold (walked c []) (state h waiting p t None) words).stopped ≡ None
unfolding walked
never_stops c [] h waiting p t = refl
never_stops c (word ∷ words) h waiting p t =
    let met : Held × Step = word_met c [] t waiting p word h in
    let w : Walk = after_step c word (state h waiting p t None) met.0 met.1 in
    let e : w.stopped ≡ None = step_stays c word (state h waiting p t None) met.0 met.1 (met_stays c t waiting p word h) refl in
    ap (λ (stopped : Option (Text × List Text)). (fold (walked c []) (record w { stopped = stopped }) words).stopped) e
    ∙ never_stops c words w.held w.waiting w.position w.is_trailing

-- ---- the FILEs

abbrev rules : List Rule
rules = exec_leaf.rules

abbrev file : Rule
file = with_index 1 (filled file_words)

abbrev files : List Row → List Text
files rows = unwrap_or (all_of (codes "FILE") rows) []

-- more values of FILE come last
values_added : (how : Reading) (s : ValueSource) (values : List Text) (rows : List Row) → files (with_values (codes "FILE") how s values rows) ≡ files rows ++ values
values_added how s values [] = refl
values_added how s values (r ∷ rs) = go (values_added how s values rs) (bytes_eq r.id (codes "FILE")) refl
  where
    go : files (with_values (codes "FILE") how s values rs) ≡ files rs ++ values → (b : Bool) → bytes_eq r.id (codes "FILE") ≡ b
        → files (cond b (more_values s values r ++ rs) (r ∷ with_values (codes "FILE") how s values rs)) ≡ files (r ∷ rs) ++ values
    go rest true e = rw e refl
    go rest false e = rw e rest

some_values : (values : List Text) → values_or_missing file values ≡ values
some_values [] = refl
some_values (v ∷ vs) = refl

file_used : (values : List Text) (rows : List Row) → files (used_by_id (arg_by_id rules (codes "FILE")) values rows) ≡ files rows ++ values
file_used values rows = values_added (reading_by (filled file_words)) CommandLine (values_or_missing file values) rows ∙ ap (λ (vs : List Text). files rows ++ vs) (some_values values)

file_taken : (word : Text) (rows : List Row) (pending : Option (Text × List Text)) (skip : ℕ)
    → files (settled rules (positional_held rules file word (record { rows = rows; pending = pending; skip = skip }))).rows ≡ files (settled_rows rules pending rows) ++ word ∷ []
file_taken word rows None skip = file_used (word ∷ []) rows
file_taken word rows (Some p) skip = go (bytes_eq p.0 (codes "FILE")) refl
  where
    h : Held
    h = record { rows = rows; pending = Some p; skip = skip }

    go : (b : Bool) → bytes_eq p.0 (codes "FILE") ≡ b → files (settled rules (pushed (codes "FILE") word (if b && true then h else settled rules h))).rows ≡ files (settled_rows rules (Some p) rows) ++ word ∷ []
    go true e =
        let same : (values : List Text) → files (used_by_id (arg_by_id rules p.0) values rows) ≡ files rows ++ values
        = subst (λ (id : Text). (values : List Text) → files (used_by_id (arg_by_id rules id) values rows) ≡ files rows ++ values) (sym ((bytes_eq-Decides p.0 (codes "FILE")).0 e)) (λ values. file_used values rows) in
        same (p.1 ++ word ∷ []) ∙ sym (ap (λ (names : List Text). names ++ word ∷ []) (same p.1) ∙ append_assoc (files rows) p.1 (word ∷ []))
    go false e = file_used (word ∷ []) (settled_rows rules (Some p) rows)

abbrev names_held : Held → List Text
names_held h = files (settled rules h).rows

words_added : (words : List Text) (h : Held) (waiting : Waiting) (p : ℕ) → walk_fault exec_leaf [] (behind h waiting p) words ≡ []
    → names_held (fold (walked rules []) (behind h waiting p) words).held ≡ names_held h ++ words
unfolding walked walk_fault
words_added [] h waiting p none = sym (append-nil (names_held h))
words_added (word ∷ words) h waiting p none = go (words_added words) (1 == p)
    (first_none _ (walk_fault exec_leaf [] (walked rules [] (behind h waiting p) word) words) none) (second_none (turn_fault exec_leaf [] (behind h waiting p) word) _ none)
  where
    go : ((h : Held) (waiting : Waiting) (p : ℕ) → walk_fault exec_leaf [] (behind h waiting p) words ≡ [] → names_held (fold (walked rules []) (behind h waiting p) words).held ≡ names_held h ++ words)
        → (b : Bool) → option_map_or (λ a. positional_fault rules false a h) (cond b (Some file) None) (stray_fault exec_leaf) ≡ []
        → walk_fault exec_leaf [] (to_positional rules (cond b (Some file) None) word (behind h waiting p) h) words ≡ []
        → names_held (fold (walked rules []) (to_positional rules (cond b (Some file) None) word (behind h waiting p) h) words).held ≡ names_held h ++ word ∷ words
    go rest true taken none =
        rest (positional_held rules file word h) positional p none
        ∙ ap (λ (names : List Text). names ++ words) (file_taken word h.rows h.pending h.skip) ∙ append_assoc (names_held h) (word ∷ []) words
    go rest false stray none = cc

-- from `--` on
dashes_add : (words : List Text) (h : Held) (waiting : Waiting) (p : ℕ) (t : Bool) → walk_fault exec_leaf [] (state h waiting p t None) (codes "--" ∷ words) ≡ []
    → names_held (fold (walked rules []) (state h waiting p t None) (codes "--" ∷ words)).held ≡ (if t then names_held h ++ codes "--" ∷ [] else names_held h) ++ words
unfolding walked walk_fault
dashes_add words h waiting p true none = words_added (codes "--" ∷ words) h waiting p none ∙ sym (append_assoc (names_held h) (codes "--" ∷ []) words)
dashes_add words h idle p false none = words_added words h idle p none
dashes_add words h (option id) p false none = words_added words h (option id) p none
dashes_add words h positional p false none = words_added words h positional p none

-- the names that some words give where `--` and further words follow
names_before : List Text → List Text
names_before front =
    let w : Walk = walk rules [] nothing_held front in
    if w.is_trailing then names_held w.held ++ codes "--" ∷ [] else names_held w.held

exec_files : (front words : List Text) → walk_fault exec_leaf [] (walk_from nothing_held) (front ++ codes "--" ∷ words) ≡ []
    → files (rows_by exec_command (front ++ codes "--" ∷ words)) ≡ names_before front ++ words
unfolding names_before
exec_files front words none =
    let w : Walk = walk rules [] nothing_held front in
    let same : w ≡ state w.held w.waiting w.position w.is_trailing None
    = ap (λ (stopped : Option (Text × List Text)). state w.held w.waiting w.position w.is_trailing stopped) (never_stops rules front nothing_held idle 1 false) in
    let behind_none : walk_fault exec_leaf [] w (codes "--" ∷ words) ≡ [] = none_before exec_leaf [] (walk_from nothing_held) front (codes "--" ∷ words) none in
    ap files (no_defaults rules (refl, (refl, (refl, (refl, (refl, (refl, (refl, (refl, tt)))))))) (settled rules (walk rules [] nothing_held (front ++ codes "--" ∷ words)).held).rows)
    ∙ ap (λ (v : Walk). names_held v.held) (fold_append (walked rules []) (walk_from nothing_held) front (codes "--" ∷ words))
    ∙ ap (λ (v : Walk). names_held (fold (walked rules []) v (codes "--" ∷ words)).held) same
    ∙ dashes_add words w.held w.waiting w.position w.is_trailing (subst (λ (v : Walk). walk_fault exec_leaf [] v (codes "--" ∷ words) ≡ []) same behind_none)

exec_named : (all : Option (List Text)) (options : Option Options) (order : Order) → option_and_then (λ names. option_map (exec names) options) (option_and_then as_files all) ≡ Some order
    → names_asked order ≡ unwrap_or all []
exec_named None options order e = cc
exec_named (Some names) options order e = go (nat_le (length names) most_files && list_all is_named names) options e
  where
    go : (b : Bool) (options : Option Options) → option_and_then (λ names. option_map (exec names) options) (cond b (Some names) None) ≡ Some order → names_asked order ≡ names
    go true (Some o) e = sym (ap (λ (x : Option Order). option_map_or names_asked x []) e)
    go true None e = cc
    go false o e = cc

pub exec_names : HasNamesBehind (codes "exec")
exec_names front = (
  names_before front,
  λ words order e.
      let rest : List Text = front ++ codes "--" ∷ words in
      exec_named (all_of (codes "FILE") (rows_by exec_command rest)) (options_in (rows_by exec_command rest)) order (exec_order rest order e)
      ∙ exec_files front words (exec_walks rest (asked_none (codes "exec" ∷ rest) order e)),
)
