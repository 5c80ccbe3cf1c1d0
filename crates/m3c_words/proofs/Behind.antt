-- What stands behind `--` in a command's words is found under no option.
use Rattle.std.proofs.Common.{◌≡◌, ◌∙◌, ◌==◌, ◌&&◌, ℕ, Bool, cond, List, [], ◌∷◌, ◌++◌, None, Some, Option, true, false, refl, sym, ap, subst, codes}
use Rattle.std.specs.Prelude.{IfSome, fold, find, option_and_then, if◌then◌else◌}
use Rattle.std.specs.List.{AllByRecursion}
use Rattle.std.specs.Option.{option_map}
use Rattle.std.specs.Str.{bytes_eq}
use Rattle.std.proofs.lemmas.List.{append-nil}
use Rattle.std.proofs.lemmas.Slice.Eq.{bytes_eq-Decides}
use Rattle.clap.specs.Walk.{Held, Row, Rule, Text, Waiting, Walk, arg_by_id, arg_by_index, at_row, is_empty, is_multiple, more_values, nothing_held, positional, positional_held, pushed, idle, option, reading_by, rows_after, settled, settled_rows, takes_several, to_positional, used_by_id, values_or_missing, walk, walk_from, walked, with_default, with_values, without, next_position, has_row}
use Rattle.clap.specs.Faults.{fault_of}
use Rattle.clap.specs.Simple.{Shape, built, entered, filled, filled_from, names_of, rows_at, subcommand_of, with_index}
use Rattle.clap.specs.declared.parser.matches.ValueSource.{ValueSource}
use Rattle.clap.specs.declared.parser.matches.ValueSource.TheVariants.{CommandLine}
use Rattle.clap.specs.declared.builder.value_parser.Reading.{Reading}
use Rattle.m3c_words.specs.Orders.{Options, Order, run, exec, inspect}
use Rattle.m3c_words.specs.Grammar.{exec_command, file_words, grammar, image_command, image_word, inspect_command, run_command}
use Rattle.m3c_words.specs.Asked.{asked, exec_in, inspect_in, order_in, options_at, options_in, parsed, run_in, files_in, word_in}
use Rattle.m3c_words.specs.Sentences.{HasOptionsBefore, options_asked, with_behind}

-- ---- rows

abbrev found : Text → List Row → Option Row
found id rows = find (λ r. bytes_eq r.id id) rows

same_test : (id other opt : Text) → bytes_eq id other ≡ true → bytes_eq other opt ≡ false → bytes_eq id opt ≡ false
same_test id other opt e differs = subst (λ (x : Text). bytes_eq x opt ≡ false) (sym ((bytes_eq-Decides id other).0 e)) differs

-- a change of the row of one id leaves that of another
at_other : (id opt : Text) (change : Row → List Row) (missing : List Row)
    → ((r : Row) (rs : List Row) → bytes_eq r.id opt ≡ false → found opt (change r ++ rs) ≡ found opt rs)
    → found opt missing ≡ None → bytes_eq id opt ≡ false → (rows : List Row) → found opt (at_row id change missing rows) ≡ found opt rows
at_other id opt change missing keeps none differs [] = none
at_other id opt change missing keeps none differs (r ∷ rs) = go (at_other id opt change missing keeps none differs rs) (bytes_eq r.id id) refl
  where
    go : found opt (at_row id change missing rs) ≡ found opt rs → (b : Bool) → bytes_eq r.id id ≡ b → found opt (cond b (change r ++ rs) (r ∷ at_row id change missing rs)) ≡ found opt (r ∷ rs)
    go rest true e =
        let apart = same_test r.id id opt e differs in
        keeps r rs apart ∙ sym (ap (λ (t : Bool). cond t (Some r) (found opt rs)) apart)
    go rest false e = ap (cond (bytes_eq r.id opt) (Some r)) rest

with_values_keeps : (id opt : Text) (how : Reading) (s : ValueSource) (values : List Text) → bytes_eq id opt ≡ false → (rows : List Row) → found opt (with_values id how s values rows) ≡ found opt rows
with_values_keeps id opt how s values differs rows =
    at_other id opt (more_values s values) (record { id = id; values = values; count = None; source = Some s; reading = how } ∷ []) (λ r rs e. rw e refl) (rw differs refl) differs rows

without_keeps : (id opt : Text) → bytes_eq id opt ≡ false → (rows : List Row) → found opt (without id rows) ≡ found opt rows
without_keeps id opt differs rows = at_other id opt (λ _. []) [] (λ r rs e. refl) refl differs rows

-- ---- words behind `--`

-- what an argument takes leaves the row of opt
abbrev Kept : List Rule → Text → Rule → Type 0
Kept c opt a = (values : List Text) (rows : List Row) → found opt (used_by_id (arg_by_id c a.id) values rows) ≡ found opt rows

-- so do the plain words of a command
abbrev KeepsRow : List Rule → Text → Type 0
KeepsRow c opt = (p : ℕ) → IfSome (arg_by_index c p) (Kept c opt)

row_stays : (c : List Rule) (opt : Text) (a : Rule) → Kept c opt a → (word : Text) (rows : List Row) (pending : Option (Text × List Text)) (skip : ℕ)
    → found opt (settled c (positional_held c a word (record { rows = rows; pending = pending; skip = skip }))).rows ≡ found opt (settled_rows c pending rows)
row_stays c opt a k word rows None skip = k (word ∷ []) rows
row_stays c opt a k word rows (Some p) skip = go (bytes_eq p.0 a.id) refl (takes_several a)
  where
    h : Held
    h = record { rows = rows; pending = Some p; skip = skip }

    go : (b : Bool) → bytes_eq p.0 a.id ≡ b → (several : Bool) → found opt (settled c (pushed a.id word (if b && several then h else settled c h))).rows ≡ found opt (settled_rows c (Some p) rows)
    go true e true =
        let same : (values : List Text) (rows : List Row) → found opt (used_by_id (arg_by_id c p.0) values rows) ≡ found opt rows
        = subst (λ (id : Text). (values : List Text) (rows : List Row) → found opt (used_by_id (arg_by_id c id) values rows) ≡ found opt rows) (sym ((bytes_eq-Decides p.0 a.id).0 e)) k in
        same (p.1 ++ word ∷ []) rows ∙ sym (same p.1 rows)
    go true e false = k (word ∷ []) (settled_rows c (Some p) rows)
    go false e several = k (word ∷ []) (settled_rows c (Some p) rows)

abbrev pub behind : Held → Waiting → ℕ → Walk
behind h waiting p = record { held = h; waiting = waiting; position = p; is_trailing = true; stopped = None }

words_keep : (c : List Rule) (opt : Text) → KeepsRow c opt → (words : List Text) (h : Held) (waiting : Waiting) (p : ℕ)
    → found opt (settled c (fold (walked c []) (behind h waiting p) words).held).rows ≡ found opt (settled c h).rows
unfolding walked
words_keep c opt k [] h waiting p = refl
words_keep c opt k (word ∷ words) h waiting p = go (words_keep c opt k words) (arg_by_index c p) (k p)
  where
    go : ((h : Held) (waiting : Waiting) (p : ℕ) → found opt (settled c (fold (walked c []) (behind h waiting p) words).held).rows ≡ found opt (settled c h).rows)
        → (o : Option Rule) → IfSome o (Kept c opt) → found opt (settled c (fold (walked c []) (to_positional c o word (behind h waiting p) h) words).held).rows ≡ found opt (settled c h).rows
    go rest None kept = rest h waiting p
    go rest (Some a) kept =
        rest (positional_held c a word h) (if is_multiple a then positional else idle) (next_position a p)
        ∙ row_stays c opt a kept word h.rows h.pending h.skip

abbrev pub state : Held → Waiting → ℕ → Bool → Option (Text × List Text) → Walk
state h waiting p is_trailing stopped = record { held = h; waiting = waiting; position = p; is_trailing = is_trailing; stopped = stopped }

stopped_holds : (c : List Rule) (h : Held) (waiting : Waiting) (p : ℕ) (t : Bool) (stop : Text × List Text) (words : List Text)
    → (fold (walked c []) (state h waiting p t (Some stop)) words).held ≡ h
unfolding walked
stopped_holds c h waiting p t stop [] = refl
stopped_holds c h waiting p t stop (word ∷ words) = stopped_holds c h waiting p t (stop.0, stop.1 ++ word ∷ []) words

-- the word `--` and all behind it leave the row of opt
dashes_keep : (c : List Rule) (opt : Text) → KeepsRow c opt → (words : List Text) (h : Held) (waiting : Waiting) (p : ℕ) (t : Bool) (stopped : Option (Text × List Text))
    → found opt (settled c (fold (walked c []) (state h waiting p t stopped) (codes "--" ∷ words)).held).rows ≡ found opt (settled c h).rows
unfolding walked
dashes_keep c opt k words h waiting p t (Some stop) = ap (λ (x : Held). found opt (settled c x).rows) (stopped_holds c h waiting p t stop (codes "--" ∷ words))
dashes_keep c opt k words h waiting p true None = words_keep c opt k (codes "--" ∷ words) h waiting p
dashes_keep c opt k words h idle p false None = words_keep c opt k words h idle p
dashes_keep c opt k words h (option id) p false None = words_keep c opt k words h (option id) p
dashes_keep c opt k words h positional p false None = words_keep c opt k words h positional p

pub fold_append : (f : Walk → Text → Walk) (w : Walk) (xs ys : List Text) → fold f w (xs ++ ys) ≡ fold f (fold f w xs) ys
fold_append f w [] ys = refl
fold_append f w (x ∷ xs) ys = fold_append f (f w x) xs ys

either_way : (b : Bool) (rows : List Row) → cond b rows rows ≡ rows
either_way true rows = refl
either_way false rows = refl

abbrev pub HasNoDefault : Rule → Type 0
HasNoDefault a = a.defaults ≡ []

no_default : (rows : List Row) (a : Rule) → HasNoDefault a → with_default rows a ≡ rows
no_default rows a e = rw e (either_way (has_row a.id rows) rows)

pub no_defaults : (c : List Rule) → AllByRecursion HasNoDefault c → (rows : List Row) → fold with_default rows c ≡ rows
no_defaults [] h rows = refl
no_defaults (a ∷ c) h rows = ap (λ (rs : List Row). fold with_default rs c) (no_default rows a h.0) ∙ no_defaults c h.1 rows

-- so a command's row of opt is that of the words before `--`
row_before : (c : List Rule) (opt : Text) → KeepsRow c opt → AllByRecursion HasNoDefault c → (front words : List Text)
    → found opt (rows_after c [] (front ++ codes "--" ∷ words)) ≡ found opt (rows_after c [] front)
row_before c opt k d front words =
    let w : Walk = walk c [] nothing_held front in
    ap (found opt) (no_defaults c d _)
    ∙ ap (λ (v : Walk). found opt (settled c v.held).rows) (fold_append (walked c []) (walk_from nothing_held) front (codes "--" ∷ words))
    ∙ dashes_keep c opt k words w.held w.waiting w.position w.is_trailing w.stopped
    ∙ sym (ap (found opt) (no_defaults c d _))

-- ---- the command that the first word names

-- as clap builds it
abbrev pub leaf : Shape → Shape
leaf s = record s { rules = filled_from 1 s.rules; no_binary_name = true; disable_help_subcommand = true; is_built = true }

then_all : (acc : List Text) (word : Text) (words : List Text) → (acc ++ word ∷ []) ++ words ≡ acc ++ word ∷ words
then_all [] word words = refl
then_all (a ∷ acc) word words = ap (λ (xs : List Text). a ∷ xs) (then_all acc word words)

pub stops_with : (h : Held) (waiting : Waiting) (p : ℕ) (t : Bool) (name : Text) (acc words : List Text)
    → (fold (walked (built grammar).top.rules (names_of (built grammar))) (state h waiting p t (Some (name, acc))) words).stopped ≡ Some (name, acc ++ words)
unfolding walked
stops_with h waiting p t name acc [] = ap (λ (xs : List Text). Some (name, xs)) (sym (append-nil acc))
stops_with h waiting p t name acc (word ∷ words) = stops_with h waiting p t name (acc ++ word ∷ []) words ∙ ap (λ (xs : List Text). Some (name, xs)) (then_all acc word words)

pub exec_entered : (words : List Text) → subcommand_of grammar (codes "exec" ∷ words) ≡ Some (rows_at (leaf exec_command) words)
unfolding grammar walked
exec_entered words = ap (entered (built grammar)) (stops_with nothing_held idle 1 false (codes "exec") [] words)

pub run_entered : (words : List Text) → subcommand_of grammar (codes "run" ∷ words) ≡ Some (rows_at (leaf run_command) words)
unfolding grammar walked
run_entered words = ap (entered (built grammar)) (stops_with nothing_held idle 1 false (codes "run") [] words)

pub inspect_entered : (words : List Text) → subcommand_of grammar (codes "inspect" ∷ words) ≡ Some (rows_at (leaf inspect_command) words)
unfolding grammar walked
inspect_entered words = ap (entered (built grammar)) (stops_with nothing_held idle 1 false (codes "inspect") [] words)

abbrev pub rows_by : Shape → List Text → List Row
rows_by s words = rows_after (leaf s).rules [] words

pub parsed_order : (b : Bool) (found : Option (Text × List Row)) (name : Text) (rows : List Row) (order : Order) → found ≡ Some (name, rows)
    → option_and_then (λ p. order_in p.0 p.1) (cond b found None) ≡ Some order → order_in name rows ≡ Some order
parsed_order true found name rows order e asks = sym (ap (option_and_then (λ p. order_in p.0 p.1)) e) ∙ asks
parsed_order false found name rows order e asks = cc

pub exec_order : (words : List Text) (order : Order) → asked (codes "exec" ∷ words) ≡ Some order → exec_in (rows_by exec_command words) ≡ Some order
unfolding parsed order_in
exec_order words order asks = parsed_order (is_empty (fault_of grammar (codes "exec" ∷ words))) (subcommand_of grammar (codes "exec" ∷ words)) (codes "exec") (rows_by exec_command words) order (exec_entered words) asks

run_order : (words : List Text) (order : Order) → asked (codes "run" ∷ words) ≡ Some order → run_in (rows_by run_command words) ≡ Some order
unfolding parsed order_in
run_order words order asks = parsed_order (is_empty (fault_of grammar (codes "run" ∷ words))) (subcommand_of grammar (codes "run" ∷ words)) (codes "run") (rows_by run_command words) order (run_entered words) asks

inspect_order : (words : List Text) (order : Order) → asked (codes "inspect" ∷ words) ≡ Some order → inspect_in (rows_by inspect_command words) ≡ Some order
unfolding parsed order_in
inspect_order words order asks = parsed_order (is_empty (fault_of grammar (codes "inspect" ∷ words))) (subcommand_of grammar (codes "inspect" ∷ words)) (codes "inspect") (rows_by inspect_command words) order (inspect_entered words) asks

-- ---- its options

file_kept : (opt : Text) → bytes_eq (codes "FILE") opt ≡ false → KeepsRow (leaf exec_command).rules opt
file_kept opt differs p = go (1 == p)
  where
    go : (b : Bool) → IfSome (cond b (Some (with_index 1 (filled file_words))) None) (Kept (leaf exec_command).rules opt)
    go true = λ values rows. with_values_keeps (codes "FILE") opt (reading_by (filled file_words)) CommandLine (values_or_missing (filled file_words) values) differs rows
    go false = tt

image_kept : (name points opt : Text) → bytes_eq (codes "IMAGE") opt ≡ false → KeepsRow (leaf (image_command name points)).rules opt
image_kept name points opt differs p = go (1 == p)
  where
    go : (b : Bool) → IfSome (cond b (Some (with_index 1 (filled image_word))) None) (Kept (leaf (image_command name points)).rules opt)
    go true = λ values rows.
        with_values_keeps (codes "IMAGE") opt (reading_by (filled image_word)) CommandLine (values_or_missing (filled image_word) values) differs (without (codes "IMAGE") rows)
        ∙ without_keeps (codes "IMAGE") opt differs rows
    go false = tt

-- rows that agree on the options of a run give the same options
abbrev AgreeOn : List Row → List Row → Text → Type 0
AgreeOn rows others opt = found opt rows ≡ found opt others

same_options : (rows others : List Row) → AgreeOn rows others (codes "switches") → AgreeOn rows others (codes "input") → AgreeOn rows others (codes "points")
    → AgreeOn rows others (codes "heap") → AgreeOn rows others (codes "stack") → AgreeOn rows others (codes "threads") → AgreeOn rows others (codes "young") → options_in rows ≡ options_in others
same_options rows others switches input points heap stack threads young = rw (switches, input, points, heap, stack, threads, young) refl

same_at : (rows others : List Row) → AgreeOn rows others (codes "switches") → AgreeOn rows others (codes "input") → AgreeOn rows others (codes "at")
    → AgreeOn rows others (codes "heap") → AgreeOn rows others (codes "stack") → AgreeOn rows others (codes "threads") → AgreeOn rows others (codes "young") → options_at rows ≡ options_at others
same_at rows others switches input at heap stack threads young = rw (switches, input, at, heap, stack, threads, young) refl

exec_says : (files : Option (List Text)) (options : Option Options) (order : Order) → option_and_then (λ names. option_map (exec names) options) files ≡ Some order → options_asked order ≡ options
exec_says None options order e = cc
exec_says (Some names) None order e = cc
exec_says (Some names) (Some o) order e = sym (ap (option_and_then options_asked) e)

image_says : (make : Text → Options → Order) → ((name : Text) (o : Options) → options_asked (make name o) ≡ Some o) → (image : Option Text) (options : Option Options) (order : Order)
    → option_and_then (λ name. option_map (make name) options) image ≡ Some order → options_asked order ≡ options
image_says make has None options order e = cc
image_says make has (Some name) None order e = cc
image_says make has (Some name) (Some o) order e = sym (ap (option_and_then options_asked) e) ∙ has name o

exec_before : (front words : List Text) → options_in (rows_by exec_command (front ++ codes "--" ∷ words)) ≡ options_in (rows_by exec_command front)
exec_before front words = same_options (rows_by exec_command (front ++ codes "--" ∷ words)) (rows_by exec_command front) (row (codes "switches") refl) (row (codes "input") refl) (row (codes "points") refl) (row (codes "heap") refl) (row (codes "stack") refl) (row (codes "threads") refl) (row (codes "young") refl)
  where
    row : (opt : Text) → bytes_eq (codes "FILE") opt ≡ false → AgreeOn (rows_by exec_command (front ++ codes "--" ∷ words)) (rows_by exec_command front) opt
    row opt differs = row_before (leaf exec_command).rules opt (file_kept opt differs) (refl, (refl, (refl, (refl, (refl, (refl, (refl, (refl, tt)))))))) front words

-- a command over one image: its row of an option is that of the words before `--`
image_row : (name points : Text) (front words : List Text) (opt : Text) → bytes_eq (codes "IMAGE") opt ≡ false
    → AgreeOn (rows_by (image_command name points) (front ++ codes "--" ∷ words)) (rows_by (image_command name points) front) opt
image_row name points front words opt differs =
    row_before (leaf (image_command name points)).rules opt (image_kept name points opt differs) (refl, (refl, (refl, (refl, (refl, (refl, (refl, (refl, tt)))))))) front words

run_before : (front words : List Text) → options_in (rows_by run_command (front ++ codes "--" ∷ words)) ≡ options_in (rows_by run_command front)
run_before front words = same_options (rows_by run_command (front ++ codes "--" ∷ words)) (rows_by run_command front) (row (codes "switches") refl) (row (codes "input") refl) (row (codes "points") refl) (row (codes "heap") refl) (row (codes "stack") refl) (row (codes "threads") refl) (row (codes "young") refl)
  where
    row : (opt : Text) → bytes_eq (codes "IMAGE") opt ≡ false → AgreeOn (rows_by run_command (front ++ codes "--" ∷ words)) (rows_by run_command front) opt
    row = image_row (codes "run") (codes "points") front words

inspect_before : (front words : List Text) → options_at (rows_by inspect_command (front ++ codes "--" ∷ words)) ≡ options_at (rows_by inspect_command front)
inspect_before front words = same_at (rows_by inspect_command (front ++ codes "--" ∷ words)) (rows_by inspect_command front) (row (codes "switches") refl) (row (codes "input") refl) (row (codes "at") refl) (row (codes "heap") refl) (row (codes "stack") refl) (row (codes "threads") refl) (row (codes "young") refl)
  where
    row : (opt : Text) → bytes_eq (codes "IMAGE") opt ≡ false → AgreeOn (rows_by inspect_command (front ++ codes "--" ∷ words)) (rows_by inspect_command front) opt
    row = image_row (codes "inspect") (codes "at") front words

exec_with : (front words : List Text) (order : Order) → asked (with_behind (codes "exec") front words) ≡ Some order → options_asked order ≡ options_in (rows_by exec_command front)
exec_with front words order e =
    let rows = rows_by exec_command (front ++ codes "--" ∷ words) in
    exec_says (files_in rows) (options_in rows) order (exec_order (front ++ codes "--" ∷ words) order e) ∙ exec_before front words

run_with : (front words : List Text) (order : Order) → asked (with_behind (codes "run") front words) ≡ Some order → options_asked order ≡ options_in (rows_by run_command front)
run_with front words order e =
    let rows = rows_by run_command (front ++ codes "--" ∷ words) in
    image_says run (λ name o. refl) (word_in (codes "IMAGE") rows) (options_in rows) order (run_order (front ++ codes "--" ∷ words) order e) ∙ run_before front words

inspect_with : (front words : List Text) (order : Order) → asked (with_behind (codes "inspect") front words) ≡ Some order → options_asked order ≡ options_at (rows_by inspect_command front)
inspect_with front words order e =
    let rows = rows_by inspect_command (front ++ codes "--" ∷ words) in
    image_says inspect (λ name o. refl) (word_in (codes "IMAGE") rows) (options_at rows) order (inspect_order (front ++ codes "--" ∷ words) order e) ∙ inspect_before front words

pub exec_options : HasOptionsBefore (codes "exec")
exec_options front one other first second e f = exec_with front one first e ∙ sym (exec_with front other second f)

pub run_options_stay : HasOptionsBefore (codes "run")
run_options_stay front one other first second e f = run_with front one first e ∙ sym (run_with front other second f)

pub inspect_options_stay : HasOptionsBefore (codes "inspect")
inspect_options_stay front one other first second e f = inspect_with front one first e ∙ sym (inspect_with front other second f)
