-- What words ask for is what the sentences read from them, command by command.
use Rattle.std.proofs.Common.{◌≡◌, ◌∙◌, ◌≤◌, ◌<◌, ◌^◌, ℕ, length, List, [], ◌∷◌, None, Some, Option, true, false, refl, sym, ap, subst, codes, arith}
use Rattle.std.specs.Prelude.{is_some, option_and_then, slice_get}
use Rattle.std.specs.List.{AllByRecursion}
use Rattle.std.specs.Option.{option_map}
use Rattle.clap.specs.Faults.{check_fault, entered_fault, level_fault, turn_fault}
use Rattle.clap.specs.Simple.{built, entered, rows_at}
use Rattle.clap.specs.Takes.{is_given}
use Rattle.clap.specs.Walk.{Row, Text, all_of, first_of, idle, nonempty, nothing_held, rows_after, walk_from, walked}
use Rattle.m3c_words.specs.Orders.{Options, Order, build, run, exec, dump, bench, inspect}
use Rattle.m3c_words.specs.Grammar.{bench_command, build_command, dump_command, exec_command, grammar, inspect_command, run_command}
use Rattle.m3c_words.specs.Asked.{as_files, asked, bench_in, build_in, dump_in, exec_in, files_in, inspect_in, number_of, options_at, options_in, order_in, run_in, word_in}
use Rattle.m3c_words.specs.Sentences.{IsName, command_asked}
use Rattle.m3c_words.proofs.Behind.{HasNoDefault, leaf}
use Rattle.m3c_words.proofs.First.{begins_with_command}
use Rattle.m3c_words_laws.specs.Reads.{AreOptionsAt, AreOptionsOf, AreSomeFiles, AreTexts, Given, IsNumber, Reads, Spell, options_of_inspect, options_of_runs, reads_bench, reads_build, reads_dump, reads_exec, reads_inspect, reads_run}
use Rattle.m3c_words_laws.proofs.Finding.{given_of}
use Rattle.m3c_words_laws.proofs.Leaves.{keeps_files, keeps_image, keeps_none, knows_bench, knows_build, knows_dump, knows_exec, knows_inspect, knows_run, names_bench, names_build, names_dump, names_exec, names_inspect, names_run, no_given, rules_of, starts}
use Rattle.m3c_words_laws.proofs.Levels.{asked_passes, commands, end_rows, leaf_passed, leaf_passes, leaf_rows, passes_asked, stopped, top}
use Rattle.m3c_words_laws.proofs.Meanings.{are_at, are_files, are_options, at_are, files_are, first_from, is_number, is_word, map_some, number_is, options_are, then_some, word_is}
use Rattle.m3c_words_laws.proofs.Names.{HasFiles, HasImage, HasName, IsFirst, IsPlaceOf, file_id, image_id, listed, others_of_names}
use Rattle.m3c_words_laws.proofs.Steps.{leaf_of}
use Rattle.m3c_words_laws.proofs.Walking.{Rows, passes_all, spelled}

-- ---- names

listed_is : (names values : List Text) → listed names ≡ Some values → (names ≡ values) × (names ≡ [] → ⊥)
listed_is [] values e = absurd (none_some values e)
  where
    none_some : (values : List Text) → None ≡ Some values → ⊥
    none_some values e = cc
listed_is (x ∷ names) values e = (same (x ∷ names) values e, λ none. cc)
  where
    same : (a b : List Text) → Some a ≡ Some b → a ≡ b
    same a b e = cc

some_listed : (names : List Text) → (names ≡ [] → ⊥) → listed names ≡ Some names
some_listed [] some = absurd (some refl)
some_listed (x ∷ names) some = refl

-- the FILEs of rows
files_read : (rows : List Row) (names files : List Text) → all_of file_id rows ≡ listed names → files_in rows ≡ Some files → (names ≡ files) × AreSomeFiles files
files_read rows names files has e =
    let k = then_some as_files (all_of file_id rows) files e in
    let l = listed_is names k.0 (sym has ∙ k.1) in
    let f = files_are k.0 files k.2 in
    (l.0 ∙ f.0, (λ none. l.1 (l.0 ∙ f.0 ∙ none), f.1))

read_files : (rows : List Row) (files : List Text) → all_of file_id rows ≡ listed files → AreSomeFiles files → files_in rows ≡ Some files
read_files rows files has h = ap (option_and_then as_files) (has ∙ some_listed files h.0) ∙ are_files files h.1

-- the one name of rows
head_of : (names : List Text) (name : Text) → option_and_then (λ (vs : List Text). slice_get vs 0) (listed names) ≡ Some name → length names ≤ 1 → names ≡ name ∷ []
head_of [] name e few = absurd (none_some name e)
  where
    none_some : (name : Text) → None ≡ Some name → ⊥
    none_some name e = cc
head_of (x ∷ []) name e few = ap (λ (y : Text). y ∷ []) (same x name e)
  where
    same : (a b : Text) → Some a ≡ Some b → a ≡ b
    same a b e = cc
head_of (x ∷ y ∷ names) name e few = absurd (omega (arith, few))

one_read : (id : Text) (rows : List Row) (names : List Text) (name : Text) → HasName id rows names → first_of id rows ≡ Some name → names ≡ name ∷ []
one_read id rows names name has e = head_of names name (sym (first_from id rows ∙ ap (option_and_then (λ (vs : List Text). slice_get vs 0)) has.0) ∙ e) has.1

read_one : (id : Text) (rows : List Row) (name : Text) → all_of id rows ≡ listed (name ∷ []) → first_of id rows ≡ Some name
read_one id rows name has = first_from id rows ∙ ap (option_and_then (λ (vs : List Text). slice_get vs 0)) has

-- ---- how each command is entered

exec_starts : walked top.rules commands (walk_from nothing_held) (codes "exec") ≡ stopped (codes "exec") []
unfolding grammar walked
exec_starts = refl

exec_turns : turn_fault top commands (walk_from nothing_held) (codes "exec") ≡ []
unfolding grammar
exec_turns = refl

exec_enters : (words : List Text) → entered_fault (built grammar) (Some (codes "exec", words)) ≡ level_fault (leaf exec_command) [] nothing_held words false []
unfolding grammar
exec_enters words = refl

exec_finds : (words : List Text) → entered (built grammar) (Some (codes "exec", words)) ≡ Some (rows_at (leaf exec_command) words)
unfolding grammar
exec_finds words = refl

-- ---- exec

exec_plain : AllByRecursion HasNoDefault (rules_of exec_command)
exec_plain = (refl, (refl, (refl, (refl, (refl, (refl, (refl, (refl, tt))))))))

exec_order_in : (rows : List Row) → order_in (codes "exec") rows ≡ exec_in rows
unfolding order_in
exec_order_in rows = refl

exec_check : (rows : List Row) → is_given file_id rows ≡ true → check_fault (leaf_of (codes "exec") (rules_of exec_command)) rows false ≡ []
exec_check rows e = rw e refl

exec_reads : (words : List Text) (order : Order) → AreTexts words → asked (codes "exec" ∷ words) ≡ Some order → Reads (codes "exec" ∷ words) order
exec_reads words order texts e =
    let a = asked_passes (codes "exec") (leaf exec_command) exec_starts exec_turns exec_enters exec_finds words order e in
    let p = leaf_passed (codes "exec") (rules_of exec_command) exec_plain words a.0 in
    let s = spelled (codes "exec") (rules_of exec_command) options_of_runs 256 HasFiles IsFirst knows_exec keeps_files names_exec words nothing_held idle 1 [] [] tt texts (starts (rules_of exec_command) options_of_runs 256 HasFiles IsFirst refl refl) p.0 in
    let rows : List Row = end_rows (codes "exec") (rules_of exec_command) exec_plain words in
    let o : exec_in rows ≡ Some order = ap exec_in (sym (leaf_rows (codes "exec") (rules_of exec_command) exec_plain words)) ∙ sym (exec_order_in (rows_after (rules_of exec_command) [] words)) ∙ a.1 in
    let f = then_some (λ files. option_map (exec files) (options_in rows)) (files_in rows) order o in
    let g = map_some (exec f.0) (options_in rows) order f.2 in
    let files = files_read rows s.others f.0 s.holds.named f.1 in
    subst (λ (x : Order). Reads (codes "exec" ∷ words) x) g.2
    (reads_exec words s.more f.0 g.0 (subst (λ (ns : List Text). Spell options_of_runs words s.more ns) files.0 s.spell) files.1 (options_are rows s.more s.holds.known g.0 s.holds.apart g.1))

exec_asks : (words : List Text) (given : Given) (files : List Text) (options : Options) → Spell options_of_runs words given files → AreSomeFiles files → AreOptionsOf given options → asked (codes "exec" ∷ words) ≡ Some (exec files options)
exec_asks words given files options spell some opts =
    let rows : List Row = end_rows (codes "exec") (rules_of exec_command) exec_plain words in
    let p = passes_all (codes "exec") (rules_of exec_command) options_of_runs 256 HasFiles IsFirst knows_exec keeps_files names_exec words given files spell nothing_held idle 1 [] [] tt (starts (rules_of exec_command) options_of_runs 256 HasFiles IsFirst refl refl) opts.apart some.1.0 in
    let r : Rows options_of_runs HasFiles rows given files = p.1 in
    let there : is_given file_id rows ≡ true = given_of file_id rows r.explicit ∙ ap is_some (r.named ∙ some_listed files some.0) in
    passes_asked (codes "exec") (leaf exec_command) exec_starts exec_turns exec_enters exec_finds words (leaf_passes (codes "exec") (rules_of exec_command) exec_plain words p.0 (exec_check rows there))
    ∙ exec_order_in (rows_after (rules_of exec_command) [] words) ∙ ap exec_in (leaf_rows (codes "exec") (rules_of exec_command) exec_plain words)
    ∙ exec_is (files_in rows) (options_in rows) (read_files rows files r.named some) (are_options rows given r.known options opts)
  where
    exec_is : (f : Option (List Text)) (o : Option Options) → f ≡ Some files → o ≡ Some options → option_and_then (λ names. option_map (exec names) o) f ≡ Some (exec files options)
    exec_is f o e k = rw (e, k) refl

-- ---- run

run_starts : walked top.rules commands (walk_from nothing_held) (codes "run") ≡ stopped (codes "run") []
unfolding grammar walked
run_starts = refl

run_turns : turn_fault top commands (walk_from nothing_held) (codes "run") ≡ []
unfolding grammar
run_turns = refl

run_enters : (words : List Text) → entered_fault (built grammar) (Some (codes "run", words)) ≡ level_fault (leaf run_command) [] nothing_held words false []
unfolding grammar
run_enters words = refl

run_finds : (words : List Text) → entered (built grammar) (Some (codes "run", words)) ≡ Some (rows_at (leaf run_command) words)
unfolding grammar
run_finds words = refl

run_order_in : (rows : List Row) → order_in (codes "run") rows ≡ run_in rows
unfolding order_in
run_order_in rows = refl

run_plain : AllByRecursion HasNoDefault (rules_of run_command)
run_plain = (refl, (refl, (refl, (refl, (refl, (refl, (refl, (refl, tt))))))))

run_check : (rows : List Row) → is_given image_id rows ≡ true → check_fault (leaf_of (codes "run") (rules_of run_command)) rows false ≡ []
run_check rows e = rw e refl

run_reads : (words : List Text) (order : Order) → AreTexts words → asked (codes "run" ∷ words) ≡ Some order → Reads (codes "run" ∷ words) order
run_reads words order texts e =
    let a = asked_passes (codes "run") (leaf run_command) run_starts run_turns run_enters run_finds words order e in
    let p = leaf_passed (codes "run") (rules_of run_command) run_plain words a.0 in
    let s = spelled (codes "run") (rules_of run_command) options_of_runs 1 (HasName image_id) IsPlaceOf knows_run (keeps_image (codes "points") refl) names_run words nothing_held idle 1 [] [] tt texts (starts (rules_of run_command) options_of_runs 1 (HasName image_id) IsPlaceOf refl (refl, omega arith)) p.0 in
    let rows : List Row = end_rows (codes "run") (rules_of run_command) run_plain words in
    let o : run_in rows ≡ Some order = ap run_in (sym (leaf_rows (codes "run") (rules_of run_command) run_plain words)) ∙ sym (run_order_in (rows_after (rules_of run_command) [] words)) ∙ a.1 in
    let f = then_some (λ image. option_map (run image) (options_in rows)) (word_in image_id rows) order o in
    let g = map_some (run f.0) (options_in rows) order f.2 in
    let w = word_is (first_of image_id rows) f.0 f.1 in
    subst (λ (x : Order). Reads (codes "run" ∷ words) x) g.2
    (reads_run words s.more f.0 g.0 (subst (λ (ns : List Text). Spell options_of_runs words s.more ns) (one_read image_id rows s.others f.0 s.holds.named w.0) s.spell) w.1 (options_are rows s.more s.holds.known g.0 s.holds.apart g.1))

run_asks : (words : List Text) (given : Given) (image : Text) (options : Options) → Spell options_of_runs words given (image ∷ []) → IsName image → AreOptionsOf given options → asked (codes "run" ∷ words) ≡ Some (run image options)
run_asks words given image options spell some opts =
    let rows : List Row = end_rows (codes "run") (rules_of run_command) run_plain words in
    let p = passes_all (codes "run") (rules_of run_command) options_of_runs 1 (HasName image_id) IsPlaceOf knows_run (keeps_image (codes "points") refl) names_run words given (image ∷ []) spell nothing_held idle 1 [] [] tt (starts (rules_of run_command) options_of_runs 1 (HasName image_id) IsPlaceOf refl (refl, omega arith)) opts.apart (omega arith) in
    let r : Rows options_of_runs (HasName image_id) rows given (image ∷ []) = p.1 in
    let there : is_given image_id rows ≡ true = given_of image_id rows r.explicit ∙ ap is_some r.named.0 in
    passes_asked (codes "run") (leaf run_command) run_starts run_turns run_enters run_finds words (leaf_passes (codes "run") (rules_of run_command) run_plain words p.0 (run_check rows there))
    ∙ run_order_in (rows_after (rules_of run_command) [] words) ∙ ap run_in (leaf_rows (codes "run") (rules_of run_command) run_plain words)
    ∙ run_is (word_in image_id rows) (options_in rows) (ap (option_and_then nonempty) (read_one image_id rows image r.named.0) ∙ is_word image some) (are_options rows given r.known options opts)
  where
    run_is : (f : Option Text) (o : Option Options) → f ≡ Some image → o ≡ Some options → option_and_then (λ name. option_map (run name) o) f ≡ Some (run image options)
    run_is f o e k = rw (e, k) refl

-- ---- inspect

inspect_starts : walked top.rules commands (walk_from nothing_held) (codes "inspect") ≡ stopped (codes "inspect") []
unfolding grammar walked
inspect_starts = refl

inspect_turns : turn_fault top commands (walk_from nothing_held) (codes "inspect") ≡ []
unfolding grammar
inspect_turns = refl

inspect_enters : (words : List Text) → entered_fault (built grammar) (Some (codes "inspect", words)) ≡ level_fault (leaf inspect_command) [] nothing_held words false []
unfolding grammar
inspect_enters words = refl

inspect_finds : (words : List Text) → entered (built grammar) (Some (codes "inspect", words)) ≡ Some (rows_at (leaf inspect_command) words)
unfolding grammar
inspect_finds words = refl

inspect_order_in : (rows : List Row) → order_in (codes "inspect") rows ≡ inspect_in rows
unfolding order_in
inspect_order_in rows = refl

inspect_plain : AllByRecursion HasNoDefault (rules_of inspect_command)
inspect_plain = (refl, (refl, (refl, (refl, (refl, (refl, (refl, (refl, tt))))))))

inspect_check : (rows : List Row) → is_given image_id rows ≡ true → check_fault (leaf_of (codes "inspect") (rules_of inspect_command)) rows false ≡ []
inspect_check rows e = rw e refl

inspect_reads : (words : List Text) (order : Order) → AreTexts words → asked (codes "inspect" ∷ words) ≡ Some order → Reads (codes "inspect" ∷ words) order
inspect_reads words order texts e =
    let a = asked_passes (codes "inspect") (leaf inspect_command) inspect_starts inspect_turns inspect_enters inspect_finds words order e in
    let p = leaf_passed (codes "inspect") (rules_of inspect_command) inspect_plain words a.0 in
    let s = spelled (codes "inspect") (rules_of inspect_command) options_of_inspect 1 (HasName image_id) IsPlaceOf knows_inspect (keeps_image (codes "at") refl) names_inspect words nothing_held idle 1 [] [] tt texts (starts (rules_of inspect_command) options_of_inspect 1 (HasName image_id) IsPlaceOf refl (refl, omega arith)) p.0 in
    let rows : List Row = end_rows (codes "inspect") (rules_of inspect_command) inspect_plain words in
    let o : inspect_in rows ≡ Some order = ap inspect_in (sym (leaf_rows (codes "inspect") (rules_of inspect_command) inspect_plain words)) ∙ sym (inspect_order_in (rows_after (rules_of inspect_command) [] words)) ∙ a.1 in
    let f = then_some (λ image. option_map (inspect image) (options_at rows)) (word_in image_id rows) order o in
    let g = map_some (inspect f.0) (options_at rows) order f.2 in
    let w = word_is (first_of image_id rows) f.0 f.1 in
    subst (λ (x : Order). Reads (codes "inspect" ∷ words) x) g.2
    (reads_inspect words s.more f.0 g.0 (subst (λ (ns : List Text). Spell options_of_inspect words s.more ns) (one_read image_id rows s.others f.0 s.holds.named w.0) s.spell) w.1 (at_are rows s.more s.holds.known g.0 s.holds.apart g.1))

inspect_asks : (words : List Text) (given : Given) (image : Text) (options : Options) → Spell options_of_inspect words given (image ∷ []) → IsName image → AreOptionsAt given options → asked (codes "inspect" ∷ words) ≡ Some (inspect image options)
inspect_asks words given image options spell some opts =
    let rows : List Row = end_rows (codes "inspect") (rules_of inspect_command) inspect_plain words in
    let p = passes_all (codes "inspect") (rules_of inspect_command) options_of_inspect 1 (HasName image_id) IsPlaceOf knows_inspect (keeps_image (codes "at") refl) names_inspect words given (image ∷ []) spell nothing_held idle 1 [] [] tt (starts (rules_of inspect_command) options_of_inspect 1 (HasName image_id) IsPlaceOf refl (refl, omega arith)) opts.apart (omega arith) in
    let r : Rows options_of_inspect (HasName image_id) rows given (image ∷ []) = p.1 in
    let there : is_given image_id rows ≡ true = given_of image_id rows r.explicit ∙ ap is_some r.named.0 in
    passes_asked (codes "inspect") (leaf inspect_command) inspect_starts inspect_turns inspect_enters inspect_finds words (leaf_passes (codes "inspect") (rules_of inspect_command) inspect_plain words p.0 (inspect_check rows there))
    ∙ inspect_order_in (rows_after (rules_of inspect_command) [] words) ∙ ap inspect_in (leaf_rows (codes "inspect") (rules_of inspect_command) inspect_plain words)
    ∙ inspect_is (word_in image_id rows) (options_at rows) (ap (option_and_then nonempty) (read_one image_id rows image r.named.0) ∙ is_word image some) (are_at rows given r.known options opts)
  where
    inspect_is : (f : Option Text) (o : Option Options) → f ≡ Some image → o ≡ Some options → option_and_then (λ name. option_map (inspect name) o) f ≡ Some (inspect image options)
    inspect_is f o e k = rw (e, k) refl

-- ---- dump

dump_starts : walked top.rules commands (walk_from nothing_held) (codes "dump") ≡ stopped (codes "dump") []
unfolding grammar walked
dump_starts = refl

dump_turns : turn_fault top commands (walk_from nothing_held) (codes "dump") ≡ []
unfolding grammar
dump_turns = refl

dump_enters : (words : List Text) → entered_fault (built grammar) (Some (codes "dump", words)) ≡ level_fault (leaf dump_command) [] nothing_held words false []
unfolding grammar
dump_enters words = refl

dump_finds : (words : List Text) → entered (built grammar) (Some (codes "dump", words)) ≡ Some (rows_at (leaf dump_command) words)
unfolding grammar
dump_finds words = refl

dump_order_in : (rows : List Row) → order_in (codes "dump") rows ≡ dump_in rows
unfolding order_in
dump_order_in rows = refl

dump_plain : AllByRecursion HasNoDefault (rules_of dump_command)
dump_plain = (refl, tt)

dump_check : (rows : List Row) → is_given image_id rows ≡ true → check_fault (leaf_of (codes "dump") (rules_of dump_command)) rows false ≡ []
dump_check rows e = rw e refl

dump_reads : (words : List Text) (order : Order) → AreTexts words → asked (codes "dump" ∷ words) ≡ Some order → Reads (codes "dump" ∷ words) order
dump_reads words order texts e =
    let a = asked_passes (codes "dump") (leaf dump_command) dump_starts dump_turns dump_enters dump_finds words order e in
    let p = leaf_passed (codes "dump") (rules_of dump_command) dump_plain words a.0 in
    let s = spelled (codes "dump") (rules_of dump_command) [] 1 (HasName image_id) IsPlaceOf knows_dump (keeps_none (HasName image_id)) names_dump words nothing_held idle 1 [] [] tt texts (starts (rules_of dump_command) [] 1 (HasName image_id) IsPlaceOf refl (refl, omega arith)) p.0 in
    let rows : List Row = end_rows (codes "dump") (rules_of dump_command) dump_plain words in
    let o : dump_in rows ≡ Some order = ap dump_in (sym (leaf_rows (codes "dump") (rules_of dump_command) dump_plain words)) ∙ sym (dump_order_in (rows_after (rules_of dump_command) [] words)) ∙ a.1 in
    let f = map_some dump (word_in image_id rows) order o in
    let w = word_is (first_of image_id rows) f.0 f.1 in
    subst (λ (x : Order). Reads (codes "dump" ∷ words) x) f.2
    (reads_dump words f.0 (subst (λ (ns : List Text). Spell [] words [] ns) (one_read image_id rows s.others f.0 s.holds.named w.0) (subst (λ (g : Given). Spell [] words g s.others) (no_given words s.more s.others s.spell) s.spell)) w.1)

dump_asks : (words : List Text) (image : Text) → Spell [] words [] (image ∷ []) → IsName image → asked (codes "dump" ∷ words) ≡ Some (dump image)
dump_asks words image spell some =
    let rows : List Row = end_rows (codes "dump") (rules_of dump_command) dump_plain words in
    let p = passes_all (codes "dump") (rules_of dump_command) [] 1 (HasName image_id) IsPlaceOf knows_dump (keeps_none (HasName image_id)) names_dump words [] (image ∷ []) spell nothing_held idle 1 [] [] tt (starts (rules_of dump_command) [] 1 (HasName image_id) IsPlaceOf refl (refl, omega arith)) tt (omega arith) in
    let r : Rows [] (HasName image_id) rows [] (image ∷ []) = p.1 in
    let there : is_given image_id rows ≡ true = given_of image_id rows r.explicit ∙ ap is_some r.named.0 in
    passes_asked (codes "dump") (leaf dump_command) dump_starts dump_turns dump_enters dump_finds words (leaf_passes (codes "dump") (rules_of dump_command) dump_plain words p.0 (dump_check rows there))
    ∙ dump_order_in (rows_after (rules_of dump_command) [] words) ∙ ap dump_in (leaf_rows (codes "dump") (rules_of dump_command) dump_plain words)
    ∙ ap (option_map dump) (ap (option_and_then nonempty) (read_one image_id rows image r.named.0) ∙ is_word image some)

-- ---- bench

bench_starts : walked top.rules commands (walk_from nothing_held) (codes "bench") ≡ stopped (codes "bench") []
unfolding grammar walked
bench_starts = refl

bench_turns : turn_fault top commands (walk_from nothing_held) (codes "bench") ≡ []
unfolding grammar
bench_turns = refl

bench_enters : (words : List Text) → entered_fault (built grammar) (Some (codes "bench", words)) ≡ level_fault (leaf bench_command) [] nothing_held words false []
unfolding grammar
bench_enters words = refl

bench_finds : (words : List Text) → entered (built grammar) (Some (codes "bench", words)) ≡ Some (rows_at (leaf bench_command) words)
unfolding grammar
bench_finds words = refl

bench_order_in : (rows : List Row) → order_in (codes "bench") rows ≡ bench_in rows
unfolding order_in
bench_order_in rows = refl

bench_plain : AllByRecursion HasNoDefault (rules_of bench_command)
bench_plain = (refl, tt)

bench_check : (rows : List Row) → is_given (codes "N") rows ≡ true → check_fault (leaf_of (codes "bench") (rules_of bench_command)) rows false ≡ []
bench_check rows e = rw e refl

bench_reads : (words : List Text) (order : Order) → AreTexts words → asked (codes "bench" ∷ words) ≡ Some order → Reads (codes "bench" ∷ words) order
bench_reads words order texts e =
    let a = asked_passes (codes "bench") (leaf bench_command) bench_starts bench_turns bench_enters bench_finds words order e in
    let p = leaf_passed (codes "bench") (rules_of bench_command) bench_plain words a.0 in
    let s = spelled (codes "bench") (rules_of bench_command) [] 1 (HasName (codes "N")) IsPlaceOf knows_bench (keeps_none (HasName (codes "N"))) names_bench words nothing_held idle 1 [] [] tt texts (starts (rules_of bench_command) [] 1 (HasName (codes "N")) IsPlaceOf refl (refl, omega arith)) p.0 in
    let rows : List Row = end_rows (codes "bench") (rules_of bench_command) bench_plain words in
    let o : bench_in rows ≡ Some order = ap bench_in (sym (leaf_rows (codes "bench") (rules_of bench_command) bench_plain words)) ∙ sym (bench_order_in (rows_after (rules_of bench_command) [] words)) ∙ a.1 in
    let f = map_some bench (option_and_then number_of (first_of (codes "N") rows)) order o in
    let d = then_some number_of (first_of (codes "N") rows) f.0 f.1 in
    let n = number_is d.0 f.0 d.2 in
    subst (λ (x : Order). Reads (codes "bench" ∷ words) x) f.2
    (reads_bench words d.0 f.0 (subst (λ (ns : List Text). Spell [] words [] ns) (one_read (codes "N") rows s.others d.0 s.holds.named d.1) (subst (λ (g : Given). Spell [] words g s.others) (no_given words s.more s.others s.spell) s.spell)) n.0 n.1)

bench_asks : (words : List Text) (digits : Text) (number : ℕ) → Spell [] words [] (digits ∷ []) → IsNumber digits number → number < 2 ^ 64 → asked (codes "bench" ∷ words) ≡ Some (bench number)
bench_asks words digits number spell is low =
    let rows : List Row = end_rows (codes "bench") (rules_of bench_command) bench_plain words in
    let p = passes_all (codes "bench") (rules_of bench_command) [] 1 (HasName (codes "N")) IsPlaceOf knows_bench (keeps_none (HasName (codes "N"))) names_bench words [] (digits ∷ []) spell nothing_held idle 1 [] [] tt (starts (rules_of bench_command) [] 1 (HasName (codes "N")) IsPlaceOf refl (refl, omega arith)) tt (omega arith) in
    let r : Rows [] (HasName (codes "N")) rows [] (digits ∷ []) = p.1 in
    let there : is_given (codes "N") rows ≡ true = given_of (codes "N") rows r.explicit ∙ ap is_some r.named.0 in
    passes_asked (codes "bench") (leaf bench_command) bench_starts bench_turns bench_enters bench_finds words (leaf_passes (codes "bench") (rules_of bench_command) bench_plain words p.0 (bench_check rows there))
    ∙ bench_order_in (rows_after (rules_of bench_command) [] words) ∙ ap bench_in (leaf_rows (codes "bench") (rules_of bench_command) bench_plain words)
    ∙ ap (option_map bench) (ap (option_and_then number_of) (read_one (codes "N") rows digits r.named.0) ∙ is_number digits number is low)

-- ---- build

build_starts : walked top.rules commands (walk_from nothing_held) (codes "build") ≡ stopped (codes "build") []
unfolding grammar walked
build_starts = refl

build_turns : turn_fault top commands (walk_from nothing_held) (codes "build") ≡ []
unfolding grammar
build_turns = refl

build_enters : (words : List Text) → entered_fault (built grammar) (Some (codes "build", words)) ≡ level_fault (leaf build_command) [] nothing_held words false []
unfolding grammar
build_enters words = refl

build_finds : (words : List Text) → entered (built grammar) (Some (codes "build", words)) ≡ Some (rows_at (leaf build_command) words)
unfolding grammar
build_finds words = refl

build_order_in : (rows : List Row) → order_in (codes "build") rows ≡ build_in rows
unfolding order_in
build_order_in rows = refl

build_plain : AllByRecursion HasNoDefault (rules_of build_command)
build_plain = (refl, (refl, tt))

build_check : (rows : List Row) → is_given image_id rows ≡ true → is_given file_id rows ≡ true → check_fault (leaf_of (codes "build") (rules_of build_command)) rows false ≡ []
build_check rows e f = rw (e, f) refl

-- the first name is IMAGE
image_first : (rows : List Row) (names : List Text) (image : Text) (files : List Text) → HasImage rows names → first_of image_id rows ≡ Some image → others_of_names names ≡ files → (files ≡ [] → ⊥) → names ≡ image ∷ files
image_first rows [] image files has e same some = absurd (some (sym same))
image_first rows (x ∷ names) image files has e same some =
    let first : Some x ≡ Some image = sym (first_from image_id rows ∙ ap (option_and_then (λ (vs : List Text). slice_get vs 0)) has.image) ∙ e in
    both_same x image names files first same
  where
    both_same : (a b : Text) (xs ys : List Text) → Some a ≡ Some b → xs ≡ ys → a ∷ xs ≡ b ∷ ys
    both_same a b xs ys e f = cc

build_reads : (words : List Text) (order : Order) → AreTexts words → asked (codes "build" ∷ words) ≡ Some order → Reads (codes "build" ∷ words) order
build_reads words order texts e =
    let a = asked_passes (codes "build") (leaf build_command) build_starts build_turns build_enters build_finds words order e in
    let p = leaf_passed (codes "build") (rules_of build_command) build_plain words a.0 in
    let s = spelled (codes "build") (rules_of build_command) [] 257 HasImage IsPlaceOf knows_build (keeps_none HasImage) names_build words nothing_held idle 1 [] [] tt texts (starts (rules_of build_command) [] 257 HasImage IsPlaceOf refl (record { image = refl; files = refl })) p.0 in
    let rows : List Row = end_rows (codes "build") (rules_of build_command) build_plain words in
    let o : build_in rows ≡ Some order = ap build_in (sym (leaf_rows (codes "build") (rules_of build_command) build_plain words)) ∙ sym (build_order_in (rows_after (rules_of build_command) [] words)) ∙ a.1 in
    let f = then_some (λ image. option_map (build image) (files_in rows)) (word_in image_id rows) order o in
    let g = map_some (build f.0) (files_in rows) order f.2 in
    let w = word_is (first_of image_id rows) f.0 f.1 in
    let files = files_read rows (others_of_names s.others) g.0 s.holds.named.files g.1 in
    let names : s.others ≡ f.0 ∷ g.0 = image_first rows s.others f.0 g.0 s.holds.named w.0 files.0 files.1.0 in
    subst (λ (x : Order). Reads (codes "build" ∷ words) x) g.2
    (reads_build words f.0 g.0 (subst (λ (ns : List Text). Spell [] words [] ns) names (subst (λ (k : Given). Spell [] words k s.others) (no_given words s.more s.others s.spell) s.spell)) w.1 files.1)

build_asks : (words : List Text) (image : Text) (files : List Text) → Spell [] words [] (image ∷ files) → IsName image → AreSomeFiles files → asked (codes "build" ∷ words) ≡ Some (build image files)
build_asks words image files spell named some =
    let rows : List Row = end_rows (codes "build") (rules_of build_command) build_plain words in
    let few = some.1.0 in
    let p = passes_all (codes "build") (rules_of build_command) [] 257 HasImage IsPlaceOf knows_build (keeps_none HasImage) names_build words [] (image ∷ files) spell nothing_held idle 1 [] [] tt (starts (rules_of build_command) [] 257 HasImage IsPlaceOf refl (record { image = refl; files = refl })) tt (omega (arith, few)) in
    let r : Rows [] HasImage rows [] (image ∷ files) = p.1 in
    let there : is_given image_id rows ≡ true = given_of image_id rows r.explicit ∙ ap is_some r.named.image in
    let files_there : is_given file_id rows ≡ true = given_of file_id rows r.explicit ∙ ap is_some (r.named.files ∙ some_listed files some.0) in
    passes_asked (codes "build") (leaf build_command) build_starts build_turns build_enters build_finds words (leaf_passes (codes "build") (rules_of build_command) build_plain words p.0 (build_check rows there files_there))
    ∙ build_order_in (rows_after (rules_of build_command) [] words) ∙ ap build_in (leaf_rows (codes "build") (rules_of build_command) build_plain words)
    ∙ build_is (word_in image_id rows) (files_in rows) (ap (option_and_then nonempty) (read_one image_id rows image r.named.image) ∙ is_word image named) (read_files rows files r.named.files some)
  where
    build_is : (f : Option Text) (o : Option (List Text)) → f ≡ Some image → o ≡ Some files → option_and_then (λ name. option_map (build name) o) f ≡ Some (build image files)
    build_is f o e k = rw (e, k) refl

-- ---- every command

by_command : (order : Order) (rest : List Text) → AreTexts rest → asked (command_asked order ∷ rest) ≡ Some order → Reads (command_asked order ∷ rest) order
by_command (build image files) rest texts e = build_reads rest (build image files) texts e
by_command (run image options) rest texts e = run_reads rest (run image options) texts e
by_command (exec files options) rest texts e = exec_reads rest (exec files options) texts e
by_command (dump image) rest texts e = dump_reads rest (dump image) texts e
by_command (bench number) rest texts e = bench_reads rest (bench number) texts e
by_command (inspect image options) rest texts e = inspect_reads rest (inspect image options) texts e

pub asked_reads : (words : List Text) (order : Order) → AreTexts words → asked words ≡ Some order → Reads words order
asked_reads words order texts e =
    let b = begins_with_command words order e in
    subst (λ (ws : List Text). Reads ws order) (sym b.1)
    (by_command order b.0 (subst AreTexts b.1 texts).1 (subst (λ (ws : List Text). asked ws ≡ Some order) b.1 e))

pub reads_asked : (words : List Text) (order : Order) → Reads words order → asked words ≡ Some order
reads_asked ws order (reads_build words image files spell named some) = build_asks words image files spell named some
reads_asked ws order (reads_run words given image options spell named opts) = run_asks words given image options spell named opts
reads_asked ws order (reads_exec words given files options spell some opts) = exec_asks words given files options spell some opts
reads_asked ws order (reads_dump words image spell named) = dump_asks words image spell named
reads_asked ws order (reads_bench words digits number spell is low) = bench_asks words digits number spell is low
reads_asked ws order (reads_inspect words given image options spell named opts) = inspect_asks words given image options spell named opts
