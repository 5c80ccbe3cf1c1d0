-- What is written of a field is read again, whatever follows it.
use Rattle.std.proofs.Common.{◌≡◌, ℕ, ◌+◌, ◌*◌, ◌-◌, ◌^◌, ◌<◌, false, eqb, ltb, List, [], ◌∷◌, ◌++◌, length, drop, Option, Some, None, refl, ap, ◌∙◌, append_assoc, arith, length-append}
use Rattle.std.specs.Prelude.{unwrap_or, IfSome}
use Rattle.std.specs.List.{flat_map, AllByRecursion}
use Rattle.std.proofs.lemmas.Bool.{le-ltb}
use Rattle.std.proofs.lemmas.Bool.Decides.{nat_tests}
use Rattle.std.proofs.lemmas.List.{drop_at}
use Rattle.byteorder.specs.Numbers.{little_number-reads_back}
use Rattle.m3_tables.specs.Numbers.{word_in, half_in, numbers}
use Rattle.m3_tables.specs.Rows.{Bases, Entry, Contents, All_of, Changed, Unchanged}
use Rattle.m3_tables.specs.Fields.{word_at, half_at, list_at, bases_at, ways_in, past_ways, path_of, entry_at, entries_in, past_entries, contents_at, tidies_at}
use Rattle.m3_tables_writer.specs.Plain.{Plain}
use Rattle.m3_tables_writer.specs.Writing.{word_bytes, half_bytes, list_bytes, bases_bytes, entry_bytes, contents_bytes, ground_bytes, change_bytes, missing}
use Rattle.m3_tables_writer.proofs.WriteLemmas.{length-word_bytes, length-half_bytes, length-words}

-- ---- numbers

pub word_again : (n : ℕ) (rest : List ℕ) → n < 2 ^ 32 → word_in (word_bytes n ++ rest) ≡ n
unfolding word_in word_bytes
word_again n rest lt = little_number-reads_back 4 n rest lt

pub half_again : (n : ℕ) (rest : List ℕ) → n < 2 ^ 16 → half_in (half_bytes n ++ rest) ≡ n
unfolding half_in half_bytes
half_again n rest lt = little_number-reads_back 2 n rest lt

pub after_word : (n : ℕ) (rest : List ℕ) → drop 4 (word_bytes n ++ rest) ≡ rest
after_word n rest = drop_at (word_bytes n) rest 4 (length-word_bytes n)

pub word_at_again : (n : ℕ) (rest : List ℕ) → n < 2 ^ 32 → word_at (word_bytes n ++ rest) ≡ Some (n, rest)
unfolding word_at
word_at_again n rest lt =
    let long : ltb (length (word_bytes n ++ rest)) 4 ≡ false = le-ltb _ _ (omega (arith, length-append (word_bytes n) rest, length-word_bytes n)) in
    rw (long, word_again n rest lt, after_word n rest) refl

pub half_at_again : (n : ℕ) (rest : List ℕ) → n < 2 ^ 16 → half_at (half_bytes n ++ rest) ≡ Some (n, rest)
unfolding half_at
half_at_again n rest lt =
    let long : ltb (length (half_bytes n ++ rest)) 2 ≡ false = le-ltb _ _ (omega (arith, length-append (half_bytes n) rest, length-half_bytes n)) in
    rw (long, half_again n rest lt, drop_at (half_bytes n) rest 2 (length-half_bytes n)) refl

-- ---- lists

abbrev pub AreSmall : List ℕ → Type 0
AreSmall ns = AllByRecursion (λ n. n < 2 ^ 32) ns

pub numbers_again : (ns : List ℕ) (rest : List ℕ) → AreSmall ns → numbers (length ns) (flat_map word_bytes ns ++ rest) ≡ ns
numbers_again [] rest small = refl
numbers_again (n ∷ ns) rest small =
    let apart : (word_bytes n ++ flat_map word_bytes ns) ++ rest ≡ word_bytes n ++ (flat_map word_bytes ns ++ rest) = append_assoc (word_bytes n) (flat_map word_bytes ns) rest in
    let one : word_in ((word_bytes n ++ flat_map word_bytes ns) ++ rest) ≡ n = ap word_in apart ∙ word_again n (flat_map word_bytes ns ++ rest) small.0 in
    let more : drop 4 ((word_bytes n ++ flat_map word_bytes ns) ++ rest) ≡ flat_map word_bytes ns ++ rest = ap (λ (x : List ℕ). drop 4 x) apart ∙ after_word n (flat_map word_bytes ns ++ rest) in
    rw (one, more, numbers_again ns rest small.1) refl

pub after_words : (ns : List ℕ) (rest : List ℕ) → drop (4 * length ns) (flat_map word_bytes ns ++ rest) ≡ rest
after_words ns rest = drop_at (flat_map word_bytes ns) rest (4 * length ns) (length-words ns)

pub list_at_again : (ns : List ℕ) (rest : List ℕ) → AreSmall ns → length ns < 2 ^ 32 → list_at (list_bytes ns ++ rest) ≡ Some (ns, rest)
unfolding list_at list_bytes
list_at_again ns rest small lt =
    let apart : (word_bytes (length ns) ++ flat_map word_bytes ns) ++ rest ≡ word_bytes (length ns) ++ (flat_map word_bytes ns ++ rest) = append_assoc (word_bytes (length ns)) (flat_map word_bytes ns) rest in
    let counted = ap word_at apart ∙ word_at_again (length ns) (flat_map word_bytes ns ++ rest) lt in
    let long : ltb (length (flat_map word_bytes ns ++ rest)) (4 * length ns) ≡ false = le-ltb _ _ (omega (arith, length-append (flat_map word_bytes ns) rest, length-words ns)) in
    rw (counted, long, numbers_again ns rest small, after_words ns rest) refl

-- ---- derived words

pub record IsSmallBases (b : Bases) : Type 0 where
  pub added : AreSmall b.added
  pub subtracted : AreSmall b.subtracted

bases_at_again : (b : Bases) (rest : List ℕ) → IsSmallBases b → bases_at (bases_bytes b ++ rest) ≡ Some (b, rest)
unfolding bases_at bases_bytes
bases_at_again b rest small =
    let tail = flat_map word_bytes b.subtracted ++ rest in
    let apart : (flat_map word_bytes b.added ++ flat_map word_bytes b.subtracted) ++ rest ≡ flat_map word_bytes b.added ++ tail = append_assoc (flat_map word_bytes b.added) (flat_map word_bytes b.subtracted) rest in
    let l1 = length-append (flat_map word_bytes b.added) tail in
    let l2 = length-append (flat_map word_bytes b.subtracted) rest in
    let long : ltb (length (flat_map word_bytes b.added ++ tail)) (4 * length b.added + 4 * length b.subtracted) ≡ false = le-ltb _ _ (omega (arith, length-words b.added, length-words b.subtracted)) in
    rw (apart, long, numbers_again b.added tail small.added, after_words b.added tail, numbers_again b.subtracted rest small.subtracted, after_words b.subtracted rest) refl

ways_again : (ws : List Bases) (rest : List ℕ) → AllByRecursion IsSmallBases ws → ways_in (length ws) (flat_map bases_bytes ws ++ rest) ≡ ws
unfolding ways_in
ways_again [] rest small = refl
ways_again (w ∷ ws) rest small =
    let apart : (bases_bytes w ++ flat_map bases_bytes ws) ++ rest ≡ bases_bytes w ++ (flat_map bases_bytes ws ++ rest) = append_assoc (bases_bytes w) (flat_map bases_bytes ws) rest in
    let one = ap bases_at apart ∙ bases_at_again w (flat_map bases_bytes ws ++ rest) small.0 in
    rw (one, ways_again ws rest small.1) refl

past_ways_again : (ws : List Bases) (rest : List ℕ) → AllByRecursion IsSmallBases ws → past_ways (length ws) (flat_map bases_bytes ws ++ rest) ≡ Some rest
unfolding past_ways
past_ways_again [] rest small = refl
past_ways_again (w ∷ ws) rest small =
    let apart : (bases_bytes w ++ flat_map bases_bytes ws) ++ rest ≡ bases_bytes w ++ (flat_map bases_bytes ws ++ rest) = append_assoc (bases_bytes w) (flat_map bases_bytes ws) rest in
    let one = ap bases_at apart ∙ bases_at_again w (flat_map bases_bytes ws ++ rest) small.0 in
    rw (one, past_ways_again ws rest small.1) refl

pub record IsSmallEntry (e : Entry) : Type 0 where
  pub location : e.location < 2 ^ 32
  pub path : IfSome e.path (λ p. p < 2 ^ 32 - 1)
  pub ways : AllByRecursion IsSmallBases e.ways
  pub few : length e.ways < 2 ^ 16

path_again : (path : Option ℕ) → IfSome path (λ p. p < 2 ^ 32 - 1) → path_of (unwrap_or path (2 ^ 32 - 1)) ≡ path
path_again None small = refl
path_again (Some p) small = let ne : eqb p (2 ^ 32 - 1) ≡ false = grind (arith, nat_tests) in rw ne refl

path_small : (path : Option ℕ) → IfSome path (λ p. p < 2 ^ 32 - 1) → unwrap_or path (2 ^ 32 - 1) < 2 ^ 32
path_small None small = omega arith
path_small (Some p) small = omega arith

entry_at_again : (e : Entry) (rest : List ℕ) → IsSmallEntry e → entry_at (entry_bytes e ++ rest) ≡ Some (e, rest)
unfolding entry_at entry_bytes
entry_at_again e rest small =
    let p = unwrap_or e.path (2 ^ 32 - 1) in
    let ways = flat_map bases_bytes e.ways in
    let d3 : (half_bytes (length e.ways) ++ ways) ++ rest ≡ half_bytes (length e.ways) ++ (ways ++ rest) = append_assoc (half_bytes (length e.ways)) ways rest in
    let d2 : (word_bytes p ++ (half_bytes (length e.ways) ++ ways)) ++ rest ≡ word_bytes p ++ (half_bytes (length e.ways) ++ (ways ++ rest)) = append_assoc (word_bytes p) (half_bytes (length e.ways) ++ ways) rest ∙ ap (λ (x : List ℕ). word_bytes p ++ x) d3 in
    let d1 : (word_bytes e.location ++ (word_bytes p ++ (half_bytes (length e.ways) ++ ways))) ++ rest ≡ word_bytes e.location ++ (word_bytes p ++ (half_bytes (length e.ways) ++ (ways ++ rest))) = append_assoc (word_bytes e.location) (word_bytes p ++ (half_bytes (length e.ways) ++ ways)) rest ∙ ap (λ (x : List ℕ). word_bytes e.location ++ x) d2 in
    let a = ap word_at d1 ∙ word_at_again e.location (word_bytes p ++ (half_bytes (length e.ways) ++ (ways ++ rest))) small.location in
    let b = word_at_again p (half_bytes (length e.ways) ++ (ways ++ rest)) (path_small e.path small.path) in
    let c = half_at_again (length e.ways) (ways ++ rest) small.few in
    rw (a, b, c, past_ways_again e.ways rest small.ways, ways_again e.ways rest small.ways, path_again e.path small.path) refl

entries_again : (es : List Entry) (rest : List ℕ) → AllByRecursion IsSmallEntry es → entries_in (length es) (flat_map entry_bytes es ++ rest) ≡ es
unfolding entries_in
entries_again [] rest small = refl
entries_again (e ∷ es) rest small =
    let apart : (entry_bytes e ++ flat_map entry_bytes es) ++ rest ≡ entry_bytes e ++ (flat_map entry_bytes es ++ rest) = append_assoc (entry_bytes e) (flat_map entry_bytes es) rest in
    let one = ap entry_at apart ∙ entry_at_again e (flat_map entry_bytes es ++ rest) small.0 in
    rw (one, entries_again es rest small.1) refl

past_entries_again : (es : List Entry) (rest : List ℕ) → AllByRecursion IsSmallEntry es → past_entries (length es) (flat_map entry_bytes es ++ rest) ≡ Some rest
unfolding past_entries
past_entries_again [] rest small = refl
past_entries_again (e ∷ es) rest small =
    let apart : (entry_bytes e ++ flat_map entry_bytes es) ++ rest ≡ entry_bytes e ++ (flat_map entry_bytes es ++ rest) = append_assoc (entry_bytes e) (flat_map entry_bytes es) rest in
    let one = ap entry_at apart ∙ entry_at_again e (flat_map entry_bytes es ++ rest) small.0 in
    rw (one, past_entries_again es rest small.1) refl

-- ---- the rest of a row

pub record IsSmallContents (c : Contents) : Type 0 where
  pub arguments : AreSmall c.arguments
  pub passed : AreSmall c.passed
  pub derived : AllByRecursion IsSmallEntry c.derived

pub record IsShort (c : Contents) : Type 0 where
  pub arguments : length c.arguments < 2 ^ 32
  pub passed : length c.passed < 2 ^ 32
  pub derived : length c.derived < 2 ^ 32

pub contents_at_again : (c : Contents) (rest : List ℕ) → IsSmallContents c → IsShort c → contents_at (contents_bytes c ++ rest) ≡ Some (c, rest)
unfolding contents_at contents_bytes
contents_at_again c rest small short =
    let es = flat_map entry_bytes c.derived in
    let n = word_bytes (length c.derived) in
    let d3 : (n ++ es) ++ rest ≡ n ++ (es ++ rest) = append_assoc n es rest in
    let d2 : (list_bytes c.passed ++ (n ++ es)) ++ rest ≡ list_bytes c.passed ++ (n ++ (es ++ rest)) = append_assoc (list_bytes c.passed) (n ++ es) rest ∙ ap (λ (x : List ℕ). list_bytes c.passed ++ x) d3 in
    let d1 : (list_bytes c.arguments ++ (list_bytes c.passed ++ (n ++ es))) ++ rest ≡ list_bytes c.arguments ++ (list_bytes c.passed ++ (n ++ (es ++ rest))) = append_assoc (list_bytes c.arguments) (list_bytes c.passed ++ (n ++ es)) rest ∙ ap (λ (x : List ℕ). list_bytes c.arguments ++ x) d2 in
    let a = ap list_at d1 ∙ list_at_again c.arguments (list_bytes c.passed ++ (n ++ (es ++ rest))) small.arguments short.arguments in
    let b = list_at_again c.passed (n ++ (es ++ rest)) small.passed short.passed in
    let k = word_at_again (length c.derived) (es ++ rest) short.derived in
    rw (a, b, k, past_entries_again c.derived rest small.derived, entries_again c.derived rest small.derived) refl

-- ---- how a row begins

pub ground_again : (row : Plain) (rest : List ℕ) → AreSmall row.tidy → length row.tidy < 2 ^ 32 → tidies_at (ground_bytes row ++ rest) ≡ Some (All_of row.tidy, contents_bytes row.contents ++ rest)
unfolding tidies_at ground_bytes
ground_again row rest small short =
    let apart : (list_bytes row.tidy ++ contents_bytes row.contents) ++ rest ≡ list_bytes row.tidy ++ (contents_bytes row.contents ++ rest) = append_assoc (list_bytes row.tidy) (contents_bytes row.contents) rest in
    rw (apart, list_at_again row.tidy (contents_bytes row.contents ++ rest) small short) refl

pub change_again : (before row : Plain) (rest : List ℕ) → AreSmall (missing before.tidy row.tidy) → AreSmall (missing row.tidy before.tidy) → length (missing before.tidy row.tidy) < 2 ^ 32 → length (missing row.tidy before.tidy) < 2 ^ 32
    → tidies_at (change_bytes before row ++ rest) ≡ Some (Changed (missing before.tidy row.tidy) (missing row.tidy before.tidy), contents_bytes row.contents ++ rest)
unfolding tidies_at change_bytes
change_again before row rest small_r small_a short_r short_a =
    let removed = missing before.tidy row.tidy in
    let added = missing row.tidy before.tidy in
    let d2 : (list_bytes added ++ contents_bytes row.contents) ++ rest ≡ list_bytes added ++ (contents_bytes row.contents ++ rest) = append_assoc (list_bytes added) (contents_bytes row.contents) rest in
    let d1 : (list_bytes removed ++ (list_bytes added ++ contents_bytes row.contents)) ++ rest ≡ list_bytes removed ++ (list_bytes added ++ (contents_bytes row.contents ++ rest)) = append_assoc (list_bytes removed) (list_bytes added ++ contents_bytes row.contents) rest ∙ ap (λ (x : List ℕ). list_bytes removed ++ x) d2 in
    rw (d1, list_at_again removed (list_bytes added ++ (contents_bytes row.contents ++ rest)) small_r short_r, list_at_again added (contents_bytes row.contents ++ rest) small_a short_a) refl

pub same_again : (rest : List ℕ) → tidies_at ((2 ∷ []) ++ rest) ≡ Some (Unchanged, rest)
unfolding tidies_at
same_again rest = refl
