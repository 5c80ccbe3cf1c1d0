-- How long what is written is.
use Rattle.std.proofs.Common.{◌≡◌, ℕ, suc, ◌+◌, ◌*◌, ◌<◌, ◌≤◌, List, [], ◌∷◌, ◌++◌, length, get_or, drop, Option, Some, None, refl, sym, ap, ◌∙◌, arith, length-append, append_assoc}
use Rattle.std.specs.Prelude.{unwrap_or, ◌-◌, ◌^◌}
use Rattle.std.specs.List.{flat_map}
use Rattle.std.proofs.lemmas.List.{append-nil, drop_more}
use Rattle.m3_tables_writer.specs.declared.plain.RowPlain.{RowPlain}
use Rattle.m3_tables.specs.Rows.{Entry, Contents}
use Rattle.m3_tables_writer.specs.Plain.{Plain}
use Rattle.m3_tables_writer.specs.Writing.{word_bytes, half_bytes, list_bytes, bases_bytes, entry_bytes, contents_bytes, ground_bytes, change_bytes, missing, row_bytes, body_bytes, directory_bytes, table_bytes}

pub length-word_bytes : (n : ℕ) → length (word_bytes n) ≡ 4
unfolding word_bytes
length-word_bytes n = refl

pub length-half_bytes : (n : ℕ) → length (half_bytes n) ≡ 2
unfolding half_bytes
length-half_bytes n = refl

pub length-words : (ns : List ℕ) → length (flat_map word_bytes ns) ≡ 4 * length ns
length-words [] = refl
length-words (n ∷ ns) = omega (arith, length-append (word_bytes n) (flat_map word_bytes ns), length-word_bytes n, length-words ns)

pub length-list_bytes : (ns : List ℕ) → length (list_bytes ns) ≡ 4 + 4 * length ns
unfolding list_bytes
length-list_bytes ns = omega (arith, length-append (word_bytes (length ns)) (flat_map word_bytes ns), length-word_bytes (length ns), length-words ns)

-- each entry takes bytes
entry_some : (e : Entry) → 1 ≤ length (entry_bytes e)
unfolding entry_bytes
entry_some e =
    let tail = word_bytes (unwrap_or e.path (2 ^ 32 - 1)) ++ (half_bytes (length e.ways) ++ flat_map bases_bytes e.ways) in
    omega (arith, length-append (word_bytes e.location) tail, length-word_bytes e.location)

entries_some : (es : List Entry) → length es ≤ length (flat_map entry_bytes es)
entries_some [] = omega arith
entries_some (e ∷ es) = omega (arith, length-append (entry_bytes e) (flat_map entry_bytes es), entry_some e, entries_some es)

-- the parts of the rest of a row are no longer than it
pub contents_parts : (c : Contents) → (length (list_bytes c.arguments) ≤ length (contents_bytes c)) × (length (list_bytes c.passed) ≤ length (contents_bytes c)) × (length c.derived ≤ length (contents_bytes c))
unfolding contents_bytes
contents_parts c =
    let d = word_bytes (length c.derived) ++ flat_map entry_bytes c.derived in
    let p = list_bytes c.passed ++ d in
    let l1 = length-append (list_bytes c.arguments) p in
    let l2 = length-append (list_bytes c.passed) d in
    let l3 = length-append (word_bytes (length c.derived)) (flat_map entry_bytes c.derived) in
    let l4 = entries_some c.derived in
    (omega arith, omega arith, omega arith)

pub ground_parts : (row : Plain) → (length (list_bytes row.tidy) ≤ length (ground_bytes row)) × (length (contents_bytes row.contents) ≤ length (ground_bytes row))
unfolding ground_bytes
ground_parts row =
    let l1 = length-append (list_bytes row.tidy) (contents_bytes row.contents) in
    (omega arith, omega arith)

pub change_parts : (before row : Plain) → (length (list_bytes (missing before.tidy row.tidy)) ≤ length (change_bytes before row)) × (length (list_bytes (missing row.tidy before.tidy)) ≤ length (change_bytes before row)) × (length (contents_bytes row.contents) ≤ length (change_bytes before row))
unfolding change_bytes
change_parts before row =
    let l1 = length-append (list_bytes (missing before.tidy row.tidy)) (list_bytes (missing row.tidy before.tidy) ++ contents_bytes row.contents) in
    let l2 = length-append (list_bytes (missing row.tidy before.tidy)) (contents_bytes row.contents) in
    (omega arith, omega arith, omega arith)

-- ---- the section

pub length-directory_bytes : (start n : ℕ) (before : Option Plain) (rows : List Plain) → length (directory_bytes start n before rows) ≡ 8 * length rows
unfolding directory_bytes
length-directory_bytes start n before [] = refl
length-directory_bytes start n before (row ∷ rows) =
    let rest = directory_bytes (start + length (row_bytes n before row)) (suc n) (Some row) rows in
    let l1 = length-append (word_bytes row.instr) (word_bytes start ++ rest) in
    let l2 = length-append (word_bytes start) rest in
    let l3 = length-directory_bytes (start + length (row_bytes n before row)) (suc n) (Some row) rows in
    omega (arith, length-word_bytes row.instr, length-word_bytes start)

pub length-table_bytes : (rows : List Plain) → length (table_bytes rows) ≡ 4 + 8 * length rows + length (body_bytes 0 None rows)
unfolding table_bytes
length-table_bytes rows =
    let l1 = length-append (word_bytes (length rows)) (directory_bytes 0 0 None rows ++ body_bytes 0 None rows) in
    let l2 = length-append (directory_bytes 0 0 None rows) (body_bytes 0 None rows) in
    omega (arith, length-word_bytes (length rows), length-directory_bytes 0 0 None rows)

-- one row more
pub body_more : (n : ℕ) (before : Option Plain) (done : List ℕ) (row : Plain) (rest : List Plain) (total : List ℕ) → done ++ body_bytes n before (row ∷ rest) ≡ total → (done ++ row_bytes n before row) ++ body_bytes (n + 1) (Some row) rest ≡ total
unfolding body_bytes
body_more n before done row rest total h =
    let e : n + 1 ≡ suc n = omega arith in
    rw e (append_assoc done (row_bytes n before row) (body_bytes (suc n) (Some row) rest) ∙ h)

pub body_size : (n : ℕ) (before : Option Plain) (done : List ℕ) (row : Plain) (rest : List Plain) (total : List ℕ) → done ++ body_bytes n before (row ∷ rest) ≡ total → length done + length (row_bytes n before row) ≤ length total
unfolding body_bytes
body_size n before done row rest total h =
    let l0 = ap length h in
    let l1 = length-append done (row_bytes n before row ++ body_bytes (suc n) (Some row) rest) in
    let l2 = length-append (row_bytes n before row) (body_bytes (suc n) (Some row) rest) in
    omega arith

pub directory_more : (start n : ℕ) (before : Option Plain) (done : List ℕ) (row : Plain) (rest : List Plain) (total : List ℕ) → done ++ directory_bytes start n before (row ∷ rest) ≡ total → ((done ++ word_bytes row.instr) ++ word_bytes start) ++ directory_bytes (start + length (row_bytes n before row)) (n + 1) (Some row) rest ≡ total
unfolding directory_bytes
directory_more start n before done row rest total h =
    let e : n + 1 ≡ suc n = omega arith in
    let more = directory_bytes (start + length (row_bytes n before row)) (suc n) (Some row) rest in
    rw e (append_assoc (done ++ word_bytes row.instr) (word_bytes start) more ∙ append_assoc done (word_bytes row.instr) (word_bytes start ++ more) ∙ h)

pub all_written : (n : ℕ) (before : Option Plain) (done total : List ℕ) → done ++ body_bytes n before [] ≡ total → done ≡ total
unfolding body_bytes
all_written n before done total h = sym (append-nil done) ∙ h

pub all_listed : (start n : ℕ) (before : Option Plain) (done total : List ℕ) → done ++ directory_bytes start n before [] ≡ total → done ≡ total
unfolding directory_bytes
all_listed start n before done total h = sym (append-nil done) ∙ h

pub whole_table : (rows : List Plain) (out body : List ℕ) → out ≡ word_bytes (length rows) ++ directory_bytes 0 0 None rows → body ≡ body_bytes 0 None rows → out ++ body ≡ table_bytes rows
unfolding table_bytes
whole_table rows out body p q = rw (p, q) (append_assoc (word_bytes (length rows)) (directory_bytes 0 0 None rows) (body_bytes 0 None rows))

-- the rows from a place on
pub plains_more : (rows : List RowPlain) (i : ℕ) (row : RowPlain) → i < length rows → row ≡ get_or rows i row → drop i rows ≡ row ∷ drop (i + 1) rows
plains_more rows i row lt e = drop_more rows i row lt ∙ ap (λ (r : RowPlain). r ∷ drop (i + 1) rows) (sym e)

pub directory_step : (start n : ℕ) (before : Option Plain) (done : List ℕ) (row : Plain) (rest : List Plain) (total : List ℕ) (len next : ℕ) (one two : List ℕ) → done ++ directory_bytes start n before (row ∷ rest) ≡ total → one ≡ done ++ word_bytes row.instr → two ≡ one ++ word_bytes len → len ≡ start
    → next ≡ start + length (row_bytes n before row) → two ++ directory_bytes next (n + 1) (Some row) rest ≡ total
directory_step start n before done row rest total len next one two h p q e f = rw (q, p, e, f) (directory_more start n before done row rest total h)
