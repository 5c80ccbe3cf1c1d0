-- A section that is written says the rows that were to be written.
use Rattle.std.proofs.Common.{◌≡◌, ℕ, zero, suc, ◌+◌, ◌*◌, ◌-◌, ◌%◌, ◌^◌, ◌<◌, ◌≤◌, Bool, true, false, ◌&&◌, ◌||◌, ltb, List, [], ◌∷◌, ◌++◌, length, drop, Option, Some, None, refl, sym, ap, subst, ◌∙◌, append_assoc, arith, length-append, inl, inr}
use Rattle.std.specs.Prelude.{not, ◌==◌, map}
use Rattle.std.specs.List.{list_all, slice_get, AllByRecursion}
use Rattle.std.proofs.lemmas.Bool.{le-ltb}
use Rattle.std.proofs.lemmas.Bool.Decides.{nat_tests}
use Rattle.std.proofs.lemmas.List.{drop_at, drop-drop}
use Rattle.m3_tables.specs.Numbers.{word_in, has, rises}
use Rattle.m3_tables.specs.Rows.{Contents, Tidies, All_of, Changed, Unchanged}
use Rattle.m3_tables.specs.Fields.{tidies_at, contents_at}
use Rattle.m3_tables.specs.Sections.{instruction_in, offset_in, body_of, row_in, tidies, is_tidy, was_tidy, contents_in, past_contents, past_row, contents_fit, tidies_rise, tidies_fit, rest_fits, start_of, instruction_rises, row_rises, row_fits, is_good, first_bad, directory_fault, end_fault, fault_of}
use Rattle.m3_tables_writer.specs.Plain.{Plain}
use Rattle.m3_tables_writer.specs.Writing.{word_bytes, contents_bytes, ground_bytes, change_bytes, after_bytes, missing, same_row, row_bytes, body_bytes, directory_bytes, table_bytes}
use Rattle.m3_tables_writer.specs.Tabulates.{SaysRow, Tabulates}
use Rattle.m3_tables_writer.proofs.WriteLemmas.{length-list_bytes, contents_parts, ground_parts, change_parts, length-directory_bytes, length-table_bytes}
use Rattle.m3_tables.proofs.SectionLemmas.{tidy_is, contents_at_row, first_bad-zero, first_bad-more}
use Rattle.m3_tables_writer.proofs.Again.{word_again, after_word, AreSmall, IsSmallContents, IsShort, contents_at_again, ground_again, change_again, same_again}
use Rattle.m3_tables_writer.proofs.Missing.{both, test, has_missing, rises_filter, small_filter, all_kept, all_there, changed_is, same_tidy, same_contents}

-- what a row must be to be written
pub record FitsPlain (row : Plain) : Type 0 where
  pub instr : row.instr < 2 ^ 32
  pub tidy : AreSmall row.tidy
  pub small : IsSmallContents row.contents
  pub rising : rises row.tidy ≡ true
  pub fits : contents_fit (has row.tidy) row.contents ≡ true

-- what a row of the section says, and where it ends
record Reads (section : List ℕ) (j : ℕ) (row : Plain) (rest : List ℕ) : Type 0 where
  tidy : (l : ℕ) → is_tidy section j l ≡ has row.tidy l
  contents : contents_in section j ≡ row.contents
  rise : row_rises section j ≡ true
  fit : row_fits section j ≡ true
  past : past_row (row_in section j) ≡ Some rest

same_tests : (f g : ℕ → Bool) → ((l : ℕ) → f l ≡ g l) → f ≡ g
same_tests f g h = λ i. λ l. h l i

rest_fits_told : (tidy : ℕ → Bool) (told : Tidies) (bytes : List ℕ) (c : Contents) (rest : List ℕ) → ((told ≡ Unchanged) → ⊥) → contents_at bytes ≡ Some (c, rest) → contents_fit tidy c ≡ true → rest_fits tidy told bytes ≡ true
rest_fits_told tidy (All_of places) bytes c rest ne e fits = rw e fits
rest_fits_told tidy (Changed removed added) bytes c rest ne e fits = rw e fits
rest_fits_told tidy Unchanged bytes c rest ne e fits = absurd (ne refl)

past_told : (told : Tidies) (bytes : List ℕ) (c : Contents) (rest : List ℕ) → ((told ≡ Unchanged) → ⊥) → contents_at bytes ≡ Some (c, rest) → past_contents told bytes ≡ Some rest
past_told (All_of places) bytes c rest ne e = rw e refl
past_told (Changed removed added) bytes c rest ne e = rw e refl
past_told Unchanged bytes c rest ne e = absurd (ne refl)

reads_told : (section : List ℕ) (j : ℕ) (row : Plain) (rest : List ℕ) (told : Tidies) → ((told ≡ Unchanged) → ⊥) → tidies_at (row_in section j) ≡ Some (told, contents_bytes row.contents ++ rest) → FitsPlain row → IsShort row.contents
    → ((l : ℕ) → tidies told (was_tidy section j l) l ≡ has row.tidy l) → tidies_rise told ≡ true → tidies_fit j (was_tidy section j) told ≡ true → Reads section j row rest
unfolding past_row
reads_told section j row rest told ne e fits short is rise fit =
    let bytes = contents_bytes row.contents ++ rest in
    let found = contents_at_again row.contents rest fits.small short in
    let tidy : (l : ℕ) → is_tidy section j l ≡ has row.tidy l = λ l. tidy_is section j l told bytes (sym e) ∙ is l in
    let form : contents_fit (is_tidy section j) row.contents ≡ true = subst (λ (f : ℕ → Bool). contents_fit f row.contents ≡ true) (sym (same_tests (is_tidy section j) (has row.tidy) tidy)) fits.fits in
    record {
      tidy = tidy;
      contents = contents_at_row section j told bytes row.contents rest (sym e) (sym found) ne;
      rise = rw e rise;
      fit = rw (e, fit) (rest_fits_told (is_tidy section j) told bytes row.contents rest ne found form);
      past = rw e (past_told told bytes row.contents rest ne found);
    }

not_unchanged_all : (ns : List ℕ) → (All_of ns ≡ Unchanged) → ⊥
not_unchanged_all ns e = cc

not_unchanged_change : (removed added : List ℕ) → (Changed removed added ≡ Unchanged) → ⊥
not_unchanged_change removed added e = cc

contents_short : (c : Contents) → length (contents_bytes c) < 2 ^ 32 → IsShort c
contents_short c lt =
    let p = contents_parts c in
    record { arguments = omega (arith, p.0, length-list_bytes c.arguments); passed = omega (arith, p.1, length-list_bytes c.passed); derived = omega (arith, p.2) }

reads_ground : (section : List ℕ) (j : ℕ) (row : Plain) (rest : List ℕ) → row_in section j ≡ ground_bytes row ++ rest → FitsPlain row → length (ground_bytes row) < 2 ^ 32 → Reads section j row rest
reads_ground section j row rest e fits lt =
    let p = ground_parts row in
    let told = ap tidies_at e ∙ ground_again row rest fits.tidy (omega (arith, p.0, length-list_bytes row.tidy)) in
    reads_told section j row rest (All_of row.tidy) (not_unchanged_all row.tidy) told fits (contents_short row.contents (omega (arith, p.1))) (λ l. refl) fits.rising refl

reads_change : (section : List ℕ) (j : ℕ) (before row : Plain) (rest : List ℕ) → row_in section j ≡ change_bytes before row ++ rest → FitsPlain before → FitsPlain row → length (change_bytes before row) < 2 ^ 32 → (j % 16 == 0) ≡ false
    → ((l : ℕ) → was_tidy section j l ≡ has before.tidy l) → Reads section j row rest
reads_change section j before row rest e fits_b fits lt sixteenth was =
    let removed = missing before.tidy row.tidy in
    let added = missing row.tidy before.tidy in
    let p = change_parts before row in
    let told = ap tidies_at e ∙ change_again before row rest (small_filter _ before.tidy fits_b.tidy) (small_filter _ row.tidy fits.tidy) (omega (arith, p.0, length-list_bytes removed)) (omega (arith, p.1, length-list_bytes added)) in
    let is : (l : ℕ) → (has added l || (was_tidy section j l && not (has removed l))) ≡ has row.tidy l = λ l. rw (was l, has_missing row.tidy before.tidy l, has_missing before.tidy row.tidy l) (changed_is (has before.tidy l) (has row.tidy l)) in
    let before_is : was_tidy section j ≡ has before.tidy = same_tests (was_tidy section j) (has before.tidy) was in
    let there : list_all (was_tidy section j) removed ≡ true = rw before_is (all_there _ before.tidy) in
    let free : list_all (λ l. not (was_tidy section j l)) added ≡ true = subst (λ (f : ℕ → Bool). list_all (λ l. not (f l)) added ≡ true) (sym before_is) (all_kept _ row.tidy) in
    reads_told section j row rest (Changed removed added) (not_unchanged_change removed added) told fits (contents_short row.contents (omega (arith, p.2))) is (rw (rises_filter _ before.tidy fits_b.rising, rises_filter _ row.tidy fits.rising) refl) (rw (sixteenth, there, free) refl)

reads_same : (section : List ℕ) (i : ℕ) (before row : Plain) (rest : List ℕ) → row_in section (suc i) ≡ (2 ∷ []) ++ rest → (suc i % 16 == 0) ≡ false → ((l : ℕ) → is_tidy section i l ≡ has before.tidy l) → contents_in section i ≡ before.contents → same_row before row ≡ true → Reads section (suc i) row rest
unfolding past_row contents_in
reads_same section i before row rest e sixteenth was had same =
    let told = ap tidies_at e ∙ same_again rest in
    let as_before : (l : ℕ) → has before.tidy l ≡ has row.tidy l = λ l. ap (λ (ns : List ℕ). has ns l) (same_tidy before row same) in
    let stays : contents_in section (suc i) ≡ contents_in section i = rw told refl in
    record {
      tidy = λ l. tidy_is section (suc i) l Unchanged rest (sym told) ∙ was l ∙ as_before l;
      contents = stays ∙ had ∙ same_contents before row same;
      rise = rw told refl;
      fit = rw (told, sixteenth) refl;
      past = rw told refl;
    }

-- ---- one row after the other

-- what is known of the row before
Prior : List ℕ → ℕ → Option Plain → Type 0
Prior section zero None = Unit {0}
Prior section zero (Some before) = ⊥
Prior section (suc i) None = ⊥
Prior section (suc i) (Some before) = SaysRow section i before × FitsPlain before

-- the instructions rise, from that of the row before on
Above : Option Plain → List Plain → Type 0
Above None rows = rises (map (λ r. r.instr) rows) ≡ true
Above (Some before) rows = rises (before.instr ∷ map (λ r. r.instr) rows) ≡ true

reads_after : (section : List ℕ) (j : ℕ) (before : Option Plain) (row : Plain) (rest : List ℕ) → row_in section j ≡ after_bytes before row ++ rest → Prior section j before → FitsPlain row → length (after_bytes before row) < 2 ^ 32 → (j % 16 == 0) ≡ false → Reads section j row rest
unfolding Prior
reads_after section zero before row rest e prior fits lt sixteenth = absurd cc
reads_after section (suc i) None row rest e prior fits lt sixteenth = absurd prior
reads_after section (suc i) (Some before) row rest e prior fits lt sixteenth =
    elim (test (same_row before row)) [
      | inl same ↦ (let bytes : row_in section (suc i) ≡ (2 ∷ []) ++ rest = e ∙ rw same refl in
          reads_same section i before row rest bytes sixteenth prior.0.tidy prior.0.contents same)
      | inr other ↦ (let form : after_bytes (Some before) row ≡ change_bytes before row = rw other refl in
          reads_change section (suc i) before row rest (e ∙ ap (λ (x : List ℕ). x ++ rest) form) prior.1 fits (subst (λ (x : List ℕ). length x < 2 ^ 32) form lt) sixteenth prior.0.tidy)
    ]

reads_row : (section : List ℕ) (j : ℕ) (before : Option Plain) (row : Plain) (rest : List ℕ) → row_in section j ≡ row_bytes j before row ++ rest → Prior section j before → FitsPlain row → length (row_bytes j before row) < 2 ^ 32 → Reads section j row rest
unfolding row_bytes
reads_row section j before row rest e prior fits lt =
    elim (test (j % 16 == 0)) [
      | inl sixteenth ↦ (let form : row_bytes j before row ≡ ground_bytes row = rw sixteenth refl in
          reads_ground section j row rest (e ∙ ap (λ (x : List ℕ). x ++ rest) form) fits (subst (λ (x : List ℕ). length x < 2 ^ 32) form lt))
      | inr other ↦ (let form : row_bytes j before row ≡ after_bytes before row = rw other refl in
          reads_after section j before row rest (e ∙ ap (λ (x : List ℕ). x ++ rest) form) prior fits (subst (λ (x : List ℕ). length x < 2 ^ 32) form lt) other)
    ]

-- the rows from a number on are said, are good, and end with the bytes
record Done (section : List ℕ) (j : ℕ) (rows : List Plain) (total : ℕ) : Type 0 where
  said : (k : ℕ) (row : Plain) → slice_get rows k ≡ Some row → SaysRow section (j + k) row
  good : (k : ℕ) → k < length rows → is_good section (j + k) ≡ true
  end : start_of section (j + length rows) ≡ total

rises_first : (section : List ℕ) (j : ℕ) (before : Option Plain) (row : Plain) (rest : List Plain) → Prior section j before → Above before (row ∷ rest) → instruction_in section j ≡ row.instr → instruction_rises section j ≡ true
unfolding Prior Above
rises_first section zero before row rest prior above e = refl
rises_first section (suc i) None row rest prior above e = absurd prior
rises_first section (suc i) (Some before) row rest prior above e =
    rw (prior.0.instr, e) (both (ltb before.instr row.instr) (rises (row.instr ∷ map (λ r. r.instr) rest)) above).0

above_next : (before : Option Plain) (row : Plain) (rest : List Plain) → Above before (row ∷ rest) → Above (Some row) rest
unfolding Above
above_next None row rest above = above
above_next (Some before) row rest above = (both (ltb before.instr row.instr) (rises (row.instr ∷ map (λ r. r.instr) rest)) above).1

yes : (a b : Bool) → a ≡ true → b ≡ true → (a && b) ≡ true
yes a b p q = rw (p, q) refl

equal_yes : (m n : ℕ) → m ≡ n → (m == n) ≡ true
equal_yes m n e = grind (arith, nat_tests)

is_good_by : (section : List ℕ) (j start : ℕ) → instruction_rises section j ≡ true → offset_in section j ≡ start → start_of section j ≡ start → row_rises section j ≡ true → row_fits section j ≡ true → is_good section j ≡ true
unfolding is_good
is_good_by section j start a b c d e =
    yes (instruction_rises section j && offset_in section j == start_of section j) (row_rises section j && row_fits section j)
    (yes (instruction_rises section j) (offset_in section j == start_of section j) a (equal_yes (offset_in section j) (start_of section j) (b ∙ sym c)))
    (yes (row_rises section j) (row_fits section j) d e)

prior_next : (section : List ℕ) (j : ℕ) (row : Plain) → SaysRow section j row → FitsPlain row → Prior section (suc j) (Some row)
unfolding Prior
prior_next section j row says fits = (says, fits)

done_none : (section : List ℕ) (j start total : ℕ) → start_of section j ≡ start → start + 0 ≡ total → Done section j [] total
done_none section j start total e f =
    let here : j + 0 ≡ j = omega arith in
    record {
      said = λ k row h. absurd cc;
      good = λ k lt. absurd (omega arith);
      end = rw here (e ∙ omega arith);
    }

said_more : (section : List ℕ) (j : ℕ) (row : Plain) (rows : List Plain) (total : ℕ) → SaysRow section j row → Done section (suc j) rows total → (k : ℕ) (r : Plain) → slice_get (row ∷ rows) k ≡ Some r → SaysRow section (j + k) r
said_more section j row rows total says rest zero r h =
    let here : j ≡ j + 0 = omega arith in
    let same : row ≡ r = cc in
    subst (λ (n : ℕ). SaysRow section n r) here (subst (λ (x : Plain). SaysRow section j x) same says)
said_more section j row rows total says rest (suc k) r h =
    let moved : suc j + k ≡ j + suc k = omega arith in
    subst (λ (n : ℕ). SaysRow section n r) moved (rest.said k r h)

good_more : (section : List ℕ) (j : ℕ) (row : Plain) (rows : List Plain) (total : ℕ) → is_good section j ≡ true → Done section (suc j) rows total → (k : ℕ) → k < length (row ∷ rows) → is_good section (j + k) ≡ true
good_more section j row rows total good rest zero lt =
    let here : j ≡ j + 0 = omega arith in
    subst (λ (n : ℕ). is_good section n ≡ true) here good
good_more section j row rows total good rest (suc k) lt =
    let moved : suc j + k ≡ j + suc k = omega arith in
    subst (λ (n : ℕ). is_good section n ≡ true) moved (rest.good k (omega arith))

done_more : (section : List ℕ) (j : ℕ) (row : Plain) (rows : List Plain) (total : ℕ) → SaysRow section j row → is_good section j ≡ true → Done section (suc j) rows total → Done section j (row ∷ rows) total
done_more section j row rows total says good rest =
    let moved : suc j + length rows ≡ j + suc (length rows) = omega arith in
    record {
      said = said_more section j row rows total says rest;
      good = good_more section j row rows total good rest;
      end = subst (λ (n : ℕ). start_of section n ≡ total) moved rest.end;
    }

done_all : (section body : List ℕ) (j start : ℕ) (before : Option Plain) (rows : List Plain) → body_of section ≡ body → length body < 2 ^ 32 → drop (4 + 8 * j) section ≡ directory_bytes start j before rows ++ body → drop start body ≡ body_bytes j before rows
    → start + length (body_bytes j before rows) ≡ length body → start_of section j ≡ start → Prior section j before → AllByRecursion FitsPlain rows → Above before rows → Done section j rows (length body)
unfolding directory_bytes body_bytes
done_all section body j start before [] at small dir bod size starts prior fits above = done_none section j start (length body) starts size
done_all section body j start before (row ∷ rows) at small dir bod size starts prior fits above =
    let bytes = row_bytes j before row in
    let after = body_bytes (suc j) (Some row) rows in
    let next = start + length bytes in
    let others = directory_bytes next (suc j) (Some row) rows in
    let l1 = length-append bytes after in
    let dir1 : (word_bytes row.instr ++ (word_bytes start ++ others)) ++ body ≡ word_bytes row.instr ++ (word_bytes start ++ (others ++ body)) = append_assoc (word_bytes row.instr) (word_bytes start ++ others) body ∙ ap (λ (x : List ℕ). word_bytes row.instr ++ x) (append_assoc (word_bytes start) others body) in
    let dir0 : drop (4 + 8 * j) section ≡ word_bytes row.instr ++ (word_bytes start ++ (others ++ body)) = dir ∙ dir1 in
    let instr : instruction_in section j ≡ row.instr = ap word_in dir0 ∙ word_again row.instr (word_bytes start ++ (others ++ body)) fits.0.instr in
    let e4 : 4 + 8 * j + 4 ≡ 8 + 8 * j = omega arith in
    let dir4 : drop (8 + 8 * j) section ≡ word_bytes start ++ (others ++ body) = ap (λ (n : ℕ). drop n section) (sym e4) ∙ sym (drop-drop 4 (4 + 8 * j) section) ∙ ap (λ (x : List ℕ). drop 4 x) dir0 ∙ after_word row.instr (word_bytes start ++ (others ++ body)) in
    let offset : offset_in section j ≡ start = ap word_in dir4 ∙ word_again start (others ++ body) (omega arith) in
    let e8 : 8 + 8 * j + 4 ≡ 4 + 8 * suc j = omega arith in
    let dir8 : drop (4 + 8 * suc j) section ≡ others ++ body = ap (λ (n : ℕ). drop n section) (sym e8) ∙ sym (drop-drop 4 (8 + 8 * j) section) ∙ ap (λ (x : List ℕ). drop 4 x) dir4 ∙ after_word start (others ++ body) in
    let here : row_in section j ≡ bytes ++ after = ap (λ (n : ℕ). drop n (body_of section)) offset ∙ ap (λ (x : List ℕ). drop start x) at ∙ bod in
    let read = reads_row section j before row after here prior fits.0 (omega arith) in
    let says : SaysRow section j row = record { instr = instr; tidy = read.tidy; contents = read.contents } in
    let ended : start_of section (suc j) ≡ length (body_of section) - length after = rw read.past refl in
    let wide : length (body_of section) ≡ length body = ap length at in
    let next_is : start_of section (suc j) ≡ next = ended ∙ omega arith in
    let bod8 : drop next body ≡ after = sym (drop-drop (length bytes) start body) ∙ ap (λ (x : List ℕ). drop (length bytes) x) bod ∙ drop_at bytes after (length bytes) refl in
    let good = is_good_by section j start (rises_first section j before row rows prior above instr) offset starts read.rise read.fit in
    let rest = done_all section body (suc j) next (Some row) rows at small dir8 bod8 (omega arith) next_is (prior_next section j row says fits.0) fits.1 (above_next before row rows above) in
    done_more section j row rows (length body) says good rest

-- ---- the whole section

none_bad : (section : List ℕ) (n : ℕ) → ((k : ℕ) → k < n → is_good section k ≡ true) → first_bad section n ≡ None
none_bad section zero h = first_bad-zero section
none_bad section (suc n) h =
    let one : n + 1 ≡ suc n = omega arith in
    subst (λ (m : ℕ). first_bad section m ≡ None) one (first_bad-more section n (none_bad section n (λ k lt. h k (omega arith))) (h n (omega arith)))

sound_by : (section : List ℕ) (n : ℕ) → word_in section ≡ n → 4 + 8 * n ≤ length section → first_bad section n ≡ None → start_of section n ≡ length (body_of section) → fault_of section ≡ None
unfolding fault_of
sound_by section n e room good ends =
    let long : ltb (length section) 4 ≡ false = le-ltb _ _ (omega arith) in
    let whole : ltb (length section) (4 + 8 * word_in section) ≡ false = le-ltb _ _ (omega (arith, e)) in
    let same : (start_of section (word_in section) == length (body_of section)) ≡ true = equal_yes (start_of section (word_in section)) (length (body_of section)) (ap (start_of section) e ∙ ends) in
    let first : directory_fault section ≡ None = rw (long, whole) refl in
    let last : end_fault section ≡ None = rw same refl in
    let rows : first_bad section (word_in section) ≡ None = ap (first_bad section) e ∙ good in
    rw (first, rows, last) refl

pub table_says : (rows : List Plain) → AllByRecursion FitsPlain rows → rises (map (λ r. r.instr) rows) ≡ true → length (table_bytes rows) ≤ 4294967295 → Tabulates (table_bytes rows) rows
unfolding table_bytes Above Prior
table_says rows fits rising size =
    let section = table_bytes rows in
    let body = body_bytes 0 None rows in
    let directory = directory_bytes 0 0 None rows in
    let lt = length-table_bytes rows in
    let count : word_in section ≡ length rows = word_again (length rows) (directory ++ body) (omega arith) in
    let dir : drop 4 section ≡ directory ++ body = after_word (length rows) (directory ++ body) in
    let ld = length-directory_bytes 0 0 None rows in
    let split : body_of section ≡ drop (4 + 8 * length rows) section = ap (λ (n : ℕ). drop (4 + 8 * n) section) count in
    let bod : body_of section ≡ body = split ∙ sym (drop-drop (8 * length rows) 4 section) ∙ ap (λ (x : List ℕ). drop (8 * length rows) x) dir ∙ drop_at directory body (8 * length rows) ld in
    let all = done_all section body 0 0 None rows bod (omega arith) dir refl (omega arith) refl tt fits rising in
    let at : (k : ℕ) → 0 + k ≡ k = λ k. omega arith in
    let ends : start_of section (length rows) ≡ length (body_of section) = subst (λ (n : ℕ). start_of section n ≡ length body) (at (length rows)) all.end ∙ sym (ap length bod) in
    record {
      sound = sound_by section (length rows) count (omega arith) (none_bad section (length rows) (λ k h. subst (λ (n : ℕ). is_good section n ≡ true) (at k) (all.good k h))) ends;
      count = count;
      rows_said = λ number row h. subst (λ (n : ℕ). SaysRow section n row) (at number) (all.said number row h);
    }
