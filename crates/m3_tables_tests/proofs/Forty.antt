-- Rows that are equal but for their instructions.
use Rattle.std.proofs.Common.{◌≡◌, ℕ, zero, suc, ◌+◌, ◌*◌, ◌≤◌, true, List, [], ◌∷◌, ◌++◌, length, refl, arith}
use Rattle.std.specs.Prelude.{map}
use Rattle.std.specs.List.{AllByRecursion}
use Rattle.std.proofs.lemmas.List.{map_push}
use Rattle.m3_tables_writer.specs.declared.plain.RowPlain.{RowPlain}
use Rattle.m3_tables.specs.Numbers.{rises}
use Rattle.m3_tables.specs.Rows.{nothing}
use Rattle.m3_tables_writer.specs.Plain.{Plain, plain_of, plains_of, tidy_plain, contents_plain, IsRow}
use Rattle.m3_tables_writer.specs.Writing.{word_bytes, list_bytes, contents_bytes, ground_bytes, row_bytes, body_bytes, directory_bytes, table_bytes}
use Rattle.m3_tables_writer.proofs.PlainFits.{same_instructions}

abbrev pub plain_row : ℕ → Plain
plain_row instr = record { instr = instr; tidy = 3 ∷ 18 ∷ []; contents = record { arguments = []; passed = []; derived = [] } }

-- so many of them, at the instructions 0, 2 and so on
unfoldable pub plain_rows : ℕ → List Plain
plain_rows zero = []
plain_rows (suc n) = plain_rows n ++ plain_row (2 * n) ∷ []

pub plain_rows-zero : plain_rows 0 ≡ []
unfolding plain_rows
plain_rows-zero = refl

pub plain_rows-more : (rows : List RowPlain) (n : ℕ) (row : RowPlain) → plains_of rows ≡ plain_rows n → row.instr ≡ 2 * n → tidy_plain row ≡ 3 ∷ 18 ∷ [] → contents_plain row ≡ nothing → plains_of (rows ++ row ∷ []) ≡ plain_rows (n + 1)
unfolding plain_rows
plain_rows-more rows n row e a b c =
    let one : n + 1 ≡ suc n = omega arith in
    let f : plain_of row ≡ plain_row (2 * n) = λ i. record { instr = a i; tidy = b i; contents = c i } in
    rw (one, map_push plain_of rows row, e, f) refl

pub form-more : (rows : List RowPlain) (row : RowPlain) → AllByRecursion IsRow rows → IsRow row → AllByRecursion IsRow (rows ++ row ∷ [])
form-more [] row form one = (one, tt)
form-more (r ∷ rows) row form one = (form.0, form-more rows row form.1 one)

forty_rise : rises (map (λ r. r.instr) (plain_rows 40)) ≡ true
unfolding plain_rows
forty_rise = refl

forty_size : length (table_bytes (plain_rows 40)) ≡ 436
unfolding plain_rows table_bytes directory_bytes body_bytes row_bytes ground_bytes contents_bytes list_bytes word_bytes
forty_size = refl

pub rising : (rows : List RowPlain) → plains_of rows ≡ plain_rows 40 → rises (map (λ r. r.instr) rows) ≡ true
rising rows e = rw (← same_instructions rows, e) forty_rise

pub size : (rows : List RowPlain) → plains_of rows ≡ plain_rows 40 → length (table_bytes (plains_of rows)) ≤ 4294967295
size rows e = rw (e, forty_size) (omega arith)
