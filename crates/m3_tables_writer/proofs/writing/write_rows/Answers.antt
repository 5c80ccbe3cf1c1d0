use Rattle.std.proofs.Common.{◌≡◌, ◌++◌, ◌+◌, ℕ, List, length, drop, None, sym, ap, subst, ◌∙◌, arith, length-append}
use Rattle.std.specs.Option.{option_map}
use Rattle.std.proofs.lemmas.List.{length-map, drop_all}
use Rattle.m3_tables_writer.specs.Plain.{plain_of, plains_of}
use Rattle.m3_tables_writer.specs.Writing.{row_bytes, word_bytes, directory_bytes, body_bytes, table_bytes}
use Rattle.m3_tables_writer.proofs.WriteLemmas.{length-table_bytes, body_more, body_size, directory_step, all_written, all_listed, whole_table, plains_more}
use Rattle.m3_tables_writer.specs.Tabulates.{Tabulates}
use Rattle.m3_tables_writer.proofs.AgainRows.{table_says}
use Rattle.m3_tables_writer.proofs.PlainFits.{rows_fit, same_instructions, numbers_more, numbers_all}
use Rattle.m3_tables_writer.proofs.writing.write_rows.Goals as goal

pub overflow_cast-rows : goal.overflow_cast-rows
overflow_cast-rows c =
    omega (arith, c.requires.size, length-table_bytes (plains_of c.args.rows.now), length-map c.args.rows.now plain_of)

pub overflow_cast-len : goal.overflow_cast-len
overflow_cast-len c =
    let i = c.loop-number.invariant in
    let l0 = ap length i.body in
    let l1 = length-append c.loop-number.body.items (body_bytes c.loop-number.number (option_map (λ b. plain_of b.now) c.loop-number.before) (plains_of (drop c.loop-number.number c.args.rows.now))) in
    omega (arith, c.requires.size, length-table_bytes (plains_of c.args.rows.now), c.len.ensures)

pub put_row-requires-clause-size : goal.put_row-requires-clause-size
put_row-requires-clause-size c =
    let i = c.loop-number.invariant in
    let row = c.index-rows-number.result in
    let number = c.loop-number.number in
    let before = option_map (λ b. plain_of b.now) c.loop-number.before in
    let rest = plains_more c.args.rows.now number row c.loop-number-test.true c.index-rows-number.is in
    let here = rw rest at i.body in
    let size = body_size number before c.loop-number.body.items (plain_of row) (plains_of (drop (number + 1) c.args.rows.now)) (body_bytes 0 None (plains_of c.args.rows.now)) here in
    omega (arith, c.requires.size, length-table_bytes (plains_of c.args.rows.now), size)

pub loop-number-preserved : goal.loop-number-preserved
loop-number-preserved c =
    let i = c.loop-number.invariant in
    let row = c.index-rows-number.result in
    let number = c.loop-number.number in
    let before = option_map (λ b. plain_of b.now) c.loop-number.before in
    let rest = plains_more c.args.rows.now number row c.loop-number-test.true c.index-rows-number.is in
    let here = rw rest at i.body in
    let there = rw rest at i.directory in
    let form = rw rest at i.form in
    let others = plains_of (drop (number + 1) c.args.rows.now) in
    let written = c.in_ok-put_row.ensures in
    let len : c.len.result ≡ length c.loop-number.body.items = omega (arith, c.len.ensures) in
    let next : length c.put_row.new.out.items ≡ length c.loop-number.body.items + length (row_bytes number before (plain_of row)) = ap length written ∙ length-append c.loop-number.body.items (row_bytes number before (plain_of row)) in
    record {
      directory = directory_step (length c.loop-number.body.items) number before c.loop-number.out.items (plain_of row) others (word_bytes (length c.args.rows.now) ++ directory_bytes 0 0 None (plains_of c.args.rows.now)) c.len.result (length c.put_row.new.out.items) c.put_word-in-loop-number.new.out.items c.put_word-in-loop-number-2.new.out.items there (c.in_ok-put_word-2.ensures ∙ ap (λ (n : ℕ). c.loop-number.out.items ++ word_bytes n) c.instruction.ensures) c.in_ok-put_word-3.ensures len next;
      body = rw written (body_more number before c.loop-number.body.items (plain_of row) others (body_bytes 0 None (plains_of c.args.rows.now)) here);
      before_form = form.0;
      form = form.1;
      numbers = numbers_more c.args.rows.now number row c.loop-number-test.true c.index-rows-number.is i.numbers (omega (arith, c.instruction.ensures, c.instruction.type_inv));
    }

pub returns : goal.returns
returns c =
    let i = c.loop-number.invariant in
    let rows = c.args.rows.now in
    let before = option_map (λ b. plain_of b.now) c.loop-number.before in
    let none = drop_all c.loop-number.number rows c.loop-number-test.false in
    let directory = rw none at i.directory in
    let body = rw none at i.body in
    let listed = all_listed (length c.loop-number.body.items) c.loop-number.number before c.loop-number.out.items (word_bytes (length rows) ++ directory_bytes 0 0 None (plains_of rows)) directory in
    let written = all_written c.loop-number.number before c.loop-number.body.items (body_bytes 0 None (plains_of rows)) body in
    let counted : word_bytes (length rows) ++ directory_bytes 0 0 None (plains_of rows) ≡ word_bytes (length (plains_of rows)) ++ directory_bytes 0 0 None (plains_of rows) = ap (λ (n : ℕ). word_bytes n ++ directory_bytes 0 0 None (plains_of rows)) (sym (length-map rows plain_of)) in
    let joined : c.extend_from_slice.new.self.items ≡ c.loop-number.out.items ++ c.loop-number.body.items = c.in_ok-extend_from_slice.ensures.items ∙ ap (λ (b : List ℕ). c.loop-number.out.items ++ b) c.deref.ensures.value in
    let whole : c.extend_from_slice.new.self.items ≡ table_bytes (plains_of rows) = joined ∙ whole_table (plains_of rows) c.loop-number.out.items c.loop-number.body.items (listed ∙ counted) written in
    let fits = rows_fit rows c.requires.form (numbers_all rows c.loop-number.number c.loop-number-test.false i.numbers) in
    let rising = rw (← same_instructions rows) at c.requires.rising in
    record {
      bytes = whole;
      read_again = subst (λ (x : List ℕ). Tabulates x (plains_of rows)) (sym whole) (table_says (plains_of rows) fits rising c.requires.size);
    }
