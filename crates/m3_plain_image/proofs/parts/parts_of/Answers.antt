use Rattle.std.proofs.Common.{◌≡◌, ◌∙◌, ◌≤◌, ap, sym, subst, arith, length, length-append}
use Rattle.std.specs.Prelude.{map}
use Rattle.std.specs.List.{AllByRecursion}
use Rattle.m3_image_sections.specs.Ranges.{points_from}
use Rattle.m3_tables_writer.specs.Plain.{plains_of, IsRow}
use Rattle.m3_tables_writer.specs.Writing.{table_bytes}
use Rattle.m3_plain.specs.Terms.{terms_of}
use Rattle.m3_plain_image.specs.Code.{body_code, thread_code, plain_code}
use Rattle.m3_plain_image.specs.Image.{empty_row}
use Rattle.m3_plain_image.proofs.Building.{with_thread}
use Rattle.m3_plain_image.proofs.Rows.{are_rows, rows_rise}
use Rattle.m3_plain_image.proofs.Sizes.{code_small, rows_small}
use Rattle.m3_plain_image.proofs.parts.parts_of.Goals as goal

pub overflow_cast-count : goal.overflow_cast-count
overflow_cast-count c =
    let puts = terms_of c.args.puts.now in
    record { fits = omega (arith, c.len-count.ensures, ap length c.in_ok-instructions.ensures.code, code_small puts c.requires.few, length-append (body_code puts) thread_code) }

pub rows_of-requires : goal.rows_of-requires
rows_of-requires c =
    let puts = terms_of c.args.puts.now in
    let code = with_thread _ _ _ _ _ puts c.deref.ensures.value c.in_ok-extend_from_slice.ensures.items c.alone.ensures c.alone-2.ensures c.in_ok-instructions.ensures.code in
    omega (arith, ap length code, code_small puts c.requires.few)

pub write_rows-requires-clause-form : goal.write_rows-requires-clause-form
write_rows-requires-clause-form c =
    are_rows c.deref-2.result.now (points_from 0 c.deref.result.now) (ap plains_of c.deref-2.ensures.value ∙ c.in_ok-rows_of.ensures)

pub write_rows-requires-clause-rising : goal.write_rows-requires-clause-rising
write_rows-requires-clause-rising c =
    rows_rise c.deref-2.result.now c.deref.result.now (ap plains_of c.deref-2.ensures.value ∙ c.in_ok-rows_of.ensures)

pub write_rows-requires-clause-size : goal.write_rows-requires-clause-size
write_rows-requires-clause-size c =
    let puts = terms_of c.args.puts.now in
    let code = with_thread _ _ _ _ _ puts c.deref.ensures.value c.in_ok-extend_from_slice.ensures.items c.alone.ensures c.alone-2.ensures c.in_ok-instructions.ensures.code in
    let few : length c.deref.result.now ≤ 10004 = omega (arith, ap length code, code_small puts c.requires.few) in
    let rows = ap (λ l. length (table_bytes l)) (ap plains_of c.deref-2.ensures.value ∙ c.in_ok-rows_of.ensures) in
    omega (arith, rows, rows_small c.deref.result.now few)
