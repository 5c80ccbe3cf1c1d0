use Rattle.std.proofs.Common.{rules, ◌≡◌, ◌++◌, List, [], length, subst, sym}
use Rattle.std.proofs.lemmas.Result.{on_ok_weaker}
use Rattle.m3_tables.specs.Tables.{section_of_row, number_of_row}
use Rattle.m3_tables.specs.Sections.{contents_in, tidy_list}
use Rattle.m3_image_decoded.specs.Ready.{image_of}
use Rattle.m3_image_dump.specs.Texts.{row_line, InOrder, Adds, no_row, row}
use Rattle.m3_image_dump.proofs.rows.put_row_at.Goals as goal

pub returns-in_default : goal.returns-in_default
returns-in_default c = record { part = []; added = search rules; is = no_row c.in_default.ensures.none }

pub returns : goal.returns
returns c =
    let tables = (image_of c.args.image.now).program.tables in
    let at = c.in-Some.ensures.some in
    let number = number_of_row c.in-Some.row in
    let tidy = c.in_ok-tidy.tidy.items in
    let told : c.in-Some-tidy_places.places.now ≡ tidy_list tables number = subst (λ n. c.in-Some-tidy_places.places.now ≡ tidy_list tables n) c.number.ensures c.in-Some-tidy_places.ensures.told in
    let ordered : InOrder (tidy_list tables number) tidy = subst (λ xs. InOrder xs tidy) told c.in_ok-tidy.ensures in
    let contents = contents_in (section_of_row c.in-Some.row) number in
    on_ok_weaker c.put_row.result
    (λ same.
    let line : c.put_row.new.text.items ≡ c.args.text.now.items ++ row_line tidy contents =
    subst (λ xs. c.put_row.new.text.items ≡ c.args.text.now.items ++ row_line xs contents) c.deref.ensures.value same in
    record {
      part = row_line tidy (contents_in tables number);
      added = subst (λ s. c.put_row.new.text.items ≡ c.args.text.now.items ++ row_line tidy (contents_in s number)) at.1 line;
      is = row number tidy at.0 at.2 ordered;
    })
    c.put_row.ensures
