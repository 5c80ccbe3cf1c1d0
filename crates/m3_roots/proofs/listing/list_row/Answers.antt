use Rattle.std.proofs.Common.{List, map}
use Rattle.m3_tables.specs.Tables.{derived_in}
use Rattle.m3_roots.specs.ThreadWords.{places_from, derived_from, place_of}
use Rattle.m3_roots.specs.Marking.{Act, Lists, Derives}
use Rattle.m3_roots.proofs.PartLemmas.{marks_then, marks_fail}
use Rattle.m3_roots.proofs.listing.list_row.Goals as goal

pub returns-then-list_all : goal.returns-then-list_all
returns-then-list_all c =
    let xs : List Act = map Lists (places_from c.args.first c.args.tidy.now) in
    let ys : List Act = map Derives (map place_of (derived_from c.args.first (derived_in c.args.row.now))) in
    marks_then c.args.marks.now c.list_all.new.marks c.derive_all.new.marks xs ys c.derive_all.result c.if-list_all.ensures c.derive_all.ensures

pub returns-else-list_all : goal.returns-else-list_all
returns-else-list_all c =
    let xs : List Act = map Lists (places_from c.args.first c.args.tidy.now) in
    let ys : List Act = map Derives (map place_of (derived_from c.args.first (derived_in c.args.row.now))) in
    rw c.if-list_all.false (marks_fail c.args.marks.now c.list_all.new.marks xs ys c.if-list_all.ensures)
