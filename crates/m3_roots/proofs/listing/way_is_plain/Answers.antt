use Rattle.std.proofs.Common.{map}
use Rattle.std.proofs.lemmas.List.{map-append}
use Rattle.m3_tables.specs.Views.{numbers_of}
use Rattle.m3_roots.specs.ThreadWords.{places_from}
use Rattle.m3_roots.specs.Marking.{Uses}
use Rattle.m3_roots.proofs.WordLemmas.{places_append}
use Rattle.m3_roots.proofs.PartLemmas.{marks_then, marks_fail}
use Rattle.m3_roots.proofs.listing.way_is_plain.Goals as goal

pub returns-then-are_plain : goal.returns-then-are_plain
returns-then-are_plain c =
    let first = c.args.first in
    let added = numbers_of c.args.way.now.added in
    let subtracted = numbers_of c.args.way.now.subtracted in
    let marks = c.args.marks.now in
    rw (places_append first added subtracted, map-append Uses (places_from first added) (places_from first subtracted))
    (marks_then marks marks marks (map Uses (places_from first added)) (map Uses (places_from first subtracted)) c.are_plain-then-are_plain.result c.if-are_plain.ensures c.are_plain-then-are_plain.ensures)

pub returns-else-are_plain : goal.returns-else-are_plain
returns-else-are_plain c =
    let first = c.args.first in
    let added = numbers_of c.args.way.now.added in
    let subtracted = numbers_of c.args.way.now.subtracted in
    let marks = c.args.marks.now in
    rw (c.if-are_plain.false, places_append first added subtracted, map-append Uses (places_from first added) (places_from first subtracted))
    (marks_fail marks marks (map Uses (places_from first added)) (map Uses (places_from first subtracted)) c.if-are_plain.ensures)
