use Rattle.std.proofs.Common.{List, [], ◌++◌, map}
use Rattle.std.specs.List.{flat_map}
use Rattle.std.proofs.lemmas.List.{map-append}
use Rattle.m3_tables.specs.Rows.{Bases}
use Rattle.m3_tables.specs.Views.{bases_of, entry_of, ways_of}
use Rattle.m3_roots.specs.ThreadWords.{places_from, derived_at, bases_in_way, base_places}
use Rattle.m3_roots.proofs.WordLemmas.{places_append}
use Rattle.m3_roots.specs.Marking.{Act, Uses, MarksPart}
use Rattle.m3_roots.proofs.PartLemmas.{marks_more, marks_stop, marks_all}
use Rattle.m3_roots.proofs.listing.entry_is_plain.Goals as goal

pub returns-then-not-way_is_plain : goal.returns-then-not-way_is_plain
returns-then-not-way_is_plain c =
    let first = c.args.first in
    let way : Bases = bases_of c.in-Some.way in
    let later : List Bases = ways_of c.next.new.self in
    let acts : List Act = map Uses (base_places (derived_at c.args.first (entry_of c.args.entry.now))) in
    let item : List Act = map Uses (places_from first (bases_in_way way)) in
    let rest : List Act = map Uses (places_from first (flat_map bases_in_way later)) in
    let part : MarksPart c.args.marks.now c.args.marks.now acts (item ++ rest) = rw (c.in-Some.ensures.steps, places_append first (bases_in_way way) (flat_map bases_in_way later), map-append Uses (places_from first (bases_in_way way)) (places_from first (flat_map bases_in_way later))) at c.loop-way.invariant in
    marks_stop c.args.marks.now c.args.marks.now c.args.marks.now acts item rest part c.if-not-way_is_plain.ensures

pub loop-way-preserved : goal.loop-way-preserved
loop-way-preserved c =
    let first = c.args.first in
    let way : Bases = bases_of c.in-Some.way in
    let later : List Bases = ways_of c.next.new.self in
    let acts : List Act = map Uses (base_places (derived_at c.args.first (entry_of c.args.entry.now))) in
    let item : List Act = map Uses (places_from first (bases_in_way way)) in
    let rest : List Act = map Uses (places_from first (flat_map bases_in_way later)) in
    let part : MarksPart c.args.marks.now c.args.marks.now acts (item ++ rest) = rw (c.in-Some.ensures.steps, places_append first (bases_in_way way) (flat_map bases_in_way later), map-append Uses (places_from first (bases_in_way way)) (places_from first (flat_map bases_in_way later))) at c.loop-way.invariant in
    marks_more c.args.marks.now c.args.marks.now c.args.marks.now acts item rest part c.if-not-way_is_plain.ensures

pub returns : goal.returns
returns c =
    let acts : List Act = map Uses (base_places (derived_at c.args.first (entry_of c.args.entry.now))) in
    let part : MarksPart c.args.marks.now c.args.marks.now acts [] = rw c.in-None.ensures.steps.0 at c.loop-way.invariant in
    marks_all c.args.marks.now c.args.marks.now acts part
