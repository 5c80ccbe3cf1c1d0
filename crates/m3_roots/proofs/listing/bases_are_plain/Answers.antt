use Rattle.std.proofs.Common.{List, [], ◌++◌, map}
use Rattle.std.specs.List.{flat_map}
use Rattle.std.proofs.lemmas.List.{map-append}
use Rattle.m3_tables.specs.Views.{entry_of, entries_of}
use Rattle.m3_tables.specs.Tables.{derived_in}
use Rattle.m3_roots.specs.ThreadWords.{Derived, derived_at, derived_from, base_places}
use Rattle.m3_roots.specs.Marking.{Act, Uses, MarksPart}
use Rattle.m3_roots.proofs.PartLemmas.{marks_more, marks_stop, marks_all}
use Rattle.m3_roots.proofs.listing.bases_are_plain.Goals as goal

pub returns-then-not-entry_is_plain : goal.returns-then-not-entry_is_plain
returns-then-not-entry_is_plain c =
    let d : Derived = derived_at c.args.first (entry_of c.in-Some.entry) in
    let later : List Derived = derived_from c.args.first (entries_of c.next.new.self) in
    let acts : List Act = map Uses (flat_map base_places (derived_from c.args.first (derived_in c.args.row.now))) in
    let item : List Act = map Uses (base_places d) in
    let rest : List Act = map Uses (flat_map base_places later) in
    let part : MarksPart c.args.marks.now c.args.marks.now acts (item ++ rest) = rw (c.in-Some.ensures.steps, map-append Uses (base_places d) (flat_map base_places later)) at c.loop-entry.invariant in
    marks_stop c.args.marks.now c.args.marks.now c.args.marks.now acts item rest part c.if-not-entry_is_plain.ensures

pub loop-entry-preserved : goal.loop-entry-preserved
loop-entry-preserved c =
    let d : Derived = derived_at c.args.first (entry_of c.in-Some.entry) in
    let later : List Derived = derived_from c.args.first (entries_of c.next.new.self) in
    let acts : List Act = map Uses (flat_map base_places (derived_from c.args.first (derived_in c.args.row.now))) in
    let item : List Act = map Uses (base_places d) in
    let rest : List Act = map Uses (flat_map base_places later) in
    let part : MarksPart c.args.marks.now c.args.marks.now acts (item ++ rest) = rw (c.in-Some.ensures.steps, map-append Uses (base_places d) (flat_map base_places later)) at c.loop-entry.invariant in
    marks_more c.args.marks.now c.args.marks.now c.args.marks.now acts item rest part c.if-not-entry_is_plain.ensures

pub returns : goal.returns
returns c =
    let acts : List Act = map Uses (flat_map base_places (derived_from c.args.first (derived_in c.args.row.now))) in
    let part : MarksPart c.args.marks.now c.args.marks.now acts [] = rw c.in-None.ensures.steps.0 at c.loop-entry.invariant in
    marks_all c.args.marks.now c.args.marks.now acts part
