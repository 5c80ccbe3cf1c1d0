use Rattle.std.proofs.Common.{List, [], ◌++◌, map}
use Rattle.std.specs.List.{flat_map}
use Rattle.std.proofs.lemmas.List.{map-append}
use Rattle.m3_tables.specs.Views.{entry_of, entries_of}
use Rattle.m3_tables.specs.Tables.{derived_in}
use Rattle.m3_roots.specs.ThreadWords.{Derived, derived_at, derived_from, path_places}
use Rattle.m3_roots.specs.Marking.{Act, Bars, MarksPart}
use Rattle.m3_roots.proofs.PartLemmas.{marks_more, marks_stop, marks_all}
use Rattle.m3_roots.proofs.listing.bar_paths.Goals as goal

pub returns-then-not-bar_path : goal.returns-then-not-bar_path
returns-then-not-bar_path c =
    let d : Derived = derived_at c.args.first (entry_of c.in-Some.entry) in
    let later : List Derived = derived_from c.args.first (entries_of c.next.new.self) in
    let acts : List Act = map Bars (flat_map path_places (derived_from c.args.first (derived_in c.args.row.now))) in
    let item : List Act = map Bars (path_places d) in
    let rest : List Act = map Bars (flat_map path_places later) in
    let part : MarksPart c.args.marks.now c.loop-entry.marks acts (item ++ rest) = rw (c.in-Some.ensures.steps, map-append Bars (path_places d) (flat_map path_places later)) at c.loop-entry.invariant in
    marks_stop c.args.marks.now c.loop-entry.marks c.bar_path.new.marks acts item rest part c.if-not-bar_path.ensures

pub loop-entry-preserved : goal.loop-entry-preserved
loop-entry-preserved c =
    let d : Derived = derived_at c.args.first (entry_of c.in-Some.entry) in
    let later : List Derived = derived_from c.args.first (entries_of c.next.new.self) in
    let acts : List Act = map Bars (flat_map path_places (derived_from c.args.first (derived_in c.args.row.now))) in
    let item : List Act = map Bars (path_places d) in
    let rest : List Act = map Bars (flat_map path_places later) in
    let part : MarksPart c.args.marks.now c.loop-entry.marks acts (item ++ rest) = rw (c.in-Some.ensures.steps, map-append Bars (path_places d) (flat_map path_places later)) at c.loop-entry.invariant in
    marks_more c.args.marks.now c.loop-entry.marks c.bar_path.new.marks acts item rest part c.if-not-bar_path.ensures

pub returns : goal.returns
returns c =
    let acts : List Act = map Bars (flat_map path_places (derived_from c.args.first (derived_in c.args.row.now))) in
    let part : MarksPart c.args.marks.now c.loop-entry.marks acts [] = rw c.in-None.ensures.steps.0 at c.loop-entry.invariant in
    marks_all c.args.marks.now c.loop-entry.marks acts part
