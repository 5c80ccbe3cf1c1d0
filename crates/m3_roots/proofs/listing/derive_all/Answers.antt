use Rattle.std.proofs.Common.{List, [], ◌∷◌, ◌++◌, map}
use Rattle.m3_tables.specs.Views.{entry_of, entries_of}
use Rattle.m3_tables.specs.Tables.{derived_in}
use Rattle.m3_roots.specs.ThreadWords.{Derived, derived_at, derived_from, place_of}
use Rattle.m3_roots.specs.Marking.{Act, Derives, MarksPart}
use Rattle.m3_roots.proofs.PartLemmas.{marks_more, marks_stop, marks_all}
use Rattle.m3_roots.proofs.listing.derive_all.Goals as goal

pub returns-then-not-derive : goal.returns-then-not-derive
returns-then-not-derive c =
    let d : Derived = derived_at c.args.first (entry_of c.in-Some.entry) in
    let later : List Derived = derived_from c.args.first (entries_of c.next.new.self) in
    let acts : List Act = map Derives (map place_of (derived_from c.args.first (derived_in c.args.row.now))) in
    let item : List Act = Derives (place_of d) ∷ [] in
    let rest : List Act = map Derives (map place_of later) in
    let part : MarksPart c.args.marks.now c.loop-entry.marks acts (item ++ rest) = rw c.in-Some.ensures.steps at c.loop-entry.invariant in
    marks_stop c.args.marks.now c.loop-entry.marks c.derive.new.marks acts item rest part (rw c.place_number.ensures at c.if-not-derive.ensures)

pub loop-entry-preserved : goal.loop-entry-preserved
loop-entry-preserved c =
    let d : Derived = derived_at c.args.first (entry_of c.in-Some.entry) in
    let later : List Derived = derived_from c.args.first (entries_of c.next.new.self) in
    let acts : List Act = map Derives (map place_of (derived_from c.args.first (derived_in c.args.row.now))) in
    let item : List Act = Derives (place_of d) ∷ [] in
    let rest : List Act = map Derives (map place_of later) in
    let part : MarksPart c.args.marks.now c.loop-entry.marks acts (item ++ rest) = rw c.in-Some.ensures.steps at c.loop-entry.invariant in
    marks_more c.args.marks.now c.loop-entry.marks c.derive.new.marks acts item rest part (rw c.place_number.ensures at c.if-not-derive.ensures)

pub returns : goal.returns
returns c =
    let acts : List Act = map Derives (map place_of (derived_from c.args.first (derived_in c.args.row.now))) in
    let part : MarksPart c.args.marks.now c.loop-entry.marks acts [] = rw c.in-None.ensures.steps.0 at c.loop-entry.invariant in
    marks_all c.args.marks.now c.loop-entry.marks acts part
