use Rattle.std.proofs.Common.{List, [], ◌∷◌, ◌++◌, map}
use Rattle.m3_tables.specs.Views.{numbers_of}
use Rattle.m3_roots.specs.ThreadWords.{place_from, places_from}
use Rattle.m3_roots.specs.Marking.{Act, Uses, MarksPart}
use Rattle.m3_roots.proofs.PartLemmas.{marks_more, marks_stop, marks_all}
use Rattle.m3_roots.proofs.listing.are_plain.Goals as goal

pub returns-then-not-is_plain : goal.returns-then-not-is_plain
returns-then-not-is_plain c =
    let acts : List Act = map Uses (places_from c.args.first (numbers_of c.args.numbers)) in
    let item : List Act = Uses (place_from c.args.first c.in-Some.number) ∷ [] in
    let rest : List Act = map Uses (places_from c.args.first (numbers_of c.next.new.self)) in
    let part : MarksPart c.args.marks.now c.args.marks.now acts (item ++ rest) = rw c.in-Some.ensures.steps at c.loop-number.invariant in
    marks_stop c.args.marks.now c.args.marks.now c.args.marks.now acts item rest part c.if-not-is_plain.ensures

pub loop-number-preserved : goal.loop-number-preserved
loop-number-preserved c =
    let acts : List Act = map Uses (places_from c.args.first (numbers_of c.args.numbers)) in
    let item : List Act = Uses (place_from c.args.first c.in-Some.number) ∷ [] in
    let rest : List Act = map Uses (places_from c.args.first (numbers_of c.next.new.self)) in
    let part : MarksPart c.args.marks.now c.args.marks.now acts (item ++ rest) = rw c.in-Some.ensures.steps at c.loop-number.invariant in
    marks_more c.args.marks.now c.args.marks.now c.args.marks.now acts item rest part c.if-not-is_plain.ensures

pub returns : goal.returns
returns c =
    let acts : List Act = map Uses (places_from c.args.first (numbers_of c.args.numbers)) in
    let part : MarksPart c.args.marks.now c.args.marks.now acts [] = rw c.in-None.ensures.steps.0 at c.loop-number.invariant in
    marks_all c.args.marks.now c.args.marks.now acts part
