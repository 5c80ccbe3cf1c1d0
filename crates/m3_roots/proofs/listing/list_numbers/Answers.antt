use Rattle.std.proofs.Common.{List, [], ◌∷◌, ◌++◌, map}
use Rattle.m3_tables.specs.Views.{numbers_of}
use Rattle.m3_roots.specs.ThreadWords.{place_from, places_from}
use Rattle.m3_roots.specs.Marking.{Act, Lists, MarksPart}
use Rattle.m3_roots.proofs.PartLemmas.{marks_more, marks_stop, marks_all}
use Rattle.m3_roots.proofs.listing.list_numbers.Goals as goal

pub returns-then-not-list : goal.returns-then-not-list
returns-then-not-list c =
    let acts : List Act = map Lists (places_from c.args.first (numbers_of c.args.numbers)) in
    let item : List Act = Lists (place_from c.args.first c.in-Some.number) ∷ [] in
    let rest : List Act = map Lists (places_from c.args.first (numbers_of c.next.new.self)) in
    let part : MarksPart c.args.marks.now c.loop-number.marks acts (item ++ rest) = rw c.in-Some.ensures.steps at c.loop-number.invariant in
    marks_stop c.args.marks.now c.loop-number.marks c.list.new.marks acts item rest part c.if-not-list.ensures

pub loop-number-preserved : goal.loop-number-preserved
loop-number-preserved c =
    let acts : List Act = map Lists (places_from c.args.first (numbers_of c.args.numbers)) in
    let item : List Act = Lists (place_from c.args.first c.in-Some.number) ∷ [] in
    let rest : List Act = map Lists (places_from c.args.first (numbers_of c.next.new.self)) in
    let part : MarksPart c.args.marks.now c.loop-number.marks acts (item ++ rest) = rw c.in-Some.ensures.steps at c.loop-number.invariant in
    marks_more c.args.marks.now c.loop-number.marks c.list.new.marks acts item rest part c.if-not-list.ensures

pub returns : goal.returns
returns c =
    let acts : List Act = map Lists (places_from c.args.first (numbers_of c.args.numbers)) in
    let part : MarksPart c.args.marks.now c.loop-number.marks acts [] = rw c.in-None.ensures.steps.0 at c.loop-number.invariant in
    marks_all c.args.marks.now c.loop-number.marks acts part
