use Rattle.std.proofs.Common.{◌+◌, ◌<◌, List, [], ◌∷◌, ◌++◌, map, length, get_or, drop, arith}
use Rattle.std.proofs.lemmas.List.{drop_more, drop_all}
use Rattle.m3_roots.specs.ThreadWords.{place_from, places_from}
use Rattle.m3_roots.specs.Marking.{Act, Lists, MarksPart}
use Rattle.m3_roots.proofs.PartLemmas.{marks_more, marks_stop, marks_all}
use Rattle.m3_roots.proofs.listing.list_all.Goals as goal

pub returns-then-not-list : goal.returns-then-not-list
returns-then-not-list c =
    let index = c.loop-number.number-index in
    let all = c.args.numbers.now in
    let lt : index < length all = omega arith in
    let acts : List Act = map Lists (places_from c.args.first c.args.numbers.now) in
    let item : List Act = Lists (place_from c.args.first (get_or all index 0)) ∷ [] in
    let rest : List Act = map Lists (places_from c.args.first (drop (index + 1) all)) in
    let part : MarksPart c.args.marks.now c.loop-number.marks acts (item ++ rest) = rw (drop_more all index 0 lt) at c.loop-number.invariant in
    marks_stop c.args.marks.now c.loop-number.marks c.list.new.marks acts item rest part c.if-not-list.ensures

pub loop-number-preserved : goal.loop-number-preserved
loop-number-preserved c =
    let index = c.loop-number.number-index in
    let all = c.args.numbers.now in
    let lt : index < length all = omega arith in
    let acts : List Act = map Lists (places_from c.args.first c.args.numbers.now) in
    let item : List Act = Lists (place_from c.args.first (get_or all index 0)) ∷ [] in
    let rest : List Act = map Lists (places_from c.args.first (drop (index + 1) all)) in
    let part : MarksPart c.args.marks.now c.loop-number.marks acts (item ++ rest) = rw (drop_more all index 0 lt) at c.loop-number.invariant in
    marks_more c.args.marks.now c.loop-number.marks c.list.new.marks acts item rest part c.if-not-list.ensures

pub returns : goal.returns
returns c =
    let acts : List Act = map Lists (places_from c.args.first c.args.numbers.now) in
    let part : MarksPart c.args.marks.now c.loop-number.marks acts [] = rw (drop_all c.loop-number.number-index c.args.numbers.now (omega arith)) at c.loop-number.invariant in
    marks_all c.args.marks.now c.loop-number.marks acts part
