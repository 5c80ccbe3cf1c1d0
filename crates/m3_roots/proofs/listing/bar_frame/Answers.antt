use Rattle.std.proofs.Common.{List, [], ◌∷◌}
use Rattle.m3_roots.specs.ThreadWords.{place_from}
use Rattle.m3_roots.specs.Marking.{Act, Bars}
use Rattle.m3_roots.proofs.PartLemmas.{marks_then, marks_fail}
use Rattle.m3_roots.proofs.listing.bar_frame.Goals as goal

pub returns-then-bar : goal.returns-then-bar
returns-then-bar c =
    let xs : List Act = Bars (place_from c.args.first 16) ∷ [] in
    let ys : List Act = Bars (place_from c.args.first 17) ∷ [] in
    marks_then c.args.marks.now c.bar.new.marks c.bar-then-bar.new.marks xs ys c.bar-then-bar.result c.if-bar.ensures c.bar-then-bar.ensures

pub returns-else-bar : goal.returns-else-bar
returns-else-bar c =
    let xs : List Act = Bars (place_from c.args.first 16) ∷ [] in
    let ys : List Act = Bars (place_from c.args.first 17) ∷ [] in
    rw c.if-bar.false (marks_fail c.args.marks.now c.bar.new.marks xs ys c.if-bar.ensures)
