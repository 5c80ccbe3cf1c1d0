use Rattle.std.proofs.Common.{true, false, List, ◌++◌, map, subst}
use Rattle.m3_image_decoded.specs.Ready.{image_of}
use Rattle.m3_roots.specs.ThreadWords.{Derived, place_of}
use Rattle.m3_roots.specs.RowMeaning.{tidy_of_frame, derived_of_frame}
use Rattle.m3_roots.specs.RowLists.{derived_places}
use Rattle.m3_roots.specs.Marking.{Act, Lists, Derives, MarksAll}
use Rattle.m3_roots.specs.BarActs.{bar_acts}
use Rattle.m3_roots.proofs.PartLemmas.{marks_then, marks_fail}
use Rattle.m3_roots.proofs.StepLemmas.{IsRowOf, derived_of}
use Rattle.m3_roots.proofs.lists.mark_frame.Goals as goal

pub returns-then-bar_all : goal.returns-then-bar_all
returns-then-bar_all c = λ there.
    (let p = (image_of c.args.image.now).program in
    let f = c.args.frame.now in
    let is : IsRowOf p f c.in-Some.row = record { section = c.in-Some.ensures.some.0; number = c.in-Some.ensures.some.1 } in
    let bars = subst (λ (ds : List Derived). MarksAll c.args.marks.now c.bar_all.new.marks (bar_acts f.first ds) true) (derived_of p f c.in-Some.row is) c.if-bar_all.ensures in
    let ys : List Act = map Lists (tidy_of_frame p f) ++ map Derives (derived_places p f) in
    let lists = subst (λ (ds : List Derived). MarksAll c.bar_all.new.marks c.list_row.new.marks (map Lists (tidy_of_frame p f) ++ map Derives (map place_of ds)) c.list_row.result) (derived_of p f c.in-Some.row is)
    (rw c.in-Some-tidy_places.ensures.told at c.list_row.ensures) in
    marks_then c.args.marks.now c.bar_all.new.marks c.list_row.new.marks (bar_acts f.first (derived_of_frame p f)) ys c.list_row.result bars lists)

pub returns-else-bar_all : goal.returns-else-bar_all
returns-else-bar_all c = λ there.
    (let p = (image_of c.args.image.now).program in
    let f = c.args.frame.now in
    let is : IsRowOf p f c.in-Some.row = record { section = c.in-Some.ensures.some.0; number = c.in-Some.ensures.some.1 } in
    let bars = subst (λ (ds : List Derived). MarksAll c.args.marks.now c.bar_all.new.marks (bar_acts f.first ds) false) (derived_of p f c.in-Some.row is) c.if-bar_all.ensures in
    let ys : List Act = map Lists (tidy_of_frame p f) ++ map Derives (derived_places p f) in
    rw c.if-bar_all.false (marks_fail c.args.marks.now c.bar_all.new.marks (bar_acts f.first (derived_of_frame p f)) ys bars))
