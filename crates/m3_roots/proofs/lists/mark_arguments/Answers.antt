use Rattle.std.proofs.Common.{◌≡◌, ℕ, List, map, get_or, sym, ap, ◌∙◌, subst, arith}
use Rattle.m3_image_decoded.specs.Ready.{image_of}
use Rattle.m3_tables.specs.Views.{numbers_of}
use Rattle.m3_roots.specs.ThreadWords.{places_from}
use Rattle.m3_roots.specs.RowMeaning.{newest_arguments}
use Rattle.m3_roots.specs.Marking.{Lists, MarksAll}
use Rattle.m3_roots.proofs.StepLemmas.{no_frame, IsRowOf, arguments_of, newest_is}
use Rattle.m3_roots.proofs.lists.mark_arguments.Goals as goal

pub returns : goal.returns
returns c = λ rows.
    (let p = (image_of c.args.image.now).program in
    let frames = c.args.frames.now in
    let f = get_or frames 0 no_frame in
    let is : IsRowOf p f c.in-Some.row = record { section = c.in-Some.ensures.some.0; number = c.in-Some.ensures.some.1 } in
    let numbers = numbers_of c.argument_places.result in
    let places : places_from f.first numbers ≡ newest_arguments p frames = ap (places_from f.first) c.argument_places.ensures ∙ arguments_of p f c.in-Some.row is ∙ sym (newest_is p frames no_frame (omega arith)) in
    subst (λ (places : List ℕ). MarksAll c.args.marks.now c.list_numbers.new.marks (map Lists places) c.list_numbers.result) places c.list_numbers.ensures)
