use Rattle.std.proofs.Common.{List, [], ◌∷◌, ◌++◌, map}
use Rattle.std.specs.List.{flat_map}
use Rattle.m3_tables.specs.Tables.{derived_in}
use Rattle.m3_roots.specs.ThreadWords.{place_from, derived_from, path_places, base_places}
use Rattle.m3_roots.specs.Marking.{Act, Bars, Uses}
use Rattle.m3_roots.proofs.PartLemmas.{marks_then, marks_fail}
use Rattle.m3_roots.proofs.listing.bar_all.Goals as goal

pub returns-then-bar_frame : goal.returns-then-bar_frame
returns-then-bar_frame c =
    let ds = derived_from c.args.first (derived_in c.args.row.now) in
    let xs : List Act = Bars (place_from c.args.first 16) ∷ Bars (place_from c.args.first 17) ∷ [] in
    let ys : List Act = map Bars (flat_map path_places ds) ++ map Uses (flat_map base_places ds) in
    marks_then c.args.marks.now c.bar_frame.new.marks c.bar_row.new.marks xs ys c.bar_row.result c.if-bar_frame.ensures c.bar_row.ensures

pub returns-else-bar_frame : goal.returns-else-bar_frame
returns-else-bar_frame c =
    let ds = derived_from c.args.first (derived_in c.args.row.now) in
    let xs : List Act = Bars (place_from c.args.first 16) ∷ Bars (place_from c.args.first 17) ∷ [] in
    let ys : List Act = map Bars (flat_map path_places ds) ++ map Uses (flat_map base_places ds) in
    rw c.if-bar_frame.false (marks_fail c.args.marks.now c.bar_frame.new.marks xs ys c.if-bar_frame.ensures)
