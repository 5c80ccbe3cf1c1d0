use Rattle.std.proofs.Common.{List, map}
use Rattle.std.specs.List.{flat_map}
use Rattle.m3_tables.specs.Tables.{derived_in}
use Rattle.m3_roots.specs.ThreadWords.{derived_from, path_places, base_places}
use Rattle.m3_roots.specs.Marking.{Act, Bars, Uses}
use Rattle.m3_roots.proofs.PartLemmas.{marks_then, marks_fail}
use Rattle.m3_roots.proofs.listing.bar_row.Goals as goal

pub returns-then-bar_paths : goal.returns-then-bar_paths
returns-then-bar_paths c =
    let ds = derived_from c.args.first (derived_in c.args.row.now) in
    let xs : List Act = map Bars (flat_map path_places ds) in
    let ys : List Act = map Uses (flat_map base_places ds) in
    marks_then c.args.marks.now c.bar_paths.new.marks c.bar_paths.new.marks xs ys c.bases_are_plain.result c.if-bar_paths.ensures c.bases_are_plain.ensures

pub returns-else-bar_paths : goal.returns-else-bar_paths
returns-else-bar_paths c =
    let ds = derived_from c.args.first (derived_in c.args.row.now) in
    let xs : List Act = map Bars (flat_map path_places ds) in
    let ys : List Act = map Uses (flat_map base_places ds) in
    rw c.if-bar_paths.false (marks_fail c.args.marks.now c.bar_paths.new.marks xs ys c.if-bar_paths.ensures)
