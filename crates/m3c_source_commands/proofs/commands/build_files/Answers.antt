use Rattle.std.proofs.Common.{ℕ, List, [], map, refl}
use Rattle.m3c_image_commands.specs.Statuses.{Shelving, shelving}
use Rattle.m3c_image_commands.proofs.FetchLemmas.{rises}
use Rattle.m3c_source_commands.specs.Texts.{texts_of}
use Rattle.m3c_source_commands.proofs.OrderLemmas.{builds_stored, builds_refused, is_ok, named_files, named_refused, stores_on}
use Rattle.m3c_source_commands.proofs.commands.build_files.Goals as goal

pub returns-in-Ok : goal.returns-in-Ok
returns-in-Ok g c =
    let a : Shelving = shelving g.F.Shelf c.args.shelf.now c.fetch_sources.new.shelf in
    let b : Shelving = shelving g.F.Shelf c.fetch_sources.new.shelf c.store_image.new.shelf in
    let files : List (List ℕ) = map (λ n. n.now) c.args.files.now in
    builds_stored g.C.Checks.judges _ c.args.name.now files c.compile_files.new.image.items _ c.deref.result.now c.store_image.result c.deref.ensures.value c.in_ok-sources.ensures.read
    (stores_on a b (record { held = refl; faults = refl; store_faults = refl; absences = refl; excesses = refl }) (rises c.fetch_sources.ensures.fetches) c.args.name.now c.deref.result.now c.store_image.result c.store_image.ensures)
    (named_files g.C.Checks.judges files _ (texts_of c.in_ok-sources.sources) c.compile_files.new.image.items c.in_ok-sources.ensures.named (c.compile_files.ensures.ok (is_ok c.compile_files.result _ c.in-Ok.is)))

pub returns : goal.returns
returns g c =
    let files : List (List ℕ) = map (λ n. n.now) c.args.files.now in
    builds_refused g.C.Checks.judges _ c.args.name.now files c.compile_files.new.image.items _ c.in-Err.answer c.in_ok-sources.ensures.read (named_refused g.C.Checks.judges files _ (texts_of c.in_ok-sources.sources) [] c.in-Err.answer c.in_ok-sources.ensures.named c.in-Err.ensures.err) c.in_ok-sources.ensures.fetches.held
