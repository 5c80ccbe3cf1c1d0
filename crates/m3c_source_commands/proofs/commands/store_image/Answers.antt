use Rattle.m3c_image_commands.specs.Statuses.{Shelving, shelving}
use Rattle.m3c_source_commands.proofs.OrderLemmas.{stores_refused}
use Rattle.m3c_source_commands.proofs.commands.store_image.Goals as goal

pub returns-in-Err : goal.returns-in-Err
returns-in-Err g c =
    let shelf : Shelving = shelving g.F.Shelf c.args.shelf.now c.store.new.self in
    stores_refused shelf c.args.name.now c.args.image.now c.store_refusal.result c.in-Err.fault c.store.result c.in-Err.is c.store.ensures.not_absent c.store.ensures.not_too_long
    c.store.ensures.failed c.store.ensures.no_memory c.store_refusal.ensures.no_memory c.store_refusal.ensures.others
