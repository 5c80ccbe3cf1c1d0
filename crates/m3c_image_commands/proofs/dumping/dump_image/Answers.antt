use Rattle.m3c_image_commands.proofs.RunLemmas.{dumps_fetched}
use Rattle.m3c_image_commands.proofs.dumping.dump_image.Goals as goal

pub returns-in-Ok : goal.returns-in-Ok
returns-in-Ok g c = dumps_fetched _ _ c.args.name.now _ _ c.dump_bytes.result c.deref.ensures.value c.in-Ok.ensures.fetches.held c.in-Ok.ensures.image c.dump_bytes.ensures
