use Rattle.m3_source_laws.proofs.GrowingStores.{store_grows}
use Rattle.m3_source_laws.proofs.store_grows.Goals as goal

pub returns : goal.returns
returns d = store_grows
