use Rattle.m3_follows.proofs.Collections.{collections_ignored}
use Rattle.m3_follows.proofs.collections_ignored.Goals as goal

pub returns : goal.returns
returns d = collections_ignored
