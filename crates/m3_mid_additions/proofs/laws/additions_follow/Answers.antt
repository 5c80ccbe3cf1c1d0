use Rattle.m3_mid_additions.proofs.Following.{follows}
use Rattle.m3_mid_additions.proofs.laws.additions_follow.Goals as goal

pub returns : goal.returns
returns c p q is names around memory answers o begins still defined run =
    follows p q is names around memory answers o begins still run
