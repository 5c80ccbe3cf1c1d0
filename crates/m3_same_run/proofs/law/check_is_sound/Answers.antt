use Rattle.m3_same_run.proofs.Blocks.{follows}
use Rattle.m3_same_run.proofs.law.check_is_sound.Goals as goal

pub returns : goal.returns
returns c common p q jumps proof e = follows common p q jumps proof e
