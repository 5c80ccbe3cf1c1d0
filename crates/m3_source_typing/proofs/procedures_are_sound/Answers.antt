use Rattle.m3_source_typing.proofs.Beginning.{procedures_are_sound}
use Rattle.m3_source_typing.proofs.procedures_are_sound.Goals as goal

pub returns : goal.returns
returns d = procedures_are_sound
