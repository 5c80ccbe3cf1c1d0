use Rattle.m3_source_typing.proofs.Statements.{bodies_are_sound}
use Rattle.m3_source_typing.proofs.bodies_are_sound.Goals as goal

pub returns : goal.returns
returns d = bodies_are_sound
