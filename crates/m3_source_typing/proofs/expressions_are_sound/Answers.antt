use Rattle.m3_source_typing.proofs.Expressions.{expressions_are_sound}
use Rattle.m3_source_typing.proofs.expressions_are_sound.Goals as goal

pub returns : goal.returns
returns d = expressions_are_sound
