use Rattle.m3_mid_meaning.proofs.Layouts.{agrees}
use Rattle.m3_mid_meaning.proofs.laws.every_layout.Goals as goal

pub returns : goal.returns
returns c lies v w = agrees lies v w
