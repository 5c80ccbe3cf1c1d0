use Rattle.std.proofs.Common.{to_z, of_z, w64}
use Rattle.m3_mid_additions.specs.Additions.{number}
use Rattle.m3_gen_bases.proofs.rewriting.telling.Goals as goal

pub returns : goal.returns
returns c = number c.in_ok-to.to (to_z w64 (of_z w64 c.from-value.result)) c.in_ok-to.ensures.behind
