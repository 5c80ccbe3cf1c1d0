use Rattle.std.proofs.Common.{sym}
use Rattle.m3_image_decoded.proofs.jumps.jumps.Goals as goal

pub jump_over-jump-requires-clause-lower : goal.jump_over-jump-requires-clause-lower
jump_over-jump-requires-clause-lower c = c.requires c.loop-number.number c.in-Some.parent (sym c.in-Some.ensures)
