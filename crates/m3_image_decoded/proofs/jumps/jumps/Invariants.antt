use Rattle.std.proofs.Common.{◌≡◌, map, length}
use Rattle.m3_image_decoded.specs.Jumps.{JumpsFit}
use Rattle.m3_image_decoded.specs.ReadyTypes.{ready_type}
use Rattle.m3_image_decoded.proofs.jumps.jumps.Given as goal

abbrev pub invariant-loop-number : goal.invariant-loop-number
invariant-loop-number l = (JumpsFit (map ready_type l.types) l.found.items) × (length l.found.items ≡ l.number)
