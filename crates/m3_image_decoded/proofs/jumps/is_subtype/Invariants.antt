use Rattle.std.proofs.Common.{◌<◌, map, length}
use Rattle.m3_image_decoded.specs.Ancestors.{IsSubtype}
use Rattle.m3_image_decoded.specs.ReadyTypes.{ready_type}
use Rattle.m3_image_decoded.proofs.jumps.is_subtype.Given as goal

abbrev pub invariant-loop-at : goal.invariant-loop-at
invariant-loop-at l =
    (IsSubtype (map ready_type l.types) l.at l.u → IsSubtype (map ready_type l.types) l.fn.t l.u)
    × (IsSubtype (map ready_type l.types) l.fn.t l.u → IsSubtype (map ready_type l.types) l.at l.u)
    × (l.at < length l.types)

abbrev pub decreases-loop-at : goal.decreases-loop-at
decreases-loop-at l = l.at
