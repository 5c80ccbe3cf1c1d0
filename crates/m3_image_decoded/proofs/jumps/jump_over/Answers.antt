use Rattle.std.proofs.Common.{◌<◌, length, map, slice_index_or, arith}
use Rattle.m3_image_decoded.specs.declared.jumps.Jump.{Jump}
use Rattle.m3_image_decoded.specs.ReadyTypes.{ready_type}
use Rattle.m3_image_decoded.proofs.AncestorLemmas.{over_jump}
use Rattle.m3_image_decoded.proofs.jumps.jump_over.Goals as goal

pub returns-then-above-far : goal.returns-then-above-far
returns-then-above-far c =
    let nowhere : Jump = record { to = 0; up = 0 } in
    let near : c.args.parent < length c.args.jumps.now = omega (arith, c.requires.lower, c.requires.all) in
    let first = c.requires.jumps c.args.parent nowhere near in
    let further : (slice_index_or c.args.jumps.now c.args.parent nowhere).to < length c.args.jumps.now = omega (arith, first.lower, near) in
    over_jump (map ready_type c.args.types.now) c.args.number c.args.parent _ _ c.requires.parent c.requires.lower first (c.requires.jumps _ nowhere further)
