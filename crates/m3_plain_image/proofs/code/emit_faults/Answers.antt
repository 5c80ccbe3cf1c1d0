use Rattle.std.proofs.Common.{◌∙◌, ap, arith}
use Rattle.std.proofs.lemmas.Int.{to_z_pos}
use Rattle.std.specs.Int.{w32}
use Rattle.m3_isa.specs.declared.instructions.Op.TheVariants.{Fault}
use Rattle.m3_plain_image.specs.Code.{on_register}
use Rattle.m3_plain_image.proofs.Building.{next_fault}
use Rattle.m3_plain_image.proofs.code.emit_faults.Goals as goal

pub loop-place-preserved : goal.loop-place-preserved
loop-place-preserved c =
    let positive = to_z_pos w32 c.loop-place.place (omega (arith, c.loop-place-test.true, c.requires)) in
    next_fault _ _ _ _ _ _ c.loop-place-test.true c.in_ok-push.ensures.items (c.on_register.ensures ∙ ap (on_register Fault 0) positive) c.loop-place.invariant
