use Rattle.std.specs.Prelude.{ℤ, ◌≡◌, ◌<◌, ◌^◌}
use Rattle.std.specs.Int.{cast_signed, cast_unsigned, w64}
use Rattle.std.specs.Fmt.{signed_decimal}
use Rattle.std.proofs.Common.{ap, ◌∙◌, arith}
use Rattle.std.proofs.lemmas.Int.{of_z-to_z}
use Rattle.m3_isa.specs.Effects.{signed}
use Rattle.m3_machine.proofs.Cutting.{at_any, cut_as_told}
use Rattle.m3_machine.proofs.inputs.put_number.Goals as goal

pub returns-in_err-put-clause-cut : goal.returns-in_err-put-clause-cut
returns-in_err-put-clause-cut g c = at_any _ c.from_residual.result (λ t running.
    let low : c.word.result < 2 ^ 64 = omega (arith, c.word.type_inv) in
    let number : cast_signed w64 (cast_unsigned w64 c.cast_signed-number.result) ≡ signed t.regs c.args.i.a =
    ap (λ (z : ℤ). cast_signed w64 (cast_unsigned w64 z)) c.cast_signed-number.ensures
    ∙ ap (cast_signed w64) (of_z-to_z w64 c.word.result low ∙ c.word.ensures t running) in
    cut_as_told g.O.Sink c.args.out.now c.put.new.self c.as_bytes.result.now _ (c.as_bytes.ensures.value ∙ c.format.ensures.text ∙ ap signed_decimal number) c.in_err-put.ensures.failed.1)
