use Rattle.std.proofs.Common.{◌≡◌, sym, ap, ◌∙◌, arith}
use Rattle.std.specs.Int.{cast_signed, cast_unsigned, w64}
use Rattle.std.proofs.lemmas.Int.{to_z-of_z}
use Rattle.m3_plain.specs.Terms.{term_of}
use Rattle.m3_plain.specs.Parsing.{sum_on, left_of, left_after, product_after}
use Rattle.m3_plain.proofs.Parsings.{sum_goes_on}
use Rattle.m3_plain.proofs.parsing.sum.Goals as goal

pub loop-op-preserved : goal.loop-op-preserved
loop-op-preserved c =
    let left = left_of c.loop-op.left in
    let product = term_of c.loop-op.product in
    let number : cast_signed w64 (cast_unsigned w64 c.in_ok-number.number) ≡ c.in_ok-number.number = grind (arith, to_z-of_z) in
    ap (λ l. sum_on l (term_of c.in_ok-sum.factor) c.in_ok-number.after.now) c.in_ok-sum.ensures.left
    ∙ ap (λ p. sum_on (left_after c.in-Some.op c.in-Some.line left product) p c.in_ok-number.after.now) (c.in_ok-sum.ensures.product ∙ ap (λ n. product_after c.in-Some.op c.in-Some.line product n) number)
    ∙ sym (sum_goes_on left product c.loop-op.rest.now c.in-Some.after.now c.in_ok-number.after.now c.in-Some.op c.in-Some.line c.in_ok-number.number c.in-Some.ensures.found c.in_ok-number.ensures.ok)
    ∙ c.loop-op.invariant
