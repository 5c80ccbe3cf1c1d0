use Rattle.std.proofs.Common.{◌≡◌, arith}
use Rattle.m3_syntax.specs.Lexis.{value}
use Rattle.m3_lexer.proofs.Counts.{value_ge_product, value_ge_sum, value_whole}
use Rattle.m3_lexer.proofs.numbers.value.Goals as goal

pub returns-in_err-checked_mul : goal.returns-in_err-checked_mul
returns-in_err-checked_mul c =
    let more = value_ge_product c.args.base c.loop-digit.number c.args.digits.now c.loop-digit.digit-index (value c.args.base c.args.digits.now) c.requires c.loop-digit-test.true c.loop-digit.invariant.rest in
    rw c.from_residual.ensures (λ small. c.in_err-checked_mul.ensures (omega (arith, more)))

pub returns-in_err-number : goal.returns-in_err-number
returns-in_err-number c =
    let more = value_ge_sum c.args.base c.loop-digit.number c.args.digits.now c.loop-digit.digit-index (value c.args.base c.args.digits.now) c.requires c.loop-digit-test.true c.loop-digit.invariant.rest in
    rw c.from_residual-in_err-number.ensures (λ small. c.in_err-number.ensures (omega (arith, more, c.in_ok-checked_mul.ensures.1, c.digit_value.ensures.value, c.from.ensures)))

pub returns : goal.returns
returns c =
    let is : c.loop-digit.number ≡ value c.args.base c.args.digits.now = value_whole c.args.base c.loop-digit.number c.args.digits.now c.loop-digit.digit-index (value c.args.base c.args.digits.now) c.loop-digit-test.false c.loop-digit.invariant.rest in
    (omega (arith, c.loop-digit.invariant.small, is), is)
