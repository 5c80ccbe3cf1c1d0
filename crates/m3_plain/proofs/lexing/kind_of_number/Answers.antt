use Rattle.std.proofs.Common.{arith}
use Rattle.m3_plain.proofs.Numbers.{over_mul, over_add}
use Rattle.m3_plain.proofs.lexing.kind_of_number.Goals as goal

pub returns-in_err-checked_mul : goal.returns-in_err-checked_mul
returns-in_err-checked_mul c =
    let none = over_mul c.args.word.now c.loop-b.b-index c.loop-b.number c.loop-b-test.true c.in_err-checked_mul.ensures c.loop-b.invariant.number in
    cc

pub returns-in_err-number : goal.returns-in_err-number
returns-in_err-number c =
    let none = over_add c.args.word.now c.loop-b.b-index c.loop-b.number c.in_ok-checked_mul.field-0 c.from.result c.loop-b-test.true (omega (arith, c.in_ok-checked_mul.ensures)) (omega (arith, c.from.ensures)) c.in_err-number.ensures c.loop-b.invariant.number in
    cc
