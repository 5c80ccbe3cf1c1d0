use Rattle.std.proofs.Common.{arith}
use Rattle.m3_plain.specs.Terms.{terms_of}
use Rattle.m3_plain_image.proofs.CodeShape.{puts_size_le}
use Rattle.m3_plain_image.proofs.Building.{rest_terms, no_terms, last_size, small_term}
use Rattle.m3_plain_image.proofs.code.size_of_puts.Goals as goal

pub size_of_term-requires : goal.size_of_term-requires
size_of_term-requires c =
    let e = rest_terms c.args.puts.now c.loop-put.put-index c.put-item.result c.loop-put-test.true c.put-item.is in
    small_term _ _ _ e c.loop-put.invariant.few

pub overflow_add-size : goal.overflow_add-size
overflow_add-size c =
    let e = rest_terms c.args.puts.now c.loop-put.put-index c.put-item.result c.loop-put-test.true c.put-item.is in
    let small = small_term _ _ _ e c.loop-put.invariant.few in
    record { fits = omega (arith, small, c.size_of_term.ensures) }

pub overflow_add-size-in-loop-put : goal.overflow_add-size-in-loop-put
overflow_add-size-in-loop-put c =
    let e = rest_terms c.args.puts.now c.loop-put.put-index c.put-item.result c.loop-put-test.true c.put-item.is in
    let small = small_term _ _ _ e c.loop-put.invariant.few in
    let whole = puts_size_le (terms_of c.args.puts.now) in
    record { fits = omega (arith, small, c.size_of_term.ensures, c.loop-put.invariant.size, whole, c.requires) }

pub returns-clause-small : goal.returns-clause-small
returns-clause-small c =
    let none = no_terms c.args.puts.now c.loop-put.put-index c.loop-put-test.false in
    let size = last_size _ _ _ none c.loop-put.invariant.size in
    omega (arith, size, puts_size_le (terms_of c.args.puts.now), c.requires)
