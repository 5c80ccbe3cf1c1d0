use Rattle.std.proofs.Common.{suc, ◌≡◌, ◌-◌, ◌≤◌, get_or, sym, arith}
use Rattle.m3_tables.specs.Views.{numbers_of}
use Rattle.m3_tables.proofs.NumberLemmas.{rises_from, rises_not, length-numbers}
use Rattle.m3_tables.proofs.numbers.Numbers.rises.Goals as goal

pub returns-then-at : goal.returns-then-at
returns-then-at c =
    let xs = numbers_of c.args.self.now in
    let ln = length-numbers c.args.self.now.count c.args.self.now.bytes.now in
    let e : suc (c.loop-place.place - 1) ≡ c.loop-place.place = omega arith in
    let le : get_or xs c.loop-place.place 0 ≤ get_or xs (c.loop-place.place - 1) 0 = omega arith in
    sym (rises_not xs (c.loop-place.place - 1) (omega arith) (rw e le))

pub returns : goal.returns
returns c =
    let ln = length-numbers c.args.self.now.count c.args.self.now.bytes.now in
    sym (rises_from (numbers_of c.args.self.now) (λ k lt. c.loop-place.invariant k (omega arith)))
