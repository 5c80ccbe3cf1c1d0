use Rattle.std.proofs.Common.{◌+◌, ◌-◌, ◌/◌, ◌<◌, sym, get_or, arith, inl, inr}
use Rattle.std.proofs.lemmas.Bool.{cases_lt}
use Rattle.m3_tables.specs.Views.{numbers_of}
use Rattle.m3_tables.proofs.NumberLemmas.{has_at, has_not, below_to, above_from, length-numbers}
use Rattle.m3_tables.proofs.numbers.Numbers.has.Goals as goal

pub returns-then-found-number : goal.returns-then-found-number
returns-then-found-number c =
    let ln = length-numbers c.args.self.now.count c.args.self.now.bytes.now in
    let inside = c.loop-low.invariant.0 in
    sym (has_at (numbers_of c.args.self.now) c.args.number (c.loop-low.low + (c.loop-low.high - c.loop-low.low) / 2) (omega arith) (omega arith))

pub loop-low-preserved-then-found-number-2 : goal.loop-low-preserved-then-found-number-2
loop-low-preserved-then-found-number-2 c =
    let ln = length-numbers c.args.self.now.count c.args.self.now.bytes.now in
    let inside = c.loop-low.invariant.0 in
    (inside, below_to (numbers_of c.args.self.now) (c.loop-low.low + (c.loop-low.high - c.loop-low.low) / 2) c.args.number c.requires (omega arith) (omega arith), c.loop-low.invariant.2)

pub loop-low-preserved : goal.loop-low-preserved
loop-low-preserved c =
    let ln = length-numbers c.args.self.now.count c.args.self.now.bytes.now in
    let inside = c.loop-low.invariant.0 in
    let middle = c.loop-low.low + (c.loop-low.high - c.loop-low.low) / 2 in
    let ne = c.if-found-number.false in
    let above : c.args.number < get_or (numbers_of c.args.self.now) middle 0 = omega arith in
    (omega arith, c.loop-low.invariant.1, λ k le lt. above_from (numbers_of c.args.self.now) middle c.args.number c.requires above k le (omega arith))

pub returns : goal.returns
returns c =
    let ln = length-numbers c.args.self.now.count c.args.self.now.bytes.now in
    let i = c.loop-low.invariant in
    sym (has_not (numbers_of c.args.self.now) c.args.number (λ k lt e.
    elim (cases_lt k c.loop-low.low) [
      | inl less ↦ (let b = i.1 k less in omega arith)
      | inr more ↦ (let b = i.2 k (omega arith) (omega arith) in omega arith)
    ]))
