use Rattle.std.proofs.Common.{◌+◌, ◌-◌, ◌/◌, ◌<◌, ◌≡◌, ◌∙◌, sym, get_or, arith, inl, inr}
use Rattle.std.proofs.lemmas.Bool.{cases_lt}
use Rattle.std.proofs.lemmas.List.{length-map}
use Rattle.m3_tables_writer.specs.Plain.{place_number, place_numbers}
use Rattle.m3_tables.proofs.NumberLemmas.{has_at, has_not, below_to, above_from}
use Rattle.m3_tables_writer.proofs.PlainLemmas.{numbers_at}
use Rattle.m3_tables_writer.proofs.comparing.has_number.Goals as goal

pub returns-then-found-wanted : goal.returns-then-found-wanted
returns-then-found-wanted c =
    let ln = length-map c.args.places.now place_number in
    let inside = c.loop-low.invariant.0 in
    let middle = c.loop-low.low + (c.loop-low.high - c.loop-low.low) / 2 in
    let read : c.number-found.result ≡ get_or (place_numbers c.args.places.now) middle 0 = c.number-found.ensures ∙ numbers_at c.args.places.now middle _ (omega arith) in
    sym (has_at (place_numbers c.args.places.now) c.args.wanted middle (omega arith) (omega arith))

pub loop-low-preserved-then-found-wanted-2 : goal.loop-low-preserved-then-found-wanted-2
loop-low-preserved-then-found-wanted-2 c =
    let ln = length-map c.args.places.now place_number in
    let inside = c.loop-low.invariant.0 in
    let middle = c.loop-low.low + (c.loop-low.high - c.loop-low.low) / 2 in
    let read : c.number-found.result ≡ get_or (place_numbers c.args.places.now) middle 0 = c.number-found.ensures ∙ numbers_at c.args.places.now middle _ (omega arith) in
    (inside, below_to (place_numbers c.args.places.now) middle c.args.wanted c.requires (omega arith) (omega arith), c.loop-low.invariant.2)

pub loop-low-preserved : goal.loop-low-preserved
loop-low-preserved c =
    let ln = length-map c.args.places.now place_number in
    let inside = c.loop-low.invariant.0 in
    let middle = c.loop-low.low + (c.loop-low.high - c.loop-low.low) / 2 in
    let read : c.number-found.result ≡ get_or (place_numbers c.args.places.now) middle 0 = c.number-found.ensures ∙ numbers_at c.args.places.now middle _ (omega arith) in
    let ne = c.if-found-wanted.false in
    let above : c.args.wanted < get_or (place_numbers c.args.places.now) middle 0 = omega arith in
    (omega arith, c.loop-low.invariant.1, λ k le lt. above_from (place_numbers c.args.places.now) middle c.args.wanted c.requires above k le (omega arith))

pub returns : goal.returns
returns c =
    let ln = length-map c.args.places.now place_number in
    let i = c.loop-low.invariant in
    sym (has_not (place_numbers c.args.places.now) c.args.wanted (λ k lt e.
    elim (cases_lt k c.loop-low.low) [
      | inl less ↦ (let b = i.1 k less in omega arith)
      | inr more ↦ (let b = i.2 k (omega arith) (omega arith) in omega arith)
    ]))
