use Rattle.std.proofs.Common.{◌≡◌, ◌+◌, List, ℕ, length, Some, None, sym, subst, arith}
use Rattle.std.proofs.lemmas.Bool.Decides.{nat_tests}
use Rattle.std.proofs.lemmas.List.{nil_from_length}
use Rattle.m3_base.specs.declared.outcomes.Entry.{Entry}
use Rattle.m3_base.specs.Schedules.{entry_in, most_entries, IsFirstBadLine}
use Rattle.m3_base.proofs.Reading.{IsReadTo, read_on, too_many, bad_line, read_whole}
use Rattle.m3_base.proofs.schedules.read_schedule.Goals as goal

pub returns-then-len-eq-MOST_ENTRIES-clause-err : goal.returns-then-len-eq-MOST_ENTRIES-clause-err
returns-then-len-eq-MOST_ENTRIES-clause-err c =
    let full : length c.loop-rest.entries.items ≡ most_entries = omega (arith, c.len.ensures, c.if-len-eq-MOST_ENTRIES.true) in
    too_many _ _ _ _ _ c.loop-rest.invariant c.first_line.ensures.lines full

pub returns-in_default-clause-err : goal.returns-in_default-clause-err
returns-in_default-clause-err c =
    let not_full : length c.loop-rest.entries.items ≡ most_entries → ⊥ = λ full. omega (arith, full, c.len.ensures, c.if-len-eq-MOST_ENTRIES.false) in
    let refused : entry_in c.first_line.result.0.now ≡ None = cc in
    let bad = bad_line c.args.bytes.now c.loop-rest.entries.items c.loop-rest.rest.now c.first_line.result.0.now c.first_line.result.1.now c.loop-rest.invariant c.first_line.ensures.lines refused not_full in
    let P : ℕ → Type 0 = λ n. IsFirstBadLine c.args.bytes.now (n + 1) in
    let same : length c.loop-rest.entries.items ≡ c.len-in_default.result = omega (arith, c.len-in_default.ensures) in
    subst P same bad

pub loop-rest-preserved : goal.loop-rest-preserved
loop-rest-preserved c =
    let not_full : length c.loop-rest.entries.items ≡ most_entries → ⊥ = λ full. omega (arith, full, c.len.ensures, c.if-len-eq-MOST_ENTRIES.false) in
    let found : entry_in c.first_line.result.0.now ≡ Some c.in-Some.entry = cc in
    let next = read_on c.args.bytes.now c.loop-rest.entries.items c.loop-rest.rest.now c.first_line.result.0.now c.first_line.result.1.now c.in-Some.entry c.loop-rest.invariant c.first_line.ensures.lines found not_full in
    let P : List Entry → Type 0 = λ items. IsReadTo c.args.bytes.now items c.first_line.result.1.now in
    subst P (sym c.in_ok-push.ensures.items) next

pub returns-clause-ok : goal.returns-clause-ok
returns-clause-ok c =
    let empty : length c.loop-rest.rest.now ≡ 0 = grind (arith, nat_tests) in
    let P : List ℕ → Type 0 = λ rest. IsReadTo c.args.bytes.now c.loop-rest.entries.items rest in
    read_whole c.args.bytes.now c.loop-rest.entries.items (subst P (nil_from_length _ empty) c.loop-rest.invariant)
