use Rattle.std.proofs.Common.{arith, sym, ◌∙◌, ◌<◌}
use Rattle.m3_tables.specs.Rows.{All_of}
use Rattle.m3_tables.specs.Views.{numbers_of}
use Rattle.m3_tables.proofs.SectionLemmas.{tidy_is, tidy_added, tidy_removed, tidy_stays, tidy_same}
use Rattle.m3_tables.proofs.section.Section.is_tidy.Goals as goal
use Rattle.m3_tables.proofs.section.Section.is_tidy.Goals.{in-Change+else-has+else-has-2, in-Same}

pub returns-in-Ground : goal.returns-in-Ground
returns-in-Ground c =
    let told = rw c.in-Ground.is at c.in-Some.ensures in
    c.has.ensures ∙ sym (tidy_is c.args.self.now.bytes.now c.loop-listing.row c.args.place (All_of (numbers_of c.in-Ground.places)) c.in-Some.field-0-1.now told) ∙ c.loop-listing.invariant.1

pub returns-then-has : goal.returns-then-has
returns-then-has c =
    let told = rw c.in-Change.is at c.in-Some.ensures in
    tidy_added c.args.self.now.bytes.now c.loop-listing.row c.args.place (numbers_of c.in-Change.removed) (numbers_of c.in-Change.added) c.in-Some.field-0-1.now told c.if-has.ensures ∙ c.loop-listing.invariant.1

pub returns-then-has-2 : goal.returns-then-has-2
returns-then-has-2 c =
    let told = rw c.in-Change.is at c.in-Some.ensures in
    tidy_removed c.args.self.now.bytes.now c.loop-listing.row c.args.place (numbers_of c.in-Change.removed) (numbers_of c.in-Change.added) c.in-Some.field-0-1.now told c.if-has.ensures c.if-has-2.ensures ∙ c.loop-listing.invariant.1

pub loop-listing-preserved : goal.loop-listing-preserved
loop-listing-preserved c =
    let ne = c.if-row-eq0.false in
    let more : 0 < c.loop-listing.row = omega arith in
    let le = c.loop-listing.invariant.0 in
    elim c.match-listing-2.branch [
      | in-Change+else-has+else-has-2 w ↦ (let told = rw w.in-Change.is at c.in-Some.ensures in
          (omega arith, tidy_stays c.args.self.now.bytes.now c.loop-listing.row c.args.place (numbers_of w.in-Change.removed) (numbers_of w.in-Change.added) c.in-Some.field-0-1.now told w.if-has.ensures w.if-has-2.ensures more ∙ c.loop-listing.invariant.1))
      | in-Same w ↦ (let told = rw w.in-Same.is at c.in-Some.ensures in
          (omega arith, tidy_same c.args.self.now.bytes.now c.loop-listing.row c.args.place c.in-Some.field-0-1.now told more ∙ c.loop-listing.invariant.1))
    ]
