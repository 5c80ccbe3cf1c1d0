use Rattle.std.proofs.Common.{◌<◌, ◌∙◌, ℕ, Bool, arith}
use Rattle.std.specs.Prelude.{not, ◌||◌, nat_lt}
use Rattle.m3_tables.specs.Sections.{is_tidy}
use Rattle.m3_tables.specs.Views.{numbers_of}
use Rattle.m3_tables.proofs.SectionLemmas.{all_ground, all_failed, all_first, all_first_same, all_more, all_more_same}
use Rattle.m3_tables.proofs.section.Section.all_tidy_below.Goals as goal
use Rattle.m3_tables.proofs.section.Section.all_tidy_below.Goals.{in-Change+else-not-tidy_below, in-Same}

pub returns-in-Ground : goal.returns-in-Ground
returns-in-Ground c =
    let test : ℕ → Bool = λ l. not (is_tidy c.args.self.now.bytes.now c.args.row l) || nat_lt l c.args.limit in
    let told = rw c.in-Ground.is at c.in-Some.ensures in
    c.tidy_below.ensures ∙ all_ground test c.args.self.now.bytes.now c.loop-listing.at (numbers_of c.in-Ground.places) c.in-Some.field-0-1.now told ∙ c.loop-listing.invariant.1

pub returns-then-not-tidy_below : goal.returns-then-not-tidy_below
returns-then-not-tidy_below c =
    let test : ℕ → Bool = λ l. not (is_tidy c.args.self.now.bytes.now c.args.row l) || nat_lt l c.args.limit in
    let told = rw c.in-Change.is at c.in-Some.ensures in
    all_failed test c.args.self.now.bytes.now c.loop-listing.at (numbers_of c.in-Change.field-0) (numbers_of c.in-Change.added) c.in-Some.field-0-1.now told c.if-not-tidy_below.ensures ∙ c.loop-listing.invariant.1

pub returns-then-at-eq0 : goal.returns-then-at-eq0
returns-then-at-eq0 c =
    let test : ℕ → Bool = λ l. not (is_tidy c.args.self.now.bytes.now c.args.row l) || nat_lt l c.args.limit in
    let section = c.args.self.now.bytes.now in
    let first = rw c.if-at-eq0.true at c.in-Some.ensures in
    let here = rw c.if-at-eq0.true at c.loop-listing.invariant.1 in
    elim c.match-listing-2.branch [
      | in-Change+else-not-tidy_below w ↦ (let told = rw w.in-Change.is at first in
          all_first test section (numbers_of w.in-Change.field-0) (numbers_of w.in-Change.added) c.in-Some.field-0-1.now told w.if-not-tidy_below.ensures ∙ here)
      | in-Same w ↦ (let told = rw w.in-Same.is at first in
          all_first_same test section c.in-Some.field-0-1.now told ∙ here)
    ]

pub loop-listing-preserved : goal.loop-listing-preserved
loop-listing-preserved c =
    let test : ℕ → Bool = λ l. not (is_tidy c.args.self.now.bytes.now c.args.row l) || nat_lt l c.args.limit in
    let section = c.args.self.now.bytes.now in
    let ne = c.if-at-eq0.false in
    let more : 0 < c.loop-listing.at = omega arith in
    let le = c.loop-listing.invariant.0 in
    elim c.match-listing-2.branch [
      | in-Change+else-not-tidy_below w ↦ (let told = rw w.in-Change.is at c.in-Some.ensures in
          (omega arith, all_more test section c.loop-listing.at (numbers_of w.in-Change.field-0) (numbers_of w.in-Change.added) c.in-Some.field-0-1.now told w.if-not-tidy_below.ensures more ∙ c.loop-listing.invariant.1))
      | in-Same w ↦ (let told = rw w.in-Same.is at c.in-Some.ensures in
          (omega arith, all_more_same test section c.loop-listing.at c.in-Some.field-0-1.now told more ∙ c.loop-listing.invariant.1))
    ]
