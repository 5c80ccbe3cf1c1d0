use Rattle.std.proofs.Common.{◌≡◌, ◌<◌, ◌∙◌, sym, arith}
use Rattle.m3_tables.specs.Views.{tidies_of, contents_of}
use Rattle.m3_tables.specs.Rows.{nothing}
use Rattle.m3_tables.specs.Sections.{contents_in}
use Rattle.m3_tables.proofs.SectionLemmas.{contents_at_row, contents_none, contents_lost, contents_first, contents_same}
use Rattle.m3_tables.proofs.ViewLemmas.{not_unchanged}
use Rattle.m3_tables.proofs.row.Row.contents.Goals as goal
use Rattle.m3_tables.proofs.row.Row.contents.Goals.{in-Some+in-Same+then-row-eq0, in_default}

pub loop-listing-preserved : goal.loop-listing-preserved
loop-listing-preserved c =
    let told = rw c.in-Same.is at c.in-Some.ensures in
    let ne = c.if-row-eq0.false in
    let more : 0 < c.loop-listing.row = omega arith in
    let le = c.loop-listing.invariant.0 in
    (omega arith, contents_same c.args.self.now.section.bytes.now c.loop-listing.row c.in-Some.rest.now told more ∙ c.loop-listing.invariant.1)

pub returns-in-Some-contents_at : goal.returns-in-Some-contents_at
returns-in-Some-contents_at c =
    sym (contents_at_row c.args.self.now.section.bytes.now c.loop-listing.row (tidies_of c.in-Some.listing) c.in-Some.rest.now (contents_of c.in-Some-contents_at.contents) c.in-Some-contents_at.field-0-1.now c.in-Some.ensures c.in-Some-contents_at.ensures (not_unchanged c.in-Some.listing c.in_default-listing.not-Same))
    ∙ c.loop-listing.invariant.1

pub returns-in-None : goal.returns-in-None
returns-in-None c =
    c.nothing.ensures ∙ sym (contents_lost c.args.self.now.section.bytes.now c.loop-listing.row (tidies_of c.in-Some.listing) c.in-Some.rest.now c.in-Some.ensures c.in-None.ensures (not_unchanged c.in-Some.listing c.in_default-listing.not-Same)) ∙ c.loop-listing.invariant.1

pub returns : goal.returns
returns c =
    elim c.match-listing.branch [
      | in-Some+in-Same+then-row-eq0 w ↦ (let told = rw w.in-Same.is at w.in-Some.ensures in
          let first = rw w.if-row-eq0.true at told in
          let here : contents_in c.args.self.now.section.bytes.now c.loop-listing.row ≡ nothing = rw w.if-row-eq0.true (contents_first c.args.self.now.section.bytes.now w.in-Some.rest.now first) in
          c.nothing-2.ensures ∙ sym here ∙ c.loop-listing.invariant.1)
      | in_default w ↦ c.nothing-2.ensures ∙ sym (contents_none c.args.self.now.section.bytes.now c.loop-listing.row w.in_default.ensures) ∙ c.loop-listing.invariant.1
    ]
