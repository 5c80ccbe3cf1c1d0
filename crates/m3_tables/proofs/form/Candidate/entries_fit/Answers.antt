use Rattle.std.proofs.Common.{◌≡◌, ◌≤◌, ◌+◌, ◌∙◌, ℕ, ap, refl, None, rules, arith, length}
use Rattle.m3_tables.specs.Sections.{is_tidy, is_listed}
use Rattle.m3_tables.specs.Views.{entries_of, contents_of}
use Rattle.m3_tables.specs.Windows.{has_mark, lowest_of_all}
use Rattle.m3_tables.proofs.WindowLemmas.{window_none, window_next, fit_stops, fit_breaks, fit_ends}
use Rattle.m3_tables.proofs.LowestLemmas.{found, none_found}
use Rattle.m3_tables.proofs.form.Candidate.entries_fit.Goals as goal

pub loop-place-init : goal.loop-place-init
loop-place-init c = record {
  fit = window_none (is_listed (is_tidy c.args.self.now.section.bytes.now c.args.self.now.row) (contents_of c.args.self.now.contents)) (entries_of c.args.self.now.contents.derived);
  clear = c.requires.clear;
  length = c.requires.length;
  below = omega arith;
}

pub loop-place-preserved : goal.loop-place-preserved
loop-place-preserved c =
    let es = entries_of c.args.self.now.contents.derived in
    let now = c.loop-place.marks in
    let next = c.window_fits.new.marks in
    let place = c.in-Some.place in
    let lowest = found c.loop-place.from place es c.in-Some.ensures in
    let order : c.loop-place.from ≤ place = lowest.0 in
    let end : place + length next ≡ place + length now = ap (λ (k : ℕ). place + k) c.window_fits.ensures.length in
    record {
      fit = window_next (is_listed (is_tidy c.args.self.now.section.bytes.now c.args.self.now.row) (contents_of c.args.self.now.contents)) now c.loop-place.from place (place + length next) es end order lowest.1 c.loop-place.invariant.fit c.if-not-window_fits.ensures.fit;
      clear = c.if-not-window_fits.ensures.clear refl;
      length = c.window_fits.ensures.length ∙ c.loop-place.invariant.length;
      below = omega (arith, c.window_fits.ensures.length, c.loop-place.invariant.length);
    }

pub loop-place-smaller : goal.loop-place-smaller
loop-place-smaller c =
    let es = entries_of c.args.self.now.contents.derived in
    let lowest = found c.loop-place.from c.in-Some.place es c.in-Some.ensures in
    let order : c.loop-place.from ≤ c.in-Some.place = lowest.0 in
    omega (arith, c.window_fits.ensures.length, c.loop-place.invariant.length)

pub returns-then-not-places_fit-clause-fit : goal.returns-then-not-places_fit-clause-fit
returns-then-not-places_fit-clause-fit c =
    fit_stops (is_listed (is_tidy c.args.self.now.section.bytes.now c.args.self.now.row) (contents_of c.args.self.now.contents)) (entries_of c.args.self.now.contents.derived) c.if-not-places_fit.ensures

pub returns-then-not-window_fits-clause-fit : goal.returns-then-not-window_fits-clause-fit
returns-then-not-window_fits-clause-fit c =
    fit_breaks (has_mark c.loop-place.marks c.in-Some.place) (is_listed (is_tidy c.args.self.now.section.bytes.now c.args.self.now.row) (contents_of c.args.self.now.contents)) (entries_of c.args.self.now.contents.derived) c.if-not-window_fits.ensures.fit

pub returns-clause-fit : goal.returns-clause-fit
returns-clause-fit c =
    let es = entries_of c.args.self.now.contents.derived in
    let none : None ≡ lowest_of_all c.loop-place.from None es = search (rules, c.in_default.not-Some, c.least_from.ensures) in
    fit_ends (is_listed (is_tidy c.args.self.now.section.bytes.now c.args.self.now.row) (contents_of c.args.self.now.contents)) c.loop-place.from es c.if-not-places_fit.ensures (none_found c.loop-place.from es none) c.loop-place.invariant.fit
