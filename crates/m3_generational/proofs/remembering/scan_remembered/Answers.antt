use Rattle.std.proofs.Common.{◌≡◌, ◌+◌, ◌≤◌, ℕ, List, min, take, refl, sym, ap, subst, ◌∙◌, arith}
use Rattle.m3_heap.specs.Cells.{Cell, total_words}
use Rattle.m3_heap.specs.CollectorScanning.{Scans}
use Rattle.m3_heap.specs.CollectorTracing.{old_cells, IsTracing}
use Rattle.m3_heap.proofs.WordLemmas.{kept-total}
use Rattle.m3_generational.specs.declared.spaces.Spaces.{Spaces}
use Rattle.m3_heap.proofs.TraceLemmas.{grows-none, grows-on, bad-before}
use Rattle.m3_generational.specs.Remembering.{FitsIn, marked_count}
use Rattle.m3_generational.specs.Collecting.{minor_left}
use Rattle.m3_generational.proofs.HeapLemmas.{bounded}
use Rattle.m3_generational.proofs.MinorLemmas.{tenured-limit, count-first, count-next, skip-to}
use Rattle.m3_generational.proofs.remembering.scan_remembered.Given as given
use Rattle.m3_generational.proofs.remembering.scan_remembered.Goals as goal

pub loop-place-init : goal.loop-place-init
loop-place-init g c =
    let shapes = g.M.Maps.shapes c.args.maps.now in
    let first = c.next-place.result in
    let to = min first c.args.spaces.now.tenured in
    let base = c.base-base.ensures in
    record {
      tracing = c.requires.tracing;
      keeping = c.requires.keeping;
      minor = c.requires.minor;
      tenured = refl;
      found = refl;
      base = base;
      grows = grows-none (minor_left c.args.spaces.now) c.args.spaces.now.here;
      there = c.next-place.ensures.there;
      scans = λ roots scans.
          let P : ℕ → Type 0 = λ n. Scans shapes roots (minor_left c.args.spaces.now) c.args.spaces.now.here n in
          let start : c.args.spaces.now.here.base ≡ c.base-base.result + 0 = omega (arith, base) in
          skip-to shapes roots c.args.spaces.now c.args.remembered.now c.base-base.result 0 to c.requires.minor c.requires.tracing c.requires.keeping c.requires.fits base (omega arith) (omega arith) (λ j a b. c.next-place.ensures.between j a (omega (arith, b))) (subst P start scans);
      cost =
          let none = count-first c.args.remembered.now to (omega (arith, c.requires.marks)) (λ j b. c.next-place.ensures.between j (omega arith) (omega (arith, b))) in
          omega (arith, none);
    }

pub overflow_add-base : goal.overflow_add-base
overflow_add-base g c =
    let was = c.loop-place.invariant in
    let limit = tenured-limit c.loop-place.spaces was.minor was.keeping in
    let b = bounded c.loop-place.spaces was.keeping.placed in
    omega (arith, was.base, b.here, limit, was.tenured, c.loop-place-test.true, sizes c.loop-place.spaces was.tracing)
  where
    sizes : (s : Spaces) → IsTracing (minor_left s) s.here → total_words s.here.cells ≤ s.here.size
    sizes s t = (kept-total (minor_left s) s.here t).1

pub scan_tenured-requires-clause-low : goal.scan_tenured-requires-clause-low
scan_tenured-requires-clause-low g c = omega (arith, c.loop-place.invariant.base)

pub scan_tenured-requires-clause-high : goal.scan_tenured-requires-clause-high
scan_tenured-requires-clause-high g c = omega (arith, c.loop-place.invariant.base, c.loop-place.invariant.tenured, c.loop-place-test.true)

-- the words before this one are scanned
refused-ready : (g : given.Over) (c : goal.Then-not-scan_tenured g) (roots : List ℕ) → Scans (g.M.Maps.shapes c.args.maps.now) roots (minor_left c.args.spaces.now) c.args.spaces.now.here c.args.spaces.now.here.base → Scans (g.M.Maps.shapes c.args.maps.now) roots (minor_left c.loop-place.spaces) c.loop-place.spaces.here (c.base-base.result + c.loop-place.place)
refused-ready g c roots scans =
    let shapes = g.M.Maps.shapes c.args.maps.now in
    let P : ℕ → Type 0 = λ n. Scans shapes roots (minor_left c.loop-place.spaces) c.loop-place.spaces.here (c.base-base.result + n) in
    let here : min c.loop-place.place c.args.spaces.now.tenured ≡ c.loop-place.place = omega (arith, c.loop-place-test.true) in
    subst P here (c.loop-place.invariant.scans roots scans)

ready : (g : given.Over) (c : goal.After-next-place-in-loop-place g) (roots : List ℕ) → Scans (g.M.Maps.shapes c.args.maps.now) roots (minor_left c.args.spaces.now) c.args.spaces.now.here c.args.spaces.now.here.base → Scans (g.M.Maps.shapes c.args.maps.now) roots (minor_left c.loop-place.spaces) c.loop-place.spaces.here (c.base-base.result + c.loop-place.place)
ready g c roots scans =
    let shapes = g.M.Maps.shapes c.args.maps.now in
    let P : ℕ → Type 0 = λ n. Scans shapes roots (minor_left c.loop-place.spaces) c.loop-place.spaces.here (c.base-base.result + n) in
    let here : min c.loop-place.place c.args.spaces.now.tenured ≡ c.loop-place.place = omega (arith, c.loop-place-test.true) in
    subst P here (c.loop-place.invariant.scans roots scans)

pub returns-then-not-scan_tenured-clause-scanned : goal.returns-then-not-scan_tenured-clause-scanned
returns-then-not-scan_tenured-clause-scanned g c =
    let shapes = g.M.Maps.shapes c.args.maps.now in
    λ roots scans. bad-before shapes roots (minor_left c.args.spaces.now) c.args.spaces.now.here (minor_left c.loop-place.spaces) c.loop-place.spaces.here c.loop-place.invariant.grows (c.if-not-scan_tenured.ensures.scanned roots (refused-ready g c roots scans))

pub loop-place-preserved : goal.loop-place-preserved
loop-place-preserved g c =
    let shapes = g.M.Maps.shapes c.args.maps.now in
    let was = c.loop-place.invariant in
    let step = c.if-not-scan_tenured.ensures in
    let at = c.loop-place.place in
    let next = c.next-place-in-loop-place.result in
    let to = min next c.args.spaces.now.tenured in
    let more = c.next-place-in-loop-place.ensures in
    let grows = grows-on (minor_left c.args.spaces.now) c.args.spaces.now.here (minor_left c.loop-place.spaces) c.loop-place.spaces.here (minor_left c.scan_tenured.new.spaces) c.scan_tenured.new.spaces.here was.grows step.grows in
    let tenured = step.tenured ∙ was.tenured in
    let P : List Cell → Type 0 = λ cs. FitsIn shapes cs c.args.remembered.now c.args.spaces.now.here.base in
    let Q : ℕ → Type 0 = λ n. FitsIn shapes (old_cells (minor_left c.scan_tenured.new.spaces) c.scan_tenured.new.spaces.here) c.args.remembered.now n in
    let fits = subst Q (sym grows.kept_base) (subst P (sym grows.same_cells) c.requires.fits) in
    let base = was.base ∙ sym step.grows.kept_base in
    let here : min at c.args.spaces.now.tenured ≡ at = omega (arith, c.loop-place-test.true) in
    record {
      tracing = step.tracing;
      keeping = step.keeping;
      minor = step.minor;
      tenured = tenured;
      found = step.found ∙ was.found;
      base = base;
      grows = grows;
      there = more.there;
      scans = λ roots scans.
          let R : ℕ → Type 0 = λ n. Scans shapes roots (minor_left c.scan_tenured.new.spaces) c.scan_tenured.new.spaces.here n in
          let start : c.base-base.result + at + 1 ≡ c.base-base.result + (at + 1) = omega arith in
          skip-to shapes roots c.scan_tenured.new.spaces c.args.remembered.now c.base-base.result (at + 1) to step.minor step.tracing step.keeping fits base (omega (arith, more.from, c.loop-place-test.true)) (omega (arith, tenured)) (λ j a b. more.between j a (omega (arith, b))) (subst R start (step.scanned roots (ready g c roots scans)));
      cost =
          let one = count-next c.args.remembered.now at to (omega (arith, c.requires.marks)) (omega (arith, more.from, c.loop-place-test.true)) (was.there (omega (arith, c.requires.marks, c.loop-place-test.true))) (λ j a b. more.between j a (omega (arith, b))) in
          let before = ap (λ n. marked_count (take n c.args.remembered.now)) here in
          omega (arith, one, before, was.cost, step.cost);
    }

pub returns-clause-scanned : goal.returns-clause-scanned
returns-clause-scanned g c =
    let shapes = g.M.Maps.shapes c.args.maps.now in
    let was = c.loop-place.invariant in
    let end : c.base-base.result + min c.loop-place.place c.args.spaces.now.tenured ≡ c.loop-place.spaces.here.base + c.loop-place.spaces.tenured = omega (arith, was.base, was.tenured, c.loop-place-test.false) in
    λ roots scans.
    let P : ℕ → Type 0 = λ n. Scans shapes roots (minor_left c.loop-place.spaces) c.loop-place.spaces.here n in
    subst P end (was.scans roots scans)
