use Rattle.std.proofs.Common.{◌≡◌, ◌+◌, ℕ, subst, arith}
use Rattle.m3_heap.specs.Cells.{total_words}
use Rattle.m3_heap.specs.CollectorScanning.{Scans, met}
use Rattle.m3_heap.proofs.TraceLemmas.{grows-none, grows-on, boundary-end, bad-before}
use Rattle.m3_heap.proofs.WordLemmas.{kept-total}
use Rattle.m3_heap.proofs.copying.scan.Goals as goal

pub loop-at-init : goal.loop-at-init
loop-at-init g c = record {
  keeping = c.requires.keeping;
  tracing = c.requires.tracing;
  boundary = c.requires.boundary;
  grows = grows-none (g.C.Copying.left c.args.copying.now) (g.C.Copying.kept c.args.copying.now);
  scans = λ roots scans. scans;
  cost = omega arith;
}

pub loop-at-preserved : goal.loop-at-preserved
loop-at-preserved g c =
    let was = c.loop-at.invariant in
    let step = c.in-Some.ensures in
    record {
      keeping = step.keeping;
      tracing = step.tracing;
      boundary = step.boundary;
      grows = grows-on (g.C.Copying.left c.args.copying.now) (g.C.Copying.kept c.args.copying.now) (g.C.Copying.left c.loop-at.copying) (g.C.Copying.kept c.loop-at.copying) (g.C.Copying.left c.scan_cell.new.copying) (g.C.Copying.kept c.scan_cell.new.copying) was.grows step.grows;
      scans = λ roots scans. step.scanned roots (was.scans roots scans);
      cost = omega (arith, was.cost, step.cost);
    }

pub loop-at-smaller : goal.loop-at-smaller
loop-at-smaller g c =
    let total = kept-total (g.C.Copying.left c.loop-at.copying) (g.C.Copying.kept c.loop-at.copying) c.loop-at.invariant.tracing in
    let step = c.in-Some.ensures in
    omega (arith, step.further, step.grows.kept_base, step.grows.kept_size, total.1, c.end.ensures, c.loop-at-test.true)

pub returns-in-None-clause-scanned : goal.returns-in-None-clause-scanned
returns-in-None-clause-scanned g c =
    let shapes = g.M.Maps.shapes c.args.maps.now in
    λ roots scans. bad-before shapes roots (g.C.Copying.left c.args.copying.now) (g.C.Copying.kept c.args.copying.now) (g.C.Copying.left c.loop-at.copying) (g.C.Copying.kept c.loop-at.copying) c.loop-at.invariant.grows (c.in-None.ensures.scanned roots (c.loop-at.invariant.scans roots scans))

pub returns-clause-scanned : goal.returns-clause-scanned
returns-clause-scanned g c =
    let shapes = g.M.Maps.shapes c.args.maps.now in
    let was = c.loop-at.invariant in
    let end = boundary-end (g.C.Copying.left c.loop-at.copying) (g.C.Copying.kept c.loop-at.copying) c.loop-at.at was.tracing was.boundary (omega (arith, c.end.ensures, c.loop-at-test.false)) in
    λ roots scans.
    let P : ℕ → Type 0 = λ n. Scans shapes roots (g.C.Copying.left c.loop-at.copying) (g.C.Copying.kept c.loop-at.copying) n in
    subst P end (was.scans roots scans)

pub returns-clause-cost : goal.returns-clause-cost
returns-clause-cost g c =
    let shapes = g.M.Maps.shapes c.args.maps.now in
    let was = c.loop-at.invariant in
    let end = boundary-end (g.C.Copying.left c.loop-at.copying) (g.C.Copying.kept c.loop-at.copying) c.loop-at.at was.tracing was.boundary (omega (arith, c.end.ensures, c.loop-at-test.false)) in
    let P : ℕ → Type 0 = λ n. c.loop-at.steps + met shapes (g.C.Copying.left c.args.copying.now) (g.C.Copying.kept c.args.copying.now) c.args.from + total_words (g.C.Copying.kept c.args.copying.now).cells ≡ c.args.steps.now + met shapes (g.C.Copying.left c.loop-at.copying) (g.C.Copying.kept c.loop-at.copying) n + total_words (g.C.Copying.kept c.loop-at.copying).cells in
    subst P end was.cost
