use Rattle.std.specs.Bool.{OnTrue}
use Rattle.std.proofs.Common.{◌≡◌, ◌+◌, ◌≤◌, ℕ, Bool, true, false, List, refl, sym, ap, subst, ◌∙◌, arith}
use Rattle.m3_heap.specs.Cells.{total_words}
use Rattle.m3_heap.specs.Moves.{kept_starts}
use Rattle.m3_heap.specs.Shapes.{Shape}
use Rattle.m3_heap.specs.Reach.{HasBadPointer}
use Rattle.m3_heap.specs.CollectorSpace.{Space}
use Rattle.m3_heap.specs.CollectorScanning.{Scans, IsBoundary, Grows, met}
use Rattle.m3_heap.specs.CollectorTracing.{old_cells, moves, IsTracing}
use Rattle.m3_heap.specs.CollectorHalves.{AreMoving}
use Rattle.m3_heap.proofs.WordLemmas.{kept-total}
use Rattle.m3_heap.proofs.TraceLemmas.{scans-none, visited-reached, when-true, when-false, grows-on, bad-before}
use Rattle.m3_generational.specs.Collecting.{left_of, kept_of, minor_left, tenured_pointers}
use Rattle.m3_generational.specs.declared.spaces.Spaces.{Spaces}
use Rattle.m3_generational.proofs.HeapLemmas.{bounded}
use Rattle.m3_generational.proofs.ForwardLemmas.{back-minor, fore-minor}
use Rattle.m3_generational.proofs.MinorLemmas.{tenured-limit}
use Rattle.m3_generational.proofs.TenuredLemmas.{tenured-boundary, tenured-met}
use Rattle.m3_generational.proofs.tracing.trace_minor.Given as given
use Rattle.m3_generational.proofs.tracing.trace_minor.Goals as goal

-- nothing is scanned yet
begins : (shapes : List Shape) (s : Spaces) → s.is_minor ≡ true → AreMoving (left_of s) (kept_of s) → Scans shapes (kept_starts (moves (minor_left s) s.here)) (minor_left s) s.here s.here.base
begins shapes s m h =
    let moving = fore-minor AreMoving s m h in
    scans-none shapes (minor_left s) s.here moving.tracing moving.plain (visited-reached shapes (minor_left s) s.here moving.tracing)

pub returns-then-not-scan_remembered-clause-bad : goal.returns-then-not-scan_remembered-clause-bad
returns-then-not-scan_remembered-clause-bad g c = λ _.
    let shapes = (g.M.Maps.shapes c.args.maps.now) in
    back-minor (λ l k. HasBadPointer shapes (old_cells l k) (kept_starts (moves l k))) c.args.spaces.now c.requires.minor
    (c.if-not-scan_remembered.ensures.scanned (kept_starts (moves (minor_left c.args.spaces.now) c.args.spaces.now.here)) (begins shapes c.args.spaces.now c.requires.minor c.requires.moving))

sizes : (s : Spaces) → IsTracing (minor_left s) s.here → total_words s.here.cells ≤ s.here.size
sizes s t = (kept-total (minor_left s) s.here t).1

pub overflow_add-from : goal.overflow_add-from
overflow_add-from g c =
    let then = c.if-not-scan_remembered.ensures in
    let limit = tenured-limit c.scan_remembered.new.spaces then.minor then.keeping in
    let b = bounded c.scan_remembered.new.spaces then.keeping.placed in
    omega (arith, c.base.ensures, b.here, limit, sizes c.scan_remembered.new.spaces then.tracing)

pub scan-requires-clause-boundary : goal.scan-requires-clause-boundary
scan-requires-clause-boundary g c =
    let then = c.if-not-scan_remembered.ensures in
    back-minor (λ l k. IsBoundary k (c.base.result + c.scan_remembered.new.spaces.tenured)) c.scan_remembered.new.spaces then.minor
    (tenured-boundary c.scan_remembered.new.spaces (c.base.result + c.scan_remembered.new.spaces.tenured) then.minor then.tracing then.keeping (ap (λ n. n + c.scan_remembered.new.spaces.tenured) c.base.ensures))

scans : (g : given.Over) (c : goal.After-scan g) → Scans (g.M.Maps.shapes c.args.maps.now) (kept_starts (moves (minor_left c.args.spaces.now) c.args.spaces.now.here)) (left_of c.scan_remembered.new.spaces) (kept_of c.scan_remembered.new.spaces) (c.base.result + c.scan_remembered.new.spaces.tenured)
scans g c =
    let shapes = (g.M.Maps.shapes c.args.maps.now) in
    let then = c.if-not-scan_remembered.ensures in
    let from : c.scan_remembered.new.spaces.here.base + c.scan_remembered.new.spaces.tenured ≡ c.base.result + c.scan_remembered.new.spaces.tenured = ap (λ n. n + c.scan_remembered.new.spaces.tenured) (sym c.base.ensures) in
    let P : ℕ → Type 0 = λ n. Scans shapes (kept_starts (moves (minor_left c.args.spaces.now) c.args.spaces.now.here)) (minor_left c.scan_remembered.new.spaces) c.scan_remembered.new.spaces.here n in
    back-minor (λ l k. Scans shapes (kept_starts (moves (minor_left c.args.spaces.now) c.args.spaces.now.here)) l k (c.base.result + c.scan_remembered.new.spaces.tenured)) c.scan_remembered.new.spaces then.minor
    (subst P from (then.scanned (kept_starts (moves (minor_left c.args.spaces.now) c.args.spaces.now.here)) (begins shapes c.args.spaces.now c.requires.minor c.requires.moving)))

grew : (g : given.Over) (c : goal.After-scan g) → Grows (minor_left c.args.spaces.now) c.args.spaces.now.here (left_of c.scan.new.copying) (kept_of c.scan.new.copying)
grew g c =
    let then = c.if-not-scan_remembered.ensures in
    let one = back-minor (λ l k. Grows (minor_left c.args.spaces.now) c.args.spaces.now.here l k) c.scan_remembered.new.spaces then.minor then.grows in
    grows-on (minor_left c.args.spaces.now) c.args.spaces.now.here (left_of c.scan_remembered.new.spaces) (kept_of c.scan_remembered.new.spaces) (left_of c.scan.new.copying) (kept_of c.scan.new.copying) one c.scan.ensures.grows

pub returns-clause-grows : goal.returns-clause-grows
returns-clause-grows g c = back-minor (λ l k. Grows l k (left_of c.scan.new.copying) (kept_of c.scan.new.copying)) c.args.spaces.now c.requires.minor (grew g c)

pub returns-clause-bad : goal.returns-clause-bad
returns-clause-bad g c = λ no.
    let shapes = (g.M.Maps.shapes c.args.maps.now) in
    let then = c.if-not-scan_remembered.ensures in
    let bad = when-false c.scan.result _ _ (c.scan.ensures.scanned (kept_starts (moves (minor_left c.args.spaces.now) c.args.spaces.now.here)) (scans g c)) no in
    let one = back-minor (λ l k. Grows (minor_left c.args.spaces.now) c.args.spaces.now.here l k) c.scan_remembered.new.spaces then.minor then.grows in
    back-minor (λ l k. HasBadPointer shapes (old_cells l k) (kept_starts (moves l k))) c.args.spaces.now c.requires.minor
    (bad-before shapes (kept_starts (moves (minor_left c.args.spaces.now) c.args.spaces.now.here)) (minor_left c.args.spaces.now) c.args.spaces.now.here (left_of c.scan_remembered.new.spaces) (kept_of c.scan_remembered.new.spaces) one bad)

pub returns-clause-traced : goal.returns-clause-traced
returns-clause-traced g c =
    let shapes = (g.M.Maps.shapes c.args.maps.now) in
    let k' = kept_of c.scan.new.copying in
    traced c.scan.result _
    (λ ok. record {
      before = c.requires.moving;
      tracing = c.scan.ensures.tracing;
      grows = returns-clause-grows g c;
      scans = back-minor (λ l k. Scans shapes (kept_starts (moves l k)) (left_of c.scan.new.copying) k' (k'.base + total_words k'.cells)) c.args.spaces.now c.requires.minor ok;
    })
    (when-true c.scan.result _ _ (c.scan.ensures.scanned (kept_starts (moves (minor_left c.args.spaces.now) c.args.spaces.now.here)) (scans g c)))
  where
    traced : (b : Bool) {A : Type 0} (B : Type 0) → (A → B) → OnTrue b A → OnTrue b B
    traced true B f a = f a
    traced false B f a = tt

pub returns-clause-cost : goal.returns-clause-cost
returns-clause-cost g c =
    let shapes = (g.M.Maps.shapes c.args.maps.now) in
    let then = c.if-not-scan_remembered.ensures in
    let from : c.base.result + c.scan_remembered.new.spaces.tenured ≡ c.scan_remembered.new.spaces.here.base + c.scan_remembered.new.spaces.tenured = ap (λ n. n + c.scan_remembered.new.spaces.tenured) c.base.ensures in
    let front : met shapes (left_of c.scan_remembered.new.spaces) (kept_of c.scan_remembered.new.spaces) (c.base.result + c.scan_remembered.new.spaces.tenured) ≡ tenured_pointers shapes (old_cells (minor_left c.args.spaces.now) c.args.spaces.now.here) c.args.spaces.now.found.value.cells =
    back-minor (λ l k. met shapes l k (c.base.result + c.scan_remembered.new.spaces.tenured) ≡ tenured_pointers shapes (old_cells (minor_left c.scan_remembered.new.spaces) c.scan_remembered.new.spaces.here) c.scan_remembered.new.spaces.found.value.cells) c.scan_remembered.new.spaces then.minor (tenured-met shapes c.scan_remembered.new.spaces (c.base.result + c.scan_remembered.new.spaces.tenured) then.minor then.tracing then.keeping from)
    ∙ ap (λ cs. tenured_pointers shapes cs c.scan_remembered.new.spaces.found.value.cells) then.grows.same_cells ∙ ap (λ (f : Space). tenured_pointers shapes (old_cells (minor_left c.args.spaces.now) c.args.spaces.now.here) f.cells) then.found in
    let here = back-minor (λ l k. total_words k.cells ≡ total_words c.scan_remembered.new.spaces.here.cells) c.scan_remembered.new.spaces then.minor refl in
    sums c.scan.result _ _ _ _ _ _ _ _ _ _ _ c.scan.ensures.cost then.cost front here
  where
    sums : (b : Bool) (after met1 p now met2 k k2 t count h t1 : ℕ) → OnTrue b (after + met1 + k ≡ now + met2 + k2) → now + h ≡ t + count + t1 → met1 ≡ p → k ≡ t1 → OnTrue b (after + p + h ≡ t + count + met2 + k2)
    sums true after met1 p now met2 k k2 t count h t1 e f g q = omega arith
    sums false after met1 p now met2 k k2 t count h t1 e f g q = tt
