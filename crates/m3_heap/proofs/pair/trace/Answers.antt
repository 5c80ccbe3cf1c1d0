use Rattle.std.specs.Bool.{OnTrue}
use Rattle.std.proofs.Common.{◌≡◌, ◌+◌, ℕ, Bool, true, false, sym, ap, subst, ◌∙◌, arith}
use Rattle.m3_heap.specs.Cells.{total_words}
use Rattle.m3_heap.specs.Moves.{kept_starts}
use Rattle.m3_heap.specs.CollectorScanning.{Scans, IsBoundary, met}
use Rattle.m3_heap.specs.CollectorTracing.{moves}
use Rattle.m3_heap.proofs.TraceLemmas.{first-boundary, scans-none, met-none, visited-reached, when-true, when-false}
use Rattle.m3_heap.proofs.pair.trace.Given as given
use Rattle.m3_heap.proofs.pair.trace.Goals as goal

pub scan-requires-clause-boundary : goal.scan-requires-clause-boundary
scan-requires-clause-boundary g c =
    let P : ℕ → Type 0 = λ n. IsBoundary c.args.pair.now.there n in
    subst P (sym c.base-base.ensures) (first-boundary c.args.pair.now.here c.args.pair.now.there c.requires.tracing)

scans : (g : given.Over) (c : goal.After-scan g) → Scans (g.M.Maps.shapes c.args.maps.now) (kept_starts (moves c.args.pair.now.here c.args.pair.now.there)) c.args.pair.now.here c.args.pair.now.there c.base-base.result
scans g c =
    let shapes = g.M.Maps.shapes c.args.maps.now in
    let left = c.args.pair.now.here in
    let kept = c.args.pair.now.there in
    let Q : ℕ → Type 0 = λ n. Scans shapes (kept_starts (moves left kept)) left kept n in
    subst Q (sym c.base-base.ensures) (scans-none shapes left kept c.requires.tracing c.requires.plain (visited-reached shapes left kept c.requires.tracing))

pub returns-clause-bad : goal.returns-clause-bad
returns-clause-bad g c = λ no. when-false c.scan.result _ _ (c.scan.ensures.scanned (kept_starts (moves c.args.pair.now.here c.args.pair.now.there)) (scans g c)) no

pub returns-clause-traced : goal.returns-clause-traced
returns-clause-traced g c = when-true c.scan.result _ _ (c.scan.ensures.scanned (kept_starts (moves c.args.pair.now.here c.args.pair.now.there)) (scans g c))

pub returns-clause-cost : goal.returns-clause-cost
returns-clause-cost g c =
    let shapes = g.M.Maps.shapes c.args.maps.now in
    let left = c.args.pair.now.here in
    let kept = c.args.pair.now.there in
    let none = ap (λ n. met shapes left kept n) c.base-base.ensures ∙ met-none shapes left kept in
    let P : ℕ → Type 0 = λ n. OnTrue c.scan.result (c.scan.new.steps + n + total_words kept.cells ≡ c.args.steps.now + met shapes c.scan.new.copying.here c.scan.new.copying.there (c.scan.new.copying.there.base + total_words c.scan.new.copying.there.cells) + total_words c.scan.new.copying.there.cells) in
    less c.scan.result _ _ _ (subst P none c.scan.ensures.cost)
  where
    less : (b : Bool) (s t u : ℕ) → OnTrue b (s + 0 + t ≡ u) → OnTrue b (s + t ≡ u)
    less true s t u e = omega arith
    less false s t u e = tt
