use Rattle.std.specs.Bool.{OnTrue}
use Rattle.std.proofs.Common.{◌≡◌, ◌+◌, ℕ, Bool, true, false, sym, ap, subst, ◌∙◌, arith}
use Rattle.m3_heap.specs.Cells.{total_words}
use Rattle.m3_heap.specs.Moves.{kept_starts}
use Rattle.m3_heap.specs.CollectorSpace.{Space}
use Rattle.m3_heap.specs.CollectorScanning.{Scans, IsBoundary, met}
use Rattle.m3_heap.specs.CollectorTracing.{moves}
use Rattle.m3_heap.proofs.TraceLemmas.{first-boundary, scans-none, met-none, visited-reached, when-true, when-false}
use Rattle.m3_generational.specs.Collecting.{left_of, kept_of}
use Rattle.m3_generational.proofs.ForwardLemmas.{kept-full}
use Rattle.m3_generational.proofs.tracing.trace_full.Given as given
use Rattle.m3_generational.proofs.tracing.trace_full.Goals as goal

pub scan-requires-clause-tracing : goal.scan-requires-clause-tracing
scan-requires-clause-tracing g c = c.requires.moving.tracing

pub scan-requires-clause-boundary : goal.scan-requires-clause-boundary
scan-requires-clause-boundary g c =
    let P : ℕ → Type 0 = λ n. IsBoundary (kept_of c.args.spaces.now) n in
    subst P (sym (c.base-base.ensures ∙ ap (λ (k : Space). k.base) (sym (kept-full c.args.spaces.now c.requires.full)))) (first-boundary (left_of c.args.spaces.now) (kept_of c.args.spaces.now) c.requires.moving.tracing)

base : (g : given.Over) (c : goal.After-scan g) → c.base-base.result ≡ (kept_of c.args.spaces.now).base
base g c = c.base-base.ensures ∙ ap (λ (k : Space). k.base) (sym (kept-full c.args.spaces.now c.requires.full))

scans : (g : given.Over) (c : goal.After-scan g) → Scans (g.M.Maps.shapes c.args.maps.now) (kept_starts (moves (left_of c.args.spaces.now) (kept_of c.args.spaces.now))) (left_of c.args.spaces.now) (kept_of c.args.spaces.now) c.base-base.result
scans g c =
    let shapes = g.M.Maps.shapes c.args.maps.now in
    let Q : ℕ → Type 0 = λ n. Scans shapes (kept_starts (moves (left_of c.args.spaces.now) (kept_of c.args.spaces.now))) (left_of c.args.spaces.now) (kept_of c.args.spaces.now) n in
    subst Q (sym (base g c)) (scans-none shapes (left_of c.args.spaces.now) (kept_of c.args.spaces.now) c.requires.moving.tracing c.requires.moving.plain (visited-reached shapes (left_of c.args.spaces.now) (kept_of c.args.spaces.now) c.requires.moving.tracing))

pub returns-clause-bad : goal.returns-clause-bad
returns-clause-bad g c = λ no. when-false c.scan.result _ _ (c.scan.ensures.scanned (kept_starts (moves (left_of c.args.spaces.now) (kept_of c.args.spaces.now))) (scans g c)) no

pub returns-clause-traced : goal.returns-clause-traced
returns-clause-traced g c =
    let shapes = g.M.Maps.shapes c.args.maps.now in
    traced c.scan.result _ (λ ok. record { before = c.requires.moving; tracing = c.scan.ensures.tracing; grows = c.scan.ensures.grows; scans = ok }) (when-true c.scan.result _ _ (c.scan.ensures.scanned (kept_starts (moves (left_of c.args.spaces.now) (kept_of c.args.spaces.now))) (scans g c)))
  where
    traced : (b : Bool) {A : Type 0} (B : Type 0) → (A → B) → OnTrue b A → OnTrue b B
    traced true B f a = f a
    traced false B f a = tt

pub returns-clause-cost : goal.returns-clause-cost
returns-clause-cost g c =
    let shapes = g.M.Maps.shapes c.args.maps.now in
    let none = ap (λ n. met shapes (left_of c.args.spaces.now) (kept_of c.args.spaces.now) n) (base g c) ∙ met-none shapes (left_of c.args.spaces.now) (kept_of c.args.spaces.now) in
    let l = left_of c.scan.new.copying in
    let k = kept_of c.scan.new.copying in
    let P : ℕ → Type 0 = λ n. OnTrue c.scan.result (c.scan.new.steps + n + total_words (kept_of c.args.spaces.now).cells ≡ c.args.steps.now + met shapes l k (k.base + total_words k.cells) + total_words k.cells) in
    less c.scan.result _ _ _ (subst P none c.scan.ensures.cost)
  where
    less : (b : Bool) (s t u : ℕ) → OnTrue b (s + 0 + t ≡ u) → OnTrue b (s + t ≡ u)
    less true s t u e = omega arith
    less false s t u e = tt
