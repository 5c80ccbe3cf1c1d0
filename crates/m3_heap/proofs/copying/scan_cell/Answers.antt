use Rattle.std.proofs.Common.{◌≡◌, ◌+◌, ◌/◌, ℕ, Some, is_some, length, refl, sym, ap, subst, ◌∙◌, arith}
use Rattle.m3_heap.specs.Cells.{header, words_from, kind_in, total_words}
use Rattle.m3_heap.specs.CollectorScanning.{Scans, IsBoundary, met}
use Rattle.m3_heap.proofs.WordLemmas.{end-fits}
use Rattle.m3_heap.proofs.TraceLemmas.{header-tells, read-header, scans-first, met-first, grows-none, grows-on, bad-before, boundary-next}
use Rattle.m3_heap.proofs.copying.scan_cell.Given as given
use Rattle.m3_heap.proofs.copying.scan_cell.Goals as goal

pub unwrap-header-requires : goal.unwrap-header-requires
unwrap-header-requires g c = ap is_some (c.word.ensures ∙ read-header (g.C.Copying.left c.args.copying.now) (g.C.Copying.kept c.args.copying.now) c.args.start c.requires.tracing c.requires.starts)

pub loop-place-init : goal.loop-place-init
loop-place-init g c =
    let shapes = g.M.Maps.shapes c.args.maps.now in
    record {
      keeping = c.requires.keeping;
      tracing = c.requires.tracing;
      starts = c.requires.starts;
      same_length = refl;
      same_header = refl;
      grows = grows-none (g.C.Copying.left c.args.copying.now) (g.C.Copying.kept c.args.copying.now);
      scans = λ roots scans. scans-first shapes roots (g.C.Copying.left c.args.copying.now) (g.C.Copying.kept c.args.copying.now) c.args.start c.requires.tracing c.requires.starts scans;
      cost = omega (arith, met-first shapes (g.C.Copying.left c.args.copying.now) (g.C.Copying.kept c.args.copying.now) c.args.start c.requires.tracing c.requires.starts);
    }

pub scan_word-requires-clause-kind : goal.scan_word-requires-clause-kind
scan_word-requires-clause-kind g c =
    let read : Some c.unwrap-header.result ≡ Some (header (words_from (g.C.Copying.kept c.args.copying.now).cells c.args.start)) = sym c.unwrap-header.ensures ∙ c.word.ensures ∙ read-header (g.C.Copying.left c.args.copying.now) (g.C.Copying.kept c.args.copying.now) c.args.start c.requires.tracing c.requires.starts in
    let head : c.unwrap-header.result ≡ header (words_from (g.C.Copying.kept c.args.copying.now).cells c.args.start) = cc in
    ap kind_in (head ∙ sym c.loop-place.invariant.same_header)

pub scan_word-requires-clause-within : goal.scan_word-requires-clause-within
scan_word-requires-clause-within g c =
    let read : Some c.unwrap-header.result ≡ Some (header (words_from (g.C.Copying.kept c.args.copying.now).cells c.args.start)) = sym c.unwrap-header.ensures ∙ c.word.ensures ∙ read-header (g.C.Copying.left c.args.copying.now) (g.C.Copying.kept c.args.copying.now) c.args.start c.requires.tracing c.requires.starts in
    let head : c.unwrap-header.result ≡ header (words_from (g.C.Copying.kept c.args.copying.now).cells c.args.start) = cc in
    let tells = ap (λ n. n / 4294967296) head ∙ header-tells (g.C.Copying.left c.args.copying.now) (g.C.Copying.kept c.args.copying.now) c.args.start c.requires.tracing c.requires.starts in
    omega (arith, c.loop-place.invariant.same_length)

pub returns-then-not-scan_word-clause-scanned : goal.returns-then-not-scan_word-clause-scanned
returns-then-not-scan_word-clause-scanned g c =
    let shapes = g.M.Maps.shapes c.args.maps.now in
    λ roots scans. bad-before shapes roots (g.C.Copying.left c.args.copying.now) (g.C.Copying.kept c.args.copying.now) (g.C.Copying.left c.loop-place.copying) (g.C.Copying.kept c.loop-place.copying) c.loop-place.invariant.grows (c.if-not-scan_word.ensures.scanned roots (c.loop-place.invariant.scans roots scans))

pub loop-place-preserved : goal.loop-place-preserved
loop-place-preserved g c =
    let shapes = g.M.Maps.shapes c.args.maps.now in
    let next : c.args.start + c.loop-place.place + 1 ≡ c.args.start + (c.loop-place.place + 1) = omega arith in
    let was = c.loop-place.invariant in
    let step = c.if-not-scan_word.ensures in
    record {
      keeping = step.keeping;
      tracing = step.tracing;
      starts = step.starts;
      same_length = step.same_length ∙ was.same_length;
      same_header = step.same_header ∙ was.same_header;
      grows = grows-on (g.C.Copying.left c.args.copying.now) (g.C.Copying.kept c.args.copying.now) (g.C.Copying.left c.loop-place.copying) (g.C.Copying.kept c.loop-place.copying) (g.C.Copying.left c.scan_word.new.copying) (g.C.Copying.kept c.scan_word.new.copying) was.grows step.grows;
      scans = λ roots scans.
          let P : ℕ → Type 0 = λ n. Scans shapes roots (g.C.Copying.left c.scan_word.new.copying) (g.C.Copying.kept c.scan_word.new.copying) n in
          subst P next (step.scanned roots (was.scans roots scans));
      cost =
          let P : ℕ → Type 0 = λ n. c.scan_word.new.steps + met shapes (g.C.Copying.left c.args.copying.now) (g.C.Copying.kept c.args.copying.now) c.args.start + total_words (g.C.Copying.kept c.args.copying.now).cells ≡ c.args.steps.now + met shapes (g.C.Copying.left c.scan_word.new.copying) (g.C.Copying.kept c.scan_word.new.copying) n + total_words (g.C.Copying.kept c.scan_word.new.copying).cells in
          subst P next (omega (arith, was.cost, step.cost));
    }

-- the words that the header tells, and where the scan has come
record IsEnd (words place start end : ℕ) : Type 0 where
  tells : words ≡ end
  passed : start + place ≡ start + words

ended : (g : given.Over) (c : goal.After-loop-place g) → IsEnd (c.unwrap-header.result / 4294967296) c.loop-place.place c.args.start (length (words_from (g.C.Copying.kept c.args.copying.now).cells c.args.start))
ended g c =
    let read : Some c.unwrap-header.result ≡ Some (header (words_from (g.C.Copying.kept c.args.copying.now).cells c.args.start)) = sym c.unwrap-header.ensures ∙ c.word.ensures ∙ read-header (g.C.Copying.left c.args.copying.now) (g.C.Copying.kept c.args.copying.now) c.args.start c.requires.tracing c.requires.starts in
    let head : c.unwrap-header.result ≡ header (words_from (g.C.Copying.kept c.args.copying.now).cells c.args.start) = cc in
    let tells : c.unwrap-header.result / 4294967296 ≡ length (words_from (g.C.Copying.kept c.args.copying.now).cells c.args.start) = ap (λ n. n / 4294967296) head ∙ header-tells (g.C.Copying.left c.args.copying.now) (g.C.Copying.kept c.args.copying.now) c.args.start c.requires.tracing c.requires.starts in
    let fits = end-fits (g.C.Copying.left c.args.copying.now) (g.C.Copying.kept c.args.copying.now) c.args.start c.requires.tracing c.requires.starts in
    record { tells = tells; passed = omega (arith, fits.3, c.loop-place.auto.place-end, c.loop-place-test.false) }

pub overflow_add-result : goal.overflow_add-result
overflow_add-result g c =
    let fits = end-fits (g.C.Copying.left c.args.copying.now) (g.C.Copying.kept c.args.copying.now) c.args.start c.requires.tracing c.requires.starts in
    omega (arith, (ended g c).tells, fits.2)

pub returns-clause-further : goal.returns-clause-further
returns-clause-further g c =
    let fits = end-fits (g.C.Copying.left c.args.copying.now) (g.C.Copying.kept c.args.copying.now) c.args.start c.requires.tracing c.requires.starts in
    omega (arith, (ended g c).tells, fits.3)

pub returns-clause-boundary : goal.returns-clause-boundary
returns-clause-boundary g c =
    let P : ℕ → Type 0 = λ n. IsBoundary (g.C.Copying.kept c.loop-place.copying) (c.args.start + n) in
    subst P (c.loop-place.invariant.same_length ∙ sym (ended g c).tells) (boundary-next (g.C.Copying.left c.loop-place.copying) (g.C.Copying.kept c.loop-place.copying) c.args.start c.loop-place.invariant.tracing c.loop-place.invariant.starts)

pub returns-clause-scanned : goal.returns-clause-scanned
returns-clause-scanned g c =
    let shapes = g.M.Maps.shapes c.args.maps.now in
    λ roots scans.
    let P : ℕ → Type 0 = λ n. Scans shapes roots (g.C.Copying.left c.loop-place.copying) (g.C.Copying.kept c.loop-place.copying) n in
    subst P (ended g c).passed (c.loop-place.invariant.scans roots scans)

pub returns-clause-cost : goal.returns-clause-cost
returns-clause-cost g c =
    let shapes = g.M.Maps.shapes c.args.maps.now in
    let P : ℕ → Type 0 = λ n. c.loop-place.steps + met shapes (g.C.Copying.left c.args.copying.now) (g.C.Copying.kept c.args.copying.now) c.args.start + total_words (g.C.Copying.kept c.args.copying.now).cells ≡ c.args.steps.now + met shapes (g.C.Copying.left c.loop-place.copying) (g.C.Copying.kept c.loop-place.copying) n + total_words (g.C.Copying.kept c.loop-place.copying).cells in
    subst P (ended g c).passed c.loop-place.invariant.cost
