use Rattle.std.proofs.Common.{◌≡◌, List, true, ◌+◌, ◌-◌, ◌%◌, ◌<◌, ℕ, Some, is_some, length, refl, sym, ap, subst, ◌∙◌, arith}
use Rattle.std.proofs.lemmas.Bool.{false≢true}
use Rattle.std.specs.Prelude.{slice_get}
use Rattle.m3_heap.specs.Cells.{header, kind_in, words_from, cell_word_at, with_word, layout}
use Rattle.m3_heap.specs.CellWords.{layout_stays}
use Rattle.m3_heap.specs.CollectorSpace.{Space}
use Rattle.m3_heap.specs.CollectorTracing.{IsTracing, old_cells}
use Rattle.m3_heap.specs.CollectorScanning.{Scans, Grows}
use Rattle.m3_heap.specs.Shapes.{Shape, is_pointer_word}
use Rattle.m3_heap.proofs.WordLemmas.{IsWritten, scanned_cell, written-tracing, written-grows, written-scans, passed-scans, pointer-test, read-word, bad-found}
use Rattle.m3_heap.proofs.TraceLemmas.{read-header, scans-first}
use Rattle.m3_generational.specs.Collecting.{minor_left}
use Rattle.m3_generational.specs.declared.spaces.Spaces.{Spaces}
use Rattle.m3_generational.proofs.HeapLemmas.{same-total}
use Rattle.m3_generational.proofs.ForwardLemmas.{set-keeps, minor-in}
use Rattle.m3_generational.proofs.MinorLemmas.{tenured-word, left-again}
use Rattle.m3_generational.proofs.remembering.scan_tenured.Given as given
use Rattle.m3_generational.proofs.remembering.scan_tenured.Goals as goal

pub start_of-start-requires : goal.start_of-start-requires
start_of-start-requires g c = tenured-word c.args.spaces.now c.args.at c.requires.minor c.requires.tracing c.requires.keeping c.requires.low c.requires.high

pub returns-then-place-eq0-clause-scanned : goal.returns-then-place-eq0-clause-scanned
returns-then-place-eq0-clause-scanned g c =
    let shapes = g.M.Maps.shapes c.args.maps.now in
    let same : c.args.at ≡ c.start_of-start.result = omega (arith, c.if-place-eq0.true, c.start_of-start.ensures.low) in
    λ roots scans.
    let P : ℕ → Type 0 = λ n. Scans shapes roots (minor_left c.args.spaces.now) c.args.spaces.now.here n in
    let next : c.start_of-start.result + 1 ≡ c.args.at + 1 = ap (λ n. n + 1) (sym same) in
    subst P next (scans-first shapes roots (minor_left c.args.spaces.now) c.args.spaces.now.here c.start_of-start.result c.requires.tracing c.start_of-start.ensures.starts (subst P same scans))

pub unwrap-header-requires : goal.unwrap-header-requires
unwrap-header-requires g c = ap is_some (c.word.ensures ∙ read-header (minor_left c.args.spaces.now) c.args.spaces.now.here c.start_of-start.result c.requires.tracing c.start_of-start.ensures.starts)

pub returns-then-not-is_pointer-clause-scanned : goal.returns-then-not-is_pointer-clause-scanned
returns-then-not-is_pointer-clause-scanned g c =
    let shapes = g.M.Maps.shapes c.args.maps.now in
    let read : Some c.unwrap-header.result ≡ Some (header (words_from c.args.spaces.now.here.cells c.start_of-start.result)) = sym c.unwrap-header.ensures ∙ c.word.ensures ∙ read-header (minor_left c.args.spaces.now) c.args.spaces.now.here c.start_of-start.result c.requires.tracing c.start_of-start.ensures.starts in
    let head : c.unwrap-header.result ≡ header (words_from c.args.spaces.now.here.cells c.start_of-start.result) = cc in
    let after : 0 < (c.args.at - c.start_of-start.result) = omega (arith, c.if-place-eq0.false) in
    let within : (c.args.at - c.start_of-start.result) < length (words_from c.args.spaces.now.here.cells c.start_of-start.result) = omega (arith, c.start_of-start.ensures.low, c.start_of-start.ensures.within) in
    let sum : c.args.at ≡ c.start_of-start.result + (c.args.at - c.start_of-start.result) = omega (arith, c.start_of-start.ensures.low) in
    let next : c.start_of-start.result + (c.args.at - c.start_of-start.result) + 1 ≡ c.args.at + 1 = ap (λ n. n + 1) (sym sum) in
    let off = pointer-test shapes (minor_left c.args.spaces.now) c.args.spaces.now.here c.start_of-start.result (c.args.at - c.start_of-start.result) (c.unwrap-header.result % 4294967296) c.requires.tracing c.start_of-start.ensures.starts after (ap kind_in head) ∙ sym c.is_pointer.ensures ∙ c.if-not-is_pointer.true in
    λ roots scans.
    let P : ℕ → Type 0 = λ n. Scans shapes roots (minor_left c.args.spaces.now) c.args.spaces.now.here n in
    subst P next (passed-scans shapes roots (minor_left c.args.spaces.now) c.args.spaces.now.here c.start_of-start.result (c.args.at - c.start_of-start.result) c.requires.tracing c.start_of-start.ensures.starts within off (subst P sum scans))

pub unwrap-word-requires : goal.unwrap-word-requires
unwrap-word-requires g c = ap is_some c.word-2.ensures ∙ tenured-word c.args.spaces.now c.args.at c.requires.minor c.requires.tracing c.requires.keeping c.requires.low c.requires.high

-- what is known of a pointer
record IsPointer (shapes : List Shape) (s : Spaces) (at start word : ℕ) : Type 0 where
  after : 0 < at - start
  within : at - start < length (words_from s.here.cells start)
  sum : at ≡ start + (at - start)
  on : is_pointer_word shapes (words_from (old_cells (minor_left s) s.here) (scanned_cell (minor_left s) s.here start)) (at - start) ≡ true
  holds : slice_get (words_from s.here.cells start) (at - start) ≡ Some word

refused : (g : given.Over) (c : goal.In-None g) → IsPointer (g.M.Maps.shapes c.args.maps.now) c.args.spaces.now c.args.at c.start_of-start.result c.unwrap-word.result
refused g c =
    let shapes = g.M.Maps.shapes c.args.maps.now in
    let read : Some c.unwrap-header.result ≡ Some (header (words_from c.args.spaces.now.here.cells c.start_of-start.result)) = sym c.unwrap-header.ensures ∙ c.word.ensures ∙ read-header (minor_left c.args.spaces.now) c.args.spaces.now.here c.start_of-start.result c.requires.tracing c.start_of-start.ensures.starts in
    let head : c.unwrap-header.result ≡ header (words_from c.args.spaces.now.here.cells c.start_of-start.result) = cc in
    let after : 0 < (c.args.at - c.start_of-start.result) = omega (arith, c.if-place-eq0.false) in
    let within : (c.args.at - c.start_of-start.result) < length (words_from c.args.spaces.now.here.cells c.start_of-start.result) = omega (arith, c.start_of-start.ensures.low, c.start_of-start.ensures.within) in
    let sum : c.args.at ≡ c.start_of-start.result + (c.args.at - c.start_of-start.result) = omega (arith, c.start_of-start.ensures.low) in
    record {
      after = after;
      within = within;
      sum = sum;
      on = pointer-test shapes (minor_left c.args.spaces.now) c.args.spaces.now.here c.start_of-start.result (c.args.at - c.start_of-start.result) (c.unwrap-header.result % 4294967296) c.requires.tracing c.start_of-start.ensures.starts after (ap kind_in head) ∙ sym c.is_pointer.ensures ∙ c.if-not-is_pointer.false;
      holds = sym (read-word (minor_left c.args.spaces.now) c.args.spaces.now.here c.start_of-start.result (c.args.at - c.start_of-start.result) c.requires.tracing c.start_of-start.ensures.starts within) ∙ ap (λ n. cell_word_at c.args.spaces.now.here.cells n) (sym sum) ∙ sym c.word-2.ensures ∙ c.unwrap-word.ensures;
    }

pointer : (g : given.Over) (c : goal.After-put g) → IsPointer (g.M.Maps.shapes c.args.maps.now) c.args.spaces.now c.args.at c.start_of-start.result c.unwrap-word.result
pointer g c =
    let shapes = g.M.Maps.shapes c.args.maps.now in
    let read : Some c.unwrap-header.result ≡ Some (header (words_from c.args.spaces.now.here.cells c.start_of-start.result)) = sym c.unwrap-header.ensures ∙ c.word.ensures ∙ read-header (minor_left c.args.spaces.now) c.args.spaces.now.here c.start_of-start.result c.requires.tracing c.start_of-start.ensures.starts in
    let head : c.unwrap-header.result ≡ header (words_from c.args.spaces.now.here.cells c.start_of-start.result) = cc in
    let after : 0 < (c.args.at - c.start_of-start.result) = omega (arith, c.if-place-eq0.false) in
    let within : (c.args.at - c.start_of-start.result) < length (words_from c.args.spaces.now.here.cells c.start_of-start.result) = omega (arith, c.start_of-start.ensures.low, c.start_of-start.ensures.within) in
    let sum : c.args.at ≡ c.start_of-start.result + (c.args.at - c.start_of-start.result) = omega (arith, c.start_of-start.ensures.low) in
    record {
      after = after;
      within = within;
      sum = sum;
      on = pointer-test shapes (minor_left c.args.spaces.now) c.args.spaces.now.here c.start_of-start.result (c.args.at - c.start_of-start.result) (c.unwrap-header.result % 4294967296) c.requires.tracing c.start_of-start.ensures.starts after (ap kind_in head) ∙ sym c.is_pointer.ensures ∙ c.if-not-is_pointer.false;
      holds = sym (read-word (minor_left c.args.spaces.now) c.args.spaces.now.here c.start_of-start.result (c.args.at - c.start_of-start.result) c.requires.tracing c.start_of-start.ensures.starts within) ∙ ap (λ n. cell_word_at c.args.spaces.now.here.cells n) (sym sum) ∙ sym c.word-2.ensures ∙ c.unwrap-word.ensures;
    }

pub returns-in-None-clause-scanned : goal.returns-in-None-clause-scanned
returns-in-None-clause-scanned g c =
    let shapes = g.M.Maps.shapes c.args.maps.now in
    let p = refused g c in
    let f = minor-in _ _ _ _ _ _ c.requires.minor c.in-None.ensures in
    λ roots scans.
    let P : ℕ → Type 0 = λ n. Scans shapes roots (minor_left c.args.spaces.now) c.args.spaces.now.here n in
    bad-found shapes roots (minor_left c.args.spaces.now) c.args.spaces.now.here c.start_of-start.result (c.args.at - c.start_of-start.result) c.unwrap-word.result c.requires.tracing c.start_of-start.ensures.starts p.within p.on p.holds (f.none.0 refl) (subst P p.sum scans)

written : (g : given.Over) (c : goal.After-put g) → IsWritten (minor_left c.args.spaces.now) c.args.spaces.now.here (minor_left c.forward_word.new.spaces) c.forward_word.new.spaces.here c.put.new.self c.start_of-start.result (c.args.at - c.start_of-start.result) c.unwrap-word.result
written g c =
    let p = pointer g c in
    let f = minor-in _ _ _ _ _ _ c.requires.minor c.in-Some.ensures in
    record {
      tracing = c.requires.tracing;
      keeps = f.keeps;
      after = p.after;
      starts = c.start_of-start.ensures.starts;
      within = p.within;
      base = c.put.ensures.base;
      size = c.put.ensures.size;
      cells = c.put.ensures.cells ∙ ap (λ n. with_word c.forward_word.new.spaces.here.cells n c.in-Some.to) p.sum ∙ ap (λ n. with_word c.forward_word.new.spaces.here.cells (c.start_of-start.result + (c.args.at - c.start_of-start.result)) n) f.value;
    }

left : (g : given.Over) (c : goal.After-put g) → minor_left c.forward_word.new.spaces ≡ minor_left (record c.forward_word.new.spaces { here = c.put.new.self })
left g c = left-again c.forward_word.new.spaces c.put.new.self c.put.ensures.base c.put.ensures.size

pub returns-in-Some-clause-tracing : goal.returns-in-Some-clause-tracing
returns-in-Some-clause-tracing g c = subst (λ (l : Space). IsTracing l c.put.new.self) (left g c) (written-tracing _ _ _ _ _ _ _ _ (written g c))

pub returns-in-Some-clause-keeping : goal.returns-in-Some-clause-keeping
returns-in-Some-clause-keeping g c = set-keeps c.forward_word.new.spaces c.put.new.self c.args.at c.in-Some.to (c.in-Some.ensures.mode ∙ c.requires.minor) c.in-Some.ensures.keeping c.put.ensures.base c.put.ensures.size c.put.ensures.cells

pub returns-in-Some-clause-grows : goal.returns-in-Some-clause-grows
returns-in-Some-clause-grows g c = subst (λ (l : Space). Grows (minor_left c.args.spaces.now) c.args.spaces.now.here l c.put.new.self) (left g c) (written-grows _ _ _ _ _ _ _ _ (written g c))

pub returns-in-Some-clause-scanned : goal.returns-in-Some-clause-scanned
returns-in-Some-clause-scanned g c =
    let shapes = g.M.Maps.shapes c.args.maps.now in
    let p = pointer g c in
    let f = minor-in _ _ _ _ _ _ c.requires.minor c.in-Some.ensures in
    let next : c.start_of-start.result + (c.args.at - c.start_of-start.result) + 1 ≡ c.args.at + 1 = ap (λ n. n + 1) (sym p.sum) in
    λ roots scans.
    let P : ℕ → Type 0 = λ n. Scans shapes roots (minor_left c.args.spaces.now) c.args.spaces.now.here n in
    let Q : Space → Type 0 = λ l. Scans shapes roots l c.put.new.self (c.args.at + 1) in
    let R : ℕ → Type 0 = λ n. Scans shapes roots (minor_left c.forward_word.new.spaces) c.put.new.self n in
    subst Q (left g c) (subst R next (written-scans shapes roots _ _ _ _ _ _ _ _ (written g c) (λ bad. false≢true (sym (f.none.1 bad))) p.on p.holds (subst P p.sum scans)))

pub returns-in-Some-clause-cost : goal.returns-in-Some-clause-cost
returns-in-Some-clause-cost g c =
    let f = minor-in _ _ _ _ _ _ c.requires.minor c.in-Some.ensures in
    let total = same-total c.forward_word.new.spaces.here.cells c.put.new.self.cells (ap layout c.put.ensures.cells ∙ layout_stays c.forward_word.new.spaces.here.cells c.args.at c.in-Some.to) in
    omega (arith, f.cost, total, c.tick.ensures)
