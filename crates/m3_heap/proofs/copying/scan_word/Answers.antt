use Rattle.std.proofs.Common.{◌+◌, is_some, refl, sym, ap, subst, ◌∙◌, arith}
use Rattle.m3_heap.specs.CollectorSpace.{Space}
use Rattle.m3_heap.specs.CollectorTracing.{IsTracing}
use Rattle.m3_heap.specs.CollectorScanning.{Grows, Scans, met}
use Rattle.std.proofs.lemmas.Bool.{false≢true}
use Rattle.m3_heap.specs.Cells.{words_from, with_word}
use Rattle.m3_heap.proofs.WordLemmas.{IsWritten, written-tracing, written-grows, written-shape, written-scans, written-met, passed-scans, passed-met, pointer-test, end-fits, read-word, some-within, bad-found}
use Rattle.m3_heap.proofs.copying.scan_word.Given as given
use Rattle.m3_heap.proofs.copying.scan_word.Goals as goal

pub returns-then-not-is_pointer-clause-scanned : goal.returns-then-not-is_pointer-clause-scanned
returns-then-not-is_pointer-clause-scanned g c =
    let shapes = g.M.Maps.shapes c.args.maps.now in
    let off = pointer-test shapes (g.C.Copying.left c.args.copying.now) (g.C.Copying.kept c.args.copying.now) c.args.copied.start c.args.place c.args.copied.kind c.requires.tracing c.requires.starts c.requires.after_header c.requires.kind ∙ sym c.is_pointer.ensures ∙ c.if-not-is_pointer.true in
    λ roots scans. passed-scans shapes roots (g.C.Copying.left c.args.copying.now) (g.C.Copying.kept c.args.copying.now) c.args.copied.start c.args.place c.requires.tracing c.requires.starts c.requires.within off scans

pub returns-then-not-is_pointer-clause-cost : goal.returns-then-not-is_pointer-clause-cost
returns-then-not-is_pointer-clause-cost g c =
    let shapes = g.M.Maps.shapes c.args.maps.now in
    let off = pointer-test shapes (g.C.Copying.left c.args.copying.now) (g.C.Copying.kept c.args.copying.now) c.args.copied.start c.args.place c.args.copied.kind c.requires.tracing c.requires.starts c.requires.after_header c.requires.kind ∙ sym c.is_pointer.ensures ∙ c.if-not-is_pointer.true in
    omega (arith, passed-met shapes (g.C.Copying.left c.args.copying.now) (g.C.Copying.kept c.args.copying.now) c.args.copied.start c.args.place c.requires.tracing c.requires.starts c.requires.within off)

pub overflow_add-start : goal.overflow_add-start
overflow_add-start g c =
    let fits = end-fits (g.C.Copying.left c.args.copying.now) (g.C.Copying.kept c.args.copying.now) c.args.copied.start c.requires.tracing c.requires.starts in
    omega (arith, fits.2, c.requires.within)

pub unwrap-word-requires : goal.unwrap-word-requires
unwrap-word-requires g c =
    (ap is_some (c.word.ensures ∙ read-word (g.C.Copying.left c.args.copying.now) (g.C.Copying.kept c.args.copying.now) c.args.copied.start c.args.place c.requires.tracing c.requires.starts c.requires.within) ∙ some-within (words_from (g.C.Copying.kept c.args.copying.now).cells c.args.copied.start) c.args.place c.requires.within)

pub overflow_add-start-in-Some : goal.overflow_add-start-in-Some
overflow_add-start-in-Some g c =
    let fits = end-fits (g.C.Copying.left c.args.copying.now) (g.C.Copying.kept c.args.copying.now) c.args.copied.start c.requires.tracing c.requires.starts in
    omega (arith, fits.2, c.requires.within)

pub returns-in-None-clause-scanned : goal.returns-in-None-clause-scanned
returns-in-None-clause-scanned g c =
    let shapes = g.M.Maps.shapes c.args.maps.now in
    let on = pointer-test shapes (g.C.Copying.left c.args.copying.now) (g.C.Copying.kept c.args.copying.now) c.args.copied.start c.args.place c.args.copied.kind c.requires.tracing c.requires.starts c.requires.after_header c.requires.kind ∙ sym c.is_pointer.ensures ∙ c.if-not-is_pointer.false in
    let word = sym (read-word (g.C.Copying.left c.args.copying.now) (g.C.Copying.kept c.args.copying.now) c.args.copied.start c.args.place c.requires.tracing c.requires.starts c.requires.within) ∙ sym c.word.ensures ∙ c.unwrap-word.ensures in
    λ roots scans. bad-found shapes roots (g.C.Copying.left c.args.copying.now) (g.C.Copying.kept c.args.copying.now) c.args.copied.start c.args.place c.unwrap-word.result c.requires.tracing c.requires.starts c.requires.within on word (c.in-None.ensures.none.0 refl) scans

written : (g : given.Over) (c : goal.After-put g) → IsWritten (g.C.Copying.left c.args.copying.now) (g.C.Copying.kept c.args.copying.now) (g.C.Copying.left c.forward.new.self) (g.C.Copying.kept c.forward.new.self) (g.C.Copying.kept c.put.new.self) c.args.copied.start c.args.place c.unwrap-word.result
written g c = record {
  tracing = c.requires.tracing;
  keeps = c.in-Some.ensures.kept;
  after = c.requires.after_header;
  starts = c.requires.starts;
  within = c.requires.within;
  base = c.put.ensures.base;
  size = c.put.ensures.size;
  cells = c.put.ensures.cells ∙ ap (λ n. with_word (g.C.Copying.kept c.forward.new.self).cells (c.args.copied.start + c.args.place) n) c.in-Some.ensures.value;
}

pub returns-in-Some-clause-tracing : goal.returns-in-Some-clause-tracing
returns-in-Some-clause-tracing g c = subst (λ (l : Space). IsTracing l (g.C.Copying.kept c.put.new.self)) (sym c.put.ensures.left) (written-tracing _ _ _ _ _ _ _ _ (written g c))

pub returns-in-Some-clause-grows : goal.returns-in-Some-clause-grows
returns-in-Some-clause-grows g c = subst (λ (l : Space). Grows (g.C.Copying.left c.args.copying.now) (g.C.Copying.kept c.args.copying.now) l (g.C.Copying.kept c.put.new.self)) (sym c.put.ensures.left) (written-grows _ _ _ _ _ _ _ _ (written g c))

pub returns-in-Some-clause-starts : goal.returns-in-Some-clause-starts
returns-in-Some-clause-starts g c = (written-shape _ _ _ _ _ _ _ _ (written g c)).starts

pub returns-in-Some-clause-same_length : goal.returns-in-Some-clause-same_length
returns-in-Some-clause-same_length g c = (written-shape _ _ _ _ _ _ _ _ (written g c)).same_length

pub returns-in-Some-clause-same_header : goal.returns-in-Some-clause-same_header
returns-in-Some-clause-same_header g c = (written-shape _ _ _ _ _ _ _ _ (written g c)).same_header

pub returns-in-Some-clause-scanned : goal.returns-in-Some-clause-scanned
returns-in-Some-clause-scanned g c =
    let shapes = g.M.Maps.shapes c.args.maps.now in
    let on = pointer-test shapes (g.C.Copying.left c.args.copying.now) (g.C.Copying.kept c.args.copying.now) c.args.copied.start c.args.place c.args.copied.kind c.requires.tracing c.requires.starts c.requires.after_header c.requires.kind ∙ sym c.is_pointer.ensures ∙ c.if-not-is_pointer.false in
    let word = sym (read-word (g.C.Copying.left c.args.copying.now) (g.C.Copying.kept c.args.copying.now) c.args.copied.start c.args.place c.requires.tracing c.requires.starts c.requires.within) ∙ sym c.word.ensures ∙ c.unwrap-word.ensures in
    λ roots scans. subst (λ (l : Space). Scans shapes roots l (g.C.Copying.kept c.put.new.self) (c.args.copied.start + c.args.place + 1)) (sym c.put.ensures.left)
    (written-scans shapes roots _ _ _ _ _ _ _ _ (written g c) (λ bad. false≢true (sym (c.in-Some.ensures.none.1 bad))) on word scans)

pub returns-in-Some-clause-cost : goal.returns-in-Some-clause-cost
returns-in-Some-clause-cost g c =
    let shapes = g.M.Maps.shapes c.args.maps.now in
    let on = pointer-test shapes (g.C.Copying.left c.args.copying.now) (g.C.Copying.kept c.args.copying.now) c.args.copied.start c.args.place c.args.copied.kind c.requires.tracing c.requires.starts c.requires.after_header c.requires.kind ∙ sym c.is_pointer.ensures ∙ c.if-not-is_pointer.false in
    let step = written-met shapes _ _ _ _ _ _ _ _ (written g c) on in
    let same = ap (λ (l : Space). met shapes l (g.C.Copying.kept c.put.new.self) (c.args.copied.start + c.args.place + 1)) c.put.ensures.left in
    omega (arith, step.0, step.1, same, c.in-Some.ensures.cost, c.tick.ensures)
