-- One step of the scan, from both halves to both halves.
use Rattle.std.proofs.Common.{◌≡◌, ℕ, ◌+◌, ◌<◌, ◌≤◌, zero, suc, true, false, cond, eqb, ltb, List, [], ◌∷◌, ◌++◌, length, Some, None, is_some, refl, sym, ap, subst, ◌∙◌, arith, ⊎_elim, inl, inr, ◌⊎◌}
use Rattle.std.specs.List.{AllByRecursion}
use Rattle.std.specs.Prelude.{slice_get, ◌||◌, ◌&&◌}
use Rattle.std.proofs.lemmas.Bool.{cases_eq, cases_Bool, lt-ltb, ltb-true, ltb-false, eq-eqb, ne_eqb, cond-true, cond-false, false≢true, or_cases, or_parts}
use Rattle.std.proofs.lemmas.List.{append-nil}
use Rattle.m3_heap.specs.Cells.{Cell, heap_base, header, kind_in, cell_from, is_start, words_from, cell_word_at, with_word, total_words}
use Rattle.m3_heap.specs.Shapes.{Shape, is_pointer_word, is_pointer_of}
use Rattle.m3_heap.specs.Moves.{Move, new_start, is_kept, forwarded}
use Rattle.m3_heap.specs.Reach.{HasPointer, IsReachable, IsBadPointer, HasBadPointer}
use Rattle.m3_heap.specs.CollectorSpace.{Space, AreLaid}
use Rattle.m3_heap.specs.CollectorTracing.{moves_from, placed, IsCopy, Traces, old_cells, copies, moves, IsTracing, Keeps}
use Rattle.m3_heap.specs.CollectorScanning.{PointsToKept, AreScanned, pointers_met, met, Scans, Grows}
use Rattle.m3_heap.proofs.SpaceLemmas.{start-fits, word_at-cell}
use Rattle.m3_heap.proofs.TracingLemmas.{all_append, none_or_some, new_start-lacks, new_start-one, moves_from-append, placed-append, total-placed, cells-told, copies-told, tracing-told}
use Rattle.m3_heap.proofs.ScanLemmas.{copy-here, copied_from, put_at, scanned-grow, scanned-push, met-push}
use Rattle.m3_heap.proofs.CopyLemmas.{kept-le}
use Rattle.m3_heap.proofs.StepLemmas.{laid-copies, step-other, step-pointer, step-read, step-met, moves-put, total-put, met-put, all-put, shape-put, traces-put}

-- ---- cells found by their start

pub cell-found : (cs : List Cell) (at : ℕ) → is_start cs at ≡ true → (cell : Cell) × (cell_from cs at ≡ Some cell) × (cell.words ≡ words_from cs at)
cell-found [] at e = absurd (false≢true e)
cell-found (c ∷ cs) at e = ⊎_elim
    (λ (same : c.start ≡ at). (c, cond-true (eqb c.start at) (Some c) (cell_from cs at) (eq-eqb c.start at same), sym (cond-true (eqb c.start at) c.words (words_from cs at) (eq-eqb c.start at same))))
    (λ (differs : c.start ≡ at → ⊥).
    let there = cond-false (eqb c.start at) (Some c) (cell_from cs at) (ne_eqb c.start at differs) in
    let words = cond-false (eqb c.start at) c.words (words_from cs at) (ne_eqb c.start at differs) in
    let ih = cell-found cs at (ap is_some (sym there) ∙ e) in
    (ih.0, there ∙ ih.1, ih.2 ∙ sym words))
    (cases_eq c.start at)

found-append : (xs ys : List Cell) (at : ℕ) → is_start xs at ≡ true → (is_start (xs ++ ys) at ≡ true) × (words_from (xs ++ ys) at ≡ words_from xs at)
found-append [] ys at e = absurd (false≢true e)
found-append (c ∷ cs) ys at e = ⊎_elim
    (λ (same : c.start ≡ at). (
      ap is_some (cond-true (eqb c.start at) (Some c) (cell_from (cs ++ ys) at) (eq-eqb c.start at same)),
      cond-true (eqb c.start at) c.words (words_from (cs ++ ys) at) (eq-eqb c.start at same) ∙ sym (cond-true (eqb c.start at) c.words (words_from cs at) (eq-eqb c.start at same)),
    ))
    (λ (differs : c.start ≡ at → ⊥).
    let ih = found-append cs ys at (ap is_some (sym (cond-false (eqb c.start at) (Some c) (cell_from cs at) (ne_eqb c.start at differs))) ∙ e) in (
      ap is_some (cond-false (eqb c.start at) (Some c) (cell_from (cs ++ ys) at) (ne_eqb c.start at differs)) ∙ ih.0,
      cond-false (eqb c.start at) c.words (words_from (cs ++ ys) at) (ne_eqb c.start at differs) ∙ ih.1 ∙ sym (cond-false (eqb c.start at) c.words (words_from cs at) (ne_eqb c.start at differs)),
    ))
    (cases_eq c.start at)

copied_from-append : (b : ℕ) (ks js : List Cell) (start : ℕ) → is_start (placed b ks) start ≡ true → copied_from b (ks ++ js) start ≡ copied_from b ks start
copied_from-append b [] js start e = absurd (false≢true e)
copied_from-append b (k ∷ ks) js start e = ⊎_elim
    (λ (same : b ≡ start).
    cond-true (eqb b start) k.start (copied_from (b + length k.words) (ks ++ js) start) (eq-eqb b start same)
    ∙ sym (cond-true (eqb b start) k.start (copied_from (b + length k.words) ks start) (eq-eqb b start same)))
    (λ (differs : b ≡ start → ⊥).
    cond-false (eqb b start) k.start (copied_from (b + length k.words) (ks ++ js) start) (ne_eqb b start differs)
    ∙ copied_from-append (b + length k.words) ks js start (ap is_some (sym (cond-false (eqb b start) (Some (record { start = b; words = k.words })) (cell_from (placed (b + length k.words) ks) start) (ne_eqb b start differs))) ∙ e)
    ∙ sym (cond-false (eqb b start) k.start (copied_from (b + length k.words) ks start) (ne_eqb b start differs)))
    (cases_eq b start)

all-copied : (Q : ℕ → Type 0) (b : ℕ) (ks : List Cell) (start : ℕ) → AllByRecursion (λ (k : Cell). Q k.start) ks → is_start (placed b ks) start ≡ true → Q (copied_from b ks start)
all-copied Q b [] start h e = absurd (false≢true e)
all-copied Q b (k ∷ ks) start h e = ⊎_elim
    (λ (same : b ≡ start). subst Q (sym (cond-true (eqb b start) k.start (copied_from (b + length k.words) ks start) (eq-eqb b start same))) h.0)
    (λ (differs : b ≡ start → ⊥).
    subst Q (sym (cond-false (eqb b start) k.start (copied_from (b + length k.words) ks start) (ne_eqb b start differs)))
    (all-copied Q (b + length k.words) ks start h.1 (ap is_some (sym (cond-false (eqb b start) (Some (record { start = b; words = k.words })) (cell_from (placed (b + length k.words) ks) start) (ne_eqb b start differs))) ∙ e)))
    (cases_eq b start)

-- ---- a word that is about to be scanned

pub record IsReady (shapes : List Shape) (roots : List ℕ) (cs ks : List Cell) (b start i w : ℕ) : Type 0 where
  pub are_copies : AllByRecursion (IsCopy cs) ks
  pub starts : is_start (placed b ks) start ≡ true
  pub within : i < length (words_from (placed b ks) start)
  pub pointer : is_pointer_word shapes (words_from cs (copied_from b ks start)) i ≡ true
  pub word : slice_get (words_from cs (copied_from b ks start)) i ≡ Some w
  pub scanned : AreScanned shapes cs (moves_from b ks) (start + i) b ks
  pub reached : AllByRecursion (λ (k : Cell). IsReachable shapes cs roots k.start) ks

pub ready-pointer : (shapes : List Shape) (roots : List ℕ) (cs ks : List Cell) (b start i w : ℕ) → IsReady shapes roots cs ks b start i w → (from : ℕ) × IsReachable shapes cs roots from × HasPointer shapes cs from w
ready-pointer shapes roots cs ks b start i w r =
    let from = copied_from b ks start in
    let reached = all-copied (λ n. IsReachable shapes cs roots n) b ks start r.reached r.starts in
    let found = cell-found cs from reached.starts in (
      from,
      reached,
      record {
        cell = found.0;
        place = i;
        starts = found.1;
        pointer = ap (λ ws. is_pointer_word shapes ws i) found.2 ∙ r.pointer;
        holds = ap (λ ws. slice_get ws i) found.2 ∙ r.word;
      },
    )

pub ready-push : (shapes : List Shape) (roots : List ℕ) (cs ks : List Cell) (b start i w : ℕ) → IsReady shapes roots cs ks b start i w → is_start cs w ≡ true → AllByRecursion (IsCopy cs) (ks ++ record { start = w; words = words_from cs w } ∷ []) → IsReady shapes roots cs (ks ++ record { start = w; words = words_from cs w } ∷ []) b start i w
ready-push shapes roots cs ks b start i w r there all =
    let k : Cell = record { start = w; words = words_from cs w } in
    let list = placed-append b ks (k ∷ []) in
    let found = found-append (placed b ks) (placed (b + total_words ks) (k ∷ [])) start r.starts in
    let from = copied_from-append b ks (k ∷ []) start r.starts in
    let fits = start-fits b start (placed b ks) (laid-copies cs b ks r.are_copies) r.starts in
    let end = total-placed b ks in
    let by = ready-pointer shapes roots cs ks b start i w r in
    let P : List Move → Type 0 = λ ms. AreScanned shapes cs ms (start + i) b (ks ++ k ∷ []) in
    let count = ap (λ cs'. length (words_from cs' start)) list ∙ ap (λ (ws : List ℕ). length ws) found.1 in
    record {
      are_copies = all;
      starts = ap (λ cs'. is_start cs' start) list ∙ found.0;
      within = omega (arith, r.within);
      pointer = ap (λ n. is_pointer_word shapes (words_from cs n) i) from ∙ r.pointer;
      word = ap (λ n. slice_get (words_from cs n) i) from ∙ r.word;
      scanned = subst P (sym (moves_from-append b ks (k ∷ [])))
          (scanned-push shapes cs (moves_from b ks ++ moves_from (b + total_words ks) (k ∷ [])) (start + i) b ks w (omega (arith, fits.2, r.within))
          (scanned-grow shapes cs (moves_from b ks) (moves_from (b + total_words ks) (k ∷ [])) (start + i) b ks r.scanned));
      reached = all_append (λ (c : Cell). IsReachable shapes cs roots c.start) ks (k ∷ []) r.reached
          (record { starts = there; steps = suc by.1.steps; leads = (by.0, by.1.leads, by.2) }, tt);
    }

-- ---- from both halves to both halves

pub scans-told : (shapes : List Shape) (roots : List ℕ) (left kept : Space) (cs ks : List Cell) (limit : ℕ) → Traces left kept cs ks → AreScanned shapes cs (moves_from kept.base ks) limit kept.base ks → AllByRecursion (λ (k : Cell). IsReachable shapes cs roots k.start) ks → Scans shapes roots left kept limit
scans-told shapes roots left kept cs ks limit h scanned reached =
    let c = sym (cells-told left kept cs ks h) in
    let k = sym (copies-told left kept cs ks h) in
    let P : List Cell → Type 0 = λ cs'. AreScanned shapes cs' (moves_from kept.base ks) limit kept.base ks in
    let P' : List Cell → Type 0 = λ ks'. AreScanned shapes (old_cells left kept) (moves_from kept.base ks') limit kept.base ks' in
    let Q : List Cell → Type 0 = λ cs'. AllByRecursion (λ (k : Cell). IsReachable shapes cs' roots k.start) ks in
    let Q' : List Cell → Type 0 = λ ks'. AllByRecursion (λ (k : Cell). IsReachable shapes (old_cells left kept) roots k.start) ks' in
    record { scanned = subst P' k (subst P c scanned); reached = subst Q' k (subst Q c reached) }

pub met-told : (shapes : List Shape) (left kept : Space) (cs ks : List Cell) (limit : ℕ) → Traces left kept cs ks → met shapes left kept limit ≡ pointers_met shapes cs limit kept.base ks
met-told shapes left kept cs ks limit h =
    ap (λ cs'. pointers_met shapes cs' limit kept.base (copies left kept)) (cells-told left kept cs ks h) ∙ ap (λ ks'. pointers_met shapes cs limit kept.base ks') (copies-told left kept cs ks h)

-- the copies once a word's cell is kept
pub record IsForwarded (left kept left' kept' : Space) (w : ℕ) (ks' : List Cell) : Type 0 where
  pub traces : Traces left' kept' (old_cells left kept) ks'
  pub grows : (more : List Cell) × (ks' ≡ copies left kept ++ more)
  pub settled : PointsToKept (moves_from kept.base ks') w
  pub cases : (ks' ≡ copies left kept) ⊎ ((ks' ≡ copies left kept ++ record { start = w; words = words_from (old_cells left kept) w } ∷ []) × (heap_base ≤ w))

pub kept-word : (left kept left' kept' : Space) (w : ℕ) → IsTracing left kept → Keeps left kept left' kept' w → (ks' : List Cell) × IsForwarded left kept left' kept' w ks'
kept-word left kept left' kept' w h keeps =
    let cs = old_cells left kept in
    let ks = copies left kept in
    let ms = moves left kept in
    let k : Cell = record { start = w; words = words_from cs w } in
    let P : List Cell → Type 0 = λ cs'. Traces left' kept' cs' (copies left' kept') in
    let Q : List Cell → Type 0 = λ ks'. Traces left' kept' cs ks' in
    let traces = subst P keeps.same_cells keeps.tracing in
    ⊎_elim
    (λ (on : (ltb w heap_base || is_kept ms w) ≡ true).
    let list = keeps.more_copies ∙ cond-true (ltb w heap_base || is_kept ms w) ks (ks ++ k ∷ []) on in (
      ks,
      record {
        traces = subst Q list traces;
        grows = ([], sym (append-nil ks));
        settled = ⊎_elim
            (λ (low : ltb w heap_base ≡ true). let s : PointsToKept ms w = inl (ltb-true w heap_base low) in s)
            (λ (there : is_kept ms w ≡ true). let s : PointsToKept ms w = inr there in s)
            (or_cases (ltb w heap_base) (is_kept ms w) on);
        cases = inl refl;
      },
    ))
    (λ (off : (ltb w heap_base || is_kept ms w) ≡ false).
    let parts = or_parts (ltb w heap_base) (is_kept ms w) off in
    let list = keeps.more_copies ∙ cond-false (ltb w heap_base || is_kept ms w) ks (ks ++ k ∷ []) off in
    let none : new_start ms w ≡ None = ⊎_elim
    (λ (none : new_start ms w ≡ None). none)
    (λ (some : (d : ℕ) × (new_start ms w ≡ Some d)). absurd (false≢true (sym parts.1 ∙ ap is_some some.1)))
    (none_or_some (new_start ms w)) in
    let moved : is_kept (moves_from kept.base (ks ++ k ∷ [])) w ≡ true =
    ap (λ l. is_kept l w) (moves_from-append kept.base ks (k ∷ []))
    ∙ ap is_some (new_start-lacks ms (record { from = w; to = kept.base + total_words ks } ∷ []) w none ∙ new_start-one w (kept.base + total_words ks)) in (
      ks ++ k ∷ [],
      record {
        traces = subst Q list traces;
        grows = (k ∷ [], refl);
        settled = inr moved;
        cases = inr (refl, ltb-false w heap_base parts.0);
      },
    ))
    (cases_Bool (ltb w heap_base || is_kept ms w))

pub ready-kept : (shapes : List Shape) (roots : List ℕ) (left kept left' kept' : Space) (start i w : ℕ) (ks' : List Cell) → IsForwarded left kept left' kept' w ks' → (IsBadPointer (old_cells left kept) w → ⊥) → IsReady shapes roots (old_cells left kept) (copies left kept) kept.base start i w → IsReady shapes roots (old_cells left kept) ks' kept.base start i w
ready-kept shapes roots left kept left' kept' start i w ks' f good r =
    let cs = old_cells left kept in
    let ks = copies left kept in
    let k : Cell = record { start = w; words = words_from cs w } in
    let R : List Cell → Type 0 = λ l. IsReady shapes roots cs l kept.base start i w in
    let A : List Cell → Type 0 = λ l. AllByRecursion (IsCopy cs) l in
    ⊎_elim
    (λ (same : ks' ≡ ks). subst R (sym same) r)
    (λ (more : (ks' ≡ ks ++ k ∷ []) × (heap_base ≤ w)).
    let there : is_start cs w ≡ true = ⊎_elim (λ (on : is_start cs w ≡ true). on) (λ (off : is_start cs w ≡ false). absurd (good (more.1, off))) (cases_Bool (is_start cs w)) in
    subst R (sym more.0) (ready-push shapes roots cs ks kept.base start i w r there (subst A more.0 f.traces.are_copies)))
    f.cases

-- a pointer was forwarded and written back
pub record IsWritten (left kept left' kept' kept'' : Space) (start i w : ℕ) : Type 0 where
  pub tracing : IsTracing left kept
  pub keeps : Keeps left kept left' kept' w
  pub after : 0 < i
  pub starts : is_start kept.cells start ≡ true
  pub within : i < length (words_from kept.cells start)
  pub base : kept''.base ≡ kept'.base
  pub size : kept''.size ≡ kept'.size
  pub cells : kept''.cells ≡ with_word kept'.cells (start + i) (forwarded (moves left' kept') w)

pub record IsLaidOut (left kept left' kept' kept'' : Space) (start i w : ℕ) : Type 0 where
  pub ks : List Cell
  pub by : IsForwarded left kept left' kept' w ks
  pub moved : moves left' kept' ≡ moves_from kept.base ks
  pub starts : is_start kept'.cells start ≡ true
  pub words : words_from kept'.cells start ≡ words_from kept.cells start
  pub traces : Traces left' kept'' (old_cells left kept) (put_at kept'.base ks start i (forwarded (moves left' kept') w))

pub laid-out : (left kept left' kept' kept'' : Space) (start i w : ℕ) → IsWritten left kept left' kept' kept'' start i w → IsLaidOut left kept left' kept' kept'' start i w
laid-out left kept left' kept' kept'' start i w s =
    let k = kept-word left kept left' kept' w s.tracing s.keeps in
    let ks = copies left kept in
    let more = k.1.grows.0 in
    let now : kept'.cells ≡ placed kept.base ks ++ placed (kept.base + total_words ks) more =
    k.1.traces.is_placed ∙ ap (λ b. placed b k.0) s.keeps.kept_base ∙ ap (λ l. placed kept.base l) k.1.grows.1 ∙ placed-append kept.base ks more in
    let e : is_start (placed kept.base ks) start ≡ true = ap (λ ts. is_start ts start) (sym s.tracing.is_placed) ∙ s.starts in
    let found = found-append (placed kept.base ks) (placed (kept.base + total_words ks) more) start e in
    let starts' = ap (λ ts. is_start ts start) now ∙ found.0 in
    let words' = ap (λ ts. words_from ts start) now ∙ found.1 ∙ ap (λ ts. words_from ts start) (sym s.tracing.is_placed) in
    record {
      ks = k.0;
      by = k.1;
      moved = ap (λ b. moves_from b (copies left' kept')) s.keeps.kept_base ∙ ap (λ l. moves_from kept.base l) (copies-told left' kept' (old_cells left kept) k.0 k.1.traces);
      starts = starts';
      words = words';
      traces = traces-put left' kept' kept'' (old_cells left kept) k.0 start i (forwarded (moves left' kept') w) k.1.traces s.after starts' (omega (arith, ap (λ (ws : List ℕ). length ws) words', s.within)) s.base s.size s.cells;
    }

pub written-tracing : (left kept left' kept' kept'' : Space) (start i w : ℕ) → IsWritten left kept left' kept' kept'' start i w → IsTracing left' kept''
written-tracing left kept left' kept' kept'' start i w s =
    let l = laid-out left kept left' kept' kept'' start i w s in
    tracing-told left' kept'' (old_cells left kept) _ l.traces

pub written-grows : (left kept left' kept' kept'' : Space) (start i w : ℕ) → IsWritten left kept left' kept' kept'' start i w → Grows left kept left' kept''
written-grows left kept left' kept' kept'' start i w s =
    let l = laid-out left kept left' kept' kept'' start i w s in
    let v = forwarded (moves left' kept') w in
    let more = l.by.grows.0 in
    record {
      left_base = s.keeps.left_base;
      kept_base = s.base ∙ s.keeps.kept_base;
      left_size = s.keeps.left_size;
      kept_size = s.size ∙ s.keeps.kept_size;
      same_cells = cells-told left' kept'' (old_cells left kept) _ l.traces;
      more_moves = (
        moves_from (kept.base + total_words (copies left kept)) more,
        ap (λ ks. moves_from kept''.base ks) (copies-told left' kept'' (old_cells left kept) _ l.traces)
            ∙ ap (λ b. moves_from b (put_at kept'.base l.ks start i v)) s.base
            ∙ moves-put kept'.base l.ks start i v
            ∙ ap (λ b. moves_from b l.ks) s.keeps.kept_base
            ∙ ap (λ ks. moves_from kept.base ks) l.by.grows.1
            ∙ moves_from-append kept.base (copies left kept) more,
      );
    }

pub record HasShape (kept kept'' : Space) (start : ℕ) : Type 0 where
  pub starts : is_start kept''.cells start ≡ true
  pub same_length : length (words_from kept''.cells start) ≡ length (words_from kept.cells start)
  pub same_header : header (words_from kept''.cells start) ≡ header (words_from kept.cells start)

pub written-shape : (left kept left' kept' kept'' : Space) (start i w : ℕ) → IsWritten left kept left' kept' kept'' start i w → HasShape kept kept'' start
written-shape left kept left' kept' kept'' start i w s =
    let l = laid-out left kept left' kept' kept'' start i w s in
    let v = forwarded (moves left' kept') w in
    let shape = shape-put kept'.base l.ks start i v s.after in
    let now : kept''.cells ≡ placed kept'.base (put_at kept'.base l.ks start i v) = l.traces.is_placed ∙ ap (λ b. placed b (put_at kept'.base l.ks start i v)) s.base in
    let was : placed kept'.base l.ks ≡ kept'.cells = sym l.by.traces.is_placed in
    record {
      starts = ap (λ ts. is_start ts start) now ∙ shape.starts ∙ ap (λ ts. is_start ts start) was ∙ l.starts;
      same_length = ap (λ ts. length (words_from ts start)) now ∙ shape.same_length ∙ ap (λ ts. length (words_from ts start)) was ∙ ap (λ (ws : List ℕ). length ws) l.words;
      same_header = ap (λ ts. header (words_from ts start)) now ∙ shape.same_header ∙ ap (λ ts. header (words_from ts start)) was ∙ ap header l.words;
    }

-- the copy that is being scanned is of this cell
abbrev pub scanned_cell : Space → Space → ℕ → ℕ
scanned_cell left kept start = copied_from kept.base (copies left kept) start

pub written-ready : (shapes : List Shape) (roots : List ℕ) (left kept : Space) (start i w : ℕ) → IsTracing left kept → is_start kept.cells start ≡ true → i < length (words_from kept.cells start) → is_pointer_word shapes (words_from (old_cells left kept) (scanned_cell left kept start)) i ≡ true → slice_get (words_from kept.cells start) i ≡ Some w → Scans shapes roots left kept (start + i) → IsReady shapes roots (old_cells left kept) (copies left kept) kept.base start i w
written-ready shapes roots left kept start i w h starts within pointer word scans =
    let e : is_start (placed kept.base (copies left kept)) start ≡ true = ap (λ ts. is_start ts start) (sym h.is_placed) ∙ starts in
    record {
      are_copies = h.are_copies;
      starts = e;
      within = omega (arith, ap (λ ts. length (words_from ts start)) h.is_placed);
      pointer = pointer;
      word = sym (step-read shapes (old_cells left kept) (moves left kept) kept.base (copies left kept) start i h.are_copies e scans.scanned) ∙ ap (λ ts. slice_get (words_from ts start) i) (sym h.is_placed) ∙ word;
      scanned = scans.scanned;
      reached = scans.reached;
    }

pub written-scans : (shapes : List Shape) (roots : List ℕ) (left kept left' kept' kept'' : Space) (start i w : ℕ) → IsWritten left kept left' kept' kept'' start i w → (IsBadPointer (old_cells left kept) w → ⊥) → is_pointer_word shapes (words_from (old_cells left kept) (scanned_cell left kept start)) i ≡ true → slice_get (words_from kept.cells start) i ≡ Some w → Scans shapes roots left kept (start + i) → Scans shapes roots left' kept'' (start + i + 1)
written-scans shapes roots left kept left' kept' kept'' start i w s good pointer word scans =
    let cs = old_cells left kept in
    let l = laid-out left kept left' kept' kept'' start i w s in
    let r = ready-kept shapes roots left kept left' kept' start i w l.ks l.by good (written-ready shapes roots left kept start i w s.tracing s.starts s.within pointer word scans) in
    let v = forwarded (moves left' kept') w in
    let same : forwarded (moves_from kept.base l.ks) w ≡ v = ap (λ ms. forwarded ms w) (sym l.moved) in
    let ks'' = put_at kept.base l.ks start i v in
    let P : ℕ → Type 0 = λ n. AreScanned shapes cs (moves_from kept.base l.ks) (start + i + 1) kept.base (put_at kept.base l.ks start i n) in
    let step = subst P same (step-pointer shapes cs (moves_from kept.base l.ks) kept.base l.ks start i w r.are_copies r.starts r.within r.pointer r.word l.by.settled r.scanned) in
    let Q : List Move → Type 0 = λ ms. AreScanned shapes cs ms (start + i + 1) kept.base ks'' in
    let step' = subst Q (sym (moves-put kept.base l.ks start i v)) step in
    let R : ℕ → Type 0 = λ b. AreScanned shapes cs (moves_from b ks'') (start + i + 1) b ks'' in
    let base : kept.base ≡ kept''.base = sym (s.base ∙ s.keeps.kept_base) in
    let S : ℕ → Type 0 = λ b. Traces left' kept'' cs (put_at b l.ks start i v) in
    scans-told shapes roots left' kept'' cs ks'' (start + i + 1) (subst S s.keeps.kept_base l.traces) (subst R base step')
    (all-put (λ (k : Cell). IsReachable shapes cs roots k.start) kept.base l.ks start i v (λ k reached. reached) r.reached)

-- no pointer: the scan goes on
pub passed-scans : (shapes : List Shape) (roots : List ℕ) (left kept : Space) (start i : ℕ) → IsTracing left kept → is_start kept.cells start ≡ true → i < length (words_from kept.cells start) → is_pointer_word shapes (words_from (old_cells left kept) (scanned_cell left kept start)) i ≡ false → Scans shapes roots left kept (start + i) → Scans shapes roots left kept (start + i + 1)
passed-scans shapes roots left kept start i h starts within pointer scans =
    let e : is_start (placed kept.base (copies left kept)) start ≡ true = ap (λ ts. is_start ts start) (sym h.is_placed) ∙ starts in
    record {
      scanned = step-other shapes (old_cells left kept) (moves left kept) kept.base (copies left kept) start i h.are_copies e (omega (arith, ap (λ ts. length (words_from ts start)) h.is_placed)) pointer scans.scanned;
      reached = scans.reached;
    }

-- ---- steps

pub passed-met : (shapes : List Shape) (left kept : Space) (start i : ℕ) → IsTracing left kept → is_start kept.cells start ≡ true → i < length (words_from kept.cells start) → is_pointer_word shapes (words_from (old_cells left kept) (scanned_cell left kept start)) i ≡ false → met shapes left kept (start + i + 1) ≡ met shapes left kept (start + i)
passed-met shapes left kept start i h starts within pointer =
    let e : is_start (placed kept.base (copies left kept)) start ≡ true = ap (λ ts. is_start ts start) (sym h.is_placed) ∙ starts in
    step-met shapes (old_cells left kept) kept.base (copies left kept) start i h.are_copies e (omega (arith, ap (λ ts. length (words_from ts start)) h.is_placed))
    ∙ ap (λ b. met shapes left kept (start + i) + cond b 1 0) pointer
    ∙ (let sum : met shapes left kept (start + i) + 0 ≡ met shapes left kept (start + i) = omega arith in sum)

pub written-met : (shapes : List Shape) (left kept left' kept' kept'' : Space) (start i w : ℕ) → IsWritten left kept left' kept' kept'' start i w → is_pointer_word shapes (words_from (old_cells left kept) (scanned_cell left kept start)) i ≡ true → (met shapes left' kept'' (start + i + 1) ≡ met shapes left kept (start + i) + 1) × (total_words kept''.cells ≡ total_words kept'.cells)
written-met shapes left kept left' kept' kept'' start i w s pointer =
    let cs = old_cells left kept in
    let ks = copies left kept in
    let l = laid-out left kept left' kept' kept'' start i w s in
    let v = forwarded (moves left' kept') w in
    let e : is_start (placed kept.base ks) start ≡ true = ap (λ ts. is_start ts start) (sym s.tracing.is_placed) ∙ s.starts in
    let lt : i < length (words_from (placed kept.base ks) start) = omega (arith, ap (λ ts. length (words_from ts start)) s.tracing.is_placed, s.within) in
    let fits = start-fits kept.base start (placed kept.base ks) (laid-copies cs kept.base ks s.tracing.are_copies) e in
    let end = total-placed kept.base ks in
    let grown : pointers_met shapes cs (start + i + 1) kept.base l.ks ≡ pointers_met shapes cs (start + i + 1) kept.base ks = ⊎_elim
    (λ (same : l.ks ≡ ks). ap (λ x. pointers_met shapes cs (start + i + 1) kept.base x) same)
    (λ (more : (l.ks ≡ ks ++ record { start = w; words = words_from cs w } ∷ []) × (heap_base ≤ w)).
    ap (λ x. pointers_met shapes cs (start + i + 1) kept.base x) more.0
    ∙ met-push shapes cs (start + i + 1) kept.base ks (record { start = w; words = words_from cs w }) (omega (arith, fits.2)))
    l.by.cases in (
      met-told shapes left' kept'' cs (put_at kept'.base l.ks start i v) (start + i + 1) l.traces
          ∙ ap (λ b. pointers_met shapes cs (start + i + 1) b (put_at kept'.base l.ks start i v)) (s.base ∙ s.keeps.kept_base)
          ∙ ap (λ b. pointers_met shapes cs (start + i + 1) kept.base (put_at b l.ks start i v)) s.keeps.kept_base
          ∙ met-put shapes cs (start + i + 1) kept.base l.ks start i v
          ∙ grown
          ∙ step-met shapes cs kept.base ks start i s.tracing.are_copies e lt
          ∙ ap (λ b. met shapes left kept (start + i) + cond b 1 0) pointer,
      ap total_words l.traces.is_placed ∙ total-placed kept''.base (put_at kept'.base l.ks start i v) ∙ total-put kept'.base l.ks start i v
          ∙ sym (ap total_words l.by.traces.is_placed ∙ total-placed kept'.base l.ks),
    )

-- ---- what the code reads

pub pointer-test : (shapes : List Shape) (left kept : Space) (start i kind : ℕ) → IsTracing left kept → is_start kept.cells start ≡ true → 0 < i → kind ≡ kind_in (header (words_from kept.cells start)) → is_pointer_word shapes (words_from (old_cells left kept) (scanned_cell left kept start)) i ≡ is_pointer_of shapes kind i
pointer-test shapes left kept start i kind h starts after is =
    let e : is_start (placed kept.base (copies left kept)) start ≡ true = ap (λ ts. is_start ts start) (sym h.is_placed) ∙ starts in
    let head : header (words_from (old_cells left kept) (scanned_cell left kept start)) ≡ header (words_from kept.cells start) =
    sym (copy-here (old_cells left kept) kept.base (copies left kept) start h.are_copies e).same_header ∙ ap (λ ts. header (words_from ts start)) (sym h.is_placed) in
    ap (λ b. b && is_pointer_of shapes (kind_in (header (words_from (old_cells left kept) (scanned_cell left kept start)))) i) (lt-ltb 0 i after)
    ∙ ap (λ n. is_pointer_of shapes (kind_in n) i) head
    ∙ ap (λ n. is_pointer_of shapes n i) (sym is)

pub kept-laid : (left kept : Space) → IsTracing left kept → AreLaid kept.base kept.cells
kept-laid left kept h =
    let P : List Cell → Type 0 = λ ts. AreLaid kept.base ts in
    subst P (sym h.is_placed) (laid-copies (old_cells left kept) kept.base (copies left kept) h.are_copies)

pub kept-total : (left kept : Space) → IsTracing left kept → (total_words kept.cells ≡ total_words (copies left kept)) × (total_words kept.cells ≤ kept.size)
kept-total left kept h =
    let total = ap total_words h.is_placed ∙ total-placed kept.base (copies left kept) in
    (total, omega (arith, h.counted, h.fits, kept-le (moves left kept) (old_cells left kept)))

pub end-fits : (left kept : Space) (start : ℕ) → IsTracing left kept → is_start kept.cells start ≡ true → (kept.base ≤ start) × (start + length (words_from kept.cells start) ≤ kept.base + total_words kept.cells) × (start + length (words_from kept.cells start) ≤ 9223372036854775808) × (1 ≤ length (words_from kept.cells start))
end-fits left kept start h starts =
    let fits = start-fits kept.base start kept.cells (kept-laid left kept h) starts in
    let total = kept-total left kept h in
    (fits.0, fits.2, omega (arith, fits.2, total.1, h.kept_ends), fits.1)

pub read-word : (left kept : Space) (start i : ℕ) → IsTracing left kept → is_start kept.cells start ≡ true → i < length (words_from kept.cells start) → cell_word_at kept.cells (start + i) ≡ slice_get (words_from kept.cells start) i
read-word left kept start i h starts lt = word_at-cell kept.base start i kept.cells (kept-laid left kept h) starts lt

pub some-within : (ws : List ℕ) (i : ℕ) → i < length ws → is_some (slice_get ws i) ≡ true
some-within [] i h = absurd (omega arith)
some-within (w ∷ ws) zero h = refl
some-within (w ∷ ws) (suc i) h = some-within ws i (omega arith)

pub bad-found : (shapes : List Shape) (roots : List ℕ) (left kept : Space) (start i w : ℕ) → IsTracing left kept → is_start kept.cells start ≡ true → i < length (words_from kept.cells start) → is_pointer_word shapes (words_from (old_cells left kept) (scanned_cell left kept start)) i ≡ true → slice_get (words_from kept.cells start) i ≡ Some w → IsBadPointer (old_cells left kept) w → Scans shapes roots left kept (start + i) → HasBadPointer shapes (old_cells left kept) roots
bad-found shapes roots left kept start i w h starts within pointer word bad scans =
    let by = ready-pointer shapes roots (old_cells left kept) (copies left kept) kept.base start i w (written-ready shapes roots left kept start i w h starts within pointer word scans) in
    record { from = by.0; word = w; reached = by.1; pointer = by.2; bad = bad }
