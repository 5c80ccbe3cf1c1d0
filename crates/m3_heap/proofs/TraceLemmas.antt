-- The scan of a copy, and of all copies.
use Rattle.std.proofs.Common.{◌≡◌, ℕ, ◌+◌, ◌-◌, ◌/◌, ◌<◌, ◌≤◌, suc, Bool, true, false, eqb, List, [], ◌∷◌, ◌++◌, length, Some, is_some, refl, sym, ap, subst, ◌∙◌, arith, ⊎_elim, inl, inr, ◌⊎◌, append_assoc}
use Rattle.std.specs.List.{AllByRecursion, Contains}
use Rattle.std.specs.Bool.{OnTrue, MatchBool}
use Rattle.std.proofs.lemmas.Bool.{cases_eq, eq-eqb, ne_eqb, cond-true, cond-false, false≢true}
use Rattle.std.proofs.lemmas.List.{append-nil}
use Rattle.m3_heap.specs.Cells.{Cell, header, cell_from, is_start, words_from, cell_word_at, total_words, words_in}
use Rattle.m3_heap.specs.Shapes.{Shape, is_pointer_word}
use Rattle.m3_heap.specs.Moves.{Move, kept_starts}
use Rattle.m3_heap.specs.Reach.{IsReachable, HasBadPointer}
use Rattle.m3_heap.specs.CollectorSpace.{Space, AreLaid}
use Rattle.m3_heap.specs.CollectorTracing.{moves_from, placed, IsCopy, old_cells, copies, moves, IsTracing}
use Rattle.m3_heap.specs.CollectorScanning.{AreScanned, met, Scans, Grows, ArePlain, IsBoundary}
use Rattle.m3_heap.proofs.SpaceLemmas.{start-fits, word_at-start}
use Rattle.m3_heap.proofs.TracingLemmas.{all_map, all_zip}
use Rattle.m3_heap.proofs.CopyLemmas.{all-at}
use Rattle.m3_heap.proofs.ScanLemmas.{copy-here, copied_from, unscanned, unsettled, met-low}
use Rattle.m3_heap.proofs.WordLemmas.{kept-laid, passed-scans, passed-met}

pub header-tells : (left kept : Space) (start : ℕ) → IsTracing left kept → is_start kept.cells start ≡ true → header (words_from kept.cells start) / 4294967296 ≡ length (words_from kept.cells start)
header-tells left kept start h starts =
    let cs = old_cells left kept in
    let ks = copies left kept in
    let e : is_start (placed kept.base ks) start ≡ true = ap (λ ts. is_start ts start) (sym h.is_placed) ∙ starts in
    let here = copy-here cs kept.base ks start h.are_copies e in
    let from = copied_from kept.base ks start in
    let headed = all-at (λ (at : ℕ) (ws : List ℕ). (words_in (header ws) ≡ length ws) × (1 ≤ length ws)) cs from h.headed here.starts in
    let head : header (words_from kept.cells start) ≡ header (words_from cs from) = ap (λ ts. header (words_from ts start)) h.is_placed ∙ here.same_header in
    let count : length (words_from kept.cells start) ≡ length (words_from cs from) = ap (λ ts. length (words_from ts start)) h.is_placed ∙ here.same_length in
    ap words_in head ∙ headed.0 ∙ sym count

pub read-header : (left kept : Space) (start : ℕ) → IsTracing left kept → is_start kept.cells start ≡ true → cell_word_at kept.cells start ≡ Some (header (words_from kept.cells start))
read-header left kept start h starts = word_at-start kept.base start kept.cells (kept-laid left kept h) starts

-- the header is no pointer
pub scans-first : (shapes : List Shape) (roots : List ℕ) (left kept : Space) (start : ℕ) → IsTracing left kept → is_start kept.cells start ≡ true → Scans shapes roots left kept start → Scans shapes roots left kept (start + 1)
scans-first shapes roots left kept start h starts scans =
    let same : start + 0 ≡ start = omega arith in
    let P : ℕ → Type 0 = λ n. Scans shapes roots left kept n in
    let Q : ℕ → Type 0 = λ n. Scans shapes roots left kept (n + 1) in
    let some = start-fits kept.base start kept.cells (kept-laid left kept h) starts in
    subst Q same (passed-scans shapes roots left kept start 0 h starts (omega (arith, some.1)) refl (subst P (sym same) scans))

pub met-first : (shapes : List Shape) (left kept : Space) (start : ℕ) → IsTracing left kept → is_start kept.cells start ≡ true → met shapes left kept (start + 1) ≡ met shapes left kept start
met-first shapes left kept start h starts =
    let same : start + 0 ≡ start = omega arith in
    let some = start-fits kept.base start kept.cells (kept-laid left kept h) starts in
    ap (λ n. met shapes left kept (n + 1)) (sym same) ∙ passed-met shapes left kept start 0 h starts (omega (arith, some.1)) refl ∙ ap (λ n. met shapes left kept n) same

pub grows-none : (left kept : Space) → Grows left kept left kept
grows-none left kept = record {
  left_base = refl;
  kept_base = refl;
  left_size = refl;
  kept_size = refl;
  same_cells = refl;
  more_moves = ([], sym (append-nil (moves left kept)));
}

pub grows-on : (a b c d e f : Space) → Grows a b c d → Grows c d e f → Grows a b e f
grows-on a b c d e f g h = record {
  left_base = h.left_base ∙ g.left_base;
  kept_base = h.kept_base ∙ g.kept_base;
  left_size = h.left_size ∙ g.left_size;
  kept_size = h.kept_size ∙ g.kept_size;
  same_cells = h.same_cells ∙ g.same_cells;
  more_moves = (g.more_moves.0 ++ h.more_moves.0, h.more_moves.1 ∙ ap (λ l. l ++ h.more_moves.0) g.more_moves.1 ∙ append_assoc (moves a b) g.more_moves.0 h.more_moves.0);
}

pub bad-before : (shapes : List Shape) (roots : List ℕ) (a b c d : Space) → Grows a b c d → HasBadPointer shapes (old_cells c d) roots → HasBadPointer shapes (old_cells a b) roots
bad-before shapes roots a b c d g bad =
    let P : List Cell → Type 0 = λ cs. HasBadPointer shapes cs roots in
    subst P g.same_cells bad

pub boundary-laid : (a at : ℕ) (cells : List Cell) → AreLaid a cells → is_start cells at ≡ true → (is_start cells (at + length (words_from cells at)) ≡ true) ⊎ (at + length (words_from cells at) ≡ a + total_words cells)
boundary-laid a at [] h e = absurd (false≢true e)
boundary-laid a at (c ∷ cs) h e = ⊎_elim
    (λ (same : c.start ≡ at).
    let words = ap (λ (ws : List ℕ). length ws) (cond-true (eqb c.start at) c.words (words_from cs at) (eq-eqb c.start at same)) in
    next-start a at c cs h (omega (arith, h.0)) (at + length (words_from (c ∷ cs) at)) (omega (arith, h.0)))
    (λ (differs : c.start ≡ at → ⊥).
    let words = ap (λ (ws : List ℕ). length ws) (cond-false (eqb c.start at) c.words (words_from cs at) (ne_eqb c.start at differs)) in
    let there = sym (ap is_some (cond-false (eqb c.start at) (Some c) (cell_from cs at) (ne_eqb c.start at differs))) ∙ e in
    let fits = start-fits (a + length c.words) at cs h.2 there in
    let end : at + length (words_from (c ∷ cs) at) ≡ at + length (words_from cs at) = omega arith in
    ⊎_elim
    (λ (next : is_start cs (at + length (words_from cs at)) ≡ true).
    inl (ap (λ n. is_start (c ∷ cs) n) end
    ∙ ap is_some (cond-false (eqb c.start (at + length (words_from cs at))) (Some c) (cell_from cs (at + length (words_from cs at))) (ne_eqb c.start (at + length (words_from cs at)) (λ (hit : c.start ≡ at + length (words_from cs at)). omega (arith, fits.0, h.0))))
    ∙ next))
    (λ (last : at + length (words_from cs at) ≡ (a + length c.words) + total_words cs). inr (omega arith))
    (boundary-laid (a + length c.words) at cs h.2 there))
    (cases_eq c.start at)
  where
    next-start : (a at : ℕ) (c : Cell) (cs : List Cell) → AreLaid a (c ∷ cs) → at ≡ a → (end : ℕ) → end ≡ a + length c.words → (is_start (c ∷ cs) end ≡ true) ⊎ (end ≡ a + total_words (c ∷ cs))
    next-start a at c [] h s end e = inr (omega arith)
    next-start a at c (d ∷ ds) h s end e =
        inl (ap is_some (cond-false (eqb c.start end) (Some c) (cell_from (d ∷ ds) end) (ne_eqb c.start end (λ (hit : c.start ≡ end). omega (arith, h.0, h.1))))
        ∙ ap is_some (cond-true (eqb d.start end) (Some d) (cell_from ds end) (eq-eqb d.start end (omega (arith, h.2.0)))))

pub boundary-next : (left kept : Space) (start : ℕ) → IsTracing left kept → is_start kept.cells start ≡ true → IsBoundary kept (start + length (words_from kept.cells start))
boundary-next left kept start h starts = boundary-laid kept.base start kept.cells (kept-laid left kept h) starts

boundary-first : (a : ℕ) (cells : List Cell) → AreLaid a cells → (is_start cells a ≡ true) ⊎ (a ≡ a + total_words cells)
boundary-first a [] h = inr (omega arith)
boundary-first a (c ∷ cs) h = inl (ap is_some (cond-true (eqb c.start a) (Some c) (cell_from cs a) (eq-eqb c.start a h.0)))

pub first-boundary : (left kept : Space) → IsTracing left kept → IsBoundary kept kept.base
first-boundary left kept h = boundary-first kept.base kept.cells (kept-laid left kept h)

-- a place before the end is a copy's start
pub boundary-start : (kept : Space) (at : ℕ) → IsBoundary kept at → at < kept.base + total_words kept.cells → is_start kept.cells at ≡ true
boundary-start kept at (inl starts) low = starts
boundary-start kept at (inr end) low = absurd (omega arith)

pub boundary-end : (left kept : Space) (at : ℕ) → IsTracing left kept → IsBoundary kept at → kept.base + total_words kept.cells ≤ at → at ≡ kept.base + total_words kept.cells
boundary-end left kept at h (inl starts) high = let fits = start-fits kept.base at kept.cells (kept-laid left kept h) starts in absurd (omega (arith, fits.1, fits.2))
boundary-end left kept at h (inr end) high = end

plain-scanned : (shapes : List Shape) (cs : List Cell) (ms : List Move) (limit b : ℕ) (ks : List Cell) → limit ≤ b → ArePlain cs ks → AreScanned shapes cs ms limit b ks
plain-scanned shapes cs ms limit b [] low h = tt
plain-scanned shapes cs ms limit b (k ∷ ks) low h =
    let p = is_pointer_word shapes (words_from cs k.start) in
    (h.0 ∙ sym (unscanned p ms (limit - b) 0 (words_from cs k.start) (omega arith)), unsettled p ms (limit - b) 0 (words_from cs k.start) (omega arith), plain-scanned shapes cs ms limit (b + length k.words) ks (omega arith) h.1)

pub scans-none : (shapes : List Shape) (left kept : Space) → IsTracing left kept → ArePlain (old_cells left kept) (copies left kept) → AllByRecursion (λ (k : Cell). IsReachable shapes (old_cells left kept) (kept_starts (moves left kept)) k.start) (copies left kept) → Scans shapes (kept_starts (moves left kept)) left kept kept.base
scans-none shapes left kept h plain reached = record {
  scanned = plain-scanned shapes (old_cells left kept) (moves left kept) kept.base kept.base (copies left kept) (omega arith) plain;
  reached = reached;
}

pub met-none : (shapes : List Shape) (left kept : Space) → met shapes left kept kept.base ≡ 0
met-none shapes left kept = met-low shapes (old_cells left kept) kept.base kept.base (copies left kept) (omega arith)

-- ---- the roots

pub contains-first : (x : ℕ) (xs : List ℕ) → Contains (x ∷ xs) x
contains-first x xs = (0, omega arith, refl)

pub contains-later : (x y : ℕ) (xs : List ℕ) → Contains xs y → Contains (x ∷ xs) y
contains-later x y xs h = (suc h.0, omega (arith, h.1), h.2)

all-roots : (b : ℕ) (ks : List Cell) → AllByRecursion (λ (k : Cell). Contains (kept_starts (moves_from b ks)) k.start) ks
all-roots b [] = tt
all-roots b (k ∷ ks) = (
  contains-first k.start (kept_starts (moves_from (b + length k.words) ks)),
  all_map (λ (j : Cell). Contains (kept_starts (moves_from (b + length k.words) ks)) j.start) (λ (j : Cell). Contains (k.start ∷ kept_starts (moves_from (b + length k.words) ks)) j.start)
      (λ j h. contains-later k.start j.start (kept_starts (moves_from (b + length k.words) ks)) h) ks (all-roots (b + length k.words) ks),
)

pub visited-reached : (shapes : List Shape) (left kept : Space) → IsTracing left kept → AllByRecursion (λ (k : Cell). IsReachable shapes (old_cells left kept) (kept_starts (moves left kept)) k.start) (copies left kept)
visited-reached shapes left kept h =
    let cs = old_cells left kept in
    let ks = copies left kept in
    all_map (λ (k : Cell). IsCopy cs k × Contains (kept_starts (moves left kept)) k.start) (λ (k : Cell). IsReachable shapes cs (kept_starts (moves left kept)) k.start)
    (λ k p. record { starts = p.0.starts; steps = 0; leads = p.1 })
    ks (all_zip (IsCopy cs) (λ (k : Cell). Contains (kept_starts (moves left kept)) k.start) ks h.are_copies (all-roots kept.base ks))

-- ---- what an answer tells

pub when-true : (b : Bool) (A B : Type 0) → MatchBool b A B → OnTrue b A
when-true true A B m = m
when-true false A B m = tt

pub when-false : (b : Bool) (A B : Type 0) → MatchBool b A B → b ≡ false → B
when-false true A B m e = absurd (cc)
when-false false A B m e = m
