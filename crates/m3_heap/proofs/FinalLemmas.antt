-- When all copies are scanned, exactly what is reached is kept.
use Rattle.std.proofs.Common.{◌≡◌, ◌≢◌, ℕ, ◌+◌, ◌-◌, ◌<◌, ◌≤◌, ◌^◌, zero, suc, Bool, true, eqb, ltb, leb, List, [], ◌∷◌, ◌++◌, length, get_or, Some, None, is_some, refl, sym, ap, subst, ◌∙◌, arith, ⊎_elim, inl, inr}
use Rattle.std.specs.List.{AllByRecursion}
use Rattle.std.specs.Prelude.{slice_get}
use Rattle.std.proofs.lemmas.Bool.{cases_eq, ltb-true, and_parts, eq-eqb, ne_eqb, cond-true, cond-false, false≢true}
use Rattle.m3_heap.specs.Cells.{Cell, heap_base, header, words_in, cell_from, is_start, words_from, total_words, IsHeaded, IsInHeap, AreApart, AllApart, AreSound}
use Rattle.m3_heap.specs.Shapes.{Shape, is_pointer_word, pointer_words}
use Rattle.m3_heap.specs.Moves.{Move, new_start, is_kept, kept_starts, DiffersFrom, AreOneToOne, mapped, moved_cells, kept_words, kept_pointers}
use Rattle.m3_heap.specs.Reach.{HasPointer, IsWordAfter, IsReachable, HasBadPointer}
use Rattle.m3_heap.specs.CollectorSpace.{Space, AreLaid}
use Rattle.m3_heap.specs.CollectorTracing.{moves_from, placed, IsCopy, AreDistinct, Traces, old_cells, copies, moves, IsTracing}
use Rattle.m3_heap.specs.CollectorScanning.{PointsToKept, AreSettled, AreScanned, pointers_met, met}
use Rattle.m3_heap.proofs.SpaceLemmas.{rising-fits, covers-later}
use Rattle.m3_heap.proofs.TracingLemmas.{all_map, none_or_some, new_start-found}
use Rattle.m3_heap.proofs.CopyLemmas.{all-at}
use Rattle.m3_heap.proofs.ScanLemmas.{all-scanned, all-met}
use Rattle.m3_heap.proofs.WordLemmas.{kept-total}

-- ---- the forwarding list is one to one

moves-later : (k : Cell) (at b : ℕ) (ks : List Cell) → at < b → AllByRecursion (λ (o : Cell). k.start ≢ o.start) ks → AllByRecursion (λ (o : Cell). 1 ≤ length o.words) ks → AllByRecursion (DiffersFrom (record { from = k.start; to = at })) (moves_from b ks)
moves-later k at b [] lt d some = tt
moves-later k at b (o ∷ ks) lt d some = ((d.0, λ (same : at ≡ b). omega arith), moves-later k at (b + length o.words) ks (omega arith) d.1 some.1)

pub one-to-one : (b : ℕ) (ks : List Cell) → AreDistinct ks → AllByRecursion (λ (o : Cell). 1 ≤ length o.words) ks → AreOneToOne (moves_from b ks)
one-to-one b [] d some = tt
one-to-one b (k ∷ ks) d some = (moves-later k b (b + length k.words) ks (omega (arith, some.0)) d.0 some.1, one-to-one (b + length k.words) ks d.1 some.1)

-- ---- what holds of each kept cell

pub all-kept : (Q : ℕ → Type 0) (b : ℕ) (ks : List Cell) (at : ℕ) → AllByRecursion (λ (k : Cell). Q k.start) ks → is_kept (moves_from b ks) at ≡ true → Q at
all-kept Q b [] at h e = absurd (false≢true e)
all-kept Q b (k ∷ ks) at h e = ⊎_elim
    (λ (same : k.start ≡ at). subst Q same h.0)
    (λ (differs : k.start ≡ at → ⊥).
    all-kept Q (b + length k.words) ks at h.1 (ap is_some (sym (cond-false (eqb k.start at) (Some b) (new_start (moves_from (b + length k.words) ks) at) (ne_eqb k.start at differs))) ∙ e))
    (cases_eq k.start at)

settled-get : (p : ℕ → Bool) (ms : List Move) (limit at i : ℕ) (ws : List ℕ) (w : ℕ) → AreSettled p ms limit at ws → slice_get ws i ≡ Some w → p (at + i) ≡ true → at + i < limit → PointsToKept ms w
settled-get p ms limit at i [] w s e on lt = absurd (cc)
settled-get p ms limit at zero (x ∷ ws) w s e on lt =
    let same : x ≡ w = cc in
    let P : ℕ → Type 0 = λ n. PointsToKept ms n in
    let place : at + 0 ≡ at = omega arith in
    subst P same (s.0 (ap p (sym place) ∙ on) (omega arith))
settled-get p ms limit at (suc i) (x ∷ ws) w s e on lt =
    let place : at + suc i ≡ (at + 1) + i = omega arith in
    settled-get p ms limit (at + 1) i ws w s.1 e (ap p (sym place) ∙ on) (omega arith)

within-length : (ws : List ℕ) (i w : ℕ) → slice_get ws i ≡ Some w → i < length ws
within-length [] i w e = absurd (cc)
within-length (x ∷ ws) zero w e = omega arith
within-length (x ∷ ws) (suc i) w e = let rest = within-length ws i w e in omega arith

kept-settled : (shapes : List Shape) (cs : List Cell) (ms : List Move) (limit b : ℕ) (ks : List Cell) (at i w : ℕ) → AllByRecursion (IsCopy cs) ks → b + total_words ks ≤ limit → AreScanned shapes cs ms limit b ks → is_kept (moves_from b ks) at ≡ true → is_pointer_word shapes (words_from cs at) i ≡ true → slice_get (words_from cs at) i ≡ Some w → PointsToKept ms w
kept-settled shapes cs ms limit b [] at i w h high s e on word = absurd (false≢true e)
kept-settled shapes cs ms limit b (k ∷ ks) at i w h high s e on word = ⊎_elim
    (λ (same : k.start ≡ at).
    let p = is_pointer_word shapes (words_from cs k.start) in
    let word' : slice_get (words_from cs k.start) i ≡ Some w = ap (λ n. slice_get (words_from cs n) i) same ∙ word in
    let zero-i : 0 + i ≡ i = omega arith in
    let on' : p (0 + i) ≡ true = ap p zero-i ∙ ap (λ n. is_pointer_word shapes (words_from cs n) i) same ∙ on in
    let within = within-length (words_from cs k.start) i w word' in
    settled-get p ms (limit - b) 0 i (words_from cs k.start) w s.1 word' on' (omega (arith, h.0.same_length)))
    (λ (differs : k.start ≡ at → ⊥).
    kept-settled shapes cs ms limit (b + length k.words) ks at i w h.1 (omega arith) s.2 (ap is_some (sym (cond-false (eqb k.start at) (Some b) (new_start (moves_from (b + length k.words) ks) at) (ne_eqb k.start at differs))) ∙ e) on word)
    (cases_eq k.start at)

-- ---- roots

roots-kept : (ms : List Move) (w i : ℕ) → i < length (kept_starts ms) → get_or (kept_starts ms) i w ≡ w → is_kept ms w ≡ true
roots-kept [] w i lt e = absurd (omega arith)
roots-kept (m ∷ ms) w zero lt e = ap is_some (cond-true (eqb m.from w) (Some m.to) (new_start ms w) (eq-eqb m.from w e))
roots-kept (m ∷ ms) w (suc i) lt e = ⊎_elim
    (λ (same : m.from ≡ w). ap is_some (cond-true (eqb m.from w) (Some m.to) (new_start ms w) (eq-eqb m.from w same)))
    (λ (differs : m.from ≡ w → ⊥). ap is_some (cond-false (eqb m.from w) (Some m.to) (new_start ms w) (ne_eqb m.from w differs)) ∙ roots-kept ms w i (omega arith) e)
    (cases_eq m.from w)

kept-more : (ms more : List Move) (w : ℕ) → is_kept ms w ≡ true → is_kept (ms ++ more) w ≡ true
kept-more ms more w e = ⊎_elim
    (λ (none : new_start ms w ≡ None). absurd (false≢true (sym (ap is_some none) ∙ e)))
    (λ (some : (d : ℕ) × (new_start ms w ≡ Some d)). ap is_some (new_start-found ms more w some.0 some.1))
    (none_or_some (new_start ms w))

found-words : (cs : List Cell) (at : ℕ) (cell : Cell) → cell_from cs at ≡ Some cell → words_from cs at ≡ cell.words
found-words [] at cell e = absurd (cc)
found-words (c ∷ cs) at cell e = ⊎_elim
    (λ (same : c.start ≡ at).
    let here : Some c ≡ Some cell = sym (cond-true (eqb c.start at) (Some c) (cell_from cs at) (eq-eqb c.start at same)) ∙ e in
    let is : c ≡ cell = cc in
    cond-true (eqb c.start at) c.words (words_from cs at) (eq-eqb c.start at same) ∙ ap (λ (d : Cell). d.words) is)
    (λ (differs : c.start ≡ at → ⊥).
    cond-false (eqb c.start at) c.words (words_from cs at) (ne_eqb c.start at differs)
    ∙ found-words cs at cell (sym (cond-false (eqb c.start at) (Some c) (cell_from cs at) (ne_eqb c.start at differs)) ∙ e))
    (cases_eq c.start at)

-- ---- the end of a collection

-- a collection whose copies are all scanned, over the cells and the copies
pub record IsDone (shapes : List Shape) (roots : List ℕ) (left kept : Space) (cs ks : List Cell) : Type 0 where
  pub traces : Traces left kept cs ks
  pub scanned : AreScanned shapes cs (moves_from kept.base ks) (kept.base + total_words ks) kept.base ks
  pub reached : AllByRecursion (λ (k : Cell). IsReachable shapes cs roots k.start) ks

done-settled : (shapes : List Shape) (roots : List ℕ) (left kept : Space) (cs ks : List Cell) → IsDone shapes roots left kept cs ks → (from w : ℕ) → is_kept (moves_from kept.base ks) from ≡ true → HasPointer shapes cs from w → PointsToKept (moves_from kept.base ks) w
done-settled shapes roots left kept cs ks d from w there pointer =
    let words = found-words cs from pointer.cell pointer.starts in
    kept-settled shapes cs (moves_from kept.base ks) (kept.base + total_words ks) kept.base ks from pointer.place w d.traces.are_copies (omega arith) d.scanned there
    (ap (λ ws. is_pointer_word shapes ws pointer.place) words ∙ pointer.pointer) (ap (λ ws. slice_get ws pointer.place) words ∙ pointer.holds)

start-high : (left kept : Space) (cs ks : List Cell) (w : ℕ) → Traces left kept cs ks → is_start cs w ≡ true → heap_base ≤ w
start-high left kept cs ks w h starts = let fits = rising-fits left.base w cs h.rising starts in omega (arith, fits.0, h.left_base)

kept-starts-there : (left kept : Space) (cs ks : List Cell) (w : ℕ) → Traces left kept cs ks → is_kept (moves_from kept.base ks) w ≡ true → is_start cs w ≡ true
kept-starts-there left kept cs ks w h there =
    all-kept (λ n. is_start cs n ≡ true) kept.base ks w (all_map (IsCopy cs) (λ (k : Cell). is_start cs k.start ≡ true) (λ k c. c.starts) ks h.are_copies) there

words-kept : (shapes : List Shape) (left kept : Space) (cs ks : List Cell) (ms more : List Move) (steps w : ℕ) → IsDone shapes (kept_starts ms) left kept cs ks → moves_from kept.base ks ≡ ms ++ more → IsWordAfter shapes cs (kept_starts ms) w steps → is_start cs w ≡ true → is_kept (moves_from kept.base ks) w ≡ true
words-kept shapes left kept cs ks ms more zero w d list root starts =
    ap (λ l. is_kept l w) list ∙ kept-more ms more w (roots-kept ms w root.0 root.1 root.2)
words-kept shapes left kept cs ks ms more (suc steps) w d list after starts =
    let from-starts = ap is_some after.2.starts in
    let there = words-kept shapes left kept cs ks ms more steps after.0 d list after.1 from-starts in
    settled-is-kept (moves_from kept.base ks) w (done-settled shapes (kept_starts ms) left kept cs ks d after.0 w there after.2) (start-high left kept cs ks w d.traces starts)
  where
    settled-is-kept : (l : List Move) (w : ℕ) → PointsToKept l w → heap_base ≤ w → is_kept l w ≡ true
    settled-is-kept l w (inl low) high = absurd (omega arith)
    settled-is-kept l w (inr there) high = there

pub reached-kept : (shapes : List Shape) (left kept : Space) (cs ks : List Cell) (ms more : List Move) → IsDone shapes (kept_starts ms) left kept cs ks → moves_from kept.base ks ≡ ms ++ more → (start : ℕ) → IsReachable shapes cs (kept_starts ms) start → is_kept (moves_from kept.base ks) start ≡ true
reached-kept shapes left kept cs ks ms more d list start r = words-kept shapes left kept cs ks ms more r.steps start d list r.leads r.starts

pub none-bad : (shapes : List Shape) (left kept : Space) (cs ks : List Cell) (ms more : List Move) → IsDone shapes (kept_starts ms) left kept cs ks → moves_from kept.base ks ≡ ms ++ more → HasBadPointer shapes cs (kept_starts ms) → ⊥
none-bad shapes left kept cs ks ms more d list b =
    let there = reached-kept shapes left kept cs ks ms more d list b.from b.reached in
    refused (moves_from kept.base ks) b.word (done-settled shapes (kept_starts ms) left kept cs ks d b.from b.word there b.pointer) b.bad.0
    (λ (on : is_kept (moves_from kept.base ks) b.word ≡ true). false≢true (sym b.bad.1 ∙ kept-starts-there left kept cs ks b.word d.traces on))
  where
    refused : (l : List Move) (w : ℕ) → PointsToKept l w → heap_base ≤ w → (is_kept l w ≡ true → ⊥) → ⊥
    refused l w (inl low) high off = omega arith
    refused l w (inr there) high off = off there

-- the kept cells with their pointers forwarded
cells-moved : (shapes : List Shape) (cs : List Cell) (ms : List Move) (limit b : ℕ) (ks : List Cell) → AllByRecursion (IsCopy cs) ks → b + total_words ks ≤ limit → AreScanned shapes cs ms limit b ks → placed b ks ≡ moved_cells shapes cs ms (moves_from b ks)
cells-moved shapes cs ms limit b [] h high s = refl
cells-moved shapes cs ms limit b (k ∷ ks) h high s =
    let p = is_pointer_word shapes (words_from cs k.start) in
    let words : k.words ≡ mapped shapes ms (words_from cs k.start) = s.0 ∙ all-scanned p ms (limit - b) 0 (words_from cs k.start) (omega (arith, h.0.same_length)) in
    let rest = cells-moved shapes cs ms limit (b + length k.words) ks h.1 (omega arith) s.2 in
    let first = ap (λ (ws : List ℕ). let c : Cell = record { start = b; words = ws } in c) words in
    ap (λ (c : Cell). c ∷ placed (b + length k.words) ks) first ∙ ap (λ l. record { start = b; words = mapped shapes ms (words_from cs k.start) } ∷ l) rest

pub done-moved : (shapes : List Shape) (roots : List ℕ) (left kept : Space) (cs ks : List Cell) → IsDone shapes roots left kept cs ks → kept.cells ≡ moved_cells shapes cs (moves_from kept.base ks) (moves_from kept.base ks)
done-moved shapes roots left kept cs ks d = d.traces.is_placed ∙ cells-moved shapes cs (moves_from kept.base ks) (kept.base + total_words ks) kept.base ks d.traces.are_copies (omega arith) d.scanned

-- ---- steps

pub words-moved : (cs : List Cell) (b : ℕ) (ks : List Cell) → AllByRecursion (IsCopy cs) ks → kept_words cs (moves_from b ks) ≡ total_words ks
words-moved cs b [] h = refl
words-moved cs b (k ∷ ks) h = let rest = words-moved cs (b + length k.words) ks h.1 in omega (arith, h.0.same_length)

met-all : (shapes : List Shape) (cs : List Cell) (limit b : ℕ) (ks : List Cell) → AllByRecursion (IsCopy cs) ks → b + total_words ks ≤ limit → pointers_met shapes cs limit b ks ≡ kept_pointers shapes cs [] (moves_from b ks)
met-all shapes cs limit b [] h high = refl
met-all shapes cs limit b (k ∷ ks) h high =
    let first = all-met (is_pointer_word shapes (words_from cs k.start)) (limit - b) 0 (words_from cs k.start) (omega (arith, h.0.same_length)) in
    let rest = met-all shapes cs limit (b + length k.words) ks h.1 (omega arith) in
    ap (λ n. n + pointers_met shapes cs limit (b + length k.words) ks) first ∙ ap (λ n. pointer_words shapes (words_from cs k.start) + n) rest

pub done-met : (shapes : List Shape) (left kept : Space) → IsTracing left kept → met shapes left kept (kept.base + total_words kept.cells) ≡ kept_pointers shapes (old_cells left kept) [] (moves left kept)
done-met shapes left kept h =
    let total = kept-total left kept h in
    met-all shapes (old_cells left kept) (kept.base + total_words kept.cells) kept.base (copies left kept) h.are_copies (omega (arith, total.0))

-- ---- the copies are cells of a heap

placed-headed : (cs : List Cell) (b : ℕ) (ks : List Cell) → AllByRecursion IsHeaded cs → AllByRecursion (IsCopy cs) ks → AllByRecursion IsHeaded (placed b ks)
placed-headed cs b [] h c = tt
placed-headed cs b (k ∷ ks) h c =
    let headed = all-at (λ (at : ℕ) (ws : List ℕ). (words_in (header ws) ≡ length ws) × (1 ≤ length ws)) cs k.start h c.0.starts in
    ((ap words_in c.0.same_header ∙ headed.0 ∙ sym c.0.same_length, c.0.some), placed-headed cs (b + length k.words) ks h c.1)

pub done-headed : (left kept : Space) (cs ks : List Cell) → Traces left kept cs ks → AllByRecursion IsHeaded kept.cells
done-headed left kept cs ks h =
    let P : List Cell → Type 0 = λ l. AllByRecursion IsHeaded l in
    subst P (sym h.is_placed) (placed-headed cs kept.base ks h.headed h.are_copies)

laid-in-heap : (a : ℕ) (cs : List Cell) → AreLaid a cs → heap_base ≤ a → a + total_words cs ≤ 2 ^ 63 → AllByRecursion IsInHeap cs
laid-in-heap a [] h low high = tt
laid-in-heap a (c ∷ cs) h low high = ((omega (arith, h.0), omega (arith, h.0)), laid-in-heap (a + length c.words) cs h.2 (omega arith) (omega arith))

laid-after : (c : Cell) (a : ℕ) (cs : List Cell) → AreLaid a cs → c.start + length c.words ≤ a → AllByRecursion (AreApart c) cs
laid-after c a [] h le = tt
laid-after c a (d ∷ cs) h le = (
  λ at in_c. let ends = ltb-true at (c.start + length c.words) (and_parts (leb c.start at) (ltb at (c.start + length c.words)) in_c).1 in covers-later d at (omega (arith, h.0)),
  laid-after c (a + length d.words) cs h.2 (omega arith),
)

pub laid-apart : (a : ℕ) (cs : List Cell) → AreLaid a cs → AllApart cs
laid-apart a [] h = tt
laid-apart a (c ∷ cs) h = (laid-after c (a + length c.words) cs h.2 (omega (arith, h.0)), laid-apart (a + length c.words) cs h.2)

pub sound-cells : (a : ℕ) (cs : List Cell) → AllByRecursion IsHeaded cs → AreLaid a cs → heap_base ≤ a → a + total_words cs ≤ 2 ^ 63 → AreSound cs
sound-cells a cs headed laid low high = record { headed = headed; in_heap = laid-in-heap a cs laid low high; apart = laid-apart a cs laid }
