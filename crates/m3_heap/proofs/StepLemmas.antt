-- One word of one copy: what its forwarding leaves of the two halves.
use Rattle.std.proofs.Common.{◌≡◌, ◌≢◌, ℕ, ◌+◌, ◌-◌, ◌<◌, ◌≤◌, zero, suc, true, false, cond, eqb, List, [], ◌∷◌, length, set, Some, is_some, refl, sym, ap, subst, ◌∙◌, arith, ⊎_elim, length-set}
use Rattle.std.specs.List.{AllByRecursion}
use Rattle.std.specs.Prelude.{slice_get}
use Rattle.std.proofs.lemmas.Bool.{cases_eq, lt-ltb, le-ltb, le-leb, eq-eqb, ne_eqb, cond-true, cond-false, false≢true}
use Rattle.m3_heap.specs.Cells.{Cell, heap_base, header, cell_from, is_start, words_from, covers, with_word, total_words}
use Rattle.m3_heap.specs.Shapes.{Shape, is_pointer_word}
use Rattle.m3_heap.specs.Moves.{Move, forwarded}
use Rattle.m3_heap.specs.CollectorSpace.{Space, AreLaid}
use Rattle.m3_heap.specs.CollectorTracing.{moves_from, placed, marked, IsCopy, AreDistinct, Traces, words_kept}
use Rattle.m3_heap.specs.CollectorScanning.{scanned_words, PointsToKept, AreSettled, pointers_below, AreScanned, pointers_met}
use Rattle.m3_heap.proofs.SpaceLemmas.{AreLater, with_word-later, start-fits}
use Rattle.m3_heap.proofs.TracingLemmas.{all_map}
use Rattle.m3_heap.proofs.ScanLemmas.{copied_from, put_at, laid-placed, all-scanned, settled-past, scan-pointer, scan-other, settled-next, scanned-low, met-next, all-met, unmet, read-scanned}

-- ---- where the copy lies

some-words : (cs ks : List Cell) → AllByRecursion (IsCopy cs) ks → AllByRecursion (λ (k : Cell). 1 ≤ length k.words) ks
some-words cs ks h = all_map (IsCopy cs) (λ (k : Cell). 1 ≤ length k.words) (λ k c. c.some) ks h

pub laid-copies : (cs : List Cell) (b : ℕ) (ks : List Cell) → AllByRecursion (IsCopy cs) ks → AreLaid b (placed b ks)
laid-copies cs b ks h = laid-placed b ks (some-words cs ks h)

pub record IsNext (b : ℕ) (k : Cell) (ks : List Cell) (start : ℕ) : Type 0 where
  pub words : words_from (placed b (k ∷ ks)) start ≡ words_from (placed (b + length k.words) ks) start
  pub starts : is_start (placed b (k ∷ ks)) start ≡ is_start (placed (b + length k.words) ks) start
  pub from : copied_from b (k ∷ ks) start ≡ copied_from (b + length k.words) ks start

next-copy : (b : ℕ) (k : Cell) (ks : List Cell) (start : ℕ) → (b ≡ start → ⊥) → IsNext b k ks start
next-copy b k ks start differs = record {
  words = cond-false (eqb b start) k.words (words_from (placed (b + length k.words) ks) start) (ne_eqb b start differs);
  starts = ap is_some (cond-false (eqb b start) (Some (record { start = b; words = k.words })) (cell_from (placed (b + length k.words) ks) start) (ne_eqb b start differs));
  from = cond-false (eqb b start) k.start (copied_from (b + length k.words) ks start) (ne_eqb b start differs);
}

here-words : (b : ℕ) (k : Cell) (ks : List Cell) (start : ℕ) → b ≡ start → words_from (placed b (k ∷ ks)) start ≡ k.words
here-words b k ks start same = cond-true (eqb b start) k.words (words_from (placed (b + length k.words) ks) start) (eq-eqb b start same)

here-from : (b : ℕ) (k : Cell) (ks : List Cell) (start : ℕ) → b ≡ start → copied_from b (k ∷ ks) start ≡ k.start
here-from b k ks start same = cond-true (eqb b start) k.start (copied_from (b + length k.words) ks start) (eq-eqb b start same)

-- ---- the scan's step

pub step-other : (shapes : List Shape) (cs : List Cell) (ms : List Move) (b : ℕ) (ks : List Cell) (start i : ℕ) → AllByRecursion (IsCopy cs) ks → is_start (placed b ks) start ≡ true → i < length (words_from (placed b ks) start) → is_pointer_word shapes (words_from cs (copied_from b ks start)) i ≡ false → AreScanned shapes cs ms (start + i) b ks → AreScanned shapes cs ms (start + i + 1) b ks
step-other shapes cs ms b [] start i h e lt off s = absurd (false≢true e)
step-other shapes cs ms b (k ∷ ks) start i h e lt off s =
    let p = is_pointer_word shapes (words_from cs k.start) in
    let ws = words_from cs k.start in
    ⊎_elim
    (λ (same : b ≡ start).
    let count : length (words_from (placed b (k ∷ ks)) start) ≡ length k.words = ap (λ (xs : List ℕ). length xs) (here-words b k ks start same) in
    let off' : p (0 + i) ≡ false = ap p (let place : 0 + i ≡ i = omega arith in place) ∙ ap (λ n. is_pointer_word shapes (words_from cs n) i) (sym (here-from b k ks start same)) ∙ off in
    let limit : (start + i) - b ≡ 0 + i = omega arith in
    let limit' : (start + i + 1) - b ≡ 0 + i + 1 = omega arith in
    let P : ℕ → Type 0 = λ n. AreSettled p ms n 0 ws in (
      s.0 ∙ ap (λ n. scanned_words p ms n 0 ws) limit ∙ scan-other p ms 0 i ws off' ∙ ap (λ n. scanned_words p ms n 0 ws) (sym limit'),
      subst P (sym limit') (settled-next p ms 0 i ws (λ w _ on. absurd (false≢true (sym off' ∙ on))) (subst P limit s.1)),
      scanned-low shapes cs ms (start + i) (start + i + 1) (b + length k.words) ks (omega arith) (omega arith) s.2,
    ))
    (λ (differs : b ≡ start → ⊥).
    let next = next-copy b k ks start differs in
    let fits = start-fits (b + length k.words) start (placed (b + length k.words) ks) (laid-copies cs (b + length k.words) ks h.1) (sym next.starts ∙ e) in
    let count = ap (λ (xs : List ℕ). length xs) next.words in (
      s.0 ∙ all-scanned p ms ((start + i) - b) 0 ws (omega (arith, fits.0, h.0.same_length)) ∙ sym (all-scanned p ms ((start + i + 1) - b) 0 ws (omega (arith, fits.0, h.0.same_length))),
      settled-past p ms ((start + i) - b) ((start + i + 1) - b) 0 ws (omega (arith, fits.0, h.0.same_length)) s.1,
      step-other shapes cs ms (b + length k.words) ks start i h.1 (sym next.starts ∙ e) (omega arith) (ap (λ n. is_pointer_word shapes (words_from cs n) i) (sym next.from) ∙ off) s.2,
    ))
    (cases_eq b start)

pub step-pointer : (shapes : List Shape) (cs : List Cell) (ms : List Move) (b : ℕ) (ks : List Cell) (start i w : ℕ) → AllByRecursion (IsCopy cs) ks → is_start (placed b ks) start ≡ true → i < length (words_from (placed b ks) start) → is_pointer_word shapes (words_from cs (copied_from b ks start)) i ≡ true → slice_get (words_from cs (copied_from b ks start)) i ≡ Some w → PointsToKept ms w → AreScanned shapes cs ms (start + i) b ks → AreScanned shapes cs ms (start + i + 1) b (put_at b ks start i (forwarded ms w))
step-pointer shapes cs ms b [] start i w h e lt on word settled s = absurd (false≢true e)
step-pointer shapes cs ms b (k ∷ ks) start i w h e lt on word settled s =
    let p = is_pointer_word shapes (words_from cs k.start) in
    let ws = words_from cs k.start in
    let v = forwarded ms w in
    let here : List Cell = record { start = k.start; words = set k.words i v } ∷ ks in
    let there : List Cell = k ∷ put_at (b + length k.words) ks start i v in
    let R : List Cell → Type 0 = λ l. AreScanned shapes cs ms (start + i + 1) b l in
    ⊎_elim
    (λ (same : b ≡ start).
    let count : length (words_from (placed b (k ∷ ks)) start) ≡ length k.words = ap (λ (xs : List ℕ). length xs) (here-words b k ks start same) in
    let zero-i : 0 + i ≡ i = omega arith in
    let on' : p (0 + i) ≡ true = ap p zero-i ∙ ap (λ n. is_pointer_word shapes (words_from cs n) i) (sym (here-from b k ks start same)) ∙ on in
    let word' : slice_get ws i ≡ Some w = ap (λ n. slice_get (words_from cs n) i) (sym (here-from b k ks start same)) ∙ word in
    let limit : (start + i) - b ≡ 0 + i = omega arith in
    let limit' : (start + i + 1) - b ≡ 0 + i + 1 = omega arith in
    let P : ℕ → Type 0 = λ n. AreSettled p ms n 0 ws in
    let T : ℕ → Type 0 = λ n. AreScanned shapes cs ms (start + i + 1) (b + n) ks in
    let W : ℕ → Type 0 = λ n. PointsToKept ms n in
    subst R (sym (cond-true (eqb b start) here there (eq-eqb b start same))) (
      ap (λ xs. set xs i v) (s.0 ∙ ap (λ n. scanned_words p ms n 0 ws) limit) ∙ scan-pointer p ms 0 i ws w word' on' ∙ ap (λ n. scanned_words p ms n 0 ws) (sym limit'),
      subst P (sym limit') (settled-next p ms 0 i ws (λ x ex _. let same-word : w ≡ x = cc in subst W same-word settled) (subst P limit s.1)),
      subst T (sym (length-set k.words i v)) (scanned-low shapes cs ms (start + i) (start + i + 1) (b + length k.words) ks (omega arith) (omega arith) s.2),
    ))
    (λ (differs : b ≡ start → ⊥).
    let next = next-copy b k ks start differs in
    let fits = start-fits (b + length k.words) start (placed (b + length k.words) ks) (laid-copies cs (b + length k.words) ks h.1) (sym next.starts ∙ e) in
    let count = ap (λ (xs : List ℕ). length xs) next.words in
    subst R (sym (cond-false (eqb b start) here there (ne_eqb b start differs))) (
      s.0 ∙ all-scanned p ms ((start + i) - b) 0 ws (omega (arith, fits.0, h.0.same_length)) ∙ sym (all-scanned p ms ((start + i + 1) - b) 0 ws (omega (arith, fits.0, h.0.same_length))),
      settled-past p ms ((start + i) - b) ((start + i + 1) - b) 0 ws (omega (arith, fits.0, h.0.same_length)) s.1,
      step-pointer shapes cs ms (b + length k.words) ks start i w h.1 (sym next.starts ∙ e) (omega arith) (ap (λ n. is_pointer_word shapes (words_from cs n) i) (sym next.from) ∙ on) (ap (λ n. slice_get (words_from cs n) i) (sym next.from) ∙ word) settled s.2,
    ))
    (cases_eq b start)

-- the word that the step reads is the one of before
pub step-read : (shapes : List Shape) (cs : List Cell) (ms : List Move) (b : ℕ) (ks : List Cell) (start i : ℕ) → AllByRecursion (IsCopy cs) ks → is_start (placed b ks) start ≡ true → AreScanned shapes cs ms (start + i) b ks → slice_get (words_from (placed b ks) start) i ≡ slice_get (words_from cs (copied_from b ks start)) i
step-read shapes cs ms b [] start i h e s = absurd (false≢true e)
step-read shapes cs ms b (k ∷ ks) start i h e s =
    let p = is_pointer_word shapes (words_from cs k.start) in
    let ws = words_from cs k.start in
    ⊎_elim
    (λ (same : b ≡ start).
    let limit : (start + i) - b ≡ 0 + i = omega arith in
    ap (λ xs. slice_get xs i) (here-words b k ks start same ∙ s.0 ∙ ap (λ n. scanned_words p ms n 0 ws) limit)
    ∙ read-scanned p ms 0 i ws
    ∙ ap (λ n. slice_get (words_from cs n) i) (sym (here-from b k ks start same)))
    (λ (differs : b ≡ start → ⊥).
    let next = next-copy b k ks start differs in
    ap (λ xs. slice_get xs i) next.words
    ∙ step-read shapes cs ms (b + length k.words) ks start i h.1 (sym next.starts ∙ e) s.2
    ∙ ap (λ n. slice_get (words_from cs n) i) (sym next.from))
    (cases_eq b start)

met-low' : (shapes : List Shape) (cs : List Cell) (limit b : ℕ) (ks : List Cell) → limit ≤ b → pointers_met shapes cs limit b ks ≡ 0
met-low' shapes cs limit b [] low = refl
met-low' shapes cs limit b (k ∷ ks) low =
    let none = unmet (is_pointer_word shapes (words_from cs k.start)) (limit - b) 0 (words_from cs k.start) (omega arith) in
    let rest = met-low' shapes cs limit (b + length k.words) ks (omega arith) in
    omega arith

sum-here : (a x y c : ℕ) → x ≡ 0 → y ≡ 0 → a + c + x ≡ a + y + c
sum-here a x y c e f = omega arith

sum-next : (a b x y c : ℕ) → a ≡ b → x ≡ y + c → a + x ≡ b + y + c
sum-next a b x y c e f = omega arith

pub step-met : (shapes : List Shape) (cs : List Cell) (b : ℕ) (ks : List Cell) (start i : ℕ) → AllByRecursion (IsCopy cs) ks → is_start (placed b ks) start ≡ true → i < length (words_from (placed b ks) start) → pointers_met shapes cs (start + i + 1) b ks ≡ pointers_met shapes cs (start + i) b ks + cond (is_pointer_word shapes (words_from cs (copied_from b ks start)) i) 1 0
step-met shapes cs b [] start i h e lt = absurd (false≢true e)
step-met shapes cs b (k ∷ ks) start i h e lt =
    let p = is_pointer_word shapes (words_from cs k.start) in
    let ws = words_from cs k.start in
    ⊎_elim
    (λ (same : b ≡ start).
    let count : length (words_from (placed b (k ∷ ks)) start) ≡ length k.words = ap (λ (xs : List ℕ). length xs) (here-words b k ks start same) in
    let zero-i : 0 + i ≡ i = omega arith in
    let limit : (start + i) - b ≡ 0 + i = omega arith in
    let limit' : (start + i + 1) - b ≡ 0 + i + 1 = omega arith in
    let test : cond (p (0 + i)) 1 0 ≡ cond (is_pointer_word shapes (words_from cs (copied_from b (k ∷ ks) start)) i) 1 0 =
    ap (λ n. cond (p n) 1 0) zero-i ∙ ap (λ n. cond (is_pointer_word shapes (words_from cs n) i) 1 0) (sym (here-from b k ks start same)) in
    let first = ap (λ n. pointers_below p n 0 ws) limit' ∙ met-next p 0 i ws (omega (arith, h.0.same_length)) ∙ ap (λ n. pointers_below p (0 + i) 0 ws + n) test ∙ ap (λ n. pointers_below p n 0 ws + cond (is_pointer_word shapes (words_from cs (copied_from b (k ∷ ks) start)) i) 1 0) (sym limit) in
    ap (λ n. n + pointers_met shapes cs (start + i + 1) (b + length k.words) ks) first
    ∙ sum-here (pointers_below p ((start + i) - b) 0 ws) (pointers_met shapes cs (start + i + 1) (b + length k.words) ks) (pointers_met shapes cs (start + i) (b + length k.words) ks) (cond (is_pointer_word shapes (words_from cs (copied_from b (k ∷ ks) start)) i) 1 0)
    (met-low' shapes cs (start + i + 1) (b + length k.words) ks (omega arith)) (met-low' shapes cs (start + i) (b + length k.words) ks (omega arith)))
    (λ (differs : b ≡ start → ⊥).
    let next = next-copy b k ks start differs in
    let fits = start-fits (b + length k.words) start (placed (b + length k.words) ks) (laid-copies cs (b + length k.words) ks h.1) (sym next.starts ∙ e) in
    let count = ap (λ (xs : List ℕ). length xs) next.words in
    let first = all-met p ((start + i + 1) - b) 0 ws (omega (arith, fits.0, h.0.same_length)) ∙ sym (all-met p ((start + i) - b) 0 ws (omega (arith, fits.0, h.0.same_length))) in
    sum-next (pointers_below p ((start + i + 1) - b) 0 ws) (pointers_below p ((start + i) - b) 0 ws) (pointers_met shapes cs (start + i + 1) (b + length k.words) ks) (pointers_met shapes cs (start + i) (b + length k.words) ks) (cond (is_pointer_word shapes (words_from cs (copied_from b (k ∷ ks) start)) i) 1 0)
    first
    (step-met shapes cs (b + length k.words) ks start i h.1 (sym next.starts ∙ e) (omega arith)
    ∙ ap (λ n. pointers_met shapes cs (start + i) (b + length k.words) ks + cond (is_pointer_word shapes (words_from cs n) i) 1 0) (sym next.from)))
    (cases_eq b start)

-- ---- the copies after a word was set

pub moves-put : (b : ℕ) (ks : List Cell) (start i v : ℕ) → moves_from b (put_at b ks start i v) ≡ moves_from b ks
moves-put b [] start i v = refl
moves-put b (k ∷ ks) start i v =
    let here : List Cell = record { start = k.start; words = set k.words i v } ∷ ks in
    let there : List Cell = k ∷ put_at (b + length k.words) ks start i v in
    ⊎_elim
    (λ (same : b ≡ start). ap (λ l. moves_from b l) (cond-true (eqb b start) here there (eq-eqb b start same)) ∙ ap (λ n. record { from = k.start; to = b } ∷ moves_from (b + n) ks) (length-set k.words i v))
    (λ (differs : b ≡ start → ⊥). ap (λ l. moves_from b l) (cond-false (eqb b start) here there (ne_eqb b start differs)) ∙ ap (λ l. record { from = k.start; to = b } ∷ l) (moves-put (b + length k.words) ks start i v))
    (cases_eq b start)

pub total-put : (b : ℕ) (ks : List Cell) (start i v : ℕ) → total_words (put_at b ks start i v) ≡ total_words ks
total-put b [] start i v = refl
total-put b (k ∷ ks) start i v =
    let here : List Cell = record { start = k.start; words = set k.words i v } ∷ ks in
    let there : List Cell = k ∷ put_at (b + length k.words) ks start i v in
    ⊎_elim
    (λ (same : b ≡ start). ap total_words (cond-true (eqb b start) here there (eq-eqb b start same)) ∙ ap (λ n. n + total_words ks) (length-set k.words i v))
    (λ (differs : b ≡ start → ⊥). ap total_words (cond-false (eqb b start) here there (ne_eqb b start differs)) ∙ ap (λ n. length k.words + n) (total-put (b + length k.words) ks start i v))
    (cases_eq b start)

pub met-put : (shapes : List Shape) (cs : List Cell) (limit b : ℕ) (ks : List Cell) (start i v : ℕ) → pointers_met shapes cs limit b (put_at b ks start i v) ≡ pointers_met shapes cs limit b ks
met-put shapes cs limit b [] start i v = refl
met-put shapes cs limit b (k ∷ ks) start i v =
    let here : List Cell = record { start = k.start; words = set k.words i v } ∷ ks in
    let there : List Cell = k ∷ put_at (b + length k.words) ks start i v in
    let first = pointers_below (is_pointer_word shapes (words_from cs k.start)) (limit - b) 0 (words_from cs k.start) in
    ⊎_elim
    (λ (same : b ≡ start). ap (λ l. pointers_met shapes cs limit b l) (cond-true (eqb b start) here there (eq-eqb b start same)) ∙ ap (λ n. first + pointers_met shapes cs limit (b + n) ks) (length-set k.words i v))
    (λ (differs : b ≡ start → ⊥). ap (λ l. pointers_met shapes cs limit b l) (cond-false (eqb b start) here there (ne_eqb b start differs)) ∙ ap (λ n. first + n) (met-put shapes cs limit (b + length k.words) ks start i v))
    (cases_eq b start)

pub all-put : (Q : Cell → Type 0) (b : ℕ) (ks : List Cell) (start i v : ℕ) → ((k : Cell) → Q k → Q (record { start = k.start; words = set k.words i v })) → AllByRecursion Q ks → AllByRecursion Q (put_at b ks start i v)
all-put Q b [] start i v f h = tt
all-put Q b (k ∷ ks) start i v f h =
    let here : List Cell = record { start = k.start; words = set k.words i v } ∷ ks in
    let there : List Cell = k ∷ put_at (b + length k.words) ks start i v in
    let R : List Cell → Type 0 = λ l. AllByRecursion Q l in
    ⊎_elim
    (λ (same : b ≡ start). subst R (sym (cond-true (eqb b start) here there (eq-eqb b start same))) (f k h.0, h.1))
    (λ (differs : b ≡ start → ⊥). subst R (sym (cond-false (eqb b start) here there (ne_eqb b start differs))) (h.0, all-put Q (b + length k.words) ks start i v f h.1))
    (cases_eq b start)

distinct-put : (b : ℕ) (ks : List Cell) (start i v : ℕ) → AreDistinct ks → AreDistinct (put_at b ks start i v)
distinct-put b [] start i v d = tt
distinct-put b (k ∷ ks) start i v d =
    let here : List Cell = record { start = k.start; words = set k.words i v } ∷ ks in
    let there : List Cell = k ∷ put_at (b + length k.words) ks start i v in
    let R : List Cell → Type 0 = λ l. AreDistinct l in
    ⊎_elim
    (λ (same : b ≡ start). subst R (sym (cond-true (eqb b start) here there (eq-eqb b start same))) (d.0, d.1))
    (λ (differs : b ≡ start → ⊥). subst R (sym (cond-false (eqb b start) here there (ne_eqb b start differs)))
    (all-put (λ (o : Cell). k.start ≢ o.start) (b + length k.words) ks start i v (λ o ne. ne) d.0, distinct-put (b + length k.words) ks start i v d.1))
    (cases_eq b start)

header-set : (ws : List ℕ) (i v : ℕ) → 0 < i → header (set ws i v) ≡ header ws
header-set [] i v h = refl
header-set (w ∷ ws) zero v h = absurd (omega arith)
header-set (w ∷ ws) (suc i) v h = refl

pub copies-put : (cs : List Cell) (b : ℕ) (ks : List Cell) (start i v : ℕ) → 0 < i → AllByRecursion (IsCopy cs) ks → AllByRecursion (IsCopy cs) (put_at b ks start i v)
copies-put cs b ks start i v after h =
    all-put (IsCopy cs) b ks start i v
    (λ k c. record {
      starts = c.starts;
      same_length = length-set k.words i v ∙ c.same_length;
      same_header = header-set k.words i v after ∙ c.same_header;
      some = omega (arith, length-set k.words i v, c.some);
    }) h

pub with_word-placed : (cs : List Cell) (b : ℕ) (ks : List Cell) (start i v : ℕ) → AllByRecursion (IsCopy cs) ks → is_start (placed b ks) start ≡ true → i < length (words_from (placed b ks) start) → with_word (placed b ks) (start + i) v ≡ placed b (put_at b ks start i v)
with_word-placed cs b [] start i v h e lt = refl
with_word-placed cs b (k ∷ ks) start i v h e lt =
    let here : List Cell = record { start = k.start; words = set k.words i v } ∷ ks in
    let there : List Cell = k ∷ put_at (b + length k.words) ks start i v in
    let cell : Cell = record { start = b; words = k.words } in
    let put : Cell = record { start = b; words = set k.words ((start + i) - b) v } in
    ⊎_elim
    (λ (same : b ≡ start).
    let count : length (words_from (placed b (k ∷ ks)) start) ≡ length k.words = ap (λ (xs : List ℕ). length xs) (here-words b k ks start same) in
    let hit = cond-true (covers cell (start + i)) put cell (rw (le-leb b (start + i) (omega arith), lt-ltb (start + i) (b + length k.words) (omega arith))) in
    let place : (start + i) - b ≡ i = omega arith in
    let later = with_word-later (placed (b + length k.words) ks) (start + i) v (later-placed (b + length k.words) (start + i) ks (omega arith)) in
    let kept = length-set k.words i v in
    let list = cond-true (eqb b start) here there (eq-eqb b start same) in
    let first : put ≡ record { start = b; words = set k.words i v } = ap (λ n. let d : Cell = record { start = b; words = set k.words n v } in d) place in
    let rest : placed (b + length k.words) ks ≡ placed (b + length (set k.words i v)) ks = ap (λ n. placed (b + n) ks) (sym kept) in
    cc)
    (λ (differs : b ≡ start → ⊥).
    let next = next-copy b k ks start differs in
    let fits = start-fits (b + length k.words) start (placed (b + length k.words) ks) (laid-copies cs (b + length k.words) ks h.1) (sym next.starts ∙ e) in
    let count = ap (λ (xs : List ℕ). length xs) next.words in
    let miss = cond-false (covers cell (start + i)) put cell (rw (le-leb b (start + i) (omega (arith, fits.0)), le-ltb (start + i) (b + length k.words) (omega (arith, fits.0)))) in
    let rest = with_word-placed cs (b + length k.words) ks start i v h.1 (sym next.starts ∙ e) (omega arith) in
    let list = cond-false (eqb b start) here there (ne_eqb b start differs) in
    cc)
    (cases_eq b start)
  where
    later-placed : (b at : ℕ) (ks : List Cell) → at < b → AreLater at (placed b ks)
    later-placed b at [] lt = tt
    later-placed b at (k ∷ ks) lt = (lt, later-placed (b + length k.words) at ks (omega arith))

pub record KeepsShape (b : ℕ) (ks ks' : List Cell) (start : ℕ) : Type 0 where
  pub starts : is_start (placed b ks') start ≡ is_start (placed b ks) start
  pub same_length : length (words_from (placed b ks') start) ≡ length (words_from (placed b ks) start)
  pub same_header : header (words_from (placed b ks') start) ≡ header (words_from (placed b ks) start)

pub shape-put : (b : ℕ) (ks : List Cell) (start i v : ℕ) → 0 < i → KeepsShape b ks (put_at b ks start i v) start
shape-put b [] start i v after = record { starts = refl; same_length = refl; same_header = refl }
shape-put b (k ∷ ks) start i v after =
    let k' : Cell = record { start = k.start; words = set k.words i v } in
    let here : List Cell = k' ∷ ks in
    let there : List Cell = k ∷ put_at (b + length k.words) ks start i v in
    let R : List Cell → Type 0 = λ l. KeepsShape b (k ∷ ks) l start in
    ⊎_elim
    (λ (same : b ≡ start).
    let was = here-words b k ks start same in
    let now = here-words b k' ks start same in
    subst R (sym (cond-true (eqb b start) here there (eq-eqb b start same))) (record {
      starts = ap is_some (cond-true (eqb b start) (Some (record { start = b; words = k'.words })) (cell_from (placed (b + length k'.words) ks) start) (eq-eqb b start same))
          ∙ sym (ap is_some (cond-true (eqb b start) (Some (record { start = b; words = k.words })) (cell_from (placed (b + length k.words) ks) start) (eq-eqb b start same)));
      same_length = ap (λ (xs : List ℕ). length xs) now ∙ length-set k.words i v ∙ ap (λ (xs : List ℕ). length xs) (sym was);
      same_header = ap header now ∙ header-set k.words i v after ∙ ap header (sym was);
    }))
    (λ (differs : b ≡ start → ⊥).
    let was = next-copy b k ks start differs in
    let now = next-copy b k (put_at (b + length k.words) ks start i v) start differs in
    let ih = shape-put (b + length k.words) ks start i v after in
    subst R (sym (cond-false (eqb b start) here there (ne_eqb b start differs))) (record {
      starts = now.starts ∙ ih.starts ∙ sym was.starts;
      same_length = ap (λ (xs : List ℕ). length xs) now.words ∙ ih.same_length ∙ ap (λ (xs : List ℕ). length xs) (sym was.words);
      same_header = ap header now.words ∙ ih.same_header ∙ ap header (sym was.words);
    }))
    (cases_eq b start)

pub traces-put : (left kept kept' : Space) (cs ks : List Cell) (start i v : ℕ) → Traces left kept cs ks → 0 < i → is_start kept.cells start ≡ true → i < length (words_from kept.cells start) → kept'.base ≡ kept.base → kept'.size ≡ kept.size → kept'.cells ≡ with_word kept.cells (start + i) v → Traces left kept' cs (put_at kept.base ks start i v)
traces-put left kept kept' cs ks start i v h after starts lt base size cells =
    let ks' = put_at kept.base ks start i v in
    let e = ap (λ ts. is_start ts start) (sym h.is_placed) ∙ starts in
    let count = ap (λ ts. length (words_from ts start)) h.is_placed in
    let list : moves_from kept'.base ks' ≡ moves_from kept.base ks = ap (λ b. moves_from b ks') base ∙ moves-put kept.base ks start i v in
    let Q : ℕ → Type 0 = λ n. total_words cs ≤ n in
    let R : ℕ → Type 0 = λ n. heap_base ≤ n in
    record {
      headed = h.headed;
      short = h.short;
      rising = h.rising;
      fits = subst Q (sym size) h.fits;
      left_base = h.left_base;
      kept_base = subst R (sym base) h.kept_base;
      kept_ends = omega (arith, h.kept_ends, base, size);
      is_marked = h.is_marked ∙ sym (ap (λ l. marked l cs) list);
      is_placed =
          cells ∙ ap (λ ts. with_word ts (start + i) v) h.is_placed
          ∙ with_word-placed cs kept.base ks start i v h.are_copies e (omega arith)
          ∙ ap (λ b. placed b ks') (sym base);
      are_copies = copies-put cs kept.base ks start i v after h.are_copies;
      distinct = distinct-put kept.base ks start i v h.distinct;
      counted = total-put kept.base ks start i v ∙ h.counted ∙ sym (ap (λ l. words_kept l cs) list);
    }
