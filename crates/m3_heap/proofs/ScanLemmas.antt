-- The scan of the copies, word by word.
use Rattle.std.proofs.Common.{◌≡◌, ℕ, ◌+◌, ◌-◌, ◌<◌, ◌≤◌, zero, suc, Bool, true, false, cond, eqb, ltb, ◌&&◌, List, [], ◌∷◌, ◌++◌, length, set, Some, None, is_some, unwrap_or, refl, sym, ap, subst, ◌∙◌, arith, ⊎_elim, inl, inr}
use Rattle.std.specs.List.{AllByRecursion}
use Rattle.std.specs.Prelude.{slice_get}
use Rattle.std.proofs.lemmas.Bool.{cases_eq, cases_lt, cases_Bool, lt-ltb, le-ltb, eq-eqb, ne_eqb, cond-true, cond-false, false≢true, and_from, and_left, and_right}
use Rattle.m3_heap.specs.Cells.{Cell, heap_base, header, cell_from, is_start, words_from, total_words}
use Rattle.m3_heap.specs.Shapes.{Shape, is_pointer_word, pointers_from}
use Rattle.m3_heap.specs.Moves.{Move, new_start, forwarded, mapped_from}
use Rattle.m3_heap.specs.CollectorSpace.{AreLaid}
use Rattle.m3_heap.specs.CollectorTracing.{placed, IsCopy}
use Rattle.m3_heap.specs.CollectorScanning.{scanned_words, PointsToKept, AreSettled, pointers_below, AreScanned, pointers_met}
use Rattle.m3_heap.proofs.TracingLemmas.{none_or_some, new_start-found}

-- ---- one copy's words

below-no : (p : ℕ → Bool) (at limit : ℕ) → limit ≤ at → (p at && ltb at limit) ≡ false
below-no p at limit h = and_right (p at) (ltb at limit) (le-ltb at limit h)

pub unscanned : (p : ℕ → Bool) (ms : List Move) (limit at : ℕ) (ws : List ℕ) → limit ≤ at → scanned_words p ms limit at ws ≡ ws
unscanned p ms limit at [] h = refl
unscanned p ms limit at (w ∷ ws) h =
    let first = cond-false (p at && ltb at limit) (forwarded ms w) w (below-no p at limit h) in
    let rest = unscanned p ms limit (at + 1) ws (omega arith) in
    cc

pub unsettled : (p : ℕ → Bool) (ms : List Move) (limit at : ℕ) (ws : List ℕ) → limit ≤ at → AreSettled p ms limit at ws
unsettled p ms limit at [] h = tt
unsettled p ms limit at (w ∷ ws) h = (λ _ lt. absurd (omega arith), unsettled p ms limit (at + 1) ws (omega arith))

pub unmet : (p : ℕ → Bool) (limit at : ℕ) (ws : List ℕ) → limit ≤ at → pointers_below p limit at ws ≡ 0
unmet p limit at [] h = refl
unmet p limit at (w ∷ ws) h =
    let first : cond (p at && ltb at limit) 1 0 ≡ 0 = cond-false (p at && ltb at limit) 1 0 (below-no p at limit h) in
    let rest = unmet p limit (at + 1) ws (omega arith) in
    ap (λ n. n + pointers_below p limit (at + 1) ws) first ∙ (let sum : 0 + pointers_below p limit (at + 1) ws ≡ 0 = omega arith in sum)

same-test : (p : ℕ → Bool) (at limit : ℕ) → at < limit → (p at && ltb at limit) ≡ p at
same-test p at limit h = ⊎_elim
    (λ (holds : p at ≡ true). and_from (p at) (ltb at limit) holds (lt-ltb at limit h) ∙ sym holds)
    (λ (fails : p at ≡ false). and_left (p at) (ltb at limit) fails ∙ sym fails)
    (cases_Bool (p at))

pub all-scanned : (p : ℕ → Bool) (ms : List Move) (limit at : ℕ) (ws : List ℕ) → at + length ws ≤ limit → scanned_words p ms limit at ws ≡ mapped_from p ms at ws
all-scanned p ms limit at [] h = refl
all-scanned p ms limit at (w ∷ ws) h =
    let first = ap (λ b. cond b (forwarded ms w) w) (same-test p at limit (omega arith)) in
    let rest = all-scanned p ms limit (at + 1) ws (omega arith) in
    cc

pub all-met : (p : ℕ → Bool) (limit at : ℕ) (ws : List ℕ) → at + length ws ≤ limit → pointers_below p limit at ws ≡ pointers_from p at ws
all-met p limit at [] h = refl
all-met p limit at (w ∷ ws) h =
    let first : cond (p at && ltb at limit) 1 0 ≡ cond (p at) 1 0 = ap (λ b. cond b 1 0) (same-test p at limit (omega arith)) in
    let rest = all-met p limit (at + 1) ws (omega arith) in
    ap (λ n. n + pointers_below p limit (at + 1) ws) first ∙ ap (λ n. cond (p at) 1 0 + n) rest

pub settled-past : (p : ℕ → Bool) (ms : List Move) (limit limit' at : ℕ) (ws : List ℕ) → at + length ws ≤ limit → AreSettled p ms limit at ws → AreSettled p ms limit' at ws
settled-past p ms limit limit' at [] h s = tt
settled-past p ms limit limit' at (w ∷ ws) h s = (λ holds _. s.0 holds (omega arith), settled-past p ms limit limit' (at + 1) ws (omega arith) s.1)

-- the forwarding list grows
pub forwarded-more : (ms more : List Move) (w : ℕ) → PointsToKept ms w → forwarded (ms ++ more) w ≡ forwarded ms w
forwarded-more ms more w (inl low) =
    cond-true (ltb w heap_base) w (unwrap_or (new_start (ms ++ more) w) w) (lt-ltb w heap_base low)
    ∙ sym (cond-true (ltb w heap_base) w (unwrap_or (new_start ms w) w) (lt-ltb w heap_base low))
forwarded-more ms more w (inr kept) = ⊎_elim
    (λ (none : new_start ms w ≡ None). absurd (false≢true (sym (ap is_some none) ∙ kept)))
    (λ (some : (d : ℕ) × (new_start ms w ≡ Some d)).
    let grown = new_start-found ms more w some.0 some.1 in
    ap (λ o. cond (ltb w heap_base) w (unwrap_or o w)) (grown ∙ sym some.1))
    (none_or_some (new_start ms w))

pub settled-more : (ms more : List Move) (w : ℕ) → PointsToKept ms w → PointsToKept (ms ++ more) w
settled-more ms more w (inl low) = inl low
settled-more ms more w (inr kept) = ⊎_elim
    (λ (none : new_start ms w ≡ None). absurd (false≢true (sym (ap is_some none) ∙ kept)))
    (λ (some : (d : ℕ) × (new_start ms w ≡ Some d)). inr (ap is_some (new_start-found ms more w some.0 some.1)))
    (none_or_some (new_start ms w))

pub scanned-more : (p : ℕ → Bool) (ms more : List Move) (limit at : ℕ) (ws : List ℕ) → AreSettled p ms limit at ws → scanned_words p (ms ++ more) limit at ws ≡ scanned_words p ms limit at ws
scanned-more p ms more limit at [] s = refl
scanned-more p ms more limit at (w ∷ ws) s =
    let rest = scanned-more p ms more limit (at + 1) ws s.1 in
    let first : cond (p at && ltb at limit) (forwarded (ms ++ more) w) w ≡ cond (p at && ltb at limit) (forwarded ms w) w = ⊎_elim
    (λ (low : at < limit). ⊎_elim
    (λ (holds : p at ≡ true). ap (λ n. cond (p at && ltb at limit) n w) (forwarded-more ms more w (s.0 holds low)))
    (λ (fails : p at ≡ false).
    let off = and_left (p at) (ltb at limit) fails in
    cond-false (p at && ltb at limit) (forwarded (ms ++ more) w) w off ∙ sym (cond-false (p at && ltb at limit) (forwarded ms w) w off))
    (cases_Bool (p at)))
    (λ (high : limit ≤ at).
    let off = below-no p at limit high in
    cond-false (p at && ltb at limit) (forwarded (ms ++ more) w) w off ∙ sym (cond-false (p at && ltb at limit) (forwarded ms w) w off))
    (cases_lt at limit) in
    cc

pub settled-grow : (p : ℕ → Bool) (ms more : List Move) (limit at : ℕ) (ws : List ℕ) → AreSettled p ms limit at ws → AreSettled p (ms ++ more) limit at ws
settled-grow p ms more limit at [] s = tt
settled-grow p ms more limit at (w ∷ ws) s = (λ holds lt. settled-more ms more w (s.0 holds lt), settled-grow p ms more limit (at + 1) ws s.1)

pub length-scanned : (p : ℕ → Bool) (ms : List Move) (limit at : ℕ) (ws : List ℕ) → length (scanned_words p ms limit at ws) ≡ length ws
length-scanned p ms limit at [] = refl
length-scanned p ms limit at (w ∷ ws) = let rest = length-scanned p ms limit (at + 1) ws in omega arith

-- the word at the limit isn't changed yet
pub read-scanned : (p : ℕ → Bool) (ms : List Move) (at i : ℕ) (ws : List ℕ) → slice_get (scanned_words p ms (at + i) at ws) i ≡ slice_get ws i
read-scanned p ms at i [] = refl
read-scanned p ms at zero (w ∷ ws) = ap (λ n. Some n) (cond-false (p at && ltb at (at + 0)) (forwarded ms w) w (below-no p at (at + 0) (omega arith)))
read-scanned p ms at (suc i) (w ∷ ws) =
    ap (λ limit. slice_get (scanned_words p ms limit (at + 1) ws) i) (let same : at + suc i ≡ (at + 1) + i = omega arith in same)
    ∙ read-scanned p ms (at + 1) i ws

-- one word on, where it is a pointer
pub scan-pointer : (p : ℕ → Bool) (ms : List Move) (at i : ℕ) (ws : List ℕ) (w : ℕ) → slice_get ws i ≡ Some w → p (at + i) ≡ true → set (scanned_words p ms (at + i) at ws) i (forwarded ms w) ≡ scanned_words p ms (at + i + 1) at ws
scan-pointer p ms at i [] w e holds = absurd (cc)
scan-pointer p ms at zero (x ∷ ws) w e holds =
    let same : x ≡ w = cc in
    let hit : (p at && ltb at (at + 0 + 1)) ≡ true = and_from (p at) (ltb at (at + 0 + 1)) (ap p (let place : at ≡ at + 0 = omega arith in place) ∙ holds) (lt-ltb at (at + 0 + 1) (omega arith)) in
    let first = cond-true (p at && ltb at (at + 0 + 1)) (forwarded ms x) x hit in
    let rest = unscanned p ms (at + 0) (at + 1) ws (omega arith) in
    let rest' = unscanned p ms (at + 0 + 1) (at + 1) ws (omega arith) in
    cc
scan-pointer p ms at (suc i) (x ∷ ws) w e holds =
    let place : at + suc i ≡ (at + 1) + i = omega arith in
    let ih = scan-pointer p ms (at + 1) i ws w e (ap p (sym place) ∙ holds) in
    let before = same-test p at (at + suc i) (omega arith) in
    let after = same-test p at (at + suc i + 1) (omega arith) in
    let first : cond (p at && ltb at (at + suc i)) (forwarded ms x) x ≡ cond (p at && ltb at (at + suc i + 1)) (forwarded ms x) x = ap (λ b. cond b (forwarded ms x) x) (before ∙ sym after) in
    let rest = ap (λ limit. set (scanned_words p ms limit (at + 1) ws) i (forwarded ms w)) place ∙ ih ∙ ap (λ limit. scanned_words p ms (limit + 1) (at + 1) ws) (sym place) in
    cc

-- one word on, where it is none
pub scan-other : (p : ℕ → Bool) (ms : List Move) (at i : ℕ) (ws : List ℕ) → p (at + i) ≡ false → scanned_words p ms (at + i) at ws ≡ scanned_words p ms (at + i + 1) at ws
scan-other p ms at i [] fails = refl
scan-other p ms at zero (x ∷ ws) fails =
    let off : p at ≡ false = ap p (let place : at ≡ at + 0 = omega arith in place) ∙ fails in
    let first = cond-false (p at && ltb at (at + 0)) (forwarded ms x) x (and_left (p at) (ltb at (at + 0)) off) in
    let first' = cond-false (p at && ltb at (at + 0 + 1)) (forwarded ms x) x (and_left (p at) (ltb at (at + 0 + 1)) off) in
    let rest = unscanned p ms (at + 0) (at + 1) ws (omega arith) in
    let rest' = unscanned p ms (at + 0 + 1) (at + 1) ws (omega arith) in
    cc
scan-other p ms at (suc i) (x ∷ ws) fails =
    let place : at + suc i ≡ (at + 1) + i = omega arith in
    let ih = scan-other p ms (at + 1) i ws (ap p (sym place) ∙ fails) in
    let first : cond (p at && ltb at (at + suc i)) (forwarded ms x) x ≡ cond (p at && ltb at (at + suc i + 1)) (forwarded ms x) x =
    ap (λ b. cond b (forwarded ms x) x) (same-test p at (at + suc i) (omega arith) ∙ sym (same-test p at (at + suc i + 1) (omega arith))) in
    let rest = ap (λ limit. scanned_words p ms limit (at + 1) ws) place ∙ ih ∙ ap (λ limit. scanned_words p ms (limit + 1) (at + 1) ws) (sym place) in
    cc

pub settled-next : (p : ℕ → Bool) (ms : List Move) (at i : ℕ) (ws : List ℕ) → ((w : ℕ) → slice_get ws i ≡ Some w → p (at + i) ≡ true → PointsToKept ms w) → AreSettled p ms (at + i) at ws → AreSettled p ms (at + i + 1) at ws
settled-next p ms at i [] f s = tt
settled-next p ms at zero (x ∷ ws) f s =
    (λ holds _. f x refl (ap p (let place : at + 0 ≡ at = omega arith in place) ∙ holds), unsettled p ms (at + 0 + 1) (at + 1) ws (omega arith))
settled-next p ms at (suc i) (x ∷ ws) f s =
    let place : at + suc i ≡ (at + 1) + i = omega arith in
    let P : ℕ → Type 0 = λ limit. AreSettled p ms limit (at + 1) ws in
    let Q : ℕ → Type 0 = λ limit. AreSettled p ms (limit + 1) (at + 1) ws in
    (λ holds _. s.0 holds (omega arith), subst Q (sym place) (settled-next p ms (at + 1) i ws (λ w e holds. f w e (ap p place ∙ holds)) (subst P place s.1)))

pub met-next : (p : ℕ → Bool) (at i : ℕ) (ws : List ℕ) → i < length ws → pointers_below p (at + i + 1) at ws ≡ pointers_below p (at + i) at ws + cond (p (at + i)) 1 0
met-next p at i [] h = absurd (omega arith)
met-next p at zero (x ∷ ws) h =
    let place : at ≡ at + 0 = omega arith in
    let first : cond (p at && ltb at (at + 0 + 1)) 1 0 ≡ cond (p (at + 0)) 1 0 = ap (λ b. cond b 1 0) (same-test p at (at + 0 + 1) (omega arith) ∙ ap p place) in
    let was : cond (p at && ltb at (at + 0)) 1 0 ≡ 0 = cond-false (p at && ltb at (at + 0)) 1 0 (below-no p at (at + 0) (omega arith)) in
    let rest = unmet p (at + 0) (at + 1) ws (omega arith) in
    let rest' = unmet p (at + 0 + 1) (at + 1) ws (omega arith) in
    sum-step (cond (p at && ltb at (at + 0 + 1)) 1 0) (cond (p at && ltb at (at + 0)) 1 0) (cond (p (at + 0)) 1 0) (pointers_below p (at + 0 + 1) (at + 1) ws) (pointers_below p (at + 0) (at + 1) ws) first was rest' rest
  where
    sum-step : (a b c x y : ℕ) → a ≡ c → b ≡ 0 → x ≡ 0 → y ≡ 0 → a + x ≡ b + y + c
    sum-step a b c x y e f g h = omega arith
met-next p at (suc i) (x ∷ ws) h =
    let place : at + suc i ≡ (at + 1) + i = omega arith in
    let ih = met-next p (at + 1) i ws (omega arith) in
    let first : cond (p at && ltb at (at + suc i + 1)) 1 0 ≡ cond (p at && ltb at (at + suc i)) 1 0 = ap (λ b. cond b 1 0) (same-test p at (at + suc i + 1) (omega arith) ∙ sym (same-test p at (at + suc i) (omega arith))) in
    let limit = ap (λ n. pointers_below p n (at + 1) ws) place in
    let limit' = ap (λ n. pointers_below p (n + 1) (at + 1) ws) place in
    let test : cond (p (at + suc i)) 1 0 ≡ cond (p ((at + 1) + i)) 1 0 = ap (λ n. cond (p n) 1 0) place in
    sum-on (cond (p at && ltb at (at + suc i + 1)) 1 0) (cond (p at && ltb at (at + suc i)) 1 0) (pointers_below p (at + suc i + 1) (at + 1) ws) (pointers_below p (at + suc i) (at + 1) ws) (cond (p (at + suc i)) 1 0)
    first (limit' ∙ ih ∙ ap (λ n. n + cond (p ((at + 1) + i)) 1 0) (sym limit) ∙ ap (λ n. pointers_below p (at + suc i) (at + 1) ws + n) (sym test))
  where
    sum-on : (a b x y c : ℕ) → a ≡ b → x ≡ y + c → a + x ≡ b + y + c
    sum-on a b x y c e f = omega arith

-- ---- the copies

-- the start of the cell that the copy at an address is of
abbrev pub copied_from : ℕ → List Cell → ℕ → ℕ
copied_from at [] start = 0
copied_from at (k ∷ ks) start = cond (eqb at start) k.start (copied_from (at + length k.words) ks start)

-- the copies after a word of one of them was set
abbrev pub put_at : ℕ → List Cell → ℕ → ℕ → ℕ → List Cell
put_at at [] start i v = []
put_at at (k ∷ ks) start i v = cond (eqb at start) (record { start = k.start; words = set k.words i v } ∷ ks) (k ∷ put_at (at + length k.words) ks start i v)

pub laid-placed : (b : ℕ) (ks : List Cell) → AllByRecursion (λ (k : Cell). 1 ≤ length k.words) ks → AreLaid b (placed b ks)
laid-placed b [] h = tt
laid-placed b (k ∷ ks) h = (refl, h.0, laid-placed (b + length k.words) ks h.1)

starts-here : (b : ℕ) (k : Cell) (ks : List Cell) (start : ℕ) → b ≡ start → words_from (placed b (k ∷ ks)) start ≡ k.words
starts-here b k ks start same = cond-true (eqb b start) k.words (words_from (placed (b + length k.words) ks) start) (eq-eqb b start same)

starts-there : (b : ℕ) (k : Cell) (ks : List Cell) (start : ℕ) → (b ≡ start → ⊥) → (words_from (placed b (k ∷ ks)) start ≡ words_from (placed (b + length k.words) ks) start) × (is_start (placed b (k ∷ ks)) start ≡ is_start (placed (b + length k.words) ks) start)
starts-there b k ks start differs = (
  cond-false (eqb b start) k.words (words_from (placed (b + length k.words) ks) start) (ne_eqb b start differs),
  ap is_some (cond-false (eqb b start) (Some (record { start = b; words = k.words })) (cell_from (placed (b + length k.words) ks) start) (ne_eqb b start differs)),
)

pub record IsCopyAt (cs : List Cell) (b : ℕ) (ks : List Cell) (start : ℕ) : Type 0 where
  pub same_length : length (words_from (placed b ks) start) ≡ length (words_from cs (copied_from b ks start))
  pub same_header : header (words_from (placed b ks) start) ≡ header (words_from cs (copied_from b ks start))
  pub starts : is_start cs (copied_from b ks start) ≡ true

pub copy-here : (cs : List Cell) (b : ℕ) (ks : List Cell) (start : ℕ) → AllByRecursion (IsCopy cs) ks → is_start (placed b ks) start ≡ true → IsCopyAt cs b ks start
copy-here cs b [] start h e = absurd (false≢true e)
copy-here cs b (k ∷ ks) start h e = ⊎_elim
    (λ (same : b ≡ start).
    let words = starts-here b k ks start same in
    let from = cond-true (eqb b start) k.start (copied_from (b + length k.words) ks start) (eq-eqb b start same) in
    record {
      same_length = ap (λ (ws : List ℕ). length ws) words ∙ h.0.same_length ∙ ap (λ n. length (words_from cs n)) (sym from);
      same_header = ap header words ∙ h.0.same_header ∙ ap (λ n. header (words_from cs n)) (sym from);
      starts = ap (λ n. is_start cs n) from ∙ h.0.starts;
    })
    (λ (differs : b ≡ start → ⊥).
    let there = starts-there b k ks start differs in
    let from = cond-false (eqb b start) k.start (copied_from (b + length k.words) ks start) (ne_eqb b start differs) in
    let ih = copy-here cs (b + length k.words) ks start h.1 (sym there.1 ∙ e) in
    record {
      same_length = ap (λ (ws : List ℕ). length ws) there.0 ∙ ih.same_length ∙ ap (λ n. length (words_from cs n)) (sym from);
      same_header = ap header there.0 ∙ ih.same_header ∙ ap (λ n. header (words_from cs n)) (sym from);
      starts = ap (λ n. is_start cs n) from ∙ ih.starts;
    })
    (cases_eq b start)

-- what the scan has done at and after its limit
pub scanned-low : (shapes : List Shape) (cs : List Cell) (ms : List Move) (limit limit' b : ℕ) (ks : List Cell) → limit ≤ b → limit' ≤ b → AreScanned shapes cs ms limit b ks → AreScanned shapes cs ms limit' b ks
scanned-low shapes cs ms limit limit' b [] low low' s = tt
scanned-low shapes cs ms limit limit' b (k ∷ ks) low low' s =
    let p = is_pointer_word shapes (words_from cs k.start) in
    let ws = words_from cs k.start in (
      s.0 ∙ unscanned p ms (limit - b) 0 ws (omega arith) ∙ sym (unscanned p ms (limit' - b) 0 ws (omega arith)),
      unsettled p ms (limit' - b) 0 ws (omega arith),
      scanned-low shapes cs ms limit limit' (b + length k.words) ks (omega arith) (omega arith) s.2,
    )

pub scanned-grow : (shapes : List Shape) (cs : List Cell) (ms more : List Move) (limit b : ℕ) (ks : List Cell) → AreScanned shapes cs ms limit b ks → AreScanned shapes cs (ms ++ more) limit b ks
scanned-grow shapes cs ms more limit b [] s = tt
scanned-grow shapes cs ms more limit b (k ∷ ks) s =
    let p = is_pointer_word shapes (words_from cs k.start) in
    let ws = words_from cs k.start in
    (s.0 ∙ sym (scanned-more p ms more (limit - b) 0 ws s.1), settled-grow p ms more (limit - b) 0 ws s.1, scanned-grow shapes cs ms more limit (b + length k.words) ks s.2)

pub scanned-push : (shapes : List Shape) (cs : List Cell) (ms : List Move) (limit b : ℕ) (ks : List Cell) (w : ℕ) → limit ≤ b + total_words ks → AreScanned shapes cs ms limit b ks → AreScanned shapes cs ms limit b (ks ++ record { start = w; words = words_from cs w } ∷ [])
scanned-push shapes cs ms limit b [] w low s =
    let p = is_pointer_word shapes (words_from cs w) in
    (sym (unscanned p ms (limit - b) 0 (words_from cs w) (omega arith)), unsettled p ms (limit - b) 0 (words_from cs w) (omega arith), tt)
scanned-push shapes cs ms limit b (k ∷ ks) w low s = (s.0, s.1, scanned-push shapes cs ms limit (b + length k.words) ks w (omega arith) s.2)

pub met-push : (shapes : List Shape) (cs : List Cell) (limit b : ℕ) (ks : List Cell) (k : Cell) → limit ≤ b + total_words ks → pointers_met shapes cs limit b (ks ++ k ∷ []) ≡ pointers_met shapes cs limit b ks
met-push shapes cs limit b [] k low = let none = unmet (is_pointer_word shapes (words_from cs k.start)) (limit - b) 0 (words_from cs k.start) (omega arith) in omega arith
met-push shapes cs limit b (j ∷ ks) k low = let rest = met-push shapes cs limit (b + length j.words) ks k (omega arith) in omega arith

pub met-low : (shapes : List Shape) (cs : List Cell) (limit b : ℕ) (ks : List Cell) → limit ≤ b → pointers_met shapes cs limit b ks ≡ 0
met-low shapes cs limit b [] low = refl
met-low shapes cs limit b (k ∷ ks) low =
    let none = unmet (is_pointer_word shapes (words_from cs k.start)) (limit - b) 0 (words_from cs k.start) (omega arith) in
    let rest = met-low shapes cs limit (b + length k.words) ks (omega arith) in
    omega arith
