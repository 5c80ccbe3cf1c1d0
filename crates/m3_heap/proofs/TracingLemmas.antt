-- Copying keeps what stood: both halves together tell the cells of before, the copies and the moves.
use Rattle.std.proofs.Common.{◌≡◌, ◌≢◌, ℕ, ◌+◌, ◌-◌, ◌<◌, ◌≤◌, suc, true, eqb, ltb, List, [], ◌∷◌, ◌++◌, length, Option, Some, None, is_some, unwrap_or, refl, sym, ap, subst, ◌∙◌, arith, ⊎_elim, inl, inr, ◌⊎◌}
use Rattle.std.specs.List.{AllByRecursion}
use Rattle.std.specs.Prelude.{slice_get}
use Rattle.std.proofs.lemmas.Bool.{cases_eq, lt-ltb, le-ltb, le-leb, eq-eqb, ne_eqb, cond-true, cond-false, false≢true}
use Rattle.m3_heap.specs.Cells.{Cell, heap_base, header, cell_from, is_start, words_from, covers, cell_word_at, total_words}
use Rattle.m3_heap.specs.Moves.{Move, new_start}
use Rattle.m3_heap.specs.CollectorSpace.{Space, AreRising}
use Rattle.m3_heap.specs.CollectorTracing.{restored, standing, origin, copies_of, moves_from, placed, marked_words, marked, IsCopy, AreDistinct, IsShort, Traces, old_cells, copies, IsTracing}

-- ---- facts of each item of a list

pub all_map : {X : Type 0} (P Q : X → Type 0) → ((x : X) → P x → Q x) → (xs : List X) → AllByRecursion P xs → AllByRecursion Q xs
all_map P Q f [] h = tt
all_map P Q f (x ∷ xs) h = (f x h.0, all_map P Q f xs h.1)

pub all_zip : {X : Type 0} (P Q : X → Type 0) → (xs : List X) → AllByRecursion P xs → AllByRecursion Q xs → AllByRecursion (λ x. P x × Q x) xs
all_zip P Q [] h k = tt
all_zip P Q (x ∷ xs) h k = ((h.0, k.0), all_zip P Q xs h.1 k.1)

pub all_append : {X : Type 0} (P : X → Type 0) → (xs ys : List X) → AllByRecursion P xs → AllByRecursion P ys → AllByRecursion P (xs ++ ys)
all_append P [] ys h k = k
all_append P (x ∷ xs) ys h k = (h.0, all_append P xs ys h.1 k)

pub none_or_some : (o : Option ℕ) → (o ≡ None) ⊎ ((b : ℕ) × (o ≡ Some b))
none_or_some None = inl refl
none_or_some (Some b) = inr (b, refl)

-- ---- the forwarding list

pub new_start-found : (ms ns : List Move) (a b : ℕ) → new_start ms a ≡ Some b → new_start (ms ++ ns) a ≡ Some b
new_start-found [] ns a b h = absurd (cc)
new_start-found (m ∷ ms) ns a b h = ⊎_elim
    (λ (same : m.from ≡ a). cond-true (eqb m.from a) (Some m.to) (new_start (ms ++ ns) a) (eq-eqb m.from a same) ∙ sym (cond-true (eqb m.from a) (Some m.to) (new_start ms a) (eq-eqb m.from a same)) ∙ h)
    (λ (differs : m.from ≡ a → ⊥).
    cond-false (eqb m.from a) (Some m.to) (new_start (ms ++ ns) a) (ne_eqb m.from a differs)
    ∙ new_start-found ms ns a b (sym (cond-false (eqb m.from a) (Some m.to) (new_start ms a) (ne_eqb m.from a differs)) ∙ h))
    (cases_eq m.from a)

pub new_start-lacks : (ms ns : List Move) (a : ℕ) → new_start ms a ≡ None → new_start (ms ++ ns) a ≡ new_start ns a
new_start-lacks [] ns a h = refl
new_start-lacks (m ∷ ms) ns a h = ⊎_elim
    (λ (same : m.from ≡ a).
    let found = sym (cond-true (eqb m.from a) (Some m.to) (new_start ms a) (eq-eqb m.from a same)) ∙ h in
    absurd (cc))
    (λ (differs : m.from ≡ a → ⊥).
    cond-false (eqb m.from a) (Some m.to) (new_start (ms ++ ns) a) (ne_eqb m.from a differs)
    ∙ new_start-lacks ms ns a (sym (cond-false (eqb m.from a) (Some m.to) (new_start ms a) (ne_eqb m.from a differs)) ∙ h))
    (cases_eq m.from a)

pub new_start-one : (a b : ℕ) → new_start (record { from = a; to = b } ∷ []) a ≡ Some b
new_start-one a b = cond-true (eqb a a) (Some b) None (eq-eqb a a refl)

pub new_start-other : (a b c : ℕ) → a ≢ c → new_start (record { from = a; to = b } ∷ []) c ≡ None
new_start-other a b c differs = cond-false (eqb a c) (Some b) None (ne_eqb a c differs)

-- one more move changes nothing for another start
pub new_start-same : (ms : List Move) (a b c : ℕ) → a ≢ c → new_start (ms ++ record { from = a; to = b } ∷ []) c ≡ new_start ms c
new_start-same ms a b c differs = ⊎_elim
    (λ (none : new_start ms c ≡ None). new_start-lacks ms (record { from = a; to = b } ∷ []) c none ∙ new_start-other a b c differs ∙ sym none)
    (λ (some : (d : ℕ) × (new_start ms c ≡ Some d)). new_start-found ms (record { from = a; to = b } ∷ []) c some.0 some.1 ∙ sym some.1)
    (none_or_some (new_start ms c))

pub moves_from-append : (b : ℕ) (ks js : List Cell) → moves_from b (ks ++ js) ≡ moves_from b ks ++ moves_from (b + total_words ks) js
moves_from-append b [] js = ap (λ n. moves_from n js) (let same : b ≡ b + 0 = omega arith in same)
moves_from-append b (k ∷ ks) js =
    let rest = moves_from-append (b + length k.words) ks js in
    let at : (b + length k.words) + total_words ks ≡ b + (length k.words + total_words ks) = omega arith in
    cc

pub placed-append : (b : ℕ) (ks js : List Cell) → placed b (ks ++ js) ≡ placed b ks ++ placed (b + total_words ks) js
placed-append b [] js = ap (λ n. placed n js) (let same : b ≡ b + 0 = omega arith in same)
placed-append b (k ∷ ks) js =
    let rest = placed-append (b + length k.words) ks js in
    let at : (b + length k.words) + total_words ks ≡ b + (length k.words + total_words ks) = omega arith in
    cc

pub total-append : (ks js : List Cell) → total_words (ks ++ js) ≡ total_words ks + total_words js
total-append [] js = omega arith
total-append (k ∷ ks) js = let rest = total-append ks js in omega arith

pub total-placed : (b : ℕ) (ks : List Cell) → total_words (placed b ks) ≡ total_words ks
total-placed b [] = refl
total-placed b (k ∷ ks) = let rest = total-placed (b + length k.words) ks in omega arith

-- ---- what a copy tells

first-word : (b : ℕ) (ws : List ℕ) (rest : List Cell) → 1 ≤ length ws → cell_word_at (record { start = b; words = ws } ∷ rest) b ≡ Some (header ws)
first-word b [] rest h = absurd (omega arith)
first-word b (w ∷ ws) rest h =
    cond-true (covers (record { start = b; words = w ∷ ws }) b) (slice_get (w ∷ ws) (b - b)) (cell_word_at rest b) (rw (le-leb b b (omega arith), lt-ltb b (b + suc (length ws)) (omega arith)))
    ∙ ap (λ k. slice_get (w ∷ ws) k) (let same : b - b ≡ 0 = omega arith in same)

next-words : (b c : ℕ) (ws : List ℕ) (rest : List Cell) → b + length ws ≤ c → cell_word_at (record { start = b; words = ws } ∷ rest) c ≡ cell_word_at rest c
next-words b c ws rest h =
    cond-false (covers (record { start = b; words = ws }) c) (slice_get ws (c - b)) (cell_word_at rest c) (rw (le-leb b c (omega arith), le-ltb c (b + length ws) h))

pub record IsCopied (cs : List Cell) (b : ℕ) (ks : List Cell) (a c : ℕ) : Type 0 where
  pub word : cell_word_at (placed b ks) c ≡ Some (header (words_from cs a))
  pub starts : is_start cs a ≡ true
  pub low : b ≤ c
  pub high : c < b + total_words ks

pub copy-at : (cs : List Cell) (b : ℕ) (ks : List Cell) (a c : ℕ) → AllByRecursion (IsCopy cs) ks → new_start (moves_from b ks) a ≡ Some c → IsCopied cs b ks a c
copy-at cs b [] a c h e = absurd (cc)
copy-at cs b (k ∷ ks) a c h e = ⊎_elim
    (λ (same : k.start ≡ a).
    let here : Some b ≡ Some c = sym (cond-true (eqb k.start a) (Some b) (new_start (moves_from (b + length k.words) ks) a) (eq-eqb k.start a same)) ∙ e in
    let at : c ≡ b = cc in
    let heads = h.0.same_header ∙ ap (λ n. header (words_from cs n)) same in
    record {
      word = ap (λ n. cell_word_at (placed b (k ∷ ks)) n) at ∙ first-word b k.words (placed (b + length k.words) ks) h.0.some ∙ ap (λ n. Some n) heads;
      starts = ap (λ n. is_start cs n) (sym same) ∙ h.0.starts;
      low = omega arith;
      high = omega (arith, h.0.some);
    })
    (λ (differs : k.start ≡ a → ⊥).
    let there = copy-at cs (b + length k.words) ks a c h.1 (sym (cond-false (eqb k.start a) (Some b) (new_start (moves_from (b + length k.words) ks) a) (ne_eqb k.start a differs)) ∙ e) in
    record {
      word = next-words b c k.words (placed (b + length k.words) ks) there.low ∙ there.word;
      starts = there.starts;
      low = omega (arith, there.low);
      high = omega (arith, there.high);
    })
    (cases_eq k.start a)

-- two cells have two new starts
pub new_start-apart : (cs : List Cell) (b : ℕ) (ks : List Cell) (a a' c : ℕ) → AllByRecursion (IsCopy cs) ks → new_start (moves_from b ks) a ≡ Some c → new_start (moves_from b ks) a' ≡ Some c → a' ≡ a
new_start-apart cs b [] a a' c h e e' = absurd (cc)
new_start-apart cs b (k ∷ ks) a a' c h e e' =
    let later = moves_from (b + length k.words) ks in
    ⊎_elim
    (λ (same : k.start ≡ a). ⊎_elim
    (λ (same' : k.start ≡ a'). sym same' ∙ same)
    (λ (differs' : k.start ≡ a' → ⊥).
    let here : Some b ≡ Some c = sym (cond-true (eqb k.start a) (Some b) (new_start later a) (eq-eqb k.start a same)) ∙ e in
    let at : c ≡ b = cc in
    let there = copy-at cs (b + length k.words) ks a' c h.1 (sym (cond-false (eqb k.start a') (Some b) (new_start later a') (ne_eqb k.start a' differs')) ∙ e') in
    absurd (omega (arith, there.low, h.0.some)))
    (cases_eq k.start a'))
    (λ (differs : k.start ≡ a → ⊥).
    let there = sym (cond-false (eqb k.start a) (Some b) (new_start later a) (ne_eqb k.start a differs)) ∙ e in
    let low = (copy-at cs (b + length k.words) ks a c h.1 there).low in
    ⊎_elim
    (λ (same' : k.start ≡ a').
    let here : Some b ≡ Some c = sym (cond-true (eqb k.start a') (Some b) (new_start later a') (eq-eqb k.start a' same')) ∙ e' in
    let at : c ≡ b = cc in
    absurd (omega (arith, low, h.0.some)))
    (λ (differs' : k.start ≡ a' → ⊥).
    new_start-apart cs (b + length k.words) ks a a' c h.1 there (sym (cond-false (eqb k.start a') (Some b) (new_start later a') (ne_eqb k.start a' differs')) ∙ e'))
    (cases_eq k.start a'))
    (cases_eq k.start a)

-- ---- the half that is left

-- what holds where cells are laid: each has the words that are found by its start
pub own-words : (a : ℕ) (cs : List Cell) → AreRising a cs → AllByRecursion (λ (c : Cell). (words_from cs c.start ≡ c.words) × (a ≤ c.start)) cs
own-words a [] h = tt
own-words a (c ∷ cs) h = (
  (cond-true (eqb c.start c.start) c.words (words_from cs c.start) (eq-eqb c.start c.start refl), omega (arith, h.0)),
  all_map (λ (d : Cell). (words_from cs d.start ≡ d.words) × (c.start + length c.words ≤ d.start)) (λ (d : Cell). (words_from (c ∷ cs) d.start ≡ d.words) × (a ≤ d.start))
      (λ d p. (cond-false (eqb c.start d.start) c.words (words_from cs d.start) (ne_eqb c.start d.start (λ (e : c.start ≡ d.start). omega (arith, p.1, h.1))) ∙ p.0, omega (arith, p.1, h.0)))
      cs (own-words (c.start + length c.words) cs h.2),
)

restored-cell : (cs : List Cell) (b : ℕ) (ks : List Cell) (a : ℕ) (ws : List ℕ) (o : Option ℕ) → AllByRecursion (IsCopy cs) ks → heap_base ≤ b → header ws < heap_base → words_from cs a ≡ ws → new_start (moves_from b ks) a ≡ o → restored (placed b ks) (marked_words o ws) ≡ ws
restored-cell cs b ks a [] None copied low short own e = refl
restored-cell cs b ks a (w ∷ ws) None copied low short own e = ap (λ n. n ∷ ws) (cond-true (ltb w heap_base) w (unwrap_or (cell_word_at (placed b ks) w) 0) (lt-ltb w heap_base short))
restored-cell cs b ks a [] (Some to) copied low short own e = refl
restored-cell cs b ks a (w ∷ ws) (Some to) copied low short own e =
    let found = copy-at cs b ks a to copied e in
    ap (λ n. n ∷ ws)
    (cond-false (ltb to heap_base) to (unwrap_or (cell_word_at (placed b ks) to) 0) (le-ltb to heap_base (omega (arith, found.low)))
    ∙ ap (λ (o : Option ℕ). unwrap_or o 0) found.word
    ∙ ap header own)

standing-marked : (T : List Cell) (ms : List Move) (cs : List Cell) → AllByRecursion (λ (c : Cell). restored T (marked_words (new_start ms c.start) c.words) ≡ c.words) cs → standing T (marked ms cs) ≡ cs
standing-marked T ms [] h = refl
standing-marked T ms (c ∷ cs) h =
    let rest = standing-marked T ms cs h.1 in
    let first = ap (λ (ws : List ℕ). let cell : Cell = record { start = c.start; words = ws } in cell) h.0 in
    ap (λ (d : Cell). d ∷ standing T (marked ms cs)) first ∙ ap (λ ds. c ∷ ds) rest

pub standing-is : (cs : List Cell) (a b : ℕ) (ks : List Cell) → AreRising a cs → AllByRecursion IsShort cs → AllByRecursion (IsCopy cs) ks → heap_base ≤ b → standing (placed b ks) (marked (moves_from b ks) cs) ≡ cs
standing-is cs a b ks laid short copied low =
    standing-marked (placed b ks) (moves_from b ks) cs
    (all_map (λ (c : Cell). ((words_from cs c.start ≡ c.words) × (a ≤ c.start)) × IsShort c) (λ (c : Cell). restored (placed b ks) (marked_words (new_start (moves_from b ks) c.start) c.words) ≡ c.words)
    (λ c p. restored-cell cs b ks c.start c.words (new_start (moves_from b ks) c.start) copied low p.1.0 p.0.0 refl)
    cs (all_zip (λ (c : Cell). (words_from cs c.start ≡ c.words) × (a ≤ c.start)) IsShort cs (own-words a cs laid) short))

pub header-marked : (o : Option ℕ) (ws : List ℕ) (b : ℕ) → o ≡ Some b → 1 ≤ length ws → header (marked_words o ws) ≡ b
header-marked None ws b e h = absurd (cc)
header-marked (Some to) [] b e h = absurd (omega arith)
header-marked (Some to) (w ∷ ws) b e h = cc

pub header-unmarked : (o : Option ℕ) (ws : List ℕ) → o ≡ None → header (marked_words o ws) ≡ header ws
header-unmarked None ws e = refl
header-unmarked (Some to) ws e = absurd (cc)

origin-is : (ms : List Move) (cs : List Cell) (a b : ℕ) → AllByRecursion IsShort cs → heap_base ≤ b → new_start ms a ≡ Some b → ((a' : ℕ) → new_start ms a' ≡ Some b → a' ≡ a) → is_start cs a ≡ true → origin (marked ms cs) b ≡ a
origin-is ms [] a b short low e only starts = absurd (false≢true starts)
origin-is ms (c ∷ cs) a b short low e only starts =
    let first = marked_words (new_start ms c.start) c.words in
    ⊎_elim
    (λ (same : c.start ≡ a).
    let head = header-marked (new_start ms c.start) c.words b (ap (λ n. new_start ms n) same ∙ e) short.0.1 in
    cond-true (eqb (header first) b) c.start (origin (marked ms cs) b) (eq-eqb (header first) b head) ∙ same)
    (λ (differs : c.start ≡ a → ⊥).
    let other : header first ≡ b → ⊥ = λ (hit : header first ≡ b). ⊎_elim
    (λ (none : new_start ms c.start ≡ None). let head = header-unmarked (new_start ms c.start) c.words none in let no : ⊥ = omega (arith, short.0.0) in no)
    (λ (some : (d : ℕ) × (new_start ms c.start ≡ Some d)).
    let head = header-marked (new_start ms c.start) c.words some.0 some.1 short.0.1 in
    let same : some.0 ≡ b = sym head ∙ hit in
    differs (only c.start (some.1 ∙ ap (λ n. Some n) same)))
    (none_or_some (new_start ms c.start)) in
    let rest = ap is_some (cond-false (eqb c.start a) (Some c) (cell_from cs a) (ne_eqb c.start a differs)) in
    cond-false (eqb (header first) b) c.start (origin (marked ms cs) b) (ne_eqb (header first) b other)
    ∙ origin-is ms cs a b short.1 low e only (sym rest ∙ starts))
    (cases_eq c.start a)

among-others : (x b : ℕ) (ks : List Cell) (a c : ℕ) → AllByRecursion (λ (o : Cell). x ≢ o.start) ks → new_start (moves_from b ks) a ≡ Some c → x ≢ a
among-others x b [] a c h e = absurd (cc)
among-others x b (k ∷ ks) a c h e = ⊎_elim
    (λ (same : k.start ≡ a). λ (hit : x ≡ a). h.0 (hit ∙ sym same))
    (λ (differs : k.start ≡ a → ⊥). among-others x (b + length k.words) ks a c h.1 (sym (cond-false (eqb k.start a) (Some b) (new_start (moves_from (b + length k.words) ks) a) (ne_eqb k.start a differs)) ∙ e))
    (cases_eq k.start a)

copies-placed : (left : List Cell) (b : ℕ) (ks : List Cell) → ((a c : ℕ) → new_start (moves_from b ks) a ≡ Some c → origin left c ≡ a) → AreDistinct ks → copies_of left (placed b ks) ≡ ks
copies-placed left b [] h d = refl
copies-placed left b (k ∷ ks) h d =
    let here = h k.start b (cond-true (eqb k.start k.start) (Some b) (new_start (moves_from (b + length k.words) ks) k.start) (eq-eqb k.start k.start refl)) in
    let rest = copies-placed left (b + length k.words) ks
    (λ a c e. h a c (cond-false (eqb k.start a) (Some b) (new_start (moves_from (b + length k.words) ks) a) (ne_eqb k.start a (among-others k.start (b + length k.words) ks a c d.0 e)) ∙ e))
    d.1 in
    let first = ap (λ n. let cell : Cell = record { start = n; words = k.words } in cell) here in
    ap (λ (c : Cell). c ∷ copies_of left (placed (b + length k.words) ks)) first ∙ ap (λ cs. k ∷ cs) rest

pub copies-is : (cs : List Cell) (b : ℕ) (ks : List Cell) → AllByRecursion IsShort cs → AllByRecursion (IsCopy cs) ks → AreDistinct ks → heap_base ≤ b → copies_of (marked (moves_from b ks) cs) (placed b ks) ≡ ks
copies-is cs b ks short copied distinct low =
    copies-placed (marked (moves_from b ks) cs) b ks
    (λ a c e. let there = copy-at cs b ks a c copied e in
    origin-is (moves_from b ks) cs a c short (omega (arith, there.low)) e (λ a' e'. new_start-apart cs b ks a a' c copied e e') there.starts)
    distinct

-- both halves tell the cells of before and the copies
pub cells-told : (left kept : Space) (cs ks : List Cell) → Traces left kept cs ks → old_cells left kept ≡ cs
cells-told left kept cs ks h =
    ap (λ fs. standing kept.cells fs) h.is_marked ∙ ap (λ ts. standing ts (marked (moves_from kept.base ks) cs)) h.is_placed
    ∙ standing-is cs left.base kept.base ks h.rising h.short h.are_copies h.kept_base

pub copies-told : (left kept : Space) (cs ks : List Cell) → Traces left kept cs ks → copies left kept ≡ ks
copies-told left kept cs ks h =
    ap (λ fs. copies_of fs kept.cells) h.is_marked ∙ ap (λ ts. copies_of (marked (moves_from kept.base ks) cs) ts) h.is_placed
    ∙ copies-is cs kept.base ks h.short h.are_copies h.distinct h.kept_base

pub tracing-told : (left kept : Space) (cs ks : List Cell) → Traces left kept cs ks → IsTracing left kept
tracing-told left kept cs ks h =
    let P : List Cell → Type 0 = λ cs'. Traces left kept cs' ks in
    let Q : List Cell → Type 0 = λ ks'. Traces left kept (old_cells left kept) ks' in
    subst Q (sym (copies-told left kept cs ks h)) (subst P (sym (cells-told left kept cs ks h)) h)
