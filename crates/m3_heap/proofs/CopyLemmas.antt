-- One more copy: a cell that isn't kept yet is copied to the end, and its header gives way.
use Rattle.std.proofs.Common.{◌≡◌, ◌≢◌, ℕ, ◌+◌, ◌-◌, ◌/◌, ◌<◌, ◌≤◌, ◌^◌, true, false, cond, eqb, ltb, List, [], ◌∷◌, ◌++◌, length, set, Option, Some, None, is_some, unwrap_or, refl, sym, ap, subst, ◌∙◌, arith, ⊎_elim}
use Rattle.std.specs.List.{AllByRecursion}
use Rattle.std.specs.Prelude.{◌||◌}
use Rattle.std.proofs.lemmas.Bool.{cases_eq, cases_Bool, lt-ltb, le-ltb, le-leb, eq-eqb, ne_eqb, cond-true, cond-false, false≢true, or_left, or_right, or_from}
use Rattle.m3_heap.specs.Cells.{Cell, heap_base, header, cell_from, is_start, words_from, covers, with_word, total_words, words_in}
use Rattle.m3_heap.specs.Moves.{Move, new_start, is_kept, forwarded}
use Rattle.m3_heap.specs.CollectorSpace.{Space, AreRising}
use Rattle.m3_heap.specs.CollectorTracing.{moves_from, placed, marked_words, marked, words_kept, IsCopy, AreDistinct, Traces, old_cells, copies, moves, IsTracing, Keeps}
use Rattle.m3_heap.proofs.SpaceLemmas.{AreLater, with_word-later, rising-fits}
use Rattle.m3_heap.proofs.TracingLemmas.{all_map, all_append, none_or_some, new_start-lacks, new_start-one, new_start-same, moves_from-append, placed-append, total-append, total-placed, copy-at, header-unmarked, header-marked, cells-told, copies-told, tracing-told}

-- ---- marks keep starts and lengths

length-marked_words : (o : Option ℕ) (ws : List ℕ) → length (marked_words o ws) ≡ length ws
length-marked_words None ws = refl
length-marked_words (Some to) [] = refl
length-marked_words (Some to) (w ∷ ws) = refl

pub total-marked : (ms : List Move) (cs : List Cell) → total_words (marked ms cs) ≡ total_words cs
total-marked ms [] = refl
total-marked ms (c ∷ cs) = let rest = total-marked ms cs in let first = length-marked_words (new_start ms c.start) c.words in omega arith

pub is_start-marked : (ms : List Move) (cs : List Cell) (at : ℕ) → is_start (marked ms cs) at ≡ is_start cs at
is_start-marked ms [] at = refl
is_start-marked ms (c ∷ cs) at =
    let there : Cell = record { start = c.start; words = marked_words (new_start ms c.start) c.words } in
    ⊎_elim
    (λ (same : c.start ≡ at).
    ap is_some (cond-true (eqb c.start at) (Some there) (cell_from (marked ms cs) at) (eq-eqb c.start at same))
    ∙ sym (ap is_some (cond-true (eqb c.start at) (Some c) (cell_from cs at) (eq-eqb c.start at same))))
    (λ (differs : c.start ≡ at → ⊥).
    ap is_some (cond-false (eqb c.start at) (Some there) (cell_from (marked ms cs) at) (ne_eqb c.start at differs))
    ∙ is_start-marked ms cs at
    ∙ sym (ap is_some (cond-false (eqb c.start at) (Some c) (cell_from cs at) (ne_eqb c.start at differs))))
    (cases_eq c.start at)

nothing-marked : (o : Option ℕ) → marked_words o [] ≡ []
nothing-marked None = refl
nothing-marked (Some to) = refl

pub words_from-marked : (ms : List Move) (cs : List Cell) (at : ℕ) → words_from (marked ms cs) at ≡ marked_words (new_start ms at) (words_from cs at)
words_from-marked ms [] at = sym (nothing-marked (new_start ms at))
words_from-marked ms (c ∷ cs) at =
    let there = marked_words (new_start ms c.start) c.words in
    ⊎_elim
    (λ (same : c.start ≡ at).
    cond-true (eqb c.start at) there (words_from (marked ms cs) at) (eq-eqb c.start at same)
    ∙ ap (λ n. marked_words (new_start ms n) c.words) same
    ∙ ap (λ ws. marked_words (new_start ms at) ws) (sym (cond-true (eqb c.start at) c.words (words_from cs at) (eq-eqb c.start at same))))
    (λ (differs : c.start ≡ at → ⊥).
    cond-false (eqb c.start at) there (words_from (marked ms cs) at) (ne_eqb c.start at differs)
    ∙ words_from-marked ms cs at
    ∙ ap (λ ws. marked_words (new_start ms at) ws) (sym (cond-false (eqb c.start at) c.words (words_from cs at) (ne_eqb c.start at differs))))
    (cases_eq c.start at)

later-cells : (a at : ℕ) (cs : List Cell) → AreRising a cs → at < a → AreLater at cs
later-cells a at [] h lt = tt
later-cells a at (c ∷ cs) h lt = (omega (arith, h.0), later-cells (c.start + length c.words) at cs h.2 (omega (arith, h.0)))

later-marked : (ms : List Move) (at : ℕ) (cs : List Cell) → AreLater at cs → AreLater at (marked ms cs)
later-marked ms at [] h = tt
later-marked ms at (c ∷ cs) h = (h.0, later-marked ms at cs h.1)

marked-same : (ms : List Move) (w b : ℕ) (cs : List Cell) → AllByRecursion (λ (c : Cell). w ≢ c.start) cs → marked (ms ++ record { from = w; to = b } ∷ []) cs ≡ marked ms cs
marked-same ms w b [] h = refl
marked-same ms w b (c ∷ cs) h =
    let first = new_start-same ms w b c.start h.0 in
    let rest = marked-same ms w b cs h.1 in
    cc

mark-first : (c : Cell) (w b : ℕ) → c.start ≡ w → 1 ≤ length c.words → set c.words (w - c.start) b ≡ marked_words (Some b) c.words
mark-first c w b same some = ap (λ k. set c.words k b) (let none : w - c.start ≡ 0 = omega arith in none) ∙ first-set c.words b some
  where
    first-set : (ws : List ℕ) (b : ℕ) → 1 ≤ length ws → set ws 0 b ≡ marked_words (Some b) ws
    first-set [] b h = refl
    first-set (w ∷ ws) b h = refl

pub marked-push : (a : ℕ) (cs : List Cell) (ms : List Move) (w b : ℕ) → AreRising a cs → is_start cs w ≡ true → new_start ms w ≡ None → marked (ms ++ record { from = w; to = b } ∷ []) cs ≡ with_word (marked ms cs) w b
marked-push a [] ms w b laid starts none = refl
marked-push a (c ∷ cs) ms w b laid starts none =
    let more = ms ++ record { from = w; to = b } ∷ [] in
    let was : Cell = record { start = c.start; words = marked_words (new_start ms c.start) c.words } in
    let count = length-marked_words (new_start ms c.start) c.words in
    ⊎_elim
    (λ (same : c.start ≡ w).
    let found : new_start more c.start ≡ Some b = new_start-lacks ms (record { from = w; to = b } ∷ []) c.start (ap (λ n. new_start ms n) same ∙ none) ∙ ap (λ n. new_start (record { from = w; to = b } ∷ []) n) same ∙ new_start-one w b in
    let clean : new_start ms c.start ≡ None = ap (λ n. new_start ms n) same ∙ none in
    let plain : was.words ≡ c.words = ap (λ o. marked_words o c.words) clean in
    let put : Cell = record { start = c.start; words = set was.words (w - was.start) b } in
    let hit = cond-true (covers was w) put was (rw (le-leb c.start w (omega arith), lt-ltb w (c.start + length was.words) (omega (arith, laid.1)))) in
    let set-is : set was.words (w - was.start) b ≡ marked_words (Some b) c.words = ap (λ (ws : List ℕ). set ws (w - c.start) b) plain ∙ mark-first c w b same laid.1 in
    let later = later-cells (c.start + length c.words) w cs laid.2 (omega (arith, laid.1)) in
    let rest = marked-same ms w b cs (all_map (λ (d : Cell). w < d.start) (λ (d : Cell). w ≢ d.start) (λ d lt. λ (e : w ≡ d.start). omega arith) cs later) in
    let rest' = with_word-later (marked ms cs) w b (later-marked ms w cs later) in
    let first : marked_words (new_start more c.start) c.words ≡ set was.words (w - was.start) b = ap (λ o. marked_words o c.words) found ∙ sym set-is in
    cc)
    (λ (differs : c.start ≡ w → ⊥).
    let rest-starts = sym (ap is_some (cond-false (eqb c.start w) (Some c) (cell_from cs w) (ne_eqb c.start w differs))) ∙ starts in
    let fits = rising-fits (c.start + length c.words) w cs laid.2 rest-starts in
    let put : Cell = record { start = c.start; words = set was.words (w - was.start) b } in
    let miss = cond-false (covers was w) put was (rw (le-leb c.start w (omega (arith, laid.0, fits.0)), le-ltb w (c.start + length was.words) (omega (arith, laid.0, fits.0)))) in
    let first = new_start-same ms w b c.start (λ (e : w ≡ c.start). differs (sym e)) in
    let rest = marked-push (c.start + length c.words) cs ms w b laid.2 rest-starts none in
    cc)
    (cases_eq c.start w)

-- ---- the words that are kept

kept-same : (ms : List Move) (w b : ℕ) (cs : List Cell) → AllByRecursion (λ (c : Cell). w ≢ c.start) cs → words_kept (ms ++ record { from = w; to = b } ∷ []) cs ≡ words_kept ms cs
kept-same ms w b [] h = refl
kept-same ms w b (c ∷ cs) h =
    let first = ap is_some (new_start-same ms w b c.start h.0) in
    let rest = kept-same ms w b cs h.1 in
    cc

pub kept-push : (a : ℕ) (cs : List Cell) (ms : List Move) (w b : ℕ) → AreRising a cs → is_start cs w ≡ true → new_start ms w ≡ None → words_kept (ms ++ record { from = w; to = b } ∷ []) cs ≡ words_kept ms cs + length (words_from cs w)
kept-push a [] ms w b laid starts none = absurd (false≢true starts)
kept-push a (c ∷ cs) ms w b laid starts none =
    let more = ms ++ record { from = w; to = b } ∷ [] in
    ⊎_elim
    (λ (same : c.start ≡ w).
    let found : is_kept more c.start ≡ true = ap is_some (new_start-lacks ms (record { from = w; to = b } ∷ []) c.start (ap (λ n. new_start ms n) same ∙ none) ∙ ap (λ n. new_start (record { from = w; to = b } ∷ []) n) same ∙ new_start-one w b) in
    let clean : is_kept ms c.start ≡ false = ap (λ n. is_kept ms n) same ∙ ap is_some none in
    let now = cond-true (is_kept more c.start) (length c.words) 0 found in
    let was = cond-false (is_kept ms c.start) (length c.words) 0 clean in
    let later = later-cells (c.start + length c.words) w cs laid.2 (omega (arith, laid.1)) in
    let rest = kept-same ms w b cs (all_map (λ (d : Cell). w < d.start) (λ (d : Cell). w ≢ d.start) (λ d lt. λ (e : w ≡ d.start). omega arith) cs later) in
    let words = ap (λ (ws : List ℕ). length ws) (cond-true (eqb c.start w) c.words (words_from cs w) (eq-eqb c.start w same)) in
    omega arith)
    (λ (differs : c.start ≡ w → ⊥).
    let rest-starts = sym (ap is_some (cond-false (eqb c.start w) (Some c) (cell_from cs w) (ne_eqb c.start w differs))) ∙ starts in
    let first = ap (λ b'. cond b' (length c.words) 0) (ap is_some (new_start-same ms w b c.start (λ (e : w ≡ c.start). differs (sym e)))) in
    let rest = kept-push (c.start + length c.words) cs ms w b laid.2 rest-starts none in
    let words = ap (λ (ws : List ℕ). length ws) (cond-false (eqb c.start w) c.words (words_from cs w) (ne_eqb c.start w differs)) in
    omega arith)
    (cases_eq c.start w)

pub kept-le : (ms : List Move) (cs : List Cell) → words_kept ms cs ≤ total_words cs
kept-le ms [] = omega arith
kept-le ms (c ∷ cs) =
    let rest = kept-le ms cs in
    ⊎_elim
    (λ (yes : is_kept ms c.start ≡ true). let first = cond-true (is_kept ms c.start) (length c.words) 0 yes in omega arith)
    (λ (no : is_kept ms c.start ≡ false). let first = cond-false (is_kept ms c.start) (length c.words) 0 no in omega arith)
    (cases_Bool (is_kept ms c.start))

-- ---- one more copy

distinct-push : (b : ℕ) (ks : List Cell) (k : Cell) → AreDistinct ks → new_start (moves_from b ks) k.start ≡ None → AreDistinct (ks ++ k ∷ [])
distinct-push b [] k d none = (tt, tt)
distinct-push b (o ∷ ks) k d none = ⊎_elim
    (λ (same : o.start ≡ k.start).
    let found = sym (cond-true (eqb o.start k.start) (Some b) (new_start (moves_from (b + length o.words) ks) k.start) (eq-eqb o.start k.start same)) ∙ none in
    absurd (cc))
    (λ (differs : o.start ≡ k.start → ⊥). (
      all_append (λ (x : Cell). o.start ≢ x.start) ks (k ∷ []) d.0 (differs, tt),
      distinct-push (b + length o.words) ks k d.1 (sym (cond-false (eqb o.start k.start) (Some b) (new_start (moves_from (b + length o.words) ks) k.start) (ne_eqb o.start k.start differs)) ∙ none),
    ))
    (cases_eq o.start k.start)

pub all-at : (Q : ℕ → List ℕ → Type 0) (cs : List Cell) (at : ℕ) → AllByRecursion (λ (c : Cell). Q c.start c.words) cs → is_start cs at ≡ true → Q at (words_from cs at)
all-at Q [] at h e = absurd (false≢true e)
all-at Q (c ∷ cs) at h e = ⊎_elim
    (λ (same : c.start ≡ at).
    let words = cond-true (eqb c.start at) c.words (words_from cs at) (eq-eqb c.start at same) in
    let R : ℕ → Type 0 = λ n. Q n c.words in
    let S : List ℕ → Type 0 = λ ws. Q at ws in
    subst S (sym words) (subst R same h.0))
    (λ (differs : c.start ≡ at → ⊥).
    let words = cond-false (eqb c.start at) c.words (words_from cs at) (ne_eqb c.start at differs) in
    let starts = ap is_some (cond-false (eqb c.start at) (Some c) (cell_from cs at) (ne_eqb c.start at differs)) in
    let S : List ℕ → Type 0 = λ ws. Q at ws in
    subst S (sym words) (all-at Q cs at h.1 (sym starts ∙ e)))
    (cases_eq c.start at)

-- the header of a cell that isn't kept yet is its own, and tells its length
pub fresh-header : (left kept : Space) (cs ks : List Cell) (w : ℕ) → Traces left kept cs ks → is_start cs w ≡ true → header (words_from left.cells w) < heap_base → (new_start (moves_from kept.base ks) w ≡ None) × (words_from left.cells w ≡ words_from cs w) × (header (words_from left.cells w) / 2 ^ 32 ≡ length (words_from cs w))
fresh-header left kept cs ks w h starts low =
    let ms = moves_from kept.base ks in
    let words = ap (λ fs. words_from fs w) h.is_marked ∙ words_from-marked ms cs w in
    let some = rising-fits left.base w cs h.rising starts in
    let none : new_start ms w ≡ None = ⊎_elim
    (λ (none : new_start ms w ≡ None). none)
    (λ (found : (d : ℕ) × (new_start ms w ≡ Some d)).
    let head = ap header words ∙ header-marked (new_start ms w) (words_from cs w) found.0 found.1 some.1 in
    let there = copy-at cs kept.base ks w found.0 h.are_copies found.1 in
    absurd (omega (arith, there.low, h.kept_base)))
    (none_or_some (new_start ms w)) in
    let same = words ∙ ap (λ o. marked_words o (words_from cs w)) none in
    let headed = all-at (λ (at : ℕ) (ws : List ℕ). (words_in (header ws) ≡ length ws) × (1 ≤ length ws)) cs w h.headed starts in
    let head : header (words_from left.cells w) ≡ header (words_from cs w) = ap header same in
    (none, same, ap words_in head ∙ headed.0)

-- a header that gave way is the cell's new start
pub kept-header : (left kept : Space) (cs ks : List Cell) (w : ℕ) → Traces left kept cs ks → is_start cs w ≡ true → heap_base ≤ header (words_from left.cells w) → new_start (moves_from kept.base ks) w ≡ Some (header (words_from left.cells w))
kept-header left kept cs ks w h starts high =
    let ms = moves_from kept.base ks in
    let words = ap (λ fs. words_from fs w) h.is_marked ∙ words_from-marked ms cs w in
    let some = rising-fits left.base w cs h.rising starts in
    ⊎_elim
    (λ (none : new_start ms w ≡ None).
    let head = ap header words ∙ header-unmarked (new_start ms w) (words_from cs w) none in
    let short = all-at (λ (at : ℕ) (ws : List ℕ). (header ws < heap_base) × (1 ≤ length ws)) cs w h.short starts in
    absurd (omega (arith, short.0)))
    (λ (found : (d : ℕ) × (new_start ms w ≡ Some d)).
    let head = ap header words ∙ header-marked (new_start ms w) (words_from cs w) found.0 found.1 some.1 in
    found.1 ∙ ap (λ n. Some n) (sym head))
    (none_or_some (new_start ms w))

pub is_start-left : (left kept : Space) (cs ks : List Cell) (w : ℕ) → Traces left kept cs ks → is_start left.cells w ≡ is_start cs w
is_start-left left kept cs ks w h = ap (λ fs. is_start fs w) h.is_marked ∙ is_start-marked (moves_from kept.base ks) cs w

-- there is room for every cell that isn't kept yet
pub copy-room : (left kept : Space) (cs ks : List Cell) (w : ℕ) → Traces left kept cs ks → is_start cs w ≡ true → new_start (moves_from kept.base ks) w ≡ None → total_words kept.cells + length (words_from cs w) ≤ kept.size
copy-room left kept cs ks w h starts none =
    let ms = moves_from kept.base ks in
    let more = kept-push left.base cs ms w 0 h.rising starts none in
    let all = kept-le (ms ++ record { from = w; to = 0 } ∷ []) cs in
    let now = ap total_words h.is_placed ∙ total-placed kept.base ks ∙ h.counted in
    omega (arith, h.fits)

pub copied : (left kept left' kept' : Space) (cs ks : List Cell) (w : ℕ) → Traces left kept cs ks → is_start cs w ≡ true → new_start (moves_from kept.base ks) w ≡ None → left'.base ≡ left.base → kept'.base ≡ kept.base → kept'.size ≡ kept.size → left'.cells ≡ with_word left.cells w (kept.base + total_words kept.cells) → kept'.cells ≡ kept.cells ++ record { start = kept.base + total_words kept.cells; words = words_from cs w } ∷ [] → Traces left' kept' cs (ks ++ record { start = w; words = words_from cs w } ∷ [])
copied left kept left' kept' cs ks w h starts none lb kb size lc kc =
    let ms = moves_from kept.base ks in
    let k : Cell = record { start = w; words = words_from cs w } in
    let end = ap total_words h.is_placed ∙ total-placed kept.base ks in
    let to = kept.base + total_words kept.cells in
    let list : moves_from kept.base (ks ++ k ∷ []) ≡ ms ++ record { from = w; to = to } ∷ [] =
    moves_from-append kept.base ks (k ∷ []) ∙ ap (λ n. ms ++ record { from = w; to = kept.base + n } ∷ []) (sym end) in
    let some = rising-fits left.base w cs h.rising starts in
    let P : ℕ → Type 0 = λ n. AreRising n cs in
    let Q : ℕ → Type 0 = λ n. total_words cs ≤ n in
    let R : ℕ → Type 0 = λ n. heap_base ≤ n in
    record {
      headed = h.headed;
      short = h.short;
      rising = subst P (sym lb) h.rising;
      fits = subst Q (sym size) h.fits;
      left_base = subst R (sym lb) h.left_base;
      kept_base = subst R (sym kb) h.kept_base;
      kept_ends = omega (arith, h.kept_ends, kb, size);
      is_marked =
          lc ∙ ap (λ fs. with_word fs w to) h.is_marked
          ∙ sym (ap (λ b. marked (moves_from b (ks ++ k ∷ [])) cs) kb ∙ ap (λ l. marked l cs) list ∙ marked-push left.base cs ms w to h.rising starts none);
      is_placed =
          kc ∙ ap (λ ts. ts ++ record { start = to; words = words_from cs w } ∷ []) h.is_placed
          ∙ ap (λ n. placed kept.base ks ++ record { start = kept.base + n; words = words_from cs w } ∷ []) end
          ∙ sym (ap (λ b. placed b (ks ++ k ∷ [])) kb ∙ placed-append kept.base ks (k ∷ []));
      are_copies = all_append (IsCopy cs) ks (k ∷ []) h.are_copies (record { starts = starts; same_length = refl; same_header = refl; some = some.1 }, tt);
      distinct = distinct-push kept.base ks k h.distinct none;
      counted =
          total-append ks (k ∷ [])
          ∙ (let sum : total_words ks + (length (words_from cs w) + 0) ≡ words_kept ms cs + length (words_from cs w) = omega (arith, h.counted) in sum)
          ∙ sym (ap (λ b. words_kept (moves_from b (ks ++ k ∷ [])) cs) kb ∙ ap (λ l. words_kept l cs) list ∙ kept-push left.base cs ms w to h.rising starts none);
    }

-- ---- what keeping a word's cell leaves

pub forwarded-kept : (ms : List Move) (w b : ℕ) → heap_base ≤ w → new_start ms w ≡ Some b → b ≡ forwarded ms w
forwarded-kept ms w b high found = sym (cond-false (ltb w heap_base) w (unwrap_or (new_start ms w) w) (le-ltb w heap_base high) ∙ ap (λ o. unwrap_or o w) found)

pub forwarded-low : (ms : List Move) (w : ℕ) → w < heap_base → w ≡ forwarded ms w
forwarded-low ms w low = sym (cond-true (ltb w heap_base) w (unwrap_or (new_start ms w) w) (lt-ltb w heap_base low))

pub keeps-nothing : (left kept : Space) (w : ℕ) → IsTracing left kept → (ltb w heap_base || is_kept (moves left kept) w) ≡ true → Keeps left kept left kept w
keeps-nothing left kept w h there = record {
  tracing = h;
  left_base = refl;
  kept_base = refl;
  left_size = refl;
  kept_size = refl;
  same_cells = refl;
  more_copies = sym (cond-true (ltb w heap_base || is_kept (moves left kept) w) (copies left kept) (copies left kept ++ record { start = w; words = words_from (old_cells left kept) w } ∷ []) there);
}

pub keeps-low : (left kept : Space) (w : ℕ) → IsTracing left kept → w < heap_base → Keeps left kept left kept w
keeps-low left kept w h low = keeps-nothing left kept w h (or_left (ltb w heap_base) (is_kept (moves left kept) w) (lt-ltb w heap_base low))

pub keeps-kept : (left kept : Space) (w : ℕ) → IsTracing left kept → is_start left.cells w ≡ true → heap_base ≤ header (words_from left.cells w) → Keeps left kept left kept w
keeps-kept left kept w h starts high =
    keeps-nothing left kept w h (or_right (ltb w heap_base) (is_kept (moves left kept) w)
    (ap is_some (kept-header left kept (old_cells left kept) (copies left kept) w h (sym (is_start-left left kept (old_cells left kept) (copies left kept) w h) ∙ starts) high)))

pub keeps-fresh : (left kept left' kept' : Space) (w : ℕ) → IsTracing left kept → heap_base ≤ w → is_start left.cells w ≡ true → header (words_from left.cells w) < heap_base → left'.base ≡ left.base → kept'.base ≡ kept.base → left'.size ≡ left.size → kept'.size ≡ kept.size → left'.cells ≡ with_word left.cells w (kept.base + total_words kept.cells) → kept'.cells ≡ kept.cells ++ record { start = kept.base + total_words kept.cells; words = words_from left.cells w } ∷ [] → Keeps left kept left' kept' w
keeps-fresh left kept left' kept' w h high starts low lb kb ls ks lc kc =
    let cs = old_cells left kept in
    let was = copies left kept in
    let stood = sym (is_start-left left kept cs was w h) ∙ starts in
    let fresh = fresh-header left kept cs was w h stood low in
    let step = copied left kept left' kept' cs was w h stood fresh.0 lb kb ks lc (kc ∙ ap (λ ws. kept.cells ++ record { start = kept.base + total_words kept.cells; words = ws } ∷ []) fresh.1) in
    record {
      tracing = tracing-told left' kept' cs (was ++ record { start = w; words = words_from cs w } ∷ []) step;
      left_base = lb;
      kept_base = kb;
      left_size = ls;
      kept_size = ks;
      same_cells = cells-told left' kept' cs (was ++ record { start = w; words = words_from cs w } ∷ []) step;
      more_copies =
          copies-told left' kept' cs (was ++ record { start = w; words = words_from cs w } ∷ []) step
          ∙ sym (cond-false (ltb w heap_base || is_kept (moves left kept) w) was (was ++ record { start = w; words = words_from cs w } ∷ []) (or_from (ltb w heap_base) (is_kept (moves left kept) w) (le-ltb w heap_base high) (ap is_some fresh.0)));
    }

-- where a fresh copy goes
pub fresh-start : (left kept left' kept' : Space) (w : ℕ) → IsTracing left kept → heap_base ≤ w → is_start left.cells w ≡ true → header (words_from left.cells w) < heap_base → Keeps left kept left' kept' w → kept.base + total_words kept.cells ≡ forwarded (moves left' kept') w
fresh-start left kept left' kept' w h high starts low keeps =
    let cs = old_cells left kept in
    let was = copies left kept in
    let stood = sym (is_start-left left kept cs was w h) ∙ starts in
    let fresh = fresh-header left kept cs was w h stood low in
    let k : Cell = record { start = w; words = words_from cs w } in
    let more : copies left' kept' ≡ was ++ k ∷ [] =
    keeps.more_copies ∙ cond-false (ltb w heap_base || is_kept (moves left kept) w) was (was ++ k ∷ []) (or_from (ltb w heap_base) (is_kept (moves left kept) w) (le-ltb w heap_base high) (ap is_some fresh.0)) in
    let list : moves left' kept' ≡ moves left kept ++ record { from = w; to = kept.base + total_words was } ∷ [] =
    ap (λ b. moves_from b (copies left' kept')) keeps.kept_base ∙ ap (λ cs'. moves_from kept.base cs') more ∙ moves_from-append kept.base was (k ∷ []) in
    let end : total_words kept.cells ≡ total_words was = ap total_words h.is_placed ∙ total-placed kept.base was in
    forwarded-kept (moves left' kept') w (kept.base + total_words kept.cells) high
    (ap (λ l. new_start l w) list ∙ new_start-lacks (moves left kept) (record { from = w; to = kept.base + total_words was } ∷ []) w fresh.0 ∙ new_start-one w (kept.base + total_words was) ∙ ap (λ n. Some (kept.base + n)) (sym end))
